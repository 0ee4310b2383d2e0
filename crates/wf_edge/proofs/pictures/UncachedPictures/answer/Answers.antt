-- There is nothing to change.
use Rattle.std.proofs.Common.{refl}
use Rattle.std.specs.Prelude.{Result, Ok, Err, OnErr, OnOk}
use Rattle.wf_edge.proofs.pictures.UncachedPictures.answer.Goals as goal

on_ok_anyway : {X E : Type 0} {P : Type 0} (result : Result X E) → P → OnOk result P
on_ok_anyway (Ok x) holds = holds
on_ok_anyway (Err e) holds = tt

on_err_anyway : {X E : Type 0} {P : Type 0} (result : Result X E) → P → OnErr result P
on_err_anyway (Ok x) holds = tt
on_err_anyway (Err e) holds = holds

pub returns-clause-changed : goal.returns-clause-changed
returns-clause-changed c = on_ok_anyway c.answer.result refl

pub returns-clause-unchanged : goal.returns-clause-unchanged
returns-clause-unchanged c = on_err_anyway c.answer.result refl
