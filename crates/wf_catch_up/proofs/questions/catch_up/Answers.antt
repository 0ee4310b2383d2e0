-- Whether a delivery was lost is the result.
use Rattle.std.proofs.Common.{◌≡◌, true, false, Bool, Result, Ok, Err, OnErr, OnOk, is_err, sym, subst}
use Rattle.wf_catch_up.proofs.Common.{HaveCaughtUp, StandLevel, nodes_in}
use Rattle.wf_catch_up.proofs.questions.catch_up.Goals as goal

on_ok : {A E : Type 0} (result : Result A E) (lost : Bool) (P : Type 0) → is_err result ≡ lost → (lost ≡ false → P) → OnOk result P
on_ok (Ok x) lost P is holds = holds (sym is)
on_ok (Err e) lost P is holds = tt

on_err : {A E : Type 0} (result : Result A E) (lost : Bool) (P : Type 0) → is_err result ≡ lost → (lost ≡ true → P) → OnErr result P
on_err (Ok x) lost P is holds = tt
on_err (Err e) lost P is holds = holds (sym is)

pub returns-clause-caught : goal.returns-clause-caught
returns-clause-caught g c = subst (λ b. HaveCaughtUp g.T.Tape (nodes_in c.args.farm.now) b (nodes_in c.change.new.self)) (sym c.outcome.ensures) c.change.ensures.changes.caught

pub returns-clause-level : goal.returns-clause-level
returns-clause-level g c = on_ok c.outcome.result c.change.new.client.lost (StandLevel (nodes_in c.change.new.self)) c.outcome.ensures c.change.ensures.changes.level

pub returns-clause-behind : goal.returns-clause-behind
returns-clause-behind g c = on_err c.outcome.result c.change.new.client.lost (StandLevel (nodes_in c.change.new.self) → ⊥) c.outcome.ensures c.change.ensures.changes.behind
