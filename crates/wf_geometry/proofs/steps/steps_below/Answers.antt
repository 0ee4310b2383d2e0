use Rattle.std.proofs.Common.{◌≡◌, nat_lt, ◌*◌, unsigned_abs, to_z-of_z, arith}
use Rattle.std.proofs.lemmas.Int.{ints}
use Rattle.wf_geometry.proofs.StepsLemmas.{no_multiples, positive_multiples}
use Rattle.wf_geometry.proofs.steps.steps_below.Goals as goal

pub returns-then-bound-le0-clause-below : goal.returns-then-bound-le0-clause-below
returns-then-bound-le0-clause-below c = λ u within. no_multiples c.args.step c.args.bound u c.requires (omega (arith, ints))

pub returns-else-bound-le0-clause-below : goal.returns-else-bound-le0-clause-below
returns-else-bound-le0-clause-below c = λ u within.
    let step_fits = c.ranges.step in
    let bound_fits = c.ranges.bound in
    let step : c.unsigned_abs.result ≡ unsigned_abs c.args.step = simp to_z-of_z at c.unsigned_abs.ensures.value in
    let bound : c.unsigned_abs-else-bound-le0.result ≡ unsigned_abs c.args.bound = simp to_z-of_z at c.unsigned_abs-else-bound-le0.ensures.value in
    let signed = positive_multiples c.args.step c.args.bound u c.requires (omega (arith, ints)) in
    let counted : nat_lt (c.unsigned_abs.result * u) c.unsigned_abs-else-bound-le0.result ≡ nat_lt u c.multiples_below.result = c.multiples_below.ensures.below u within in
    cc
