use Rattle.std.proofs.Common.{◌≡◌, nat_lt, pos, FitsSigned, to_z-of_z, ◌∙◌, rules}
use Rattle.std.specs.Int.{w128}
use Rattle.wf_geometry.specs.Exact.{difference, product, is_less}
use Rattle.wf_geometry.specs.Limit.{half_side}
use Rattle.wf_geometry.proofs.ReachLemmas.{beside_rises, rise_steps, left_steps}
use Rattle.wf_geometry.proofs.reach.reach_of_rising.Goals as goal

pub steps_below-requires : goal.steps_below-requires
steps_below-requires c =
    let fits : FitsSigned w128 c.step.result = search rules in
    let up = beside_rises (record { x = pos 0; y = c.args.level }) c.args.low c.args.high c.requires.rising in
    rw (to_z-of_z fits, c.step.ensures) (rise_steps (difference c.args.high.y c.args.low.y) up)

pub returns-clause-left : goal.returns-clause-left
returns-clause-left c = λ u within.
    let step_fits : FitsSigned w128 c.step.result = search rules in
    let bound_fits : FitsSigned w128 c.upper_bound.result = search rules in
    let level_fits = c.ranges.level in
    let up = beside_rises (record { x = pos 0; y = c.args.level }) c.args.low c.args.high c.requires.rising in
    let counted : is_less (product c.step.result (pos u)) c.upper_bound.result ≡ nat_lt u c.steps_below.result = simp to_z-of_z at (c.steps_below.ensures.below u within) in
    let bound : c.upper_bound.result ≡ difference (product (difference c.args.level c.args.low.y) (difference c.args.high.x c.args.low.x)) (product (difference (pos half_side) c.args.low.x) (difference c.args.high.y c.args.low.y)) = simp to_z-of_z at c.upper_bound.ensures in
    left_steps c.args.level u c.args.low c.args.high up ∙ rw (← c.step.ensures, ← bound) counted
