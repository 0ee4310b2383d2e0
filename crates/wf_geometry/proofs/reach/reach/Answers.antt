use Rattle.std.proofs.Common.{◌≡◌, nat_lt, sym, ◌∙◌, pos, to_z-of_z, arith}
use Rattle.std.proofs.lemmas.Bool.{le-ltb}
use Rattle.wf_geometry.specs.Coverage.{is_beside, is_left_of}
use Rattle.wf_geometry.specs.Position.{middle}
use Rattle.wf_geometry.proofs.ReachLemmas.{crosses_rising, crosses_falling, crosses_none}
use Rattle.wf_geometry.proofs.reach.reach.Goals as goal

pub returns-then-is_between-clause-crossed : goal.returns-then-is_between-clause-crossed
returns-then-is_between-clause-crossed c = λ u within.
    let edge = c.args.edge.now in
    let fits = c.ranges.level in
    let beside : c.is_between.result ≡ is_beside (record { x = pos 0; y = c.args.level }) edge.from edge.to = simp to_z-of_z at c.is_between.ensures in
    let left : is_left_of (record { x = middle (pos u); y = c.args.level }) edge.from edge.to ≡ nat_lt u c.reach_of_rising.result =
    simp to_z-of_z at (c.reach_of_rising.ensures.left u within) in
    crosses_rising c.args.level (middle (pos u)) edge.from edge.to (sym beside ∙ c.if-is_between.true) ∙ left

pub returns-then-is_between-2-clause-crossed : goal.returns-then-is_between-2-clause-crossed
returns-then-is_between-2-clause-crossed c = λ u within.
    let edge = c.args.edge.now in
    let fits = c.ranges.level in
    let beside : c.is_between.result ≡ is_beside (record { x = pos 0; y = c.args.level }) edge.from edge.to = simp to_z-of_z at c.is_between.ensures in
    let other : c.is_between-else-is_between.result ≡ is_beside (record { x = pos 0; y = c.args.level }) edge.to edge.from = simp to_z-of_z at c.is_between-else-is_between.ensures in
    let left : is_left_of (record { x = middle (pos u); y = c.args.level }) edge.to edge.from ≡ nat_lt u c.reach_of_rising-then-is_between-2.result =
    simp to_z-of_z at (c.reach_of_rising-then-is_between-2.ensures.left u within) in
    crosses_falling c.args.level (middle (pos u)) edge.from edge.to (sym beside ∙ c.if-is_between.false) (sym other ∙ c.if-is_between-2.true) ∙ left

pub returns-else-is_between-2-clause-crossed : goal.returns-else-is_between-2-clause-crossed
returns-else-is_between-2-clause-crossed c = λ u within.
    let edge = c.args.edge.now in
    let fits = c.ranges.level in
    let beside : c.is_between.result ≡ is_beside (record { x = pos 0; y = c.args.level }) edge.from edge.to = simp to_z-of_z at c.is_between.ensures in
    let other : c.is_between-else-is_between.result ≡ is_beside (record { x = pos 0; y = c.args.level }) edge.to edge.from = simp to_z-of_z at c.is_between-else-is_between.ensures in
    crosses_none c.args.level (middle (pos u)) edge.from edge.to (sym beside ∙ c.if-is_between.false) (sym other ∙ c.if-is_between-2.false) ∙ sym (le-ltb u 0 (omega arith))
