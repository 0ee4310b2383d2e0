use Rattle.std.proofs.Common.{FitsSigned, to_z-of_z, rules, arith}
use Rattle.std.proofs.lemmas.Int.{ints}
use Rattle.std.specs.Int.{w128}
use Rattle.wf_geometry.specs.Level.{is_in_margin}
use Rattle.wf_geometry.specs.Span.{IsSpanOf}
use Rattle.wf_geometry.proofs.StripLemmas.{level_row}
use Rattle.wf_geometry.proofs.row.row_within.Goals as goal

pub returns-then-levels-eq0 : goal.returns-then-levels-eq0
returns-then-levels-eq0 c =
    let starts : FitsSigned w128 c.row_level.result = search rules in
    let margins : FitsSigned w128 c.args.levels.margin = search rules in
    let whole : IsSpanOf (λ u. is_in_margin c.args.levels.margin c.row_level.result) c.args.most c.level_within.result = simp to_z-of_z at c.level_within.ensures in
    level_row c.args.levels c.args.levels.margin c.args.row c.args.most c.level_within.result (omega (arith, ints)) (rw c.row_level.ensures.value at whole)
