use Rattle.std.proofs.Common.{◌≡◌, sym, ◌∙◌, to_z-of_z}
use Rattle.wf_geometry.specs.Level.{is_in_margin}
use Rattle.wf_geometry.proofs.SpanLemmas.{IsSpanOf-all, IsSpanOf-none}
use Rattle.wf_geometry.proofs.level.level_within.Goals as goal

pub returns-then-is_in_margin : goal.returns-then-is_in_margin
returns-then-is_in_margin c =
    let start = c.ranges.start in
    let margin = c.ranges.margin in
    let compared : c.is_in_margin.result ≡ is_in_margin c.args.margin c.args.start = simp to_z-of_z at c.is_in_margin.ensures in
    IsSpanOf-all (λ u. is_in_margin c.args.margin c.args.start) c.args.most (λ u. sym compared ∙ c.if-is_in_margin.true)

pub returns-else-is_in_margin : goal.returns-else-is_in_margin
returns-else-is_in_margin c =
    let start = c.ranges.start in
    let margin = c.ranges.margin in
    let compared : c.is_in_margin.result ≡ is_in_margin c.args.margin c.args.start = simp to_z-of_z at c.is_in_margin.ensures in
    IsSpanOf-none (λ u. is_in_margin c.args.margin c.args.start) c.args.most (λ u. sym compared ∙ c.if-is_in_margin.false)
