use Rattle.std.proofs.Common.{◌≤◌, ◌+◌, sym, ◌∙◌, arith}
use Rattle.std.proofs.lemmas.Bool.{ltb-false}
use Rattle.std.proofs.lemmas.Int.{ints}
use Rattle.wf_geometry.specs.Exact.{number_of}
use Rattle.wf_geometry.proofs.StripLemmas.{sum_kept, sum_carried}
use Rattle.wf_geometry.proofs.steps.quotient_sum.Goals as goal

pub returns-then-falls_short-clause-value : goal.returns-then-falls_short-clause-value
unfolding number_of
returns-then-falls_short-clause-value c = sum_kept c.args.divisor c.args.a.rest c.args.b.rest c.args.a.whole c.args.b.whole _ (omega (arith, ints))

pub returns-else-falls_short-clause-value : goal.returns-else-falls_short-clause-value
unfolding number_of
returns-else-falls_short-clause-value c =
    let reached : c.args.divisor ≤ c.args.a.rest + c.args.b.rest = ltb-false (c.args.a.rest + c.args.b.rest) c.args.divisor (sym c.falls_short.ensures ∙ c.if-falls_short.false) in
    sum_carried c.args.divisor c.args.a.rest c.args.b.rest _ c.args.a.whole c.args.b.whole _ (omega (arith, ints)) (omega arith)
