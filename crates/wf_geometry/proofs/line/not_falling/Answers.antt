use Rattle.std.proofs.Common.{arith}
use Rattle.std.proofs.lemmas.Int.{ints}
use Rattle.wf_geometry.specs.Exact.{opposite}
use Rattle.wf_geometry.specs.Level.{level_at}
use Rattle.wf_geometry.proofs.StripLemmas.{margin_mirrored}
use Rattle.wf_geometry.proofs.line.not_falling.Goals as goal

pub returns-then-levels-lt0-clause-across : goal.returns-then-levels-lt0-clause-across
unfolding opposite
returns-then-levels-lt0-clause-across c = let turned = c.mirror.ensures.across in omega (arith, ints)

pub returns-then-levels-lt0-clause-rising : goal.returns-then-levels-lt0-clause-rising
unfolding opposite
returns-then-levels-lt0-clause-rising c = let turned = c.mirror.ensures.across in omega (arith, ints)

pub returns-then-levels-lt0-clause-same : goal.returns-then-levels-lt0-clause-same
returns-then-levels-lt0-clause-same c = λ u v.
    margin_mirrored c.args.levels.margin (level_at c.args.levels u v) (level_at c.mirror.result u v) (c.mirror.ensures.value u v)
