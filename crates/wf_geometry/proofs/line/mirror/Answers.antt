use Rattle.std.proofs.Common.{arith}
use Rattle.std.proofs.lemmas.Int.{ints}
use Rattle.wf_geometry.specs.Exact.{difference, opposite}
use Rattle.wf_geometry.proofs.StripLemmas.{mirrored_level}
use Rattle.wf_geometry.proofs.line.mirror.Goals as goal

pub returns-clause-value : goal.returns-clause-value
unfolding difference opposite
returns-clause-value c = λ u v. mirrored_level c.args.levels _ u v (omega (arith, ints)) (omega (arith, ints)) (omega (arith, ints))

pub returns-clause-across : goal.returns-clause-across
unfolding opposite
returns-clause-across c = omega (arith, ints)
