use Rattle.wf_geometry.proofs.DirectionLemmas.{crosses_reversed, on_reversed}
use Rattle.wf_geometry.proofs.theorem.segments_have_no_direction.Goals as goal

pub returns-clause-lines : goal.returns-clause-lines
returns-clause-lines c = λ width p s. on_reversed width p s

pub returns-clause-edges : goal.returns-clause-edges
returns-clause-edges c = λ p s. crosses_reversed p s
