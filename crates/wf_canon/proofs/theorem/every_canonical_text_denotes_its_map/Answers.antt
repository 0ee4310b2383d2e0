use Rattle.wf_canon.proofs.MeaningTheorem.{canon_denotes}
use Rattle.wf_canon.proofs.theorem.every_canonical_text_denotes_its_map.Goals as goal

pub returns : goal.returns
returns c = canon_denotes
