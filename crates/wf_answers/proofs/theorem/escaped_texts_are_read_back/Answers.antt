use Rattle.wf_answers.proofs.XmlTextTheorem.{read_back}
use Rattle.wf_answers.proofs.theorem.escaped_texts_are_read_back.Goals as goal

pub returns : goal.returns
returns c = read_back
