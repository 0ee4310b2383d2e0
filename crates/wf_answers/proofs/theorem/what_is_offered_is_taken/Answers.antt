use Rattle.wf_answers.proofs.OfferTheorem.{stated, taken}
use Rattle.wf_answers.proofs.theorem.what_is_offered_is_taken.Goals as goal

pub returns : goal.returns
returns c = record { metadata = stated; taken = taken }
