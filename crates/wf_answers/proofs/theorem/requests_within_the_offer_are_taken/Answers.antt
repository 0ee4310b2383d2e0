use Rattle.wf_answers.proofs.OfferTheorem.{taken_whole}
use Rattle.wf_answers.proofs.theorem.requests_within_the_offer_are_taken.Goals as goal

pub returns : goal.returns
returns c = taken_whole
