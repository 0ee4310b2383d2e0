use Rattle.wf_answers.proofs.LateAnswersTheorem.{no_promise, no_vote, no_news}
use Rattle.wf_answers.proofs.theorem.late_answers_do_not_count.Goals as goal

pub returns : goal.returns
returns c = record { promises = no_promise; votes = no_vote; rejection = no_news }
