-- The theorem, at the two answers that are compared.
use Rattle.wf_play.proofs.Comparison.{compared, true_where_one}
use Rattle.wf_play.proofs.request.compare.Goals as goal

pub returns-clause-test : goal.returns-clause-test
returns-clause-test c =
    compared c.args.farm.now c.args.first c.args.second c.args.query.now c.args.answer.now c.args.another.now c.is_same_answer.result
    c.requires.first c.requires.second c.is_same_answer.ensures

pub returns-clause-theorem : goal.returns-clause-theorem
returns-clause-theorem c =
    true_where_one c.args.farm.now c.args.first c.args.second c.args.query.now c.args.answer.now c.args.another.now c.is_same_answer.result
    c.answers_agree.ensures.proposal_state c.answers_agree.ensures.map c.requires.first c.requires.second c.is_same_answer.ensures
