use Rattle.wf_runs.proofs.Answers.{sessions_agree}
use Rattle.wf_runs.proofs.theorem.sessions_are_one_farm.Goals as goal

pub returns : goal.returns
returns g c =
    sessions_agree g.T.Tape c.a_folder_is_one_farm.ensures c.processes_agree.ensures.history c.processes_agree.ensures.definition c.lists_grow.ensures c.processes_answer_alike.ensures.proposal_state
    c.processes_answer_alike.ensures.map
