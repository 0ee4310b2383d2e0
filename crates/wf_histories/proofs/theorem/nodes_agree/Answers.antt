use Rattle.wf_histories.proofs.Agreement.{agree}
use Rattle.wf_histories.proofs.theorem.nodes_agree.Goals as goal

pub returns : goal.returns
returns g c =
    agree g.T.Tape c.nodes_are_one_farm.ensures c.processes_agree.ensures.history c.processes_agree.ensures.definition c.lists_grow.ensures c.processes_respond_alike.ensures
