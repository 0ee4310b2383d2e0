use Rattle.wf_replacement.proofs.Agreement.{timeline_has_one_history, timeline_has_one_definition}
use Rattle.wf_replacement.proofs.timelines_agree.Goals as goal

pub returns-clause-history : goal.returns-clause-history
returns-clause-history g c =
    timeline_has_one_history c.records_are_read_one_way.ensures.one c.records_are_read_one_way.ensures.none c.lives_go_on.ensures c.entries_are_moves.ensures c.courses_are_one.ensures g.T.Tape
    c.courses_agree.ensures

pub returns-clause-definition : goal.returns-clause-definition
returns-clause-definition g c = timeline_has_one_definition g.T.Tape (returns-clause-history g c)
