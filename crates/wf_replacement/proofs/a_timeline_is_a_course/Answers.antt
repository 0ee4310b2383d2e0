use Rattle.wf_replacement.proofs.Agreement.{timeline_is_course}
use Rattle.wf_replacement.proofs.a_timeline_is_a_course.Goals as goal

pub returns : goal.returns
returns g c =
    timeline_is_course c.records_are_read_one_way.ensures.one c.records_are_read_one_way.ensures.none c.lives_go_on.ensures c.entries_are_moves.ensures c.courses_are_one.ensures g.T.Tape
