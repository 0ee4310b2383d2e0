use Rattle.wf_replacement.proofs.Agreement.{timeline_grows}
use Rattle.wf_replacement.proofs.published_lists_grow.Goals as goal

pub returns : goal.returns
returns g c =
    timeline_grows c.records_are_read_one_way.ensures.one c.records_are_read_one_way.ensures.none c.lives_go_on.ensures c.entries_are_moves.ensures c.courses_are_one.ensures g.T.Tape
    c.courses_agree.ensures
