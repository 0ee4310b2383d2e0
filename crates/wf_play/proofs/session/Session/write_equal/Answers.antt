-- The reason why the answers aren't compared is written.
use Rattle.wf_play.proofs.Report.{also_ok, uncompared_reported}
use Rattle.wf_play.proofs.session.Session.write_equal.Goals as goal

pub returns-in-Err : goal.returns-in-Err
returns-in-Err c =
    also_ok c.write_no_answer.result (uncompared_reported c.args.self.now.farm c.args.first c.args.second c.args.query.now c.in-Err.fault _ _ c.in-Err.ensures.fault) c.write_no_answer.ensures
