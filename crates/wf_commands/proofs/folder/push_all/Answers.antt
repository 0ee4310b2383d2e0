-- The tapes were listed and taken, and the last line is what a start on just these would do.
use Rattle.wf_commands.proofs.Folders.{whole}
use Rattle.wf_commands.proofs.folder.push_all.Goals as goal

pub returns-in-Ok-push_end-clause-listed : goal.returns-in-Ok-push_end-clause-listed
returns-in-Ok-push_end-clause-listed g c =
    whole c.args.survey.now c.read_owner-owner.result c.in-Ok.check c.cause-cause.result _ _ _ _ _ c.state_of.result c.read_owner-owner.ensures.read
    c.in-Ok.ensures.taken c.cause-cause.ensures c.state_of.ensures c.in-Ok-push_end.ensures
