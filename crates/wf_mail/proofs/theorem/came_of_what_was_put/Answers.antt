use Rattle.wf_mail.proofs.Ends.{only_sent, all_sent}
use Rattle.wf_mail.proofs.theorem.came_of_what_was_put.Goals as goal

pub returns-clause-only : goal.returns-clause-only
returns-clause-only c =
    only_sent c.args.outbox.now c.args.receiver.now c.always_spells.ensures.messages c.always_spells.ensures.spells c.always_reads.ensures

pub returns-clause-all : goal.returns-clause-all
returns-clause-all c =
    all_sent c.args.outbox.now c.args.receiver.now c.always_spells.ensures.messages c.always_spells.ensures.spells c.always_reads.ensures
