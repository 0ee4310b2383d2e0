-- All votes of the window are copied, as many as the slot has.
use Rattle.std.proofs.Common.{◌≡◌, length, refl, ap, ◌∙◌}
use Rattle.wf_model.specs.VolatileState.{window}
use Rattle.wf_acceptor.specs.Prepared.{reported}
use Rattle.wf_acceptor.proofs.Reported.{as_many_reported}
use Rattle.wf_acceptor.proofs.report.report_from.Goals as goal

pub of-requires : goal.of-requires
of-requires c =
    let copied : c.copy_votes.new.copies.items ≡ reported c.args.votes.now.by_slot c.args.slot window = rw c.new-copies.ensures at c.in_ok-copy_votes.ensures in
    ap length copied ∙ as_many_reported c.args.votes.now.by_slot c.args.slot window

pub returns : goal.returns
returns c =
    let copied : c.copy_votes.new.copies.items ≡ reported c.args.votes.now.by_slot c.args.slot window = rw c.new-copies.ensures at c.in_ok-copy_votes.ensures in
    rw (c.of.ensures, copied) refl
