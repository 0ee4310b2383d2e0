-- The parts are those after the record, which fits, and so is the durable state.
use Rattle.std.proofs.Common.{◌≡◌, true, sym, ap, subst, ◌∙◌}
use Rattle.wf_model.specs.DurableState.{fits, with_record}
use Rattle.wf_journal.specs.Record.{view}
use Rattle.wf_node.specs.DurablePart.{DurablePart, stored_of}
use Rattle.wf_node.proofs.PersistentPart.{applied, next_where_fits}
use Rattle.wf_node.proofs.stored_part.DurablePart.is_after.Goals as goal

pub has_applied-requires : goal.has_applied-requires
has_applied-requires c =
    let fit = subst (λ (k : DurablePart). fits (stored_of k) (view c.args.entry.now) ≡ true) (sym c.other.view_is) (sym c.fits.ensures ∙ c.if-not-fits.false) in
    next_where_fits c.other.inside.tried c.other.inside.acceptor.part c.other.inside.history.definitions c.args.entry.now c.other.invariant fit

pub returns : goal.returns
returns c = λ is_applied.
    let fit = subst (λ (k : DurablePart). fits (stored_of k) (view c.args.entry.now) ≡ true) (sym c.other.view_is) (sym c.fits.ensures ∙ c.if-not-fits.false) in
    sym (ap stored_of c.self.view_is)
    ∙ (applied c.other.inside.tried c.self.inside.tried c.other.inside.acceptor.part c.self.inside.acceptor.part c.other.inside.history.definitions c.self.inside.history.definitions
    c.args.entry.now c.other.invariant fit (c.has_applied.ensures is_applied) (c.if-self-round.false ∙ c.round_after-round.ensures) (c.has_learned.ensures c.if-not-has_learned.false)
    ∙ ap (λ (k : DurablePart). with_record (stored_of k) (view c.args.entry.now)) c.other.view_is)
