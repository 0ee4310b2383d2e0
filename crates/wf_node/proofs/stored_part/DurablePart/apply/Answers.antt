-- The record's effect on the acceptor and the history is that of the fold.
use Rattle.std.proofs.Common.{◌≡◌, true, sym, ap, subst, ◌∙◌}
use Rattle.wf_model.specs.DurableState.{fits, with_record}
use Rattle.wf_journal.specs.Record.{view}
use Rattle.wf_node.specs.DurablePart.{DurablePart, stored_of, definitions_after}
use Rattle.wf_node.specs.Parts as parts
use Rattle.wf_node.proofs.PersistentPart.{parts_of, next_where_fits, applied, as_many_after}
use Rattle.wf_node.proofs.stored_part.DurablePart.apply.Goals as goal

pub report-requires : goal.report-requires
report-requires c =
    let fit = subst (λ (k : DurablePart). fits (stored_of k) (view c.args.entry) ≡ true) (sym c.self.view_is) c.requires in
    next_where_fits c.self.inside.tried c.self.inside.acceptor.part c.self.inside.history.definitions c.args.entry c.self.invariant fit

pub invariant_of-self : goal.invariant_of-self
invariant_of-self c =
    let fit = subst (λ (k : DurablePart). fits (stored_of k) (view c.args.entry) ≡ true) (sym c.self.view_is) c.requires in
    let definitions = c.take_in.ensures.definitions ∙ ap (λ ds. definitions_after ds c.args.entry) c.report.ensures.definitions in
    as_many_after c.self.inside.tried c.self.inside.acceptor.part c.report.new.acceptor.part c.self.inside.history.definitions c.take_in.new.history.definitions c.args.entry
    c.self.invariant fit c.in-Ok.ensures.applied definitions

pub returns-in-Ok-clause-ok : goal.returns-in-Ok-clause-ok
returns-in-Ok-clause-ok c =
    let fit = subst (λ (k : DurablePart). fits (stored_of k) (view c.args.entry) ≡ true) (sym c.self.view_is) c.requires in
    let definitions = c.take_in.ensures.definitions ∙ ap (λ ds. definitions_after ds c.args.entry) c.report.ensures.definitions in
    subst (λ (k : DurablePart). parts.stored_of (parts_of c.take_in.new.tried c.report.new.acceptor.part c.take_in.new.history.definitions) ≡ with_record (stored_of k) (view c.args.entry))
    c.self.view_is
    (applied c.self.inside.tried c.take_in.new.tried c.self.inside.acceptor.part c.report.new.acceptor.part c.self.inside.history.definitions c.take_in.new.history.definitions
    c.args.entry c.self.invariant fit c.in-Ok.ensures.applied c.take_in.ensures.tried definitions)
