-- The record is the one that the other node keeps.
use Rattle.std.proofs.Common.{option_map, sym, ap, ◌∙◌}
use Rattle.std.specs.Option.{option_copied}
use Rattle.wf_model.specs.Table.{store}
use Rattle.wf_journal.specs.Record.{view}
use Rattle.wf_node.specs.DurablePart as keeping
use Rattle.wf_node.specs.Node.{stored_of}
use Rattle.wf_node.proofs.node.Node.has_one_more.Goals as goal

pub returns-in-Some : goal.returns-in-Some
unfolding store
returns-in-Some g c = λ after.
    let kept = sym (ap (λ o. option_map view (option_copied o)) c.in-Some.is) ∙ c.failed.ensures in
    sym (ap stored_of c.self.view_is) ∙ (c.is_after.ensures after ∙
    (ap (store (keeping.stored_of c.other.inside.machine.persistent)) kept ∙ ap (λ node. store (stored_of node) node.failed) c.other.view_is))
