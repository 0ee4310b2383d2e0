-- The slot's entry is removed, if there is one.
use Rattle.std.proofs.Common.{◌∙◌, ap, sym}
use Rattle.std.specs.FinMap as map
use Rattle.wf_acceptor.specs.OpenVotes.{OpenVotes}
use Rattle.wf_acceptor.proofs.Entries.{same_map}
use Rattle.wf_acceptor.proofs.Search.{remove_at, remove_in_gap, sorted_remove}
use Rattle.wf_acceptor.proofs.votes.OpenVotes.forget.Goals as goal

pub invariant_of-self : goal.invariant_of-self
invariant_of-self c =
    let is_at = rw c.deref.ensures.value at c.in-Ok.ensures.found in
    rw c.remove.ensures.items (sorted_remove c.self.inside.entries.items c.self.invariant c.args.slot c.in-Ok.index is_at)

pub returns-in-Ok : goal.returns-in-Ok
returns-in-Ok c =
    let is_at = rw c.deref.ensures.value at c.in-Ok.ensures.found in
    same_map c.remove.ensures.items
    ∙ (remove_at c.self.inside.entries.items c.self.invariant c.args.slot c.in-Ok.index is_at ∙ ap (λ (v : OpenVotes). map.remove v.by_slot c.args.slot) c.self.view_is)

pub returns-in_default : goal.returns-in_default
returns-in_default c =
    let gap = rw c.deref.ensures.value at c.in_default.ensures.absent in
    let shown = ap (λ (v : OpenVotes). v.by_slot) c.self.view_is in
    sym shown ∙ (remove_in_gap c.self.inside.entries.items c.args.slot c.in_default.field-0 gap ∙ ap (λ votes. map.remove votes c.args.slot) shown)
