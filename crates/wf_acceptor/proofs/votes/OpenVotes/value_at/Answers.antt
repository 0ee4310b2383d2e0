-- The vote is that of the slot's entry.
use Rattle.std.proofs.Common.{Some, sym, ◌∙◌, ap}
use Rattle.std.specs.FinMap as map
use Rattle.wf_acceptor.specs.OpenVotes.{OpenVotes}
use Rattle.wf_acceptor.proofs.Search.{get_at, get_in_gap}
use Rattle.wf_acceptor.proofs.votes.OpenVotes.value_at.Goals as goal

pub returns-in-Ok : goal.returns-in-Ok
returns-in-Ok c =
    let is_at = rw c.deref.ensures.value at c.in-Ok.ensures.found in
    ap (λ entry. Some entry.1) c.index.ensures
    ∙ (sym (get_at c.self.inside.entries.items c.self.invariant c.args.slot c.in-Ok.index is_at c.index.result.now) ∙ ap (λ (v : OpenVotes). map.get v.by_slot c.args.slot) c.self.view_is)

pub returns-in-Err : goal.returns-in-Err
returns-in-Err c =
    let gap = rw c.deref.ensures.value at c.in-Err.ensures.absent in
    sym (get_in_gap c.self.inside.entries.items c.args.slot c.in-Err.field-0 gap) ∙ ap (λ (v : OpenVotes). map.get v.by_slot c.args.slot) c.self.view_is
