-- The slot's entry is replaced, or one is inserted where it has to be.
use Rattle.std.proofs.Common.{◌≡◌, ◌-◌, ◌∙◌, ap, arith}
use Rattle.std.specs.Prelude.{vec_len, vec_capacity}
use Rattle.std.specs.FinMap as map
use Rattle.wf_acceptor.specs.OpenVotes.{OpenVotes}
use Rattle.wf_acceptor.proofs.Entries.{inserted, same_map}
use Rattle.wf_acceptor.proofs.Search.{set_at, insert_at, sorted_set, sorted_insert}
use Rattle.wf_acceptor.proofs.votes.OpenVotes.put.Goals as goal

pub unwrap-requires : goal.unwrap-requires
unwrap-requires c =
    let room : vec_capacity c.self.inside.entries - vec_len c.self.inside.entries ≡ c.args.self.now.room = ap (λ (v : OpenVotes). v.room) c.self.view_is in
    c.insert.ensures.succeeds (omega (arith, room, c.requires))

pub invariant_of-self : goal.invariant_of-self
invariant_of-self c =
    let is_at = rw c.deref.ensures.value at c.in-Ok.ensures.found in
    sorted_set c.self.inside.entries.items c.self.invariant c.args.slot c.in-Ok.index is_at c.args.vote

pub invariant_of-self-in-Err : goal.invariant_of-self-in-Err
invariant_of-self-in-Err c =
    let gap = rw c.deref.ensures.value at c.in-Err.ensures.absent in
    let room : vec_capacity c.self.inside.entries - vec_len c.self.inside.entries ≡ c.args.self.now.room = ap (λ (v : OpenVotes). v.room) c.self.view_is in
    let items = inserted c.insert.result _ _ _ (c.insert.ensures.succeeds (omega (arith, room, c.requires))) c.insert.ensures.items in
    rw items (sorted_insert c.self.inside.entries.items c.args.slot c.in-Err.index gap c.args.vote c.self.invariant)

pub returns-in-Ok : goal.returns-in-Ok
returns-in-Ok c =
    let is_at = rw c.deref.ensures.value at c.in-Ok.ensures.found in
    set_at c.self.inside.entries.items c.self.invariant c.args.slot c.in-Ok.index is_at c.args.vote ∙ ap (λ (v : OpenVotes). map.insert v.by_slot c.args.slot c.args.vote) c.self.view_is

pub returns-in-Err : goal.returns-in-Err
returns-in-Err c =
    let gap = rw c.deref.ensures.value at c.in-Err.ensures.absent in
    let room : vec_capacity c.self.inside.entries - vec_len c.self.inside.entries ≡ c.args.self.now.room = ap (λ (v : OpenVotes). v.room) c.self.view_is in
    let items = inserted c.insert.result _ _ _ (c.insert.ensures.succeeds (omega (arith, room, c.requires))) c.insert.ensures.items in
    same_map items
    ∙ (insert_at c.self.inside.entries.items c.args.slot c.in-Err.index gap c.args.vote ∙ ap (λ (v : OpenVotes). map.insert v.by_slot c.args.slot c.args.vote) c.self.view_is)
