-- The closure gives the number of an entry's slot.
use Rattle.std.proofs.Common.{rules}
use Rattle.std.proofs.lemmas.List.Sorted.{answers_always}
use Rattle.wf_acceptor.proofs.Search.{searched}
use Rattle.wf_acceptor.proofs.votes.search.Goals as goal

pub returns : goal.returns
returns c =
    let facts = c.binary_search_by_key.ensures in
    let by_slot = facts.position (λ entry. entry.0) (answers_always _ _ _ (λ f a r g called. search rules)) in
    rw (← c.number.ensures.value) (searched c.args.entries.now c.requires c.number.result _ facts.bound by_slot)
