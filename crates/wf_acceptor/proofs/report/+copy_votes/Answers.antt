-- The slot's vote is appended, and then those from the next slot on, if there is one.
use Rattle.std.proofs.Common.{◌≡◌, ℕ, suc, ◌+◌, ◌≤◌, subst, sym, arith}
use Rattle.wf_ballot.specs.Sequence.{last_sequence, IsSlot}
use Rattle.wf_acceptor.proofs.Reported.{nothing_more, one_more, last_more}
use Rattle.wf_acceptor.proofs.report.+copy_votes.Goals as goal

pub returns-then-count-eq0 : goal.returns-then-count-eq0
returns-then-count-eq0 t c = nothing_more c.args.votes.now.by_slot c.args.slot c.args.count c.args.copies.now.items (omega (arith, c.if-count-eq0.true))

pub returns-in-Some : goal.returns-in-Some
returns-in-Some t c =
    let within : c.args.slot ≤ last_sequence = omega (arith, c.number.ensures.value, c.number.ensures.in_range.to_last) in
    let next : c.in-Some.next ≡ suc c.args.slot = omega (arith, c.number.ensures.value, c.in-Some.ensures.value) in
    one_more c.copy_votes.result c.args.votes.now.by_slot c.args.slot c.in-Some.next c.args.count c.args.copies.now.items c.push.new.self.items c.copy_votes.new.copies.items c.in_ok-vote.vote
    within next (omega (arith, c.if-count-eq0.false)) c.in_ok-vote.ensures c.push.ensures.items c.copy_votes.ensures

pub returns-in-None : goal.returns-in-None
returns-in-None t c =
    let within : c.args.slot ≤ last_sequence = omega (arith, c.number.ensures.value, c.number.ensures.in_range.to_last) in
    last_more c.args.votes.now.by_slot c.args.slot c.args.count c.args.copies.now.items c.push.new.self.items c.in_ok-vote.vote within
    (λ is. c.in-None.ensures.valid.1 (subst (λ (n : ℕ). IsSlot (n + 1)) (sym c.number.ensures.value) is))
    (omega (arith, c.if-count-eq0.false)) c.in_ok-vote.ensures c.push.ensures.items
