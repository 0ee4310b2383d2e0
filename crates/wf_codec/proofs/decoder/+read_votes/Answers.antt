use Rattle.std.proofs.Common.{◌≡◌, ℕ, ◌-◌, ◌≤◌, List, Some, Err, sym, subst, ◌∙◌, arith}
use Rattle.wf_canon.specs.Canon.{most_canon_bytes}
use Rattle.wf_frame.specs.Report.{votes_of}
use Rattle.wf_codec.specs.Stages.{ReadsVotes}
use Rattle.wf_codec.proofs.Reports.{vote_then, IsNext, next, skipped, some_vote, nothing_read, first_failed, first_then}
use Rattle.wf_codec.proofs.decoder.+read_votes.Goals as goal

pub returns-then-count-eq0 : goal.returns-then-count-eq0
returns-then-count-eq0 t c = nothing_read most_canon_bytes c.args.count c.args.bytes.now c.args.votes.now.items (omega (arith, c.if-count-eq0.true))

pub returns-in_default : goal.returns-in_default
returns-in_default t c = λ cut e.
    some_vote most_canon_bytes c.args.count c.args.bytes.now (omega (arith, c.if-count-eq0.false)) (sym (rw c.in_default.is at c.skip_vote.ensures)) c.requires.are_votes

pub returns-in-Err : goal.returns-in-Err
returns-in-Err t c = λ cut e.
    let n : IsNext most_canon_bytes c.args.count c.args.bytes.now cut = next most_canon_bytes c.args.count c.args.bytes.now cut (omega (arith, c.if-count-eq0.false)) e in
    subst (ReadsVotes c.args.votes.now.items c.args.votes.now.items (Err c.in-Err.fault)) (sym n.is)
    (first_failed c.args.votes.now.items c.in-Err.fault n.vote n.others (rw c.in-Err.is at (c.vote_of.ensures n.vote n.rest n.front)))

pub read_votes-requires : goal.read_votes-requires
read_votes-requires t c =
    let some : 1 ≤ c.args.count = omega (arith, c.if-count-eq0.false) in (
      omega (arith, c.decreases),
      (
        sym (vote_then most_canon_bytes c.args.count c.args.bytes.now c.in-Some.rest.now some (sym (rw c.in-Some.is at c.skip_vote.ensures))) ∙ c.requires.are_votes,
        omega (arith, c.push.ensures.len, c.requires.room),
      ),
    )

pub returns-in-Ok : goal.returns-in-Ok
returns-in-Ok t c = λ cut e.
    let n : IsNext most_canon_bytes c.args.count c.args.bytes.now cut = next most_canon_bytes c.args.count c.args.bytes.now cut (omega (arith, c.if-count-eq0.false)) e in
    let same : n.rest ≡ c.in-Some.rest.now =
    skipped most_canon_bytes c.args.bytes.now c.in-Some.rest.now n.rest n.vote (sym (rw c.in-Some.is at c.skip_vote.ensures)) n.front in
    subst (ReadsVotes c.args.votes.now.items c.read_votes.new.votes.items c.read_votes.result) (sym n.is)
    (first_then c.args.votes.now.items c.push.new.self.items c.read_votes.new.votes.items c.in-Ok.vote c.read_votes.result n.vote n.others c.push.ensures.items
    (rw c.in-Ok.is at (c.vote_of.ensures n.vote n.rest n.front))
    (c.read_votes.ensures n.others (subst (λ (b : List ℕ). votes_of most_canon_bytes (c.args.count - 1) b ≡ Some n.others) same n.behind)))
