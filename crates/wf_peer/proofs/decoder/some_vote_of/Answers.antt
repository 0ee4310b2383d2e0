-- The parts of the bytes are those of the vote.
use Rattle.std.proofs.Common.{ap}
use Rattle.std.specs.Prelude.{Some}
use Rattle.wf_folder.specs.declared.reach.HighestVote.{HighestVote}
use Rattle.wf_peer.proofs.Decoded.{same_vote, vote_parts, vote_whole}
use Rattle.wf_peer.proofs.decoder.some_vote_of.Goals as goal

pub returns-in_err-ballot-clause-each : goal.returns-in_err-ballot-clause-each
returns-in_err-ballot-clause-each c = λ v is e.
    let parts = vote_parts c.args.bytes.now c.split_at.result.0.now c.split_at.result.1.now c.split_at.ensures.front c.split_at.ensures.back v e in
    let got = c.from_bytes.ensures.each v.ballot is.of_ballot parts.0 in
    let none = c.in_err-ballot.was in
    cc

pub returns-in_err-sequence-clause-each : goal.returns-in_err-sequence-clause-each
returns-in_err-sequence-clause-each c = λ v is e.
    let parts = vote_parts c.args.bytes.now c.split_at.result.0.now c.split_at.result.1.now c.split_at.ensures.front c.split_at.ensures.back v e in
    let got = c.from_bytes-2.ensures.each v.sequence is.of_slot parts.1 in
    let none = c.in_err-sequence.was in
    cc

pub returns-clause-some : goal.returns-clause-some
returns-clause-some c = vote_whole c.args.bytes.now c.split_at.result.0.now c.split_at.result.1.now c.split_at.ensures.front c.split_at.ensures.back _ c.in_ok-ballot.ensures.value c.in_ok-sequence.ensures.value

pub returns-clause-each : goal.returns-clause-each
returns-clause-each c = λ v is e.
    let parts = vote_parts c.args.bytes.now c.split_at.result.0.now c.split_at.result.1.now c.split_at.ensures.front c.split_at.ensures.back v e in
    let ballot = c.from_bytes.ensures.each v.ballot is.of_ballot parts.0 in
    let was_ballot = c.in_ok-ballot.was in
    let sequence = c.from_bytes-2.ensures.each v.sequence is.of_slot parts.1 in
    let was_sequence = c.in_ok-sequence.was in
    ap (λ (x : HighestVote). Some x) (same_vote _ v (cc) (cc))
