-- The length of a vote's bytes.
use Rattle.std.proofs.Common.{◌≡◌, ℕ, ◌+◌, List, length, Option, Some, None, refl, length-append, arith}
use Rattle.wf_ballot.specs.Ballot.{ballot_bytes}
use Rattle.wf_ballot.specs.FieldTheorems.{length-ballot_bytes}
use Rattle.wf_frame.specs.Report.{text_bytes, vote_bytes}
use Rattle.wf_model.specs.Message.{Vote}

-- the length of a vote with its mark
abbrev pub vote_length : Option (Vote (List ℕ)) → ℕ
vote_length None = 1
vote_length (Some v) = 10 + length v.definition

pub vote_has_length : (v : Option (Vote (List ℕ))) → length (vote_bytes v) ≡ vote_length v
unfolding vote_bytes text_bytes
vote_has_length None = refl
vote_has_length (Some v) =
    let text : List ℕ = text_bytes v.definition in
    omega (arith, length-append (ballot_bytes v.ballot) text, length-ballot_bytes v.ballot)
