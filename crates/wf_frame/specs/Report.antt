-- What a promise reports: the slot from which on it is made, its ballot, and the votes at that slot
-- and the few after it. Each vote has a mark, and a text its length, since several texts may follow
-- one another.
use Rattle.std.specs.Prelude.{◌≡◌, ℕ, zero, suc, ◌+◌, ◌*◌, ◌<◌, ◌≤◌, ◌^◌, ◌&&◌, nat_le, List, [], ◌∷◌, ◌++◌, length, take, drop, map, Option, Some, None, option_map, option_and_then, IfSome, if◌then◌else◌}
use Rattle.std.specs.Int.{w32, to_be_bytes, from_be_bytes}
use Rattle.wf_ballot.specs.Sequence.{IsSlot, seq_bytes}
use Rattle.wf_ballot.specs.Ballot.{Ballot, IsBallot, ballot_bytes}
use Rattle.wf_ballot.specs.Front.{front_slot, front_ballot}
use Rattle.wf_model.specs.Message.{Vote}
use Rattle.wf_model.specs.VolatileState.{window}
use Rattle.wf_model.specs.Table.{sequences_from}

pub record Report : Type 0 where
  pub slot : ℕ
  pub ballot : Ballot
  pub votes : List (Option (Vote (List ℕ)))

-- the number of votes that a report from the slot on has: one, or none, for each sequence of the
-- window
abbrev pub votes_in_report : ℕ → ℕ
votes_in_report slot = sequences_from slot window

-- the vote with f applied to its definition
abbrev pub vote_with : {V W : Type 0} → (V → W) → Option (Vote V) → Option (Vote W)
vote_with f v = option_map (λ vote. record { ballot = vote.ballot; definition = f vote.definition }) v

abbrev pub votes_with : {V W : Type 0} → (V → W) → List (Option (Vote V)) → List (Option (Vote W))
votes_with f votes = map (vote_with f) votes

-- a text that isn't empty and has at most so many bytes
pub record IsBoundedText (most : ℕ) (text : List ℕ) : Type 0 where
  pub least : 1 ≤ length text
  pub within : length text ≤ most

-- the vote's ballot is in its range, and P holds of its definition
abbrev pub IsVoteOf : {V : Type 0} → (V → Type 0) → Option (Vote V) → Type 0
IsVoteOf P vote = IfSome vote (λ v. IsBallot v.ballot × P v.definition)

abbrev pub AreVotesOf : {V : Type 0} → (V → Type 0) → List (Option (Vote V)) → Type 0
AreVotesOf P [] = Unit {0}
AreVotesOf P (vote ∷ votes) = IsVoteOf P vote × AreVotesOf P votes

-- each part is in its range, and there are as many votes as the slot has sequences; the length of a
-- text has 4 bytes
pub record IsVoteReport (most : ℕ) (report : Report) : Type 0 where
  pub slot : IsSlot report.slot
  pub ballot : IsBallot report.ballot
  pub count : length report.votes ≡ votes_in_report report.slot
  pub votes : AreVotesOf (IsBoundedText most) report.votes
  pub four_bytes : most < 2 ^ 32

-- ---- its bytes

-- a text behind its length
unfoldable pub text_bytes : List ℕ → List ℕ
text_bytes text = to_be_bytes w32 (length text) ++ text

-- the mark of a vote, and after a 1 the vote
unfoldable pub vote_bytes : Option (Vote (List ℕ)) → List ℕ
vote_bytes None = 0 ∷ []
vote_bytes (Some vote) = 1 ∷ ballot_bytes vote.ballot ++ text_bytes vote.definition

unfoldable pub votes_bytes : List (Option (Vote (List ℕ))) → List ℕ
votes_bytes [] = []
votes_bytes (vote ∷ votes) = vote_bytes vote ++ votes_bytes votes

unfoldable pub report_bytes : Report → List ℕ
report_bytes report = seq_bytes report.slot ++ ballot_bytes report.ballot ++ votes_bytes report.votes

-- the most bytes of a report: four votes, each with its mark, its ballot, the length of its text,
-- and its text
abbrev pub most_report : ℕ → ℕ
most_report most = 7 + window * (10 + most)

-- ---- how it is read: each part at the front of what the part before it leaves

unfoldable pub front_text : ℕ → List ℕ → Option (List ℕ × List ℕ)
front_text most (a ∷ b ∷ c ∷ d ∷ rest) =
    let n = from_be_bytes w32 (a ∷ b ∷ c ∷ d ∷ []) in
    if nat_le 1 n && (nat_le n most && nat_le n (length rest)) then Some (take n rest, drop n rest) else None
front_text most _ = None

unfoldable pub front_vote : ℕ → List ℕ → Option (Option (Vote (List ℕ)) × List ℕ)
front_vote most [] = None
front_vote most (zero ∷ rest) = Some (None, rest)
front_vote most (suc zero ∷ rest) =
    option_and_then (λ ballot. option_and_then (λ text. Some (Some (record { ballot = ballot.0; definition = text.0 }), text.1)) (front_text most ballot.1)) (front_ballot rest)
front_vote most (suc (suc mark) ∷ rest) = None

-- so many votes, and nothing after them
unfoldable pub votes_of : ℕ → ℕ → List ℕ → Option (List (Option (Vote (List ℕ))))
votes_of most zero [] = Some []
votes_of most zero (byte ∷ rest) = None
votes_of most (suc count) bytes = option_and_then (λ vote. option_and_then (λ votes. Some (vote.0 ∷ votes)) (votes_of most count vote.1)) (front_vote most bytes)

unfoldable pub report_of : ℕ → List ℕ → Option Report
report_of most bytes =
    option_and_then (λ slot.
    option_and_then (λ ballot.
    option_and_then (λ votes. Some (record { slot = slot.0; ballot = ballot.0; votes = votes })) (votes_of most (votes_in_report slot.0) ballot.1))
    (front_ballot slot.1))
    (front_slot bytes)

-- ---- its texts

-- the definitions of votes, or their texts
abbrev pub vote_definitions : {V : Type 0} → Option (Vote V) → List V
vote_definitions None = []
vote_definitions (Some vote) = vote.definition ∷ []

abbrev pub votes_definitions : {V : Type 0} → List (Option (Vote V)) → List V
votes_definitions [] = []
votes_definitions (vote ∷ votes) = vote_definitions vote ++ votes_definitions votes

abbrev pub texts_of_read : Option Report → List (List ℕ)
texts_of_read None = []
texts_of_read (Some report) = votes_definitions report.votes
