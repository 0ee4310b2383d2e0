-- How the decoder reads: the frame, its fields, its text. Fault.antt defines which error it
-- returns.
use Rattle.std.specs.Prelude.{◌≡◌, ℕ, List, Option, Some, None, Result, Ok, Err, ◌++◌, length, IsSomeAnd}
use Rattle.wf_ballot.specs.Ballot.{Ballot}
use Rattle.wf_frame.specs.declared.fault.FrameFault.{FrameFault}
use Rattle.wf_frame.specs.declared.fault.FrameFault.TheVariants as frames
use Rattle.wf_frame.specs.Row.{Row, end_definitions}
use Rattle.wf_model.specs.Message.{Message, Vote}
use Rattle.wf_def.specs.Definition.{Definition}
use Rattle.wf_canon.specs.Canon.{canon}
use Rattle.wf_codec.specs.declared.fault.DecodeFault.{DecodeFault}
use Rattle.wf_codec.specs.declared.fault.DecodeFault.TheVariants.{Short, BadVersion, BadKind, BadField, NotCanonical, TooLong, Memory}
use Rattle.wf_frame.specs.Report.{AreVotesOf, IsVoteOf, vote_with, votes_with, votes_in_report, vote_definitions, votes_definitions}
use Rattle.wf_codec.specs.Report.{Report}
use Rattle.wf_codec.specs.Message.{view_vote, view_votes, texts, HasOne, HasOneOf, HasText, IsMessage}
use Rattle.wf_codec.specs.Fault.{IsNoText}

-- the decoder's error for that of the frame
abbrev pub decode_fault : FrameFault → DecodeFault
decode_fault frames.Short = Short
decode_fault frames.BadVersion = BadVersion
decode_fault frames.BadKind = BadKind
decode_fault frames.TooLong = TooLong
decode_fault frames.BadLength = BadField

-- the definition, within the limits, of a canonical text; or the text isn't canonical; or
-- allocation failed
abbrev pub ReadsText : Result Definition DecodeFault → List ℕ → Type 0
ReadsText (Ok d) text = (canon d ≡ text) × HasText d
ReadsText (Err NotCanonical) text = IsNoText text
ReadsText (Err Memory) text = Unit {0}
ReadsText (Err fault) text = ⊥

-- the vote there, or an error of its text; allocation fails only for a text
abbrev pub ReadsVote : Result (Option (Ballot × Definition)) DecodeFault → Option (Vote (List ℕ)) → Type 0
ReadsVote (Ok v) vote = (vote ≡ vote_with canon (view_vote v)) × IsVoteOf HasText (view_vote v)
ReadsVote (Err NotCanonical) vote = HasOneOf IsNoText (vote_definitions vote)
ReadsVote (Err Memory) vote = HasOne (vote_definitions vote)
ReadsVote (Err fault) vote = ⊥

-- so many votes were appended, or an error of a text
abbrev pub ReadsVotes : List (Option (Ballot × Definition)) → List (Option (Ballot × Definition)) → Result (Unit {0}) DecodeFault → List (Option (Vote (List ℕ))) → Type 0
ReadsVotes old new (Ok x) votes = (read : List (Option (Ballot × Definition))) × (new ≡ old ++ read) × (votes ≡ votes_with canon (view_votes read)) × AreVotesOf HasText (view_votes read)
ReadsVotes old new (Err NotCanonical) votes = HasOneOf IsNoText (votes_definitions votes)
ReadsVotes old new (Err Memory) votes = HasOne (votes_definitions votes)
ReadsVotes old new (Err fault) votes = ⊥

-- the report from the slot on, or an error of its votes
abbrev pub ReadsReport : ℕ → Result Report DecodeFault → Option (List (Option (Vote (List ℕ)))) → Type 0
ReadsReport slot (Ok r) cut = (r.slot ≡ slot) × (cut ≡ Some (votes_with canon (view_votes r.votes))) × (length (view_votes r.votes) ≡ votes_in_report slot) × AreVotesOf HasText (view_votes r.votes)
ReadsReport slot (Err BadField) cut = cut ≡ None
ReadsReport slot (Err NotCanonical) cut = IsSomeAnd cut (λ votes. HasOneOf IsNoText (votes_definitions votes))
ReadsReport slot (Err Memory) cut = IsSomeAnd cut (λ votes. HasOne (votes_definitions votes))
ReadsReport slot (Err fault) cut = ⊥

-- the result of a function that reads a body, mapped by view, compared with the row of the body
abbrev pub ReadsBodyAs : {X : Type 0} → (X → Message Definition) → Result X DecodeFault → Option (Row (List ℕ)) → Type 0
ReadsBodyAs view (Ok x) read = (read ≡ Some (texts (view x))) × IsMessage (view x)
ReadsBodyAs view (Err BadField) read = read ≡ None
ReadsBodyAs view (Err NotCanonical) read = IsSomeAnd read (λ r. HasOneOf IsNoText (end_definitions r.ending))
ReadsBodyAs view (Err Memory) read = IsSomeAnd read (λ r. HasOne (end_definitions r.ending))
ReadsBodyAs view (Err fault) read = ⊥
