-- The bytes of a message.
use Rattle.std.specs.Prelude.{◌≡◌, ℕ, ◌==◌, List, [], Option}
use Rattle.wf_ballot.specs.Ballot.{Ballot}
use Rattle.wf_ballot.specs.Field.{frame}
use Rattle.wf_frame.specs.Report.{vote_bytes, votes_bytes, vote_with, votes_with}
use Rattle.wf_frame.specs.Row.{Row, row_bytes, layout_of}
use Rattle.wf_frame.specs.Frame.{Format}
use Rattle.wf_frame.specs.Frame as frames
use Rattle.wf_canon.specs.Canon.{canon}
use Rattle.wf_model.specs.Message.{Message}
use Rattle.wf_def.specs.Definition.{Definition}
use Rattle.wf_codec.specs.declared.encoder.End.{End}
use Rattle.wf_codec.specs.declared.encoder.End.TheVariants as ends
use Rattle.wf_codec.specs.KindTable.{kinds, most_body_bytes}
use Rattle.wf_codec.specs.Message.{view_vote, view_votes, texts, IsMessage}

-- the version of messages
abbrev pub message_version : ℕ
message_version = 2

-- the number of bytes before the body
abbrev pub header_length : ℕ
header_length = frames.header_length

-- the format of messages
abbrev pub format : Format
format = record { is_read = λ version. version == message_version; layout = λ version byte. layout_of kinds byte; longest = most_body_bytes }

-- the bytes of a vote with its mark, or of the mark alone, and of several votes
abbrev pub written_vote : Option (Ballot × Definition) → List ℕ
written_vote vote = vote_bytes (vote_with canon (view_vote vote))

abbrev pub written_votes : List (Option (Ballot × Definition)) → List ℕ
written_votes votes = votes_bytes (votes_with canon (view_votes votes))

-- the bytes of what follows the fields of fixed length
abbrev pub written_end : End → List ℕ
written_end ends.Nothing = []
written_end (ends.Text definition) = canon definition.now
written_end (ends.Votes votes) = written_votes votes.now

-- the encoding of a message's row
unfoldable pub text_spelling : Row (List ℕ) → List ℕ
text_spelling r = frame message_version r.byte (row_bytes r)

-- the one encoding of a message
abbrev pub spelling : Message Definition → List ℕ
spelling m = text_spelling (texts m)

-- the bytes encode the message
pub record Spells (m : Message Definition) (bytes : List ℕ) : Type 0 where
  pub is_message : IsMessage m
  pub spelled : bytes ≡ spelling m
