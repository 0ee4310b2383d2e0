-- What an outcome says of the reader.
use Rattle.std.specs.Prelude.{◌≡◌, ℕ}
use Rattle.wf_stream.specs.Effects.{Rises}
use Rattle.wf_edge.specs.declared.outcome.Outcome.{Outcome}
use Rattle.wf_edge.specs.declared.outcome.Outcome.TheVariants as outcome

-- A failed read is reported iff one has failed: an outcome of any response, even 503, means that
-- none has.
abbrev pub CountsReceiving : Outcome → ℕ → ℕ → Type 0
CountsReceiving outcome.ReadFailed old new = Rises old new
CountsReceiving outcome.NoRequest old new = new ≡ old
CountsReceiving (outcome.Sent status count) old new = new ≡ old
CountsReceiving (outcome.WriteFailed status count) old new = new ≡ old
