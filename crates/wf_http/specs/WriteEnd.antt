-- How writing breaks off: a call that fails is the last one. This holds of each writer, also of one
-- whose bytes aren't known.
use Rattle.std.specs.Prelude.{◌≡◌, ◌≤◌, ℕ, Bool, true, false, List, length, take}
use Rattle.std.specs.Io.KnownBytes.{Appends}
use Rattle.wf_stream.specs.Effects.{EndsByFailing, Rises}
use Rattle.wf_stream.specs.declared.stream.Sink.{Ghosts as Sink}
use Rattle.wf_http.specs.Response.{IsCount, WritesPart}

module _ {K : Type 0} (sinks : Sink K) where
  -- this many first bytes were written without a failure; then a call failed, and no call came
  -- after it
  pub record BreaksOff (bytes : List ℕ) (old new : K) (count : ℕ) : Type 0 where
    pub part : ℕ
    pub within : part ≤ length bytes
    pub counts : IsCount part count
    pub ends : EndsByFailing sinks.written sinks.failures sinks.fails (take part bytes) old new

  -- ---- for the crate's own contracts: a response is written piece by piece, until a call fails

  -- all the bytes were written without a failure, and this is their number
  pub record HasWritten (first : K) (bytes : List ℕ) (now : K) (count : ℕ) : Type 0 where
    pub whole : Appends (sinks.written first) (sinks.written now) bytes
    pub calm : sinks.failures now ≡ sinks.failures first
    pub counts : IsCount (length bytes) count

  -- a call failed, and this many of the bytes were written before
  pub record HasBroken (first : K) (bytes : List ℕ) (now : K) (count : ℕ) : Type 0 where
    pub part : WritesPart bytes (sinks.written first) (sinks.written now) count
    pub cause : Rises (sinks.failures first) (sinks.failures now)
    pub last : BreaksOff bytes first now count

  -- the bytes were written so far, by whether a call has failed
  abbrev pub IsWriting : K → List ℕ → K → ℕ → Bool → Type 0
  IsWriting first bytes now count false = HasWritten first bytes now count
  IsWriting first bytes now count true = HasBroken first bytes now count
