-- The theorems about streams: how a stream splits into messages, and that it doesn't matter where
-- it is cut.
use Rattle.std.specs.Prelude.{◌≡◌, List, ◌++◌, ℕ}
use Rattle.wf_def.specs.Definition.{Definition}
use Rattle.wf_model.specs.Message.{Message}
use Rattle.wf_codec.specs.declared.fault.DecodeFault.{DecodeFault}
use Rattle.wf_mail.specs.Stream.{Reads, Breaks}

-- the bytes determine the messages and the rest
abbrev pub SplitOneWay : Type 0
SplitOneWay = (stream : List ℕ) (messages others : List (Message Definition)) (rest other_rest : List ℕ) →
    Reads stream messages rest → Reads stream others other_rest → (messages ≡ others) × (rest ≡ other_rest)

-- the bytes determine the error
abbrev pub BreakOneWay : Type 0
BreakOneWay = (stream : List ℕ) (fault other : DecodeFault) → Breaks stream fault → Breaks stream other → fault ≡ other

-- a stream with an error isn't messages followed by part of one
abbrev pub BreaksOrReads : Type 0
BreaksOrReads = (stream : List ℕ) (fault : DecodeFault) (messages : List (Message Definition)) (rest : List ℕ) →
    Breaks stream fault → Reads stream messages rest → ⊥

-- What one piece gives, and then another, is what both joined give.
abbrev pub JoinedReads : Type 0
JoinedReads = (rest piece more : List ℕ) (messages later : List (Message Definition)) (between after : List ℕ) →
    Reads (rest ++ piece) messages between → Reads (between ++ more) later after → Reads (rest ++ (piece ++ more)) (messages ++ later) after

-- An error in the second piece is the error of both joined.
abbrev pub JoinedBreaks : Type 0
JoinedBreaks = (rest piece more : List ℕ) (messages : List (Message Definition)) (between : List ℕ) (fault : DecodeFault) →
    Reads (rest ++ piece) messages between → Breaks (between ++ more) fault → Breaks (rest ++ (piece ++ more)) fault

-- an error remains, whatever follows
abbrev pub StaysBroken : Type 0
StaysBroken = (stream more : List ℕ) (fault : DecodeFault) → Breaks stream fault → Breaks (stream ++ more) fault
