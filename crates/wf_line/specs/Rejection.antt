-- Why the program's parser rejects arguments, and which plain ones it takes.
use Rattle.std.specs.Prelude.{◌≡◌, ◌⊎◌, ◌==◌, not, Bool, List, [], ◌∷◌, None, true, codes}
use Rattle.clap.specs.Faults.{fault_of}
use Rattle.clap.specs.Kinds.{IsAmong}
use Rattle.clap.specs.Walk.{Text}
use Rattle.clap.specs.Simple.{subcommand_of}
use Rattle.clap.specs.Takes.{takes}
use Rattle.clap.specs.declared.error.kind.ErrorKind.{ErrorKind}
use Rattle.clap.specs.declared.error.kind.ErrorKind.TheVariants.{OutOfMemory, ValueValidation}
use Rattle.wf_line.specs.CommandLine.{Asks, IsCapsLine, IsDrawLine, IsTapeLine}
use Rattle.wf_line.specs.ProcessCommandLine.{AsksProcess}
use Rattle.wf_line.specs.declared.command_line.Format.TheVariants as formats
use Rattle.wf_line.specs.declared.command_line.Line.{Line}
use Rattle.wf_line.specs.declared.command_line.Line.TheVariants as lines
use Rattle.wf_line.specs.declared.process_line.ProcessCommand.{ProcessCommand}
use Rattle.wf_line.specs.Program.{program}

-- ---- why arguments are rejected

-- if the parser accepts them and they ask for a line, an allocation failed
abbrev pub IsWhyLineRejected : List Text → ErrorKind → Type 0
IsWhyLineRejected words kind = takes program words ≡ true → (line : Line) → Asks (subcommand_of program words) line → kind ≡ OutOfMemory

-- if it accepts them and they ask for a command about a process, an allocation failed
abbrev pub IsWhyProcessRejected : List Text → ErrorKind → Type 0
IsWhyProcessRejected words kind = takes program words ≡ true → (command : ProcessCommand) → AsksProcess (subcommand_of program words) command → kind ≡ OutOfMemory

-- The kinds of error by which the parser rejects arguments, of which one comes: help and the
-- version are among them. None if it accepts them.
unfoldable pub rejections : List Text → List ErrorKind
rejections words = fault_of program words

-- the kind of a rejection: an allocation failed; the parser's; or a value out of range, if the
-- parser accepts the arguments
abbrev pub IsLineRejection : List Text → ErrorKind → Type 0
IsLineRejection words kind = (kind ≡ OutOfMemory) ⊎ (IsAmong kind (rejections words) ⊎ ((rejections words ≡ []) × (kind ≡ ValueValidation)))

-- ---- plain arguments

-- the argument doesn't begin with a hyphen, so it isn't an option
abbrev pub is_plain : Text → Bool
is_plain [] = true
is_plain (first ∷ rest) = not (first == 45)

-- The parser accepts `caps`, an argument that spells an update sequence and any argument as the
-- query, neither with a leading hyphen. They ask for exactly the line of that number and that
-- query.
abbrev pub PlainCapsIsAsked : Type 0
PlainCapsIsAsked = (word query : Text) (line : Line) → is_plain word ≡ true → is_plain query ≡ true → IsCapsLine word query line
    → (takes program (codes "caps" ∷ word ∷ query ∷ []) ≡ true) × Asks (subcommand_of program (codes "caps" ∷ word ∷ query ∷ [])) line

-- The parser accepts `draw` and any argument without a leading hyphen as the query. They ask for
-- exactly the line of that query.
abbrev pub PlainDrawIsAsked : Type 0
PlainDrawIsAsked = (query : Text) (line : Line) → is_plain query ≡ true → IsDrawLine query line
    → (takes program (codes "draw" ∷ query ∷ []) ≡ true) × Asks (subcommand_of program (codes "draw" ∷ query ∷ [])) line

-- The parser accepts `tape` and any argument without a leading hyphen as the file. They ask for
-- exactly the line of that file, without a map.
abbrev pub PlainTapeIsAsked : Type 0
PlainTapeIsAsked = (file : Text) (line : Line) → is_plain file ≡ true → IsTapeLine file None line
    → (takes program (codes "tape" ∷ file ∷ []) ≡ true) × Asks (subcommand_of program (codes "tape" ∷ file ∷ [])) line

-- The parser accepts `canon` alone; it asks for the canonical text.
abbrev pub PlainCanonIsAsked : Type 0
PlainCanonIsAsked = (takes program (codes "canon" ∷ []) ≡ true) × Asks (subcommand_of program (codes "canon" ∷ [])) lines.Canon

-- The parser accepts `check` alone; it asks to check the mapfile, with a report as text.
abbrev pub PlainCheckIsAsked : Type 0
PlainCheckIsAsked = (takes program (codes "check" ∷ []) ≡ true) × Asks (subcommand_of program (codes "check" ∷ [])) (lines.Check formats.Text)

-- The parser accepts `check --format json`; it asks to check the mapfile, with a report as JSON.
abbrev pub JsonCheckIsAsked : Type 0
JsonCheckIsAsked = (takes program (codes "check" ∷ codes "--format" ∷ codes "json" ∷ []) ≡ true)
    × Asks (subcommand_of program (codes "check" ∷ codes "--format" ∷ codes "json" ∷ [])) (lines.Check formats.Json)

-- The parser accepts `run` alone; it asks to play a script.
abbrev pub PlainRunIsAsked : Type 0
PlainRunIsAsked = (takes program (codes "run" ∷ []) ≡ true) × Asks (subcommand_of program (codes "run" ∷ [])) lines.Run

-- The parser accepts `wire` alone; it asks to play a script whose messages cross a connection.
abbrev pub PlainWireIsAsked : Type 0
PlainWireIsAsked = (takes program (codes "wire" ∷ []) ≡ true) × Asks (subcommand_of program (codes "wire" ∷ [])) lines.Wire
