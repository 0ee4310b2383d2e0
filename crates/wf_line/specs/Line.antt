-- The range of a command line's numbers, and the kinds of command.
use Rattle.std.specs.Prelude.{◌≡◌, ◌≤◌, ℕ, List, IfSome, ⊤}
use Rattle.std.specs.Str.Parse.{IsNumeral, digits_value, without_leading_plus}
use Rattle.wf_ballot.specs.Sequence.{last_sequence}
use Rattle.wf_line.specs.declared.command_line.Line.{Line}
use Rattle.wf_service.specs.Service.{IsService}
use Rattle.wf_line.specs.declared.command_line.Line.TheVariants as lines

-- the numbers of a command line are in range
abbrev pub IsInRange : Line → Type 0
IsInRange (lines.Caps seq query) = seq ≤ last_sequence
IsInRange (lines.Draw query) = ⊤
IsInRange lines.Canon = ⊤
IsInRange (lines.Check format) = ⊤
IsInRange (lines.Tape file map) = IfSome map (λ seq. (1 ≤ seq) × (seq ≤ last_sequence))
IsInRange lines.Run = ⊤
IsInRange lines.Wire = ⊤
IsInRange (lines.Serve service) = IsService service

-- the line is a command about standard input
abbrev pub IsOfInput : Line → Type 0
IsOfInput (lines.Caps seq query) = ⊤
IsOfInput (lines.Draw query) = ⊤
IsOfInput lines.Canon = ⊤
IsOfInput (lines.Check format) = ⊤
IsOfInput (lines.Tape file map) = ⊥
IsOfInput lines.Run = ⊤
IsOfInput lines.Wire = ⊤
IsOfInput (lines.Serve service) = ⊥

-- The argument spells an update sequence: decimal digits, with an optional plus, of a number in
-- range.
pub record SpellsSequence (word : List ℕ) (seq : ℕ) : Type 0 where
  pub digits : IsNumeral 10 (without_leading_plus word)
  pub number : seq ≡ digits_value 10 (without_leading_plus word)
  pub most : seq ≤ last_sequence

-- The argument spells a number from `least` to `most`: decimal digits, with an optional plus.
pub record IsNumber (word : List ℕ) (least most number : ℕ) : Type 0 where
  pub digits : IsNumeral 10 (without_leading_plus word)
  pub is : number ≡ digits_value 10 (without_leading_plus word)
  pub low : least ≤ number
  pub high : number ≤ most
