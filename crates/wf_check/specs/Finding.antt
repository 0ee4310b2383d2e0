-- What is found in a file that isn't a map to publish, and where.
use Rattle.std.specs.Prelude.{◌≡◌, ℕ, ◌+◌, ◌-◌, ◌++◌, ◌<◌, ◌≤◌, ◌⊎◌, ◌==◌, ◌&&◌, ◌||◌, Bool, true, false, codes, decimal, List, length, min, nat_lt, slice_index, take, drop, Option, Some, None}
use Rattle.std.specs.List.{suffix_len}
use Rattle.std.specs.Str.{str_eq_ignore_ascii_case}
use Rattle.wf_block.specs.Faults as Faults
use Rattle.wf_block.specs.ReadContract.{is_memory}
use Rattle.wf_block.specs.declared.fault.MapFault.{MapFault}
use Rattle.wf_block.specs.declared.fault.MapFault.TheVariants as faults
use Rattle.wf_def.specs.Definition.{Definition}
use Rattle.wf_mapfile.specs.Meaning.{Means, longest_mapfile}
use Rattle.wf_mapfile.specs.Rejection.{HasError}
use Rattle.wf_spelling.specs.Canon.{canon, most_canon_bytes}
use Rattle.wf_block.specs.Token.{without_mark}
use Rattle.wf_check.specs.Message.{IsFindingMessage}
use Rattle.wf_check.specs.NumberedLine.{characters, first_line, is_feed, last_line, line_number}
use Rattle.wf_check.specs.declared.fault.CheckFault.{CheckFault}
use Rattle.wf_check.specs.declared.fault.CheckFault.TheVariants.{Map, TooBig}
use Rattle.wf_check.specs.declared.finding.Finding.{Finding}
use Rattle.wf_check.specs.declared.line.NumberedLine.{NumberedLine}

-- the bytes mean a map whose canonical text is within the limit
abbrev pub IsPublishable : List ℕ → Type 0
IsPublishable bytes = (d : Definition) × Means bytes d × (length (canon d) ≤ most_canon_bytes)

-- Why they aren't: the reader's error, or the canonical text of their map is over the limit.
abbrev pub IsWhy : List ℕ → CheckFault → Type 0
IsWhy bytes (Map fault) = (is_memory fault ≡ false) × HasError bytes fault
IsWhy bytes TooBig = (d : Definition) × Means bytes d × (most_canon_bytes < length (canon d))

-- bytes for which there is a reason aren't publishable
abbrev pub NoneIsBoth : Type 0
NoneIsBoth = (bytes : List ℕ) (fault : CheckFault) → IsWhy bytes fault → ¬ (IsPublishable bytes)

-- a space, a TAB or CR
unfoldable pub is_blank : ℕ → Bool
is_blank byte = byte == 32 || byte == 9 || byte == 13

-- but for blanks, the bytes end at their front, at a line feed or at END
unfoldable pub ends_item : List ℕ → Bool
ends_item before = let kept = take (length before - suffix_len is_blank before) before in let count = length kept in
    count == 0 || is_feed (slice_index kept (count - 1)) || str_eq_ignore_ascii_case (drop (count - 3) kept) (codes "END")

-- the word is at the front, without regard to ASCII letter case, with white space behind it
unfoldable pub begins_with : List ℕ → List ℕ → Bool
begins_with word bytes = let end = length word in
    nat_lt end (length bytes) && (is_blank (slice_index bytes end) || is_feed (slice_index bytes end)) && str_eq_ignore_ascii_case (take end bytes) word

-- LAYER is at the offset, at the front of a line or behind END; or, of all blocks, CLASS or FEATURE
unfoldable pub begins_block : Bool → List ℕ → ℕ → Bool
begins_block all bytes offset =
    let word = drop offset bytes in
    (begins_with (codes "LAYER") word || all && (begins_with (codes "CLASS") word || begins_with (codes "FEATURE") word)) && ends_item (take offset bytes)

-- no such block begins from an offset up to another
abbrev pub NoneBegins : Bool → List ℕ → ℕ → ℕ → Type 0
NoneBegins all bytes from to = (offset : ℕ) → from ≤ offset → offset < to → begins_block all bytes offset ≡ false

-- The bytes mean a map; and for K1, one whose canonical text is within the limit.
abbrev pub IsSound : CheckFault → List ℕ → Type 0
IsSound (Map fault) bytes = (d : Definition) × Means bytes d
IsSound TooBig bytes = IsPublishable bytes

-- The bytes up to the offset are sound with one END or two behind them, or behind */ where a
-- comment is open.
abbrev pub IsSoundTo : CheckFault → List ℕ → ℕ → Type 0
IsSoundTo fault bytes offset = let before = take offset bytes in
    (IsSound fault (before ++ codes "\nEND") ⊎ IsSound fault (before ++ codes "\nEND\nEND"))
    ⊎ (IsSound fault (before ++ codes "*/\nEND") ⊎ IsSound fault (before ++ codes "*/\nEND\nEND"))

-- The bytes aren't sound up to the first such block from an offset on.
abbrev pub StopsFrom : Bool → CheckFault → List ℕ → ℕ → Type 0
StopsFrom all fault bytes from = (next : ℕ) → from ≤ next → begins_block all bytes next ≡ true → NoneBegins all bytes from next → ¬ (IsSoundTo fault bytes next)

-- The offset is that of such a block behind `from` up to which the bytes are sound, or is `from`;
-- and up to the next such block they aren't.
pub record IsBoundary (all : Bool) (fault : CheckFault) (bytes : List ℕ) (from offset : ℕ) : Type 0 where
  pub behind : from ≤ offset
  pub within : offset ≤ length bytes
  pub block : from < offset → begins_block all bytes offset ≡ true
  pub here : from < offset → IsSoundTo fault bytes offset
  pub next : StopsFrom all fault bytes (offset + 1)

-- Where M9, M11 and K1 are. The bytes are sound up to a LAYER at `start`, which is their front if
-- there is none, and not up to the next LAYER. The offset is `start`, or that of a CLASS or FEATURE
-- behind it and before the next LAYER up to which they are sound; up to the next block they aren't.
pub record IsLastBlock (fault : CheckFault) (bytes : List ℕ) (offset : ℕ) : Type 0 where
  pub start : ℕ
  pub layer : IsBoundary false fault bytes 0 start
  pub inside : NoneBegins false bytes (start + 1) (offset + 1)
  pub block : IsBoundary true fault bytes start offset

-- The byte offset of an error, if it has one of its own. That of a file that is too long is the
-- first byte over the limit.
unfoldable pub offset_of : MapFault → Option ℕ
offset_of faults.TooLong = Some longest_mapfile
offset_of fault = Faults.byte_offset fault

-- The offset is the error's, if it has one within the file; M9, M11 and K1 have none.
abbrev pub IsOffsetIn : CheckFault → List ℕ → Option ℕ → ℕ → Type 0
IsOffsetIn fault bytes None offset = IsLastBlock fault bytes offset
IsOffsetIn fault bytes (Some own) offset = offset ≡ min own (length bytes)

abbrev pub IsOffsetOf : List ℕ → CheckFault → ℕ → Type 0
IsOffsetOf bytes (Map fault) offset = IsOffsetIn (Map fault) bytes (offset_of fault) offset
IsOffsetOf bytes TooBig offset = IsLastBlock TooBig bytes offset

-- The line is that of the offset, cut there: its number, its bytes before and its bytes after.
pub record IsLineOf (bytes : List ℕ) (offset : ℕ) (line : NumberedLine) : Type 0 where
  pub number : line.number ≡ line_number (take offset bytes)
  pub before : line.before.now ≡ last_line (without_mark (take offset bytes))
  pub after : line.after.now ≡ first_line (drop offset bytes)

-- The finding is one of the file.
pub record IsFinding (bytes : List ℕ) (finding : Finding) : Type 0 where
  pub why : IsWhy bytes finding.fault
  pub file : finding.file.now ≡ bytes
  pub within : finding.offset ≤ length bytes
  pub offset : IsOffsetOf bytes finding.fault finding.offset
  pub line : IsLineOf bytes finding.offset finding.line

-- the number of an error, with its offset if it has one
abbrev pub at : List ℕ → Option ℕ → List ℕ
at number None = number
at number (Some offset) = number ++ codes " at " ++ decimal offset

abbrev pub fault_text : CheckFault → List ℕ
fault_text (Map fault) = at (Faults.code fault) (Faults.byte_offset fault)
fault_text TooBig = codes "K1"

-- a line and a column, an error, the picture of a line and a message
abbrev pub reported : ℕ → ℕ → List ℕ → List ℕ → List ℕ → List ℕ
reported number column fault picture message =
    codes "line " ++ decimal number ++ codes ", column " ++ decimal column ++ codes ": " ++ fault ++ codes "\n" ++ picture ++ message ++ codes "\n"

-- The text is a report of the finding: its line and its column, from 1 in characters, its error, a
-- picture of the line and the message.
abbrev pub IsReport : Finding → List ℕ → Type 0
IsReport finding text = (picture message : List ℕ) × IsFindingMessage finding message
    × (text ≡ reported finding.line.number (characters finding.line.before.now + 1) (fault_text finding.fault) picture message)

-- The text is a report, in a format, of a finding of the bytes with this error.
abbrev pub IsReportOf : (Finding → List ℕ → Type 0) → List ℕ → CheckFault → List ℕ → Type 0
IsReportOf IsIn bytes fault text = (finding : Finding) × IsFinding bytes finding × (finding.fault ≡ fault) × IsIn finding text
