-- The UPDATESEQUENCE parameter: OGC 06-042, 7.2.3.5 and its table 4. The rows for a value that
-- isn't a number and for an empty value are this profile's.
use Rattle.std.specs.Prelude.{ℕ, List, [], ◌∷◌, nat_lt, ◌==◌, Option, Some, None, if◌then◌else◌}
use Rattle.std.specs.List.{list_all}
use Rattle.std.specs.Char.{is_ascii_digit}
use Rattle.wf_text.specs.Number.{number_of_digits}
use Rattle.wf_wms.specs.declared.comparison.Comparison.{Comparison}
use Rattle.wf_wms.specs.declared.comparison.Comparison.TheVariants.{Absent, NoNumber, Below, Equal, Above}

-- how a number compares with the sequence s
abbrev pub comparison_of : ℕ → ℕ → Comparison
comparison_of number s = if number == s then Equal else (if nat_lt number s then Below else Above)

-- how the value of UPDATESEQUENCE compares with the sequence s
abbrev pub sequence_rule : Option (List ℕ) → ℕ → Comparison
sequence_rule None s = Absent
sequence_rule (Some []) s = Absent
sequence_rule (Some (byte ∷ bytes)) s =
    if list_all is_ascii_digit (byte ∷ bytes) then comparison_of (number_of_digits (byte ∷ bytes)) s else NoNumber
