-- How an XML processor reads a text that it finds in an element or in an attribute's value:
-- Extensible Markup Language 1.0, 4.1 (references) and 4.6 (predefined entities).
use Rattle.std.specs.Prelude.{◌≡◌, ℕ, ◌==◌, ◌&&◌, ◌||◌, Bool, not, nat_lt, List, [], ◌∷◌, ◌++◌, bytes_eq, codes, Option, Some, None, option_and_then, option_map, if◌then◌else◌}
use Rattle.std.specs.Char.{is_ascii_digit}
use Rattle.std.specs.List.{list_all}
use Rattle.wf_text.specs.Number.{number_of_digits}
use Rattle.wf_wms.specs.Xml.{escape}

-- an ASCII character by its decimal number
abbrev pub numbered : List ℕ → Option ℕ
numbered digits = if list_all is_ascii_digit digits && (nat_lt 0 (number_of_digits digits) && nat_lt (number_of_digits digits) 128)
    then Some (number_of_digits digits) else None

-- a byte by the name of its entity
abbrev pub named : List ℕ → Option ℕ
named name =
    if bytes_eq name (codes "amp") then Some 38 else (
    if bytes_eq name (codes "lt") then Some 60 else (
    if bytes_eq name (codes "gt") then Some 62 else (
    if bytes_eq name (codes "quot") then Some 34 else (
    if bytes_eq name (codes "apos") then Some 39 else None))))

-- the byte that a reference stands for, by what is between `&` and `;`
unfoldable pub referenced : List ℕ → Option ℕ
referenced [] = None
referenced (byte ∷ bytes) = if byte == 35 then numbered bytes else named (byte ∷ bytes)

-- A byte that stands for itself, in an element and in an attribute's value in either quotes: `<`
-- and quotes may begin or end markup (2.4), `>` ends a section (2.4), and a processor changes ends
-- of lines and, in an attribute's value, tabs (2.11, 3.3.3).
abbrev pub stands_for_itself : ℕ → Bool
stands_for_itself byte =
    not (byte == 38 || (byte == 60 || (byte == 62 || (byte == 34 || (byte == 39 || (byte == 9 || (byte == 10 || byte == 13)))))))

-- a byte, and what is read after it
abbrev pub followed_by : Option (List ℕ) → ℕ → Option (List ℕ)
followed_by rest byte = option_map (λ text. byte ∷ text) rest

-- The text that is read; None where a byte may be markup or may be changed, or a reference isn't
-- one of these. The first argument is what has come of a reference since its `&`.
unfoldable pub read : Option (List ℕ) → List ℕ → Option (List ℕ)
read None [] = Some []
read (Some name) [] = None
read None (byte ∷ bytes) = if byte == 38 then read (Some []) bytes
    else (if stands_for_itself byte then followed_by (read None bytes) byte else None)
read (Some name) (byte ∷ bytes) = if byte == 59 then option_and_then (followed_by (read None bytes)) (referenced name)
    else read (Some (name ++ byte ∷ [])) bytes

-- a text that was escaped is read as itself
abbrev pub EscapedTextsAreReadBack : Type 0
EscapedTextsAreReadBack = (text : List ℕ) → read None (escape text) ≡ Some text
