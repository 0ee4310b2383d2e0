-- How each character looks: five rows of three bits.
use Rattle.std.specs.Prelude.{ℕ, ◌/◌, ◌%◌, ◌==◌, List, [], ◌∷◌, Option, Some, None}
use Rattle.std.specs.Char.{to_ascii_uppercase}
use Rattle.std.specs.List.{find}

-- a character, and five octal digits: the rows from the top, of each row the highest bit on the
-- left
abbrev pub glyph_table : List (ℕ × ℕ)
glyph_table =
    (65, 0o25755)  -- A
    ∷ (66, 0o65656)  -- B
    ∷ (67, 0o34443)  -- C
    ∷ (68, 0o65556)  -- D
    ∷ (69, 0o74647)  -- E
    ∷ (70, 0o74644)  -- F
    ∷ (71, 0o34553)  -- G
    ∷ (72, 0o55755)  -- H
    ∷ (73, 0o72227)  -- I
    ∷ (74, 0o11152)  -- J
    ∷ (75, 0o55655)  -- K
    ∷ (76, 0o44447)  -- L
    ∷ (77, 0o57755)  -- M
    ∷ (78, 0o65555)  -- N
    ∷ (79, 0o25552)  -- O
    ∷ (80, 0o65644)  -- P
    ∷ (81, 0o25563)  -- Q
    ∷ (82, 0o65655)  -- R
    ∷ (83, 0o34216)  -- S
    ∷ (84, 0o72222)  -- T
    ∷ (85, 0o55557)  -- U
    ∷ (86, 0o55522)  -- V
    ∷ (87, 0o55775)  -- W
    ∷ (88, 0o55255)  -- X
    ∷ (89, 0o55222)  -- Y
    ∷ (90, 0o71247)  -- Z
    ∷ (48, 0o75557)  -- 0
    ∷ (49, 0o26227)  -- 1
    ∷ (50, 0o61247)  -- 2
    ∷ (51, 0o61216)  -- 3
    ∷ (52, 0o55711)  -- 4
    ∷ (53, 0o74616)  -- 5
    ∷ (54, 0o34757)  -- 6
    ∷ (55, 0o71244)  -- 7
    ∷ (56, 0o75757)  -- 8
    ∷ (57, 0o75716)  -- 9
    ∷ (45, 0o00700)  -- hyphen
    ∷ (46, 0o00002)  -- full stop
    ∷ (32, 0o00000)  -- space
    ∷ []

-- the five octal digits, one a row
unfoldable pub rows : ℕ → List ℕ
rows digits = digits / 0o10000 % 8 ∷ digits / 0o1000 % 8 ∷ digits / 0o100 % 8 ∷ digits / 0o10 % 8 ∷ digits % 8 ∷ []

-- a character that isn't in the table has each bit set
abbrev pub rows_or_filled : Option (ℕ × ℕ) → List ℕ
rows_or_filled None = rows 0o77777
rows_or_filled (Some entry) = rows entry.1

-- the table's entry of a character
unfoldable pub glyph_entry : ℕ → Option (ℕ × ℕ)
glyph_entry c = find (λ entry. entry.0 == c) glyph_table

-- the rows of a character; a to z look as A to Z
unfoldable pub glyph : ℕ → List ℕ
glyph c = rows_or_filled (glyph_entry (to_ascii_uppercase c))
