-- Text inside XML: Extensible Markup Language 1.0, 2.4 (character data), 2.11 (line ends) and 3.3.3
-- (attribute values).
use Rattle.std.specs.Prelude.{ℕ, List, [], ◌∷◌, ◌++◌, ◌==◌, codes, flat_map, if◌then◌else◌}

-- a byte as it is written in character data and in attribute values
unfoldable pub escape_byte : ℕ → List ℕ
escape_byte byte =
    if byte == 38 then codes "&amp;" else (
    if byte == 60 then codes "&lt;" else (
    if byte == 62 then codes "&gt;" else (
    if byte == 34 then codes "&quot;" else (
    if byte == 39 then codes "&apos;" else (
    if byte == 9 then codes "&#9;" else (
    if byte == 10 then codes "&#10;" else (
    if byte == 13 then codes "&#13;" else byte ∷ [])))))))

-- a text with each byte escaped that could be read as markup
unfoldable pub escape : List ℕ → List ℕ
escape text = flat_map escape_byte text

-- a line, with the LF that ends it
abbrev pub line : List ℕ → List ℕ
line text = text ++ 10 ∷ []
