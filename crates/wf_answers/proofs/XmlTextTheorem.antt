-- An escaped text is read back, byte by byte.
use Rattle.std.proofs.Common.{arith, ◌≡◌, ◌∙◌, ap, subst, ℕ, ◌==◌, Bool, true, false, List, [], ◌∷◌, ◌++◌, refl, flat_map}
use Rattle.std.specs.Prelude.{Option, None}
use Rattle.std.proofs.lemmas.Bool.Decides.{nat_tests}
use Rattle.wf_wms.specs.Xml.{escape, escape_byte}
use Rattle.wf_answers.specs.XmlText.{EscapedTextsAreReadBack, followed_by, read, referenced}

-- what one escaped byte is read as, before anything
abbrev Reads : ℕ → Type 0
Reads byte = (after : List ℕ) → read None (escape_byte byte ++ after) ≡ followed_by (read None after) byte

-- each of the eight
is_and : Reads 38
unfolding read escape_byte referenced
is_and after = refl

is_less : Reads 60
unfolding read escape_byte referenced
is_less after = refl

is_greater : Reads 62
unfolding read escape_byte referenced
is_greater after = refl

is_quote : Reads 34
unfolding read escape_byte referenced
is_quote after = refl

is_apostrophe : Reads 39
unfolding read escape_byte referenced
is_apostrophe after = refl

is_tab : Reads 9
unfolding read escape_byte referenced
is_tab after = refl

is_line_feed : Reads 10
unfolding read escape_byte referenced
is_line_feed after = refl

is_return : Reads 13
unfolding read escape_byte referenced
is_return after = refl

-- a byte that is escaped, or else another
unless : (n byte : ℕ) → Reads n → ((byte == n) ≡ false → Reads byte) → Reads byte
unless n byte here other = by_test (byte == n) refl where
  by_test : (t : Bool) → (byte == n) ≡ t → Reads byte
  by_test true same = let equal : n ≡ byte = grind (arith, nat_tests) in subst Reads equal here
  by_test false apart = other apart

-- a byte that is none of the eight
unescaped : (byte : ℕ) → (byte == 38) ≡ false → (byte == 60) ≡ false → (byte == 62) ≡ false → (byte == 34) ≡ false → (byte == 39) ≡ false →
    (byte == 9) ≡ false → (byte == 10) ≡ false → (byte == 13) ≡ false → escape_byte byte ≡ byte ∷ []
unfolding escape_byte
unescaped byte e38 e60 e62 e34 e39 e9 e10 e13 = rw (e38, e60, e62, e34, e39, e9, e10, e13) refl

stands : (byte : ℕ) (after : List ℕ) → (byte == 38) ≡ false → (byte == 60) ≡ false → (byte == 62) ≡ false → (byte == 34) ≡ false → (byte == 39) ≡ false →
    (byte == 9) ≡ false → (byte == 10) ≡ false → (byte == 13) ≡ false → read None (byte ∷ after) ≡ followed_by (read None after) byte
unfolding read
stands byte after e38 e60 e62 e34 e39 e9 e10 e13 = rw (e38, e60, e62, e34, e39, e9, e10, e13) refl

plain : (byte : ℕ) → (byte == 38) ≡ false → (byte == 60) ≡ false → (byte == 62) ≡ false → (byte == 34) ≡ false → (byte == 39) ≡ false →
    (byte == 9) ≡ false → (byte == 10) ≡ false → (byte == 13) ≡ false → Reads byte
plain byte e38 e60 e62 e34 e39 e9 e10 e13 after =
    ap (λ (l : List ℕ). read None (l ++ after)) (unescaped byte e38 e60 e62 e34 e39 e9 e10 e13) ∙ stands byte after e38 e60 e62 e34 e39 e9 e10 e13

each_byte : (byte : ℕ) → Reads byte
each_byte byte =
    unless 38 byte is_and (λ e38. unless 60 byte is_less (λ e60. unless 62 byte is_greater (λ e62. unless 34 byte is_quote (λ e34.
    unless 39 byte is_apostrophe (λ e39. unless 9 byte is_tab (λ e9. unless 10 byte is_line_feed (λ e10. unless 13 byte is_return (λ e13.
    plain byte e38 e60 e62 e34 e39 e9 e10 e13))))))))

pub read_back : EscapedTextsAreReadBack
unfolding escape read
read_back [] = refl
read_back (byte ∷ text) = each_byte byte (flat_map escape_byte text) ∙ ap (λ (t : Option (List ℕ)). followed_by t byte) (read_back text)
