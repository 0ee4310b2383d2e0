-- The fixed strings of a canonical text, such as metadata keys, are texts, and so are attribute
-- names after their prefix.
use Rattle.std.proofs.Common.{◌≡◌, ℕ, ◌≤◌, true, false, leb, List, ◌++◌, length, refl, arith}
use Rattle.std.specs.Prelude.{codes}
use Rattle.std.specs.List.{list_all}
use Rattle.std.specs.Str.{IsUtf8, is_utf8, chars}
use Rattle.std.specs.Char.{encode_utf8}
use Rattle.std.proofs.lemmas.Bool.Decides.{nat_tests}
use Rattle.std.proofs.lemmas.Str.{IsUtf8-append, IsUtf8-from_is_utf8, is_utf8-from_IsUtf8, chars-append}
use Rattle.wf_text.specs.Booleans.{and_left, and_right}
use Rattle.wf_block.specs.Utf8Theorems.{text_is_utf8}
use Rattle.wf_def.specs.Text.{is_text, is_text_character, has_both_quotes}
use Rattle.wf_def.specs.declared.choice.Projection.{Projection}
use Rattle.wf_def.specs.declared.choice.Projection.TheVariants.{Epsg4326, Epsg3857}
use Rattle.wf_spelling.specs.Canon.{projection_text}
use Rattle.wf_canon.proofs.TokenTheorem.{text_lacks_both}

pub title_key : is_text (codes "wms_title") ≡ true
unfolding is_text is_utf8 chars encode_utf8
title_key = refl

pub abstract_key : is_text (codes "wms_abstract") ≡ true
unfolding is_text is_utf8 chars encode_utf8
abstract_key = refl

pub address_key : is_text (codes "wms_onlineresource") ≡ true
unfolding is_text is_utf8 chars encode_utf8
address_key = refl

pub projection_is_text : (p : Projection) → is_text (projection_text p) ≡ true
unfolding is_text is_utf8 chars encode_utf8
projection_is_text Epsg4326 = refl
projection_is_text Epsg3857 = refl

items_is_utf8 : is_utf8 (codes "ITEMS=") ≡ true
unfolding is_utf8 chars encode_utf8
items_is_utf8 = refl

items_chars : chars (codes "ITEMS=") ≡ codes "ITEMS="
unfolding chars
items_chars = refl

-- `ITEMS=` followed by a text is a text, if it isn't too long
pub items_is_text : (t : List ℕ) → is_text t ≡ true → length t ≤ 994 → is_text (codes "ITEMS=" ++ t) ≡ true
unfolding is_text
items_is_text t e most =
    let front : IsUtf8 (codes "ITEMS=") = IsUtf8-from_is_utf8 (codes "ITEMS=") items_is_utf8 in
    let size : leb (length (codes "ITEMS=" ++ t)) 1000 ≡ true = grind (arith, nat_tests) in
    let utf8 : is_utf8 (codes "ITEMS=" ++ t) ≡ true = is_utf8-from_IsUtf8 (codes "ITEMS=" ++ t) (IsUtf8-append (codes "ITEMS=") t front (text_is_utf8 t e)) in
    let split : chars (codes "ITEMS=" ++ t) ≡ chars (codes "ITEMS=") ++ chars t = chars-append (codes "ITEMS=") t front in
    let may_stand : list_all is_text_character (chars t) ≡ true = and_right _ _ (and_left _ _ e) in
    let quotes : has_both_quotes t ≡ false = text_lacks_both t e in
    rw (size, utf8, split, items_chars, may_stand, quotes) refl
