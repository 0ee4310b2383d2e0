-- What a reader's step leaves after a keyword is what its reader leaves.
use Rattle.std.proofs.Common.{◌≡◌, ◌∙◌, ℕ, Bool, true, false, List, [], ◌∷◌, Option, Some, None, refl, ap}
use Rattle.std.specs.Prelude.{◌||◌, if◌then◌else◌, map}
use Rattle.std.specs.List.{list_any}
use Rattle.std.specs.Option.{option_map_or}
use Rattle.std.specs.Str.{str_eq_ignore_ascii_case}
use Rattle.wf_def.specs.Limits.{has_layer}
use Rattle.wf_block.specs.Token.{Token}
use Rattle.wf_block.specs.Grammar.{◌>>=◌, argument, choice, one_of}
use Rattle.wf_mapfile.specs.Keywords.{behind_word, rest_of}

-- what is kept of what was read changes no token
pub kept : {A S : Type 0} (keep : A × List Token → S × List Token) → ((x : A × List Token) → (keep x).1 ≡ x.1) → (read : Option (A × List Token))
    → rest_of (read >>= λ x. Some (keep x)) ≡ rest_of read
kept keep same None = refl
kept keep same (Some x) = ap Some (same x)

-- nor where it is kept in a part of the slots, or in a part of a part
pub kept_in_part : {A R S : Type 0} (keep : A × List Token → R × List Token) (put : R × List Token → S × List Token) → ((x : A × List Token) → (keep x).1 ≡ x.1)
    → ((x : R × List Token) → (put x).1 ≡ x.1) → (read : Option (A × List Token)) → rest_of ((read >>= λ x. Some (keep x)) >>= λ x. Some (put x)) ≡ rest_of read
kept_in_part keep put same also read = kept put also (read >>= λ x. Some (keep x)) ∙ kept keep same read

pub kept_in_inner_part : {A Q R S : Type 0} (keep : A × List Token → Q × List Token) (inner : Q × List Token → R × List Token) (put : R × List Token → S × List Token)
    → ((x : A × List Token) → (keep x).1 ≡ x.1) → ((x : Q × List Token) → (inner x).1 ≡ x.1) → ((x : R × List Token) → (put x).1 ≡ x.1) → (read : Option (A × List Token))
    → rest_of (((read >>= λ x. Some (keep x)) >>= λ x. Some (inner x)) >>= λ x. Some (put x)) ≡ rest_of read
kept_in_inner_part keep inner put same also too read = kept put too ((read >>= λ x. Some (keep x)) >>= λ x. Some (inner x)) ∙ kept_in_part keep inner same also read

-- before all other layers a name differs from theirs
pub alone : (read : Option (List ℕ × List Token)) → rest_of (read >>= λ x. if has_layer [] x.0 then None else Some x) ≡ rest_of read
alone None = refl
alone (Some x) = refl

-- ---- choices

picked : {A : Type 0} (is : Bool) (value : A) (others : Option A) (found : Bool) (rest : List Token)
    → rest_of (others >>= λ v. Some (v, rest)) ≡ (if found then Some rest else None)
    → rest_of ((if is then Some value else others) >>= λ v. Some (v, rest)) ≡ (if is || found then Some rest else None)
picked true value others found rest same = refl
picked false value others found rest same = same

chosen_by : {A : Type 0} (table : List (List ℕ × A)) (name : List ℕ) (rest : List Token)
    → rest_of (choice table name >>= λ v. Some (v, rest)) ≡ (if list_any (λ word. str_eq_ignore_ascii_case name word) (map (λ entry. entry.0) table) then Some rest else None)
chosen_by [] name rest = refl
chosen_by (entry ∷ others) name rest =
    picked (str_eq_ignore_ascii_case name entry.0) entry.1 (choice others name) _ rest (chosen_by others name rest)

picks : {A : Type 0} (table : List (List ℕ × A)) (read : Option (List ℕ × List Token))
    → rest_of (read >>= λ x. choice table x.0 >>= λ value. Some (value, x.1)) ≡ (read >>= λ x. if list_any (λ word. str_eq_ignore_ascii_case x.0 word) (map (λ entry. entry.0) table) then Some x.1 else None)
picks table None = refl
picks table (Some x) = chosen_by table x.0 x.1

-- one of a table's choices is one of its words
pub chosen : {A : Type 0} (table : List (List ℕ × A)) (tokens : List Token) → rest_of (one_of table tokens) ≡ behind_word (map (λ entry. entry.0) table) tokens
unfolding one_of
chosen table tokens = picks table (argument tokens)

-- ---- other words

-- a step of a table whose first keyword it isn't is one of the others
pub passed : {A B : Type 0} (is : Bool) (step : A) (others : Option A) (run : A → Option B) → is ≡ false → (others >>= run) ≡ None
    → ((if is then Some step else others) >>= run) ≡ None
passed true step others run isnt none = let clash : true ≡ false = isnt in cc
passed false step others run isnt none = none

pub passed_or : {A B : Type 0} (is : Bool) (step : A) (others : Option A) (run : A → Option B) (other : Option B) → is ≡ false → option_map_or run others other ≡ None
    → option_map_or run (if is then Some step else others) other ≡ None
passed_or true step others run other isnt none = let clash : true ≡ false = isnt in cc
passed_or false step others run other isnt none = none

-- what isn't read isn't kept
pub unread : {A S : Type 0} (put : A × List Token → S × List Token) (read : Option (A × List Token)) → read ≡ None → (read >>= λ x. Some (put x)) ≡ None
unread put read none = ap (λ r. r >>= λ x. Some (put x)) none
