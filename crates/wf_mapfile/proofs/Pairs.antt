-- Reading METADATA in one pass returns the values of its pairs.
use Rattle.std.proofs.Common.{◌≡◌, ℕ, zero, suc, ◌+◌, ◌-◌, ◌<◌, ◌≤◌, Bool, true, false, not, ◌&&◌, ◌||◌, List, [], ◌∷◌, length, map, arith, refl, sym, ap, subst, ◌∙◌}
use Rattle.std.specs.Prelude.{Option, Some, None, is_some, codes, if◌then◌else◌, bytes_eq}
use Rattle.std.specs.Cmp.{first_so, second_so}
use Rattle.std.specs.List.{list_any, list_all}
use Rattle.std.specs.Option.{option_or}
use Rattle.std.specs.Str.{str_to_ascii_lowercase}
use Rattle.std.proofs.lemmas.Slice.Eq.{bytes_eq-Decides}
use Rattle.std.proofs.lemmas.Bool.Decides.{same_from_decides, Decides-like}
use Rattle.wf_mapfile.specs.declared.slots.Metadata.{Metadata}
use Rattle.wf_block.specs.Token.{Token}
use Rattle.wf_block.specs.Grammar.{◌>>=◌, text, end}
use Rattle.wf_mapfile.specs.Metadata.{pairs, all_differ, value_at, kept, metadata}
use Rattle.wf_mapfile.specs.Pairs.{keep, new_pair, collect}
use Rattle.wf_mapfile.specs.Web.{no_metadata}
use Rattle.std.proofs.lemmas.Bool.{or_parts}
use Rattle.wf_text.specs.Booleans.{not_true}
use Rattle.wf_mapfile.proofs.Options.{bind_assoc, bind_same, bind_none}

abbrev Pair : Type 0
Pair = List ℕ × List ℕ

abbrev keys_of : List Pair → List (List ℕ)
keys_of all = map (λ pair. pair.0) all

abbrev ended : Metadata → List Token → Option (Metadata × List Token)
ended slots rest = Some (slots, rest)

-- what follows a pair
abbrev collect_rest : (List ℕ → Bool) → Metadata → ℕ → Pair × List Token → Option (Metadata × List Token)
collect_rest seen slots n x = collect (λ other. bytes_eq x.0.0 other || seen other) (keep slots x.0.0 x.0.1) n x.1

-- one pair, or END
pub collect_step : (seen : List ℕ → Bool) (slots : Metadata) (n i : ℕ) (tokens : List Token) → i < n →
    collect seen slots (n - i) tokens ≡ option_or (end tokens >>= λ rest. Some (slots, rest)) (new_pair seen tokens >>= collect_rest seen slots (n - (i + 1)))
unfolding collect
collect_step seen slots n i tokens below = let left : n - i ≡ suc (n - (i + 1)) = omega arith in rw left

-- no more keys may come, and no END came
pub collect_past : (seen : List ℕ → Bool) (slots : Metadata) (n i : ℕ) (tokens : List Token) → n ≤ i → collect seen slots (n - i) tokens ≡ None
unfolding collect
collect_past seen slots n i tokens past = let none : n - i ≡ 0 = omega arith in rw none

-- none of the keys was seen before, and none comes twice
abbrev pub fresh : (List ℕ → Bool) → List (List ℕ) → Bool
fresh seen [] = true
fresh seen (key ∷ keys) = not (seen key) && fresh (λ other. bytes_eq key other || seen other) keys

-- each pair's value in its slot, the last one replacing those before it
abbrev keep_all : Metadata → List Pair → Metadata
keep_all slots [] = slots
keep_all slots (pair ∷ others) = keep_all (keep slots pair.0 pair.1) others

-- the slots after pairs, if their keys were not seen
abbrev kept_after : (List ℕ → Bool) → Metadata → List Pair × List Token → Option (Metadata × List Token)
kept_after seen slots x = if fresh seen (keys_of x.0) then Some (keep_all slots x.0, x.1) else None

abbrev with_pair : Pair → List Pair × List Token → Option (List Pair × List Token)
with_pair pair others = Some (pair ∷ others.0, others.1)

abbrev as_pair : List ℕ → List ℕ × List Token → Option (Pair × List Token)
as_pair name value = Some ((name, value.0), value.1)

module _ (n : ℕ) (seen : List ℕ → Bool) (slots : Metadata) (name : List ℕ)
    (rest : (seen : List ℕ → Bool) (slots : Metadata) (tokens : List Token) → collect seen slots n tokens ≡ (pairs n tokens >>= kept_after seen slots)) where
  after_value : (was_seen : Bool) → seen name ≡ was_seen → (value : Option (List ℕ × List Token)) →
      ((if was_seen then None else value >>= as_pair name) >>= collect_rest seen slots n)
      ≡ ((value >>= λ value. pairs n value.1 >>= with_pair (name, value.0)) >>= kept_after seen slots)
  after_value true is None = refl
  after_value false is None = refl
  after_value true is (Some value) = sym (bind_assoc (pairs n value.1) _ (kept_after seen slots) ∙ bind_none (pairs n value.1) _ (λ x. rw is))
  after_value false is (Some value) =
      rest _ _ value.1 ∙ bind_same (pairs n value.1) _ _ (λ x. sym (rw is)) ∙ sym (bind_assoc (pairs n value.1) _ (kept_after seen slots))

-- after the first pair, or after END
after_end : (n : ℕ) (seen : List ℕ → Bool) (slots : Metadata) (tokens : List Token) →
    ((seen : List ℕ → Bool) (slots : Metadata) (tokens : List Token) → collect seen slots n tokens ≡ (pairs n tokens >>= kept_after seen slots)) → (closed : Option (List Token)) →
    option_or (closed >>= ended slots) (new_pair seen tokens >>= collect_rest seen slots n)
    ≡ (option_or (closed >>= λ rest. Some ([], rest)) (text tokens >>= λ key. text key.1 >>= λ value. pairs n value.1 >>= with_pair (str_to_ascii_lowercase key.0, value.0))
    >>= kept_after seen slots)
unfolding new_pair
after_end n seen slots tokens rest (Some left) = refl
after_end n seen slots tokens rest None =
    bind_assoc (text tokens) _ (collect_rest seen slots n)
    ∙ bind_same (text tokens) _ _ (λ key. after_value n seen slots (str_to_ascii_lowercase key.0) rest _ refl (text key.1))
    ∙ sym (bind_assoc (text tokens) _ (kept_after seen slots))

collect-pairs : (n : ℕ) (seen : List ℕ → Bool) (slots : Metadata) (tokens : List Token) → collect seen slots n tokens ≡ (pairs n tokens >>= kept_after seen slots)
unfolding collect pairs
collect-pairs zero seen slots tokens = refl
collect-pairs (suc n) seen slots tokens = after_end n seen slots tokens (collect-pairs n) (end tokens)

-- the result depends on which keys were seen, not on how that is tested
pub new_pair-same : (seen others : List ℕ → Bool) (tokens : List Token) → ((key : List ℕ) → seen key ≡ others key) → new_pair seen tokens ≡ new_pair others tokens
unfolding new_pair
new_pair-same seen others tokens same = bind_same (text tokens) _ _ (λ key. rw (same (str_to_ascii_lowercase key.0)))

pub collect-same : (n : ℕ) (seen others : List ℕ → Bool) (slots : Metadata) (tokens : List Token) → ((key : List ℕ) → seen key ≡ others key) →
    collect seen slots n tokens ≡ collect others slots n tokens
unfolding collect
collect-same zero seen others slots tokens same = refl
collect-same (suc n) seen others slots tokens same =
    ap (λ rest. option_or (end tokens >>= ended slots) rest)
    (ap (λ pair. pair >>= collect_rest seen slots n) (new_pair-same seen others tokens same)
    ∙ bind_same (new_pair others tokens) _ _ (λ x. collect-same n _ _ (keep slots x.0.0 x.0.1) x.1 (λ other. ap (λ b. bytes_eq x.0.0 other || b) (same other))))

pub bytes_eq-comm : (a b : List ℕ) → bytes_eq a b ≡ bytes_eq b a
bytes_eq-comm a b = same_from_decides (bytes_eq a b) (bytes_eq b a) (bytes_eq-Decides a b) (Decides-like (bytes_eq b a) sym sym (bytes_eq-Decides b a))

-- keys are fresh if none was seen and no two are equal
not_seen-or : (name : List ℕ) (seen : List ℕ → Bool) (keys : List (List ℕ)) →
    list_all (λ key. not (bytes_eq name key || seen key)) keys ≡ (not (list_any (bytes_eq name) keys) && list_all (λ key. not (seen key)) keys)
not_seen-or name seen [] = refl
not_seen-or name seen (key ∷ keys) = split (bytes_eq name key) (seen key) _ _ _ (not_seen-or name seen keys) where
  split : (a b all any none : Bool) → all ≡ (not any && none) → (not (a || b) && all) ≡ (not (a || any) && (not b && none))
  split true b all any none e = refl
  split false true all true none e = refl
  split false true all false none e = refl
  split false false all any none e = e

pub fresh-all_differ : (seen : List ℕ → Bool) (keys : List (List ℕ)) → fresh seen keys ≡ (list_all (λ key. not (seen key)) keys && all_differ keys)
unfolding all_differ
fresh-all_differ seen [] = refl
fresh-all_differ seen (key ∷ keys) =
    ap (λ rest. not (seen key) && rest) (fresh-all_differ (λ other. bytes_eq key other || seen other) keys ∙ ap (λ none. none && all_differ keys) (not_seen-or key seen keys))
    ∙ split (seen key) (list_any (bytes_eq key) keys) _ _ where
      split : (a any none differ : Bool) → (not a && ((not any && none) && differ)) ≡ ((not a && none) && (not any && differ))
      split true any none differ = refl
      split false true true differ = refl
      split false true false differ = refl
      split false false none differ = refl

-- the last value under a key, or else the value that is there already
abbrev last_at : List ℕ → Option (List ℕ) → List Pair → Option (List ℕ)
last_at key slot [] = slot
last_at key slot (pair ∷ others) = last_at key (if bytes_eq pair.0 key then Some pair.1 else slot) others

absent : (key : List ℕ) (all : List Pair) → list_any (bytes_eq key) (keys_of all) ≡ false → value_at key all ≡ None
unfolding value_at
absent key [] none = refl
absent key (pair ∷ others) none =
    let parts = or_parts (bytes_eq key pair.0) (list_any (bytes_eq key) (keys_of others)) none in
    rw (bytes_eq-comm pair.0 key, parts.0) (absent key others parts.1)

-- a key that comes once has one value
last_at-pair : (key : List ℕ) (slot : Option (List ℕ)) (pair : Pair) (others : List Pair) → list_any (bytes_eq pair.0) (keys_of others) ≡ false →
    ((slot : Option (List ℕ)) → last_at key slot others ≡ option_or (value_at key others) slot) → (same : Bool) → bytes_eq pair.0 key ≡ same →
    last_at key (if same then Some pair.1 else slot) others ≡ option_or (if same then Some pair.1 else value_at key others) slot
last_at-pair key slot pair others once rest true is =
    let equal : pair.0 ≡ key = (bytes_eq-Decides pair.0 key).0 is in
    let none : list_any (bytes_eq key) (keys_of others) ≡ false = subst (λ name. list_any (bytes_eq name) (keys_of others) ≡ false) equal once in
    rest (Some pair.1) ∙ ap (λ o. option_or o (Some pair.1)) (absent key others none)
last_at-pair key slot pair others once rest false is = rest slot

last_at-value_at : (key : List ℕ) (all : List Pair) → all_differ (keys_of all) ≡ true → (slot : Option (List ℕ)) → last_at key slot all ≡ option_or (value_at key all) slot
unfolding all_differ value_at
last_at-value_at key [] differ slot = refl
last_at-value_at key (pair ∷ others) differ slot =
    last_at-pair key slot pair others (not_true _ (first_so _ _ differ)) (last_at-value_at key others (second_so _ _ differ)) (bytes_eq pair.0 key) refl

-- a pair goes to at most one slot, since the keys of the slots are distinct
unlike : (key a b : List ℕ) → bytes_eq a b ≡ false → bytes_eq key a ≡ true → bytes_eq key b ≡ false
unlike key a b differ same = rw ((bytes_eq-Decides key a).0 same) differ

keep-slots : (slots : Metadata) (key value : List ℕ) → keep slots key value ≡ record {
  title = (if bytes_eq key (codes "wms_title") then Some value else slots.title);
  abstract_text = (if bytes_eq key (codes "wms_abstract") then Some value else slots.abstract_text);
  address = (if bytes_eq key (codes "wms_onlineresource") then Some value else slots.address);
}
unfolding keep
keep-slots slots key value =
    one_slot (bytes_eq key (codes "wms_title")) (bytes_eq key (codes "wms_abstract")) (bytes_eq key (codes "wms_onlineresource"))
    (unlike key (codes "wms_title") (codes "wms_abstract") refl) (unlike key (codes "wms_title") (codes "wms_onlineresource") refl)
    (unlike key (codes "wms_abstract") (codes "wms_onlineresource") refl)
  where
    one_slot : (a b c : Bool) → (a ≡ true → b ≡ false) → (a ≡ true → c ≡ false) → (b ≡ true → c ≡ false) →
        (if a then record slots { title = Some value } else if b then record slots { abstract_text = Some value } else if c then record slots { address = Some value } else slots)
        ≡ record { title = (if a then Some value else slots.title); abstract_text = (if b then Some value else slots.abstract_text); address = (if c then Some value else slots.address) }
    one_slot true b c ab ac bc = rw (ab refl, ac refl)
    one_slot false true c ab ac bc = rw (bc refl)
    one_slot false false true ab ac bc = refl
    one_slot false false false ab ac bc = refl

keep_all-slots : (slots : Metadata) (all : List Pair) → keep_all slots all ≡ record {
  title = last_at (codes "wms_title") slots.title all;
  abstract_text = last_at (codes "wms_abstract") slots.abstract_text all;
  address = last_at (codes "wms_onlineresource") slots.address all;
}
keep_all-slots slots [] = refl
keep_all-slots slots (pair ∷ others) = keep_all-slots (keep slots pair.0 pair.1) others ∙ ap (behind others) (keep-slots slots pair.0 pair.1) where
  behind : List Pair → Metadata → Metadata
  behind others slots = record {
    title = last_at (codes "wms_title") slots.title others;
    abstract_text = last_at (codes "wms_abstract") slots.abstract_text others;
    address = last_at (codes "wms_onlineresource") slots.address others;
  }

or_none : {A : Type 0} (o : Option A) → option_or o None ≡ o
or_none None = refl
or_none (Some x) = refl

keep_all-kept : (all : List Pair) → all_differ (keys_of all) ≡ true → keep_all no_metadata all ≡ kept all
unfolding kept
keep_all-kept all differ =
    let found : (key : List ℕ) → last_at key None all ≡ value_at key all = λ key. last_at-value_at key all differ None ∙ or_none (value_at key all) in
    rw (keep_all-slots no_metadata all, found (codes "wms_title"), found (codes "wms_abstract"), found (codes "wms_onlineresource"))

pub none_seen : (keys : List (List ℕ)) → list_all (λ key. not false) keys ≡ true
none_seen [] = refl
none_seen (key ∷ keys) = none_seen keys

-- METADATA is what is kept of the pairs that are read
kept_of : (all : List Pair) (rest : List Token) (differ : Bool) → all_differ (keys_of all) ≡ differ →
    (if differ then ended (kept all) rest else None) ≡ (if differ then ended (keep_all no_metadata all) rest else None)
kept_of all rest true is = ap (λ slots. ended slots rest) (sym (keep_all-kept all is))
kept_of all rest false is = refl

kept_after-none : (x : List Pair × List Token) → (if all_differ (keys_of x.0) then ended (kept x.0) x.1 else None) ≡ kept_after (λ key. false) no_metadata x
kept_after-none x = rw (fresh-all_differ (λ key. false) (keys_of x.0), none_seen (keys_of x.0)) (kept_of x.0 x.1 (all_differ (keys_of x.0)) refl)

pub metadata_read : (tokens : List Token) → metadata tokens ≡ collect (λ key. false) no_metadata (length tokens) tokens
unfolding metadata
metadata_read tokens = bind_same (pairs (length tokens) tokens) _ _ kept_after-none ∙ sym (collect-pairs (length tokens) (λ key. false) no_metadata tokens)

-- after a pair, with another test of which keys were seen
pub collect_more : (seen others : List ℕ → Bool) (slots : Metadata) (n i : ℕ) (tokens rest : List Token) (key value : List ℕ) → i < n → is_some (end tokens) ≡ false →
    new_pair seen tokens ≡ Some ((key, value), rest) → ((other : List ℕ) → others other ≡ (if bytes_eq key other then true else seen other)) →
    collect seen slots (n - i) tokens ≡ collect others (keep slots key value) (n - (i + 1)) rest
collect_more seen others slots n i tokens rest key value below closed read same =
    collect_step seen slots n i tokens below ∙ rw (not_some (end tokens) closed, read)
    (sym (collect-same (n - (i + 1)) others _ (keep slots key value) rest (λ other. same other ∙ either (bytes_eq key other) (seen other))))
  where
    either : (a b : Bool) → (if a then true else b) ≡ (a || b)
    either true b = refl
    either false b = refl

    not_some : (o : Option (List Token)) → is_some o ≡ false → o ≡ None
    not_some None e = refl
    not_some (Some x) e = absurd (let impossible : ⊥ = cc in impossible)

-- a pair whose key was seen, and one whose key wasn't
module _ (seen : List ℕ → Bool) (tokens rest : List Token) (key name : List ℕ) (read : text tokens ≡ Some (key, rest)) (lower : name ≡ str_to_ascii_lowercase key) where
  pub pair_seen : seen name ≡ true → new_pair seen tokens ≡ None
  unfolding new_pair
  pair_seen was = rw (read, ← lower, was)

  pub pair_read : (value : List ℕ) (left : List Token) → seen name ≡ false → text rest ≡ Some (value, left) → new_pair seen tokens ≡ Some ((name, value), left)
  unfolding new_pair
  pair_read value left new found = rw (read, ← lower, new, found)
