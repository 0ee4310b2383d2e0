-- What is found among entries, and after one is replaced, inserted or removed.
use Rattle.std.proofs.Common.{◌≡◌, ℕ, zero, suc, ◌<◌, ◌≢◌, Bool, true, false, cond, List, [], ◌∷◌, length, get_or, set, Option, Some, None, Result, Ok, Err, IsOk, is_ok, if◌then◌else◌, eqb-true, eq-eqb, true≢false, refl, sym, ◌∙◌, ap, inl, inr, arith}
use Rattle.std.proofs.lemmas.Bool.{cases_Bool}
use Rattle.std.specs.List.{insert, remove}
use Rattle.std.specs.Ordering.{nat_cmp, eq_by_cmp}
use Rattle.std.specs.Cmp.{nat_cmp_total, unsigned_tied}
use Rattle.std.specs.FinMap as map
use Rattle.std.specs.FinMap.{find, from_entries}
use Rattle.wf_acceptor.specs.OpenVotes.{slot_at}

-- whether two slots are the same, as maps by slot compare them
abbrev same : ℕ → ℕ → Bool
same = eq_by_cmp nat_cmp

same_is : (s t : ℕ) → same s t ≡ true → s ≡ t
same_is s t e = eqb-true s t (sym (unsigned_tied s t) ∙ e)

apart : (s t : ℕ) → s ≢ t → same s t ≡ false
apart s t other = elim (cases_Bool (same s t)) [ inl e ↦ absurd (other (same_is s t e)) | inr e ↦ e ]

itself : (s : ℕ) → same s s ≡ true
itself s = unsigned_tied s s ∙ eq-eqb s s refl

-- the two tests in the other order
swapped : {B : Type 0} (a b : Bool) (x y z : B) → (a ≡ true → b ≡ true → ⊥) → cond a x (cond b y z) ≡ cond b y (cond a x z)
swapped true true x y z both = absurd (both refl refl)
swapped true false x y z both = refl
swapped false b x y z both = refl

-- a test that is made again
shadowed : {B : Type 0} (b : Bool) (x y z : B) → cond b x z ≡ cond b x (cond b y z)
shadowed true x y z = refl
shadowed false x y z = refl

module _ {A : Type 0} where
  -- no entry before this index is the slot's
  abbrev pub NoneBefore : List (ℕ × A) → ℕ → ℕ → Type 0
  NoneBefore entries s i = (j : ℕ) (d : ℕ × A) → j < i → slot_at entries d j ≢ s

  rest_of : (e : ℕ × A) (rest : List (ℕ × A)) (s i : ℕ) → NoneBefore (e ∷ rest) s (suc i) → NoneBefore rest s i
  rest_of e rest s i none j d lower = none (suc j) d (omega arith)

  first_apart : (e : ℕ × A) (rest : List (ℕ × A)) (s i : ℕ) → NoneBefore (e ∷ rest) s (suc i) → e.0 ≢ s
  first_apart e rest s i none = none 0 e (omega arith)

  -- what is looked for after the first entry, which is of another slot than s
  pushed_back : (e : ℕ × A) (s q : ℕ) (x z : Option A) → e.0 ≢ s → cond (same q e.0) (Some e.1) (cond (same q s) x z) ≡ cond (same q s) x (cond (same q e.0) (Some e.1) z)
  pushed_back e s q x z other = swapped (same q e.0) (same q s) (Some e.1) x z (λ a b. other (sym (same_is q e.0 a) ∙ same_is q s b))

  pub find_absent : (entries : List (ℕ × A)) (s : ℕ) → NoneBefore entries s (length entries) → find nat_cmp s entries ≡ None
  find_absent [] s none = refl
  find_absent (e ∷ rest) s none =
      ap (λ b. cond b (Some e.1) (find nat_cmp s rest)) (apart s e.0 (λ is. first_apart e rest s (length rest) none (sym is)))
      ∙ find_absent rest s (rest_of e rest s (length rest) none)

  pub find_at : (entries : List (ℕ × A)) (s i : ℕ) (d : ℕ × A) → i < length entries → slot_at entries d i ≡ s → NoneBefore entries s i →
      find nat_cmp s entries ≡ Some (get_or entries i d).1
  find_at [] s i d within is none = absurd (omega (arith, within))
  find_at (e ∷ rest) s zero d within is none = ap (λ b. cond b (Some e.1) (find nat_cmp s rest)) (ap (same s) is ∙ itself s)
  find_at (e ∷ rest) s (suc i) d within is none =
      ap (λ b. cond b (Some e.1) (find nat_cmp s rest)) (apart s e.0 (λ same_slot. first_apart e rest s i none (sym same_slot)))
      ∙ find_at rest s i d (omega (arith, within)) is (rest_of e rest s i none)

  -- the entry of the slot is replaced
  pub find-set : (entries : List (ℕ × A)) (s i : ℕ) (v : A) → i < length entries → ((d : ℕ × A) → slot_at entries d i ≡ s) → NoneBefore entries s i →
      (q : ℕ) → find nat_cmp q (set entries i (s, v)) ≡ cond (same q s) (Some v) (find nat_cmp q entries)
  find-set [] s i v within is none q = absurd (omega (arith, within))
  find-set (e ∷ rest) s zero v within is none q =
      shadowed (same q s) (Some v) (Some e.1) (find nat_cmp q rest)
      ∙ ap (λ t. cond (same q s) (Some v) (cond (same q t) (Some e.1) (find nat_cmp q rest))) (sym (is e))
  find-set (e ∷ rest) s (suc i) v within is none q =
      ap (cond (same q e.0) (Some e.1)) (find-set rest s i v (omega (arith, within)) is (rest_of e rest s i none) q)
      ∙ pushed_back e s q (Some v) (find nat_cmp q rest) (first_apart e rest s i none)

  -- an entry is inserted before any of its slot
  pub find-insert : (entries : List (ℕ × A)) (s i : ℕ) (v : A) → NoneBefore entries s i →
      (q : ℕ) → find nat_cmp q (insert entries i (s, v)) ≡ cond (same q s) (Some v) (find nat_cmp q entries)
  find-insert entries s zero v none q = refl
  find-insert [] s (suc i) v none q = refl
  find-insert (e ∷ rest) s (suc i) v none q =
      ap (cond (same q e.0) (Some e.1)) (find-insert rest s i v (rest_of e rest s i none) q)
      ∙ pushed_back e s q (Some v) (find nat_cmp q rest) (first_apart e rest s i none)

  -- the only entry of the slot is removed
  pub find-remove : (entries : List (ℕ × A)) (s i : ℕ) → i < length entries → ((d : ℕ × A) → slot_at entries d i ≡ s) → NoneBefore entries s i →
      ((j : ℕ) (d : ℕ × A) → i < j → j < length entries → slot_at entries d j ≢ s) →
      (q : ℕ) → find nat_cmp q (remove entries i) ≡ cond (same q s) None (find nat_cmp q entries)
  find-remove [] s i within is none after q = absurd (omega (arith, within))
  find-remove (e ∷ rest) s zero within is none after q = by_slot (same q s) refl where
    gone : find nat_cmp s rest ≡ None
    gone = find_absent rest s (λ j d lower. after (suc j) d (omega arith) (omega (arith, lower)))

    by_slot : (b : Bool) → same q s ≡ b → find nat_cmp q rest ≡ cond (same q s) None (cond (same q e.0) (Some e.1) (find nat_cmp q rest))
    by_slot true e_is = ap (λ t. find nat_cmp t rest) (same_is q s e_is) ∙ (gone ∙ ap (λ b. cond b None (cond (same q e.0) (Some e.1) (find nat_cmp q rest))) (sym e_is))
    by_slot false e_is =
        ap (λ b. cond b (Some e.1) (find nat_cmp q rest)) (sym (ap (same q) (is e) ∙ e_is))
        ∙ ap (λ b. cond b None (cond (same q e.0) (Some e.1) (find nat_cmp q rest))) (sym e_is)
  find-remove (e ∷ rest) s (suc i) within is none after q =
      ap (cond (same q e.0) (Some e.1)) (find-remove rest s i (omega (arith, within)) is (rest_of e rest s i none) (λ j d higher lower. after (suc j) d (omega (arith, higher)) (omega (arith, lower))) q)
      ∙ pushed_back e s q None (find nat_cmp q rest) (first_apart e rest s i none)

  -- a slot without an entry
  pub find-without : (entries : List (ℕ × A)) (s : ℕ) → find nat_cmp s entries ≡ None → (q : ℕ) → find nat_cmp q entries ≡ cond (same q s) None (find nat_cmp q entries)
  find-without entries s none q = by_slot (same q s) refl where
    by_slot : (b : Bool) → same q s ≡ b → find nat_cmp q entries ≡ cond (same q s) None (find nat_cmp q entries)
    by_slot true e = ap (λ t. find nat_cmp t entries) (same_is q s e) ∙ (none ∙ ap (λ b. cond b None (find nat_cmp q entries)) (sym e))
    by_slot false e = ap (λ b. cond b None (find nat_cmp q entries)) (sym e)

  -- ---- as maps

  pub same_map : {old new : List (ℕ × A)} → new ≡ old → from_entries {R = nat_cmp} new ≡ from_entries old
  same_map is = ap (λ (entries : List (ℕ × A)). from_entries {R = nat_cmp} entries) is

  -- an insertion that succeeds
  pub inserted : {T E : Type 0} (r : Result T E) (longer old new : List (ℕ × A)) → IsOk r → new ≡ (if is_ok r then longer else old) → new ≡ longer
  inserted (Ok x) longer old new done is = is
  inserted (Err e) longer old new done is = absurd (true≢false (sym done))

  pub map_with : (old new : List (ℕ × A)) (s : ℕ) (v : A) → ((q : ℕ) → find nat_cmp q new ≡ cond (same q s) (Some v) (find nat_cmp q old)) →
      from_entries {R = nat_cmp} new ≡ map.insert (from_entries old) s v
  map_with old new s v finds = map.same_map nat_cmp_total map.nat_cmp-IsAntisymmetric _ _ (λ q.
      map.get-from_entries nat_cmp_total new q
      ∙ (finds q ∙ sym (map.get-insert nat_cmp_total (from_entries old) s v q ∙ ap (cond (same q s) (Some v)) (map.get-from_entries nat_cmp_total old q))))

  pub map_without : (old new : List (ℕ × A)) (s : ℕ) → ((q : ℕ) → find nat_cmp q new ≡ cond (same q s) None (find nat_cmp q old)) →
      from_entries {R = nat_cmp} new ≡ map.remove (from_entries old) s
  map_without old new s finds = map.same_map nat_cmp_total map.nat_cmp-IsAntisymmetric _ _ (λ q.
      map.get-from_entries nat_cmp_total new q
      ∙ (finds q ∙ sym (map.get-remove nat_cmp_total (from_entries old) s q ∙ ap (cond (same q s) None) (map.get-from_entries nat_cmp_total old q))))
