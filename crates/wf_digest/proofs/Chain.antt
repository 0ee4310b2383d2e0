-- Digests along a history.
use Rattle.std.proofs.Common.{◌≡◌, ◌∙◌, ℕ, zero, suc, ◌+◌, ◌-◌, ◌≤◌, ◌⊎◌, inl, inr, List, [], ◌∷◌, ◌++◌, length, take, Bool, true, false, refl, sym, ap, subst, arith}
use Rattle.std.specs.Prelude.{Some, None, slice_get}
use Rattle.std.specs.List.{All}
use Rattle.std.specs.Bool.{Decides}
use Rattle.std.specs.Str.{bytes_eq}
use Rattle.std.proofs.lemmas.Slice.Eq.{bytes_eq-Decides}
use Rattle.sha2.proofs.Facts256.{length-sha256}
use Rattle.std.proofs.Common.{get_or}
use Rattle.std.proofs.Math.Seq.{take-suc}
use Rattle.std.proofs.lemmas.List.{length-take}
use Rattle.std.proofs.lemmas.Option.{get_or_from_slice_get, slice_get-get_or}
use Rattle.wf_model.specs.DurableState.{definition_at}
use Rattle.wf_canon.specs.TextMeaning.{OneTextOneMap}
use Rattle.wf_def.specs.Definition.{Definition, empty_map}
use Rattle.wf_def.specs.Limits.{IsWithinLimits}
use Rattle.wf_canon.specs.Canon.{canon}
use Rattle.wf_digest.specs.Digest.{IsCollision, digest_after, digest_at, digests_after, first_digest, next_digest}

abbrev Collides : Type 0
Collides = (first : List ℕ) × (second : List ℕ) × IsCollision first second

-- equal fronts of equal lengths: what follows is equal, too
same_fronts : (a b c d : List ℕ) → length a ≡ length b → a ++ c ≡ b ++ d → (a ≡ b) × (c ≡ d)
same_fronts [] [] c d size e = (refl, e)
same_fronts [] (y ∷ b) c d size e = absurd (omega (arith, size))
same_fronts (x ∷ a) [] c d size e = absurd (omega (arith, size))
same_fronts (x ∷ a) (y ∷ b) c d size e =
    let tails : a ++ c ≡ b ++ d = cc in
    let first : x ≡ y = cc in
    let rest = same_fronts a b c d (omega (arith, size)) tails in
    (ap (λ (h : ℕ). h ∷ a) first ∙ ap (λ (t : List ℕ). y ∷ t) rest.0, rest.1)

-- texts are equal or not
equal_or_not : (b : Bool) (P : Type 0) → Decides b P → P ⊎ (¬ P)
equal_or_not true P d = inl (d.0 refl)
equal_or_not false P d = inr (λ (p : P). let e : false ≡ true = d.1 p in cc)

decided : (a b : List ℕ) → (a ≡ b) ⊎ (¬ (a ≡ b))
decided a b = equal_or_not (bytes_eq a b) (a ≡ b) (bytes_eq-Decides a b)

-- one step of two chains
step : OneTextOneMap → (d e : List ℕ) (x y : Definition) → length d ≡ length e → IsWithinLimits x → IsWithinLimits y →
    next_digest d x ≡ next_digest e y → ((d ≡ e) × (x ≡ y)) ⊎ Collides
unfolding next_digest
step one d e x y size in_x in_y same = elim (decided (d ++ canon x) (e ++ canon y)) [
  | inl equal ↦
      let parts = same_fronts d e (canon x) (canon y) size equal in
      inl (parts.0, one x y in_x in_y parts.1)
  | inr differ ↦ inr (d ++ canon x, e ++ canon y, record { differ = differ; same = same })
]

length_of_next : (d : List ℕ) (x : Definition) → length (next_digest d x) ≡ 32
unfolding next_digest
length_of_next d x = length-sha256 (d ++ canon x)

first_of : (x : Definition) (xs : List Definition) → All IsWithinLimits (x ∷ xs) → IsWithinLimits x
first_of x xs all = all zero x (omega arith)

rest_of : (x : Definition) (xs : List Definition) → All IsWithinLimits (x ∷ xs) → All IsWithinLimits xs
rest_of x xs all = λ k d within. all (suc k) d (omega (arith, within))

chain : OneTextOneMap → (n : ℕ) (a b : List Definition) (d e : List ℕ) → length d ≡ length e → All IsWithinLimits a → All IsWithinLimits b → n ≤ length a → n ≤ length b →
    digest_after d (take n a) ≡ digest_after e (take n b) → ((d ≡ e) × (take n a ≡ take n b)) ⊎ Collides
unfolding digest_after
chain one zero a b d e size in_a in_b of_a of_b same = inl (same, refl)
chain one (suc n) [] b d e size in_a in_b of_a of_b same = absurd (omega (arith, of_a))
chain one (suc n) (x ∷ a) [] d e size in_a in_b of_a of_b same = absurd (omega (arith, of_b))
chain one (suc n) (x ∷ a) (y ∷ b) d e size in_a in_b of_a of_b same =
    elim (chain one n a b (next_digest d x) (next_digest e y) (length_of_next d x ∙ sym (length_of_next e y)) (rest_of x a in_a) (rest_of y b in_b) (omega (arith, of_a)) (omega (arith, of_b)) same) [
      | inl later ↦ elim (step one d e x y size (first_of x a in_a) (first_of y b in_b) later.0) [
        | inl now ↦ inl (now.0, ap (λ (h : Definition). h ∷ take n a) now.1 ∙ ap (λ (t : List Definition). y ∷ t) later.1)
        | inr collide ↦ inr collide
      ]
      | inr collide ↦ inr collide
    ]

histories : {P Q : Type 0} → (P × Q) ⊎ Collides → Q ⊎ Collides
histories (inl both) = inl both.1
histories (inr collide) = inr collide

pub chains : OneTextOneMap → (a b : List Definition) (seq : ℕ) → All IsWithinLimits a → All IsWithinLimits b → seq ≤ length a → seq ≤ length b →
    digest_at a seq ≡ digest_at b seq → (take seq a ≡ take seq b) ⊎ Collides
chains one a b seq in_a in_b of_a of_b same = histories (chain one seq a b first_digest first_digest refl in_a in_b of_a of_b same)

-- ---- the digests of a history, one after the other

-- the digest at each sequence stands there
pub digest_there : (d : List ℕ) (a : List Definition) (n : ℕ) → n ≤ length a → slice_get (digests_after d a) n ≡ Some (digest_after d (take n a))
unfolding digest_after digests_after
digest_there d [] zero within = refl
digest_there d [] (suc n) within = absurd (omega (arith, within))
digest_there d (x ∷ a) zero within = refl
digest_there d (x ∷ a) (suc n) within = digest_there (next_digest d x) a n (omega (arith, within))

pub count_digests : (d : List ℕ) (a : List Definition) → length (digests_after d a) ≡ length a + 1
unfolding digests_after
count_digests d [] = refl
count_digests d (x ∷ a) = omega (arith, count_digests (next_digest d x) a)

-- one definition more: one digest more
pub one_more : (d : List ℕ) (a : List Definition) (x : Definition) → digests_after d (a ++ x ∷ []) ≡ digests_after d a ++ next_digest (digest_after d a) x ∷ []
unfolding digest_after digests_after
one_more d [] x = refl
one_more d (y ∷ a) x = ap (λ (t : List (List ℕ)). d ∷ t) (one_more (next_digest d y) a x)

take_all : (a : List Definition) → take (length a) a ≡ a
take_all [] = refl
take_all (x ∷ a) = ap (λ (t : List Definition). x ∷ t) (take_all a)

take_again : (k : ℕ) (a : List Definition) → take k a ≡ take (length (take k a)) a
take_again zero a = refl
take_again (suc k) [] = refl
take_again (suc k) (x ∷ a) = ap (λ (t : List Definition). x ∷ t) (take_again k a)

-- a published sequence has a definition
pub is_there : (history : List Definition) (n : ℕ) → 1 ≤ n → n ≤ length history → definition_at history n ≡ None → ⊥
unfolding definition_at
is_there history zero some within none = omega (arith, some)
is_there history (suc k) some within none =
    let first : Definition = get_or history k empty_map in
    let there : slice_get history k ≡ Some first = slice_get-get_or history k empty_map (omega (arith, within)) in
    cc

-- what is appended is the next digest
pub grown : (history : List Definition) (n : ℕ) (old new : List (List ℕ)) (definition : Definition) → 1 ≤ n → n ≤ length history → Some definition ≡ definition_at history n →
    ((last : List ℕ) → slice_get old (n - 1) ≡ Some last → new ≡ old ++ next_digest last definition ∷ []) →
    old ≡ digests_after first_digest (take (n - 1) history) → new ≡ digests_after first_digest (take n history)
unfolding definition_at
grown history zero old new definition some within at is_new is_old = absurd (omega (arith, some))
grown history (suc k) old new definition some within at is_new is_old =
    let front : List Definition = take k history in
    let last : List ℕ = digest_after first_digest front in
    let index : suc k - 1 ≡ k = omega arith in
    let was : old ≡ digests_after first_digest front = is_old ∙ ap (λ (i : ℕ). digests_after first_digest (take i history)) index in
    let counted : length front ≡ k = omega (arith, length-take k history, within) in
    let whole : take k front ≡ front = subst (λ (i : ℕ). take i front ≡ front) counted (take_all front) in
    let there : slice_get old k ≡ Some last =
    ap (λ (l : List (List ℕ)). slice_get l k) was ∙ digest_there first_digest front k (omega (arith, counted)) ∙ ap (λ (l : List Definition). Some (digest_after first_digest l)) whole in
    let next : get_or history k definition ≡ definition = get_or_from_slice_get history k definition definition (sym at) in
    let more : take (suc k) history ≡ front ++ definition ∷ [] = take-suc history k definition (omega (arith, within)) ∙ ap (λ (x : Definition). front ++ x ∷ []) next in
    is_new last (ap (slice_get old) index ∙ there)
    ∙ ap (λ (l : List (List ℕ)). l ++ next_digest last definition ∷ []) was
    ∙ sym (one_more first_digest front definition)
    ∙ ap (digests_after first_digest) (sym more)

-- digests of a front of a history are those of as many definitions as there are digests but one
pub of_front : (history : List Definition) (k n : ℕ) (digests : List (List ℕ)) → length digests ≡ n → digests ≡ digests_after first_digest (take k history) →
    digests ≡ digests_after first_digest (take (n - 1) history)
of_front history k n digests counted are =
    let count : length (take k history) ≡ n - 1 = omega (arith, counted, ap length are, count_digests first_digest (take k history)) in
    let same : take k history ≡ take (n - 1) history = take_again k history ∙ ap (λ (i : ℕ). take i history) count in
    are ∙ ap (digests_after first_digest) same
