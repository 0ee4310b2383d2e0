-- Lines of any values, as they are written and read.
use Rattle.std.proofs.Common.{◌≡◌, ◌≢◌, ◌∙◌, ℕ, suc, ◌<◌, List, [], ◌∷◌, ◌++◌, length, append_assoc, append-nil, Result, Ok, Err, refl, sym, ap, subst, arith}
use Rattle.wf_rejoin.specs.Lines.{AreAll, ReadsLines, lines_of}

-- ---- what is written, line by line

pub one_line_more : {A : Type 0} (line : A → List ℕ → List ℕ) → ((x : A) (rest : List ℕ) → line x [] ++ rest ≡ line x rest) →
    (old mid new : List ℕ) (xs rest : List A) (x : A) → xs ≡ x ∷ rest → mid ≡ old ++ line x [] → new ≡ mid ++ lines_of line rest → new ≡ old ++ lines_of line xs
unfolding lines_of
one_line_more {A} line before old mid new xs rest x is of_mid of_new =
    of_new ∙ ap (λ (l : List ℕ). l ++ lines_of line rest) of_mid ∙ append_assoc old (line x []) (lines_of line rest) ∙ ap (λ (l : List ℕ). old ++ l) (before x (lines_of line rest))
    ∙ ap (λ (l : List A). old ++ lines_of line l) (sym is)

pub one_more : {A : Type 0} (Is : A → Type 0) (xs rest : List A) (x : A) → xs ≡ x ∷ rest → Is x → AreAll Is rest → AreAll Is xs
unfolding AreAll
one_more Is xs rest x is first others = subst (AreAll Is) (sym is) (first, others)

pub no_line_more : {A : Type 0} (line : A → List ℕ → List ℕ) (old : List ℕ) (xs : List A) → length xs ≡ 0 → old ≡ old ++ lines_of line xs
unfolding lines_of
no_line_more line old [] none = sym (append-nil old)
no_line_more line old (x ∷ rest) none = absurd (omega (arith, none))

pub none_are : {A : Type 0} (Is : A → Type 0) (xs : List A) → length xs ≡ 0 → AreAll Is xs
unfolding AreAll
none_are Is [] none = tt
none_are Is (x ∷ rest) none = absurd (omega (arith, none))

-- ---- what is read

no_bytes : {A : Type 0} (line : A → List ℕ → List ℕ) (xs : List A) → length xs ≡ 0 → lines_of line xs ≡ []
unfolding lines_of
no_bytes line [] count = refl
no_bytes line (x ∷ xs) count = absurd (omega (arith, count))

none_left : (bytes : List ℕ) → length bytes ≡ 0 → bytes ≡ []
none_left [] count = refl
none_left (x ∷ bytes) count = absurd (omega (arith, count))

pub no_line : {A : Type 0} (E : Type 0) (Is : A → Type 0) (line : A → List ℕ → List ℕ) (bytes : List ℕ) (xs : List A) → length xs ≡ 0 → length bytes ≡ 0 →
    ReadsLines {E = E} Is line bytes (length xs) xs (Ok tt)
no_line E Is line bytes xs none end = (refl, none_are Is xs none, none_left bytes end ∙ sym (no_bytes line xs none))

pub some_bytes : {A : Type 0} (Is : A → Type 0) (line : A → List ℕ → List ℕ) (bytes : List ℕ) (xs : List A) → length xs ≡ 0 → length bytes ≢ 0 →
    (others : List A) → length others ≡ length xs → AreAll Is others → bytes ≢ lines_of line others
some_bytes Is line bytes xs none some = λ others count are e. some (ap length (e ∙ no_bytes line others (count ∙ none)))

-- bytes that no line begins
pub not_one_line : {A : Type 0} (Is : A → Type 0) (line : A → List ℕ → List ℕ) (bytes : List ℕ) (count : ℕ) → 0 < count → ((x : A) (rest : List ℕ) → Is x → bytes ≢ line x rest) →
    (others : List A) → length others ≡ count → AreAll Is others → bytes ≢ lines_of line others
unfolding lines_of AreAll
not_one_line Is line bytes count some none [] size are = absurd (omega (arith, size, some))
not_one_line Is line bytes count some none (x ∷ more) size are = none x (lines_of line more) are.0

-- a line, and what is read of the others; a line and what follows are determined by the bytes
no_others : {A : Type 0} (Is : A → Type 0) (line : A → List ℕ → List ℕ) → ((x y : A) (r s : List ℕ) → Is x → Is y → line x r ≡ line y s → (x ≡ y) × (r ≡ s)) →
    (bytes rest : List ℕ) (first : A) (count : ℕ) → Is first → bytes ≡ line first rest →
    ((more : List A) → length more ≡ count → AreAll Is more → rest ≢ lines_of line more) →
    (others : List A) → length others ≡ suc count → AreAll Is others → bytes ≢ lines_of line others
unfolding lines_of AreAll
no_others Is line both bytes rest first count is e none [] size are same = absurd (omega (arith, size))
no_others Is line both bytes rest first count is e none (x ∷ more) size are same =
    none more (omega (arith, size)) are.1 (both first x rest (lines_of line more) is are.0 (sym e ∙ same)).1

pub one_line : {A E : Type 0} (Is : A → Type 0) (line : A → List ℕ → List ℕ) → ((x y : A) (r s : List ℕ) → Is x → Is y → line x r ≡ line y s → (x ≡ y) × (r ≡ s)) →
    (bytes rest : List ℕ) (x : A) (count : ℕ) (new : List A) (result : Result Unit E) → Is x →
    bytes ≡ line x rest → ReadsLines Is line rest count new result → ReadsLines Is line bytes (suc count) (x ∷ new) result
unfolding lines_of AreAll
one_line Is line both bytes rest x count new (Ok done) is e (size, are, same) = (ap suc size, (is, are), e ∙ ap (line x) same)
one_line Is line both bytes rest x count new (Err fault) is e none = no_others Is line both bytes rest x count is e none

pub same_lines : {A : Type 0} (Is : A → Type 0) (line : A → List ℕ → List ℕ) → ((x y : A) (r s : List ℕ) → Is x → Is y → line x r ≡ line y s → (x ≡ y) × (r ≡ s)) →
    (a b : List A) → length a ≡ length b → AreAll Is a → AreAll Is b → lines_of line a ≡ lines_of line b → a ≡ b
unfolding lines_of AreAll
same_lines Is line both [] [] size of_a of_b e = refl
same_lines Is line both [] (y ∷ b) size of_a of_b e = absurd (omega (arith, size))
same_lines Is line both (x ∷ a) [] size of_a of_b e = absurd (omega (arith, size))
same_lines {A} Is line both (x ∷ a) (y ∷ b) size (of_x, of_a) (of_y, of_b) e =
    let parts = both x y (lines_of line a) (lines_of line b) of_x of_y e in
    ap (λ (z : A). z ∷ a) parts.0 ∙ ap (λ (l : List A). y ∷ l) (same_lines Is line both a b (omega (arith, size)) of_a of_b parts.1)
