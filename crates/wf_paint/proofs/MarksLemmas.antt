-- Numbers that are in a list an odd number of times, marked and then taken in order.
use Rattle.std.proofs.Common.{◌≡◌, ◌≢◌, ℕ, ◌+◌, ◌-◌, ◌%◌, ◌<◌, ◌≤◌, ◌==◌, ◌&&◌, inl, inr, Bool, true, false, cond, nat_lt, List, [], ◌∷◌, ◌++◌, take, length, get_or, slice_index, set, replicate, refl, sym, ap, ◌∙◌, arith}
use Rattle.std.specs.List.{All, count_by}
use Rattle.std.specs.List.Sorted.{IsNonDecreasing}
use Rattle.std.proofs.lemmas.Bool.{cases_lt, cases_eq, lt-ltb, le-ltb, eq-eqb, ne_eqb}
use Rattle.std.proofs.lemmas.List.{get_or-set_same, get_or-set_other, length-set, get_or-replicate, length-replicate}
use Rattle.std.proofs.lemmas.List.Sums.{sum_by-cons, sum_by_push, sum_by_more}
use Rattle.std.proofs.lemmas.List.Sorted.{IsNonDecreasingBy-push, IsNonDecreasingBy-short}
use Rattle.std.proofs.lemmas.List.Elements.{All-nil, All-push, All-head, All-tail, All-weaker}
use Rattle.wf_paint.specs.Marks.{IsClear, IsMarked}

-- ---- marking

pub clear_made : (n : ℕ) (marks : List ℕ) → marks ≡ replicate n 0 → IsClear marks
clear_made n marks are =
    let count : length marks ≡ n = ap (λ (l : List ℕ). length l) are ∙ length-replicate n 0 in
    record { none = λ k within. ap (λ (l : List ℕ). slice_index l k) are ∙ get_or-replicate n k 0 0 (omega arith) }

-- the marks of the first numbers of a list
abbrev pub AreMarked : List ℕ → ℕ → ℕ → List ℕ → Type 0
AreMarked numbers i size marks = (length marks ≡ size) × IsMarked (take i numbers) marks

pub marked_start : (numbers marks : List ℕ) → IsClear marks → AreMarked numbers 0 (length marks) marks
marked_start numbers marks clear = (refl, record { odd = λ k within. clear.none k within })

flipped : (mark count : ℕ) → mark ≡ count % 2 → 1 - mark ≡ (count + 1) % 2
flipped mark count is = omega arith

-- one number more turns its mark
pub marked_more : (numbers marks : List ℕ) (i d number size : ℕ) → i < length numbers → number ≡ get_or numbers i d → number < size → AreMarked numbers i size marks →
    AreMarked numbers (i + 1) size (set marks number (1 - slice_index marks number))
marked_more numbers marks i d number size here is within before =
    let sized : length (set marks number (1 - slice_index marks number)) ≡ size = length-set marks number (1 - slice_index marks number) ∙ before.0 in (
      sized,
      record {
        odd = λ k inside.
            let below : k < length marks = omega (arith, sized, before.0) in
            let counted : count_by (λ n. n == k) (take (i + 1) numbers) ≡ count_by (λ n. n == k) (take i numbers) + cond (get_or numbers i d == k) 1 0 =
            sum_by_more (λ n. cond (n == k) 1 0) numbers i d here in
            elim (cases_eq number k) [
              | inl same ↦
                  let hit : (get_or numbers i d == k) ≡ true = eq-eqb (get_or numbers i d) k (sym is ∙ same) in
                  rw (sym same) (get_or-set_same marks number (1 - slice_index marks number) 0 (omega (arith, before.0)))
                  ∙ flipped (slice_index marks k) (count_by (λ n. n == k) (take i numbers)) (before.1.odd k below)
                  ∙ sym (ap (λ (n : ℕ). n % 2) (counted ∙ ap (λ (b : Bool). count_by (λ n. n == k) (take i numbers) + cond b 1 0) hit))
              | inr apart ↦
                  let miss : (get_or numbers i d == k) ≡ false = ne_eqb (get_or numbers i d) k (λ e. apart (is ∙ e)) in
                  get_or-set_other marks number k (1 - slice_index marks number) 0 (λ e. apart (sym e))
                  ∙ before.1.odd k below
                  ∙ sym (ap (λ (n : ℕ). n % 2) (counted ∙ ap (λ (b : Bool). count_by (λ n. n == k) (take i numbers) + cond b 1 0) miss ∙ omega arith))
            ];
      },
    )

-- ---- counting

-- between two bounds
abbrev pub lies : ℕ → ℕ → ℕ → Bool
lies u n r = nat_lt u r && nat_lt r n

and_false : (b : Bool) → (b && false) ≡ false
and_false true = refl
and_false false = refl

and_true : (b : Bool) → (b && true) ≡ b
and_true true = refl
and_true false = refl

one_lies : (u n r : ℕ) → cond (lies u (n + 1) r) 1 0 ≡ cond (lies u n r) 1 0 + cond (nat_lt u n) (cond (r == n) 1 0) 0
one_lies u n r = elim (cases_lt r n) [
  | inl before ↦ rw (lt-ltb r (n + 1) (omega arith), lt-ltb r n before, ne_eqb r n (λ e. absurd (omega arith)), and_true (nat_lt u r)) (none (nat_lt u r) (nat_lt u n))
  | inr from ↦ elim (cases_eq r n) [
    | inl same ↦ rw (same, lt-ltb n (n + 1) (omega arith), le-ltb n n (omega arith), eq-eqb n n refl, and_true (nat_lt u n), and_false (nat_lt u n)) (some (nat_lt u n))
    | inr apart ↦ rw (le-ltb r (n + 1) (omega arith), le-ltb r n from, ne_eqb r n apart, and_false (nat_lt u r)) (neither (nat_lt u n))
  ]
] where
  none : (a b : Bool) → cond a 1 0 ≡ cond a 1 0 + cond b 0 0
  none true true = refl
  none true false = refl
  none false true = refl
  none false false = refl

  some : (b : Bool) → cond b 1 0 ≡ 0 + cond b 1 0
  some true = refl
  some false = refl

  neither : (b : Bool) → 0 ≡ 0 + cond b 0 0
  neither true = refl
  neither false = refl

cond_sum : (b : Bool) (x y : ℕ) → cond b (x + y) 0 ≡ cond b x 0 + cond b y 0
cond_sum true x y = refl
cond_sum false x y = refl

swapped_sums : (a b c d : ℕ) → (a + b) + (c + d) ≡ (a + c) + (b + d)
swapped_sums a b c d = omega arith

-- those below the next bound are those below this one, and those at it
more_lie : (u n : ℕ) (xs : List ℕ) → count_by (lies u (n + 1)) xs ≡ count_by (lies u n) xs + cond (nat_lt u n) (count_by (λ r. r == n) xs) 0
more_lie u n [] = none (nat_lt u n) where
  none : (b : Bool) → 0 ≡ 0 + cond b 0 0
  none true = refl
  none false = refl
more_lie u n (x ∷ xs) =
    sum_by-cons (λ r. cond (lies u (n + 1) r) 1 0) x xs
    ∙ ap (λ (m : ℕ). m + count_by (lies u (n + 1)) xs) (one_lies u n x)
    ∙ ap (λ (m : ℕ). cond (lies u n x) 1 0 + cond (nat_lt u n) (cond (x == n) 1 0) 0 + m) (more_lie u n xs)
    ∙ swapped_sums (cond (lies u n x) 1 0) (cond (nat_lt u n) (cond (x == n) 1 0) 0) (count_by (lies u n) xs) (cond (nat_lt u n) (count_by (λ r. r == n) xs) 0)
    ∙ ap (λ (m : ℕ). cond (lies u n x) 1 0 + count_by (lies u n) xs + m) (sym (cond_sum (nat_lt u n) (cond (x == n) 1 0) (count_by (λ r. r == n) xs)))
    ∙ sym (ap (λ (m : ℕ). m + cond (nat_lt u n) (count_by (λ r. r == n) (x ∷ xs)) 0) (sum_by-cons (λ r. cond (lies u n r) 1 0) x xs)
    ∙ ap (λ (m : ℕ). cond (lies u n x) 1 0 + count_by (lies u n) xs + cond (nat_lt u n) m 0) (sum_by-cons (λ r. cond (r == n) 1 0) x xs))

none_lie : (u : ℕ) (xs : List ℕ) → count_by (lies u 0) xs ≡ 0
none_lie u [] = refl
none_lie u (x ∷ xs) =
    sum_by-cons (λ r. cond (lies u 0 r) 1 0) x xs
    ∙ ap (λ (b : Bool). cond b 1 0 + count_by (lies u 0) xs) (ap (λ (b : Bool). nat_lt u x && b) (le-ltb x 0 (omega arith)) ∙ and_false (nat_lt u x))
    ∙ ap (λ (n : ℕ). 0 + n) (none_lie u xs)

-- where the bound is above all numbers it excludes none
all_lie : (u n : ℕ) (xs : List ℕ) → All (λ r. r < n) xs → count_by (lies u n) xs ≡ count_by (nat_lt u) xs
all_lie u n [] below = refl
all_lie u n (x ∷ xs) below =
    sum_by-cons (λ r. cond (lies u n r) 1 0) x xs
    ∙ ap (λ (b : Bool). cond b 1 0 + count_by (lies u n) xs) (ap (λ (b : Bool). nat_lt u x && b) (lt-ltb x n (All-head (λ r. r < n) x xs below)) ∙ and_true (nat_lt u x))
    ∙ ap (λ (m : ℕ). cond (nat_lt u x) 1 0 + m) (all_lie u n xs (All-tail (λ r. r < n) x xs below))
    ∙ sym (sum_by-cons (λ r. cond (nat_lt u r) 1 0) x xs)

-- ---- taking the marked numbers in order

-- the marked ones of the first n numbers are taken, and their marks cleared
pub record AreTaken (numbers : List ℕ) (size n : ℕ) (taken marks : List ℕ) : Type 0 where
  pub sized : length marks ≡ size
  pub cleared : (k : ℕ) → k < n → slice_index marks k ≡ 0
  pub odd : (k : ℕ) → n ≤ k → k < size → slice_index marks k ≡ count_by (λ r. r == k) numbers % 2
  pub sorted : IsNonDecreasing taken
  pub below : All (λ r. r < n) taken
  pub parity : (u : ℕ) → count_by (nat_lt u) taken % 2 ≡ count_by (lies u n) numbers % 2

pub taken_start : (numbers marks : List ℕ) → IsMarked numbers marks → AreTaken numbers (length marks) 0 [] marks
taken_start numbers marks marked = record {
  sized = refl;
  cleared = λ k before. absurd (omega arith);
  odd = λ k from within. marked.odd k within;
  sorted = IsNonDecreasingBy-short (λ (r : ℕ). r) [] (omega arith);
  below = All-nil (λ r. r < 0);
  parity = λ u. sym (ap (λ (m : ℕ). m % 2) (none_lie u numbers));
}

sums_alike : (a b c d : ℕ) → a % 2 ≡ b % 2 → c % 2 ≡ d % 2 → (a + c) % 2 ≡ (b + d) % 2
sums_alike a b c d first second = omega arith

cond_alike : (b : Bool) (x y : ℕ) → x % 2 ≡ y % 2 → cond b x 0 % 2 ≡ cond b y 0 % 2
cond_alike true x y same = same
cond_alike false x y same = refl

module _ (numbers : List ℕ) (size n : ℕ) (taken marks : List ℕ) (before : AreTaken numbers size n taken marks) (within : n < size) where
  pub taken_more : slice_index marks n ≡ 1 → AreTaken numbers size (n + 1) (taken ++ n ∷ []) (set marks n 0)
  taken_more marked = record {
    sized = length-set marks n 0 ∙ before.sized;
    cleared = λ k earlier. elim (cases_eq k n) [
      | inl same ↦ rw same (get_or-set_same marks n 0 0 (omega (arith, before.sized)))
      | inr apart ↦ get_or-set_other marks n k 0 0 apart ∙ before.cleared k (omega arith)
    ];
    odd = λ k from inside. get_or-set_other marks n k 0 0 (λ e. absurd (omega arith)) ∙ before.odd k (omega arith) inside;
    sorted = IsNonDecreasingBy-push (λ (r : ℕ). r) taken n before.sorted (λ d some. let last = before.below (length taken - 1) d (omega arith) in omega arith);
    below = All-push (λ r. r < n + 1) taken n (All-weaker (λ r. r < n) (λ r. r < n + 1) (λ r less. omega arith) taken before.below) (omega arith);
    parity = λ u.
        let counted : 1 % 2 ≡ count_by (λ r. r == n) numbers % 2 = sym marked ∙ before.odd n (omega arith) within in
        ap (λ (m : ℕ). m % 2) (sum_by_push (λ r. cond (nat_lt u r) 1 0) taken n)
        ∙ sums_alike (count_by (nat_lt u) taken) (count_by (lies u n) numbers) (cond (nat_lt u n) 1 0) (cond (nat_lt u n) (count_by (λ r. r == n) numbers) 0)
        (before.parity u) (cond_alike (nat_lt u n) 1 (count_by (λ r. r == n) numbers) counted)
        ∙ sym (ap (λ (m : ℕ). m % 2) (more_lie u n numbers));
  }

  pub taken_skip : slice_index marks n ≢ 1 → AreTaken numbers size (n + 1) taken marks
  taken_skip make_unmarked =
      let counted : slice_index marks n ≡ count_by (λ r. r == n) numbers % 2 = before.odd n (omega arith) within in
      let none : slice_index marks n ≡ 0 = omega (arith, counted, make_unmarked) in
      record {
        sized = before.sized;
        cleared = λ k earlier. elim (cases_eq k n) [ inl same ↦ rw same none | inr apart ↦ before.cleared k (omega arith) ];
        odd = λ k from inside. before.odd k (omega arith) inside;
        sorted = before.sorted;
        below = All-weaker (λ r. r < n) (λ r. r < n + 1) (λ r less. omega arith) taken before.below;
        parity = λ u.
            ap (λ (m : ℕ). m % 2) (plus_none (count_by (nat_lt u) taken) (nat_lt u n))
            ∙ sums_alike (count_by (nat_lt u) taken) (count_by (lies u n) numbers) (cond (nat_lt u n) 0 0) (cond (nat_lt u n) (count_by (λ r. r == n) numbers) 0)
            (before.parity u) (cond_alike (nat_lt u n) 0 (count_by (λ r. r == n) numbers) (omega (arith, counted, none)))
            ∙ sym (ap (λ (m : ℕ). m % 2) (more_lie u n numbers));
      }
    where
      plus_none : (m : ℕ) (b : Bool) → m ≡ m + cond b 0 0
      plus_none m true = omega arith
      plus_none m false = omega arith

-- all are taken: behind each number lie as many as before, or fewer by an even number
pub taken_all : (numbers : List ℕ) (size n : ℕ) (taken marks : List ℕ) → AreTaken numbers size n taken marks → n ≡ size → All (λ r. r < size) numbers →
    (u : ℕ) → count_by (nat_lt u) taken % 2 ≡ count_by (nat_lt u) numbers % 2
taken_all numbers size n taken marks all whole within u =
    all.parity u ∙ ap (λ (m : ℕ). count_by (lies u m) numbers % 2) whole ∙ ap (λ (m : ℕ). m % 2) (all_lie u size numbers within)
