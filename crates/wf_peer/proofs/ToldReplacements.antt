-- What a greeting tells of replacements is determined by its bytes.
use Rattle.std.proofs.Common.{◌≡◌, ◌≢◌, ◌∙◌, ◌<◌, ◌≤◌, ◌*◌, ◌+◌, ◌-◌, ℕ, zero, suc, List, [], ◌∷◌, ◌++◌, Bool, true, false, length, take, drop, get_or, refl, sym, ap, subst, append_assoc, arith, length-append}
use Rattle.std.specs.Prelude.{Option, Some, None, cond, is_some, replicate, ◌==◌}
use Rattle.std.specs.Int.{w32, to_be_bytes, from_be_bytes}
use Rattle.std.proofs.lemmas.List.{append-nil, length-replicate, length-take, take-append-drop}
use Rattle.std.proofs.lemmas.Bool.{eqb-false, eqb-true}
use Rattle.std.proofs.lemmas.List.Sums.{sum_by-cons}
use Rattle.std.proofs.lemmas.Nat.{from_be_bytes-to_be_bytes_4}
use Rattle.wf_ballot.specs.Sequence.{seq_bytes}
use Rattle.wf_peer.specs.Greeting.{AreTold, AreToldOrNone, IsToldOrNone, IsToldReplacement, entries_from, entry_then, told_after, told_bytes, told_length}
use Rattle.wf_peer.specs.ToldEntries.{ReadsEntries, StartsWith, entry_length}
use Rattle.wf_peer.proofs.Decoded.{drop_front, take_front}
use Rattle.wf_peer.proofs.Sizes.{length_of_sequence}
use Rattle.wf_rejoin.specs.Replacements.{known_count}
use Rattle.wf_rejoin.specs.declared.replacement.Replacement.{Replacement}

-- ---- one replacement

-- replacements of nodes from i on begin with no number before
starts_no_earlier : (i j : ℕ) (xs : List (Option Replacement)) → j < i → ¬ StartsWith j (entries_from i xs)
unfolding entries_from entry_then
starts_no_earlier i j [] less starts = starts
starts_no_earlier i j (None ∷ rest) less starts = starts_no_earlier (suc i) j rest (omega (arith, less)) starts
starts_no_earlier i j (Some r ∷ rest) less starts = omega (arith, less, starts)

same_replacement : (p q : Replacement) → p.count ≡ q.count → p.mark ≡ q.mark → p ≡ q
same_replacement p q count mark =
    let made : ℕ → List ℕ → Replacement = λ c m. record { count = c; mark = m } in
    ap (λ (c : ℕ). made c p.mark) count ∙ ap (λ (m : List ℕ). made q.count m) mark

-- its parts are determined by its bytes
pub replacement_parts : (bytes r s : List ℕ) (p q : Replacement) → IsToldReplacement p → IsToldReplacement q → bytes ≡ to_be_bytes w32 p.count ++ (p.mark ++ r) → bytes ≡ to_be_bytes w32 q.count ++ (q.mark ++ s) → (p ≡ q) × (r ≡ s)
replacement_parts bytes r s p q of_p of_q e f =
    let number : to_be_bytes w32 p.count ≡ to_be_bytes w32 q.count = sym (take_front 4 bytes (to_be_bytes w32 p.count) (p.mark ++ r) refl e) ∙ take_front 4 bytes (to_be_bytes w32 q.count) (q.mark ++ s) refl f in
    let count : p.count ≡ q.count = sym (from_be_bytes-to_be_bytes_4 p.count of_p.fits) ∙ ap (from_be_bytes w32) number ∙ from_be_bytes-to_be_bytes_4 q.count of_q.fits in
    let behind : p.mark ++ r ≡ q.mark ++ s = sym (drop_front 4 bytes (to_be_bytes w32 p.count) (p.mark ++ r) refl e) ∙ drop_front 4 bytes (to_be_bytes w32 q.count) (q.mark ++ s) refl f in
    let mark : p.mark ≡ q.mark = sym (take_front 16 (p.mark ++ r) p.mark r of_p.size refl) ∙ take_front 16 (p.mark ++ r) q.mark s of_q.size behind in
    let rest : r ≡ s = sym (drop_front 16 (p.mark ++ r) p.mark r of_p.size refl) ∙ drop_front 16 (p.mark ++ r) q.mark s of_q.size behind in
    (same_replacement p q count mark, rest)

-- of bytes that go on with no replacement of the node, the one that they begin with, and what
-- follows
pub same_entry : (i : ℕ) (bytes r s : List ℕ) (x y : Option Replacement) → IsToldOrNone x → IsToldOrNone y → (x ≡ None → ¬ StartsWith i bytes) → ¬ StartsWith i s →
    bytes ≡ entry_then i x r → bytes ≡ entry_then i y s → (x ≡ y) × (r ≡ s)
unfolding entry_then
same_entry i bytes r s None None of_x of_y other later e f = (refl, sym e ∙ f)
same_entry i bytes r s None (Some q) of_x of_y other later e f = absurd (other refl (subst (StartsWith i) (sym f) refl))
same_entry i bytes r s (Some p) None of_x of_y other later e f = absurd (later (subst (StartsWith i) (sym e ∙ f) refl))
same_entry i bytes r s (Some p) (Some q) of_x of_y other later e f =
    let parts = replacement_parts (drop 1 bytes) r s p q of_x of_y (ap (λ (l : List ℕ). drop 1 l) e) (ap (λ (l : List ℕ). drop 1 l) f) in
    (ap (λ (z : Replacement). Some z) parts.0, parts.1)

-- where the first node has none, they don't begin with its number
no_number : (i : ℕ) (x : Option Replacement) (xs : List (Option Replacement)) → x ≡ None → ¬ StartsWith i (entries_from i (x ∷ xs))
unfolding entries_from entry_then
no_number i None xs none = starts_no_earlier (suc i) i xs (omega arith)
no_number i (Some r) xs none = absurd cc

-- ---- all replacements

count_none : (rest : List (Option Replacement)) → known_count (None ∷ rest) ≡ 0 + known_count rest
count_none rest = sum_by-cons (λ (x : Option Replacement). cond (is_some x) 1 0) None rest

count_some : (r : Replacement) (rest : List (Option Replacement)) → known_count (Some r ∷ rest) ≡ 1 + known_count rest
count_some r rest = sum_by-cons (λ (x : Option Replacement). cond (is_some x) 1 0) (Some r) rest

pub length_of_entries : (i : ℕ) (xs : List (Option Replacement)) → AreToldOrNone xs → length (entries_from i xs) ≡ 21 * known_count xs
unfolding entries_from entry_then AreToldOrNone
length_of_entries i [] are = refl
length_of_entries i (None ∷ rest) are = omega (arith, count_none rest, length_of_entries (suc i) rest are.1)
length_of_entries i (Some r ∷ rest) are =
    omega (arith, count_some r rest, are.0.size, length-append r.mark (entries_from (suc i) rest), length_of_entries (suc i) rest are.1)

pub same_entries : (i : ℕ) (xs ys : List (Option Replacement)) → length xs ≡ length ys → AreToldOrNone xs → AreToldOrNone ys → entries_from i xs ≡ entries_from i ys → xs ≡ ys
unfolding entries_from AreToldOrNone
same_entries i [] [] size of_x of_y e = refl
same_entries i [] (y ∷ ys) size of_x of_y e = absurd (omega (arith, size))
same_entries i (x ∷ xs) [] size of_x of_y e = absurd (omega (arith, size))
same_entries i (x ∷ xs) (y ∷ ys) size of_x of_y e =
    let first = same_entry i (entries_from i (x ∷ xs)) (entries_from (suc i) xs) (entries_from (suc i) ys) x y of_x.0 of_y.0 (no_number i x xs) (starts_no_earlier (suc i) i ys (omega arith)) refl e in
    ap (λ (z : Option Replacement). z ∷ xs) first.0 ∙ ap (λ (l : List (Option Replacement)). y ∷ l) (same_entries (suc i) xs ys (omega (arith, size)) of_x.1 of_y.1 first.1)

-- ---- they are read

pub read_no_more : (bytes : List ℕ) (nodes : List (Option Replacement)) → length nodes ≡ 0 → length bytes ≡ 0 → ReadsEntries bytes (length nodes) nodes true
unfolding entries_from AreToldOrNone
read_no_more [] [] none end = (refl, tt, refl)
read_no_more (b ∷ bytes) [] none end = absurd (omega (arith, end))
read_no_more bytes (x ∷ nodes) none end = absurd (omega (arith, none))

nothing_else : (bytes : List ℕ) (others : List (Option Replacement)) → length others ≡ 0 → length bytes ≢ 0 → bytes ≢ entries_from 64 others
unfolding entries_from
nothing_else bytes [] size some e = some (ap length e)
nothing_else bytes (y ∷ others) size some e = omega (arith, size)

pub read_too_much : (bytes : List ℕ) (nodes : List (Option Replacement)) → length nodes ≡ 0 → length bytes ≢ 0 → ReadsEntries bytes (length nodes) nodes false
unfolding entries_from
read_too_much bytes (x ∷ nodes) none some = absurd (omega (arith, none))
read_too_much bytes [] none some = λ others size are e. nothing_else bytes others size some e

pub read_end : (bytes : List ℕ) (nodes : List (Option Replacement)) (result : Bool) → length nodes ≡ 0 → result ≡ (length bytes == 0) → ReadsEntries bytes (length nodes) nodes result
read_end bytes nodes true none is = read_no_more bytes nodes none (eqb-true (length bytes) 0 (sym is))
read_end bytes nodes false none is = read_too_much bytes nodes none (eqb-false (length bytes) 0 (sym is))

no_others : (bytes : List ℕ) (count : ℕ) (others : List (Option Replacement)) → length others ≡ count → 0 < count → count ≤ 64 → AreToldOrNone others →
    ((x : Option Replacement) (rest : List ℕ) → IsToldOrNone x → ¬ StartsWith (64 - count) rest → bytes ≢ entry_then (64 - count) x rest) → bytes ≢ entries_from (64 - count) others
unfolding entries_from AreToldOrNone
no_others bytes count [] size some most are none e = omega (arith, size, some)
no_others bytes count (y ∷ others) size some most are none e = none y (entries_from (suc (64 - count)) others) are.0 (starts_no_earlier (suc (64 - count)) (64 - count) others (omega arith)) e

pub read_none : (bytes : List ℕ) (count : ℕ) (nodes : List (Option Replacement)) → 0 < count → count ≤ 64 → ((x : Option Replacement) (rest : List ℕ) → IsToldOrNone x → ¬ StartsWith (64 - count) rest → bytes ≢ entry_then (64 - count) x rest) →
    ReadsEntries bytes count nodes false
read_none bytes count nodes some most none = λ others size are e. no_others bytes count others size some most are none e

next_node : (count : ℕ) → suc count ≤ 64 → suc (64 - suc count) ≡ 64 - count
next_node count most = omega (arith, most)

only_one : (bytes rest : List ℕ) (x : Option Replacement) (count : ℕ) (others : List (Option Replacement)) → suc count ≤ 64 → IsToldOrNone x → (x ≡ None → ¬ StartsWith (64 - suc count) bytes) →
    bytes ≡ entry_then (64 - suc count) x rest → ((ys : List (Option Replacement)) → length ys ≡ count → AreToldOrNone ys → rest ≢ entries_from (64 - count) ys) →
    length others ≡ suc count → AreToldOrNone others → bytes ≢ entries_from (64 - suc count) others
unfolding entries_from AreToldOrNone
only_one bytes rest x count [] most is other e none size are same = omega (arith, size)
only_one bytes rest x count (y ∷ ys) most is other e none size are same =
    let i = 64 - suc count in
    let parts = same_entry i bytes rest (entries_from (suc i) ys) x y is are.0 other (starts_no_earlier (suc i) i ys (omega arith)) e same in
    none ys (omega (arith, size)) are.1 (parts.1 ∙ ap (λ (k : ℕ). entries_from k ys) (next_node count most))

pub read_one : (bytes rest : List ℕ) (x : Option Replacement) (count : ℕ) (new : List (Option Replacement)) (result : Bool) → suc count ≤ 64 → IsToldOrNone x → (x ≡ None → ¬ StartsWith (64 - suc count) bytes) →
    bytes ≡ entry_then (64 - suc count) x rest → ReadsEntries rest count new result → ReadsEntries bytes (suc count) (x ∷ new) result
unfolding entries_from AreToldOrNone
read_one bytes rest x count new true most is other e (size, are, same) =
    (omega (arith, size), (is, are), e ∙ ap (entry_then (64 - suc count) x) (same ∙ ap (λ (i : ℕ). entries_from i new) (sym (next_node count most))))
read_one bytes rest x count new false most is other e none = λ others size are same. only_one bytes rest x count others most is other e (λ ys sized told. none ys sized told) size are same

pub read_first : (bytes rest : List ℕ) (x : Option Replacement) (count total : ℕ) (new : List (Option Replacement)) (result : Bool) → total ≡ suc count → total ≤ 64 → IsToldOrNone x → (x ≡ None → ¬ StartsWith (64 - total) bytes) →
    bytes ≡ entry_then (64 - total) x rest → ReadsEntries rest count new result → ReadsEntries bytes total (x ∷ new) result
read_first bytes rest x count total new result counted most is other e reads =
    subst (λ (n : ℕ). ReadsEntries bytes n (x ∷ new) result) (sym counted)
    (read_one bytes rest x count new result (omega (arith, most, counted)) is (subst (λ (n : ℕ). x ≡ None → ¬ StartsWith (64 - n) bytes) counted other) (e ∙ ap (λ (n : ℕ). entry_then (64 - n) x rest) counted) reads)

-- ---- what is told

pub none_known : (n : ℕ) (known : List (Option Replacement)) → length known ≡ n → known_count known ≡ 0 → known ≡ replicate n None
none_known zero [] size none = refl
none_known (suc n) [] size none = absurd (omega (arith, size))
none_known zero (x ∷ known) size none = absurd (omega (arith, size))
none_known (suc n) (None ∷ known) size none = ap (λ (l : List (Option Replacement)). None ∷ l) (none_known n known (omega (arith, size)) (omega (arith, none, count_none known)))
none_known (suc n) (Some r ∷ known) size none = absurd (omega (arith, none, count_some r known))

none_told : (n : ℕ) → AreToldOrNone (replicate n None)
unfolding AreToldOrNone
none_told zero = tt
none_told (suc n) = (tt, none_told n)

pub nothing_told : (known : List (Option Replacement)) (voted : ℕ) → known ≡ replicate 64 None → voted ≡ 0 → AreTold known voted
nothing_told known voted none first = record {
  size = ap length none ∙ length-replicate {A = Option Replacement} 64 None;
  each = subst AreToldOrNone (sym none) (none_told 64);
  sequence = omega (arith, first);
  unvoted = λ counted. first;
}

pub nothing_after : (bytes : List ℕ) (count voted : ℕ) (known : List (Option Replacement)) → count ≡ 0 → bytes ≡ told_after count known voted ++ bytes
nothing_after bytes count voted known none = ap (λ (k : ℕ). told_after k known voted ++ bytes) (sym none)

pub nothing_begins : (bytes more : List ℕ) (count voted : ℕ) (known : List (Option Replacement)) → count ≡ 0 → 0 < length more → bytes ++ more ≢ told_after count known voted
nothing_begins bytes more count voted known none some e =
    omega (arith, some, ap length (e ∙ ap (λ (k : ℕ). told_after k known voted) none), length-append bytes more)

pub told_some : (count : ℕ) (known : List (Option Replacement)) (voted : ℕ) → 0 < count → told_after count known voted ≡ entries_from 0 known ++ seq_bytes voted
told_some zero known voted some = absurd (omega (arith, some))
told_some (suc k) known voted some = refl

pub length_some : (count : ℕ) → 0 < count → told_length count ≡ 21 * count + 2
length_some zero some = absurd (omega (arith, some))
length_some (suc k) some = refl

pub length_of_told_after : (count : ℕ) (known : List (Option Replacement)) (voted : ℕ) → AreTold known voted → known_count known ≡ count → length (told_after count known voted) ≡ told_length count
length_of_told_after zero known voted told same = refl
length_of_told_after (suc k) known voted told same =
    omega (arith, same, length-append (entries_from 0 known) (seq_bytes voted), length_of_entries 0 known told.each, length_of_sequence voted)

-- ---- they are written

pub put_none : (t : List ℕ) (i : ℕ) → t ≡ t ++ entry_then i None []
unfolding entry_then
put_none t i = sym (append-nil t)

entry_before : (i : ℕ) (x : Option Replacement) (rest : List ℕ) → entry_then i x [] ++ rest ≡ entry_then i x rest
unfolding entry_then
entry_before i None rest = refl
entry_before i (Some r) rest =
    ap (λ (l : List ℕ). i ∷ (to_be_bytes w32 r.count ++ l)) (append_assoc r.mark [] rest)

pub entries_counted : (xs rest : List (Option Replacement)) (x : Option Replacement) → xs ≡ x ∷ rest → 21 * known_count xs ≡ entry_length x + 21 * known_count rest
entries_counted xs rest None is = omega (arith, ap known_count is, count_none rest)
entries_counted xs rest (Some r) is = omega (arith, ap known_count is, count_some r rest)

pub none_counted : (xs : List (Option Replacement)) → length xs ≡ 0 → known_count xs ≡ 0
none_counted [] none = refl
none_counted (x ∷ xs) none = absurd (omega (arith, none))

pub put_no_more : (t : List ℕ) (xs : List (Option Replacement)) → length xs ≡ 0 → t ≡ t ++ entries_from (64 - length xs) xs
unfolding entries_from
put_no_more t [] none = sym (append-nil t)
put_no_more t (x ∷ xs) none = absurd (omega (arith, none))

pub put_one_more : (old mid new : List ℕ) (xs rest : List (Option Replacement)) (x : Option Replacement) (node : ℕ) → xs ≡ x ∷ rest → length xs ≤ 64 → node ≡ 64 - length xs →
    mid ≡ old ++ entry_then node x [] → new ≡ mid ++ entries_from (64 - length rest) rest → new ≡ old ++ entries_from (64 - length xs) xs
unfolding entries_from
put_one_more old mid new xs rest x node is most at of_mid of_new =
    let next : 64 - length rest ≡ suc node = omega (arith, at, most, ap length is) in
    of_new ∙ ap (λ (l : List ℕ). l ++ entries_from (64 - length rest) rest) of_mid
    ∙ append_assoc old (entry_then node x []) (entries_from (64 - length rest) rest)
    ∙ ap (λ (l : List ℕ). old ++ l) (entry_before node x (entries_from (64 - length rest) rest))
    ∙ ap (λ (i : ℕ). old ++ entry_then node x (entries_from i rest)) next
    ∙ ap (λ (l : List (Option Replacement)). old ++ entries_from node l) (sym is)
    ∙ ap (λ (i : ℕ). old ++ entries_from i xs) at

pub put_all : (t0 t1 t2 t3 : List ℕ) (nodes known : List (Option Replacement)) (count voted : ℕ) → count ≡ known_count known → 0 < count → nodes ≡ known → length nodes ≡ 64 →
    t1 ≡ t0 ++ count ∷ [] → t2 ≡ t1 ++ entries_from (64 - length nodes) nodes → t3 ≡ t2 ++ seq_bytes voted → t3 ≡ t0 ++ told_bytes known voted
unfolding told_bytes
put_all t0 t1 t2 t3 nodes known count voted counted some same all e1 e2 e3 =
    let first : 64 - length nodes ≡ 0 = omega (arith, all) in
    e3 ∙ ap (λ (l : List ℕ). l ++ seq_bytes voted) (e2 ∙ ap (λ (l : List ℕ). l ++ entries_from (64 - length nodes) nodes) e1)
    ∙ ap (λ (i : ℕ). ((t0 ++ count ∷ []) ++ entries_from i nodes) ++ seq_bytes voted) first
    ∙ ap (λ (l : List (Option Replacement)). ((t0 ++ count ∷ []) ++ entries_from 0 l) ++ seq_bytes voted) same
    ∙ append_assoc (t0 ++ count ∷ []) (entries_from 0 known) (seq_bytes voted)
    ∙ append_assoc t0 (count ∷ []) (entries_from 0 known ++ seq_bytes voted)
    ∙ ap (λ (l : List ℕ). t0 ++ count ∷ l) (sym (told_some count known voted some))
    ∙ ap (λ (k : ℕ). t0 ++ k ∷ told_after k known voted) counted

pub put_nothing : (t0 t1 : List ℕ) (known : List (Option Replacement)) (count voted : ℕ) → count ≡ known_count known → count ≡ 0 → t1 ≡ t0 ++ count ∷ [] → t1 ≡ t0 ++ told_bytes known voted
unfolding told_bytes
put_nothing t0 t1 known count voted counted none e =
    e ∙ ap (λ (k : ℕ). t0 ++ count ∷ told_after k known voted) (sym none) ∙ ap (λ (k : ℕ). t0 ++ k ∷ told_after k known voted) counted

-- ---- the first of bytes that tell, and the sequence after them

pub told_parts : (bytes entries rest voted all after : List ℕ) (size : ℕ) (v : ℕ) → entries ≡ take size bytes → rest ≡ drop size bytes → voted ≡ take 2 rest → length all ≡ size →
    bytes ≡ (all ++ seq_bytes v) ++ after → (entries ≡ all) × (voted ≡ seq_bytes v)
told_parts bytes entries rest voted all after size v of_entries of_rest of_voted long e =
    let whole : bytes ≡ all ++ (seq_bytes v ++ after) = e ∙ append_assoc all (seq_bytes v) after in
    let behind : rest ≡ seq_bytes v ++ after = of_rest ∙ drop_front size bytes all (seq_bytes v ++ after) long whole in
    (of_entries ∙ take_front size bytes all (seq_bytes v ++ after) long whole, of_voted ∙ take_front 2 rest (seq_bytes v) after (length_of_sequence v) behind)

pub told_whole : (bytes entries rest voted all : List ℕ) (size : ℕ) (v : ℕ) → entries ≡ take size bytes → rest ≡ drop size bytes → voted ≡ take 2 rest → entries ≡ all → voted ≡ seq_bytes v →
    bytes ≡ (all ++ seq_bytes v) ++ drop 2 rest
told_whole bytes entries rest voted all size v of_entries of_rest of_voted is_all is_voted =
    sym (take-append-drop size bytes)
    ∙ ap (λ (l : List ℕ). l ++ drop size bytes) (sym of_entries ∙ is_all)
    ∙ ap (λ (l : List ℕ). all ++ l) (sym of_rest ∙ sym (take-append-drop 2 rest) ∙ ap (λ (l : List ℕ). l ++ drop 2 rest) (sym of_voted ∙ is_voted))
    ∙ sym (append_assoc all (seq_bytes v) (drop 2 rest))

pub size_read : (bytes entries : List ℕ) (size : ℕ) (known : List (Option Replacement)) → size + 2 ≤ length bytes → entries ≡ take size bytes → AreToldOrNone known → entries ≡ entries_from 0 known → 21 * known_count known ≡ size
size_read bytes entries size known long of_entries are is =
    omega (arith, length_of_entries 0 known are, ap length is, ap length of_entries, length-take size bytes, long)

-- ---- by the number of replaced nodes

pub first_and_rest : (a b : ℕ) (xs ys : List ℕ) → a ∷ xs ≡ b ∷ ys → (a ≡ b) × (xs ≡ ys)
first_and_rest a b xs ys e = (ap (λ (l : List ℕ). get_or l 0 0) e, ap (λ (l : List ℕ). drop 1 l) e)

pub counted_front : (bytes rest after : List ℕ) (count voted : ℕ) (known : List (Option Replacement)) → bytes ≡ count ∷ rest → known_count known ≡ count → rest ≡ told_after count known voted ++ after → bytes ≡ told_bytes known voted ++ after
unfolding told_bytes
counted_front bytes rest after count voted known is counted e =
    is ∙ ap (λ (l : List ℕ). count ∷ l) e ∙ ap (λ (k : ℕ). k ∷ (told_after k known voted ++ after)) (sym counted)

pub counted_parts : (bytes rest more after : List ℕ) (count voted : ℕ) (known : List (Option Replacement)) → bytes ≡ count ∷ rest → bytes ++ more ≡ told_bytes known voted ++ after →
    (known_count known ≡ count) × (rest ++ more ≡ told_after count known voted ++ after)
unfolding told_bytes
counted_parts bytes rest more after count voted known is e =
    let parts = first_and_rest count (known_count known) (rest ++ more) (told_after (known_count known) known voted ++ after) (ap (λ (l : List ℕ). l ++ more) (sym is) ∙ e) in
    (sym parts.0, parts.1 ∙ ap (λ (k : ℕ). told_after k known voted ++ after) (sym parts.0))

pub nil_after : (l m : List ℕ) → l ≡ m ++ [] → l ≡ m
nil_after l m e = e ∙ append-nil m

pub with_nil : (l m : List ℕ) → l ≡ m → l ≡ m ++ []
with_nil l m e = e ∙ sym (append-nil m)

pub begin_with_nil : (l m : List ℕ) → l ≡ m → l ++ [] ≡ m
begin_with_nil l m e = append-nil l ∙ e

-- bytes that go as far as what is told don't begin it
pub far_enough : (bytes more : List ℕ) (count size voted : ℕ) (known : List (Option Replacement)) → AreTold known voted → known_count known ≡ count → 0 < count → size ≡ 21 * count → size + 2 ≤ length bytes → 0 < length more →
    bytes ++ more ≢ told_after count known voted
far_enough bytes more count size voted known told counted some sized far rest e =
    omega (arith, rest, far, sized, length_some count some, length_of_told_after count known voted told counted, ap length e, length-append bytes more)

-- bytes that don't go as far aren't it, whatever follows
pub not_far_enough : (bytes after : List ℕ) (count size voted : ℕ) (known : List (Option Replacement)) → AreTold known voted → known_count known ≡ count → 0 < count → size ≡ 21 * count → length bytes < size + 2 →
    bytes ≢ told_after count known voted ++ after
not_far_enough bytes after count size voted known told counted some sized few e =
    omega (arith, few, sized, length_some count some, length_of_told_after count known voted told counted, ap length e, length-append (told_after count known voted) after)

pub told_not_empty : (bytes rest : List ℕ) (voted : ℕ) (known : List (Option Replacement)) → length bytes ≡ 0 → bytes ≢ told_bytes known voted ++ rest
unfolding told_bytes
told_not_empty bytes rest voted known none e = omega (arith, none, ap length e)
