-- What a search finds among sorted entries, and what an edit at that index does.
use Rattle.std.proofs.Common.{◌≡◌, ℕ, ◌+◌, ◌-◌, ◌<◌, ◌≤◌, List, length, get_or, set, Some, None, Result, Ok, Err, IfOk, IfErr, sym, ap, subst, ◌∙◌, arith}
use Rattle.std.specs.List.{insert, remove}
use Rattle.std.specs.List.Sorted.{IsSearchInRange, IsBinarySearchResult, IsNonDecreasingBy}
use Rattle.std.specs.Ordering.{nat_cmp, ordering_index}
use Rattle.std.specs.Cmp.{nat_cmp_total}
use Rattle.std.specs.FinMap as map
use Rattle.std.specs.FinMap.{from_entries}
use Rattle.std.proofs.lemmas.Cmp.{ranked}
use Rattle.std.proofs.lemmas.List.Edits.{length-insert, get_or-insert_below, get_or-insert_at, get_or-insert_above, length-remove, get_or-remove_below, get_or-remove_above}
use Rattle.std.proofs.lemmas.Bool.Decides.{nat_tests}
use Rattle.std.proofs.lemmas.Grind.{common_steps}
use Rattle.wf_acceptor.specs.OpenVotes.{slot_at, IsSorted, IsEntryAt, IsGapFor}
use Rattle.wf_acceptor.proofs.Entries.{NoneBefore, find_absent, find_at, find-set, find-insert, find-remove, find-without, map_with, map_without}

module _ {A : Type 0} (entries : List (ℕ × A)) (sorted : IsSorted entries) (s : ℕ) where
  -- the comparisons with the slot rise along the entries, as a binary search asks
  comparisons_rise : IsNonDecreasingBy (λ entry. ordering_index (nat_cmp entry.0 s)) entries
  comparisons_rise i j d le in_range =
      let slots_rise : slot_at entries d i ≤ slot_at entries d j = grind (arith, sorted i j d, λ (same : i ≡ j). ap (slot_at entries d) same) in
      grind (arith, nat_tests)

  -- a binary search by slot ends at the slot's entry, or at the gap for it
  pub searched : (r : Result ℕ ℕ) → IsSearchInRange r (length entries) → IsBinarySearchResult (λ entry. nat_cmp entry.0 s) entries r →
      record { found : IfOk r (IsEntryAt entries s); absent : IfErr r (IsGapFor entries s) }
  searched (Ok i) in_range equal = record { found = record { in_range = in_range; has_slot = λ d. ranked _ s _ (sym (equal d)) }; absent = tt }
  searched (Err i) in_range parted = record {
    found = tt;
    absent = record {
      in_range = in_range;
      lower_before = λ j d lower. ranked _ s _ (sym ((parted comparisons_rise).0 j d (omega arith) lower));
      higher_after = λ j d from within. ranked _ s _ (sym ((parted comparisons_rise).1 j d from within));
    };
  }

module _ {A : Type 0} (entries : List (ℕ × A)) (sorted : IsSorted entries) (s i : ℕ) (is_at : IsEntryAt entries s i) where
  none_before : NoneBefore entries s i
  none_before j d lower is = omega (arith, sorted j i d lower is_at.in_range, is_at.has_slot d)

  none_after : (j : ℕ) (d : ℕ × A) → i < j → j < length entries → slot_at entries d j ≡ s → ⊥
  none_after j d higher within is = omega (arith, sorted i j d higher within, is_at.has_slot d)

  -- the slot's value is found at its index
  pub get_at : (d : ℕ × A) → map.get (from_entries {R = nat_cmp} entries) s ≡ Some (get_or entries i d).1
  get_at d = map.get-from_entries nat_cmp_total entries s ∙ find_at entries s i d is_at.in_range (is_at.has_slot d) none_before

  -- its entry is replaced
  pub set_at : (v : A) → from_entries {R = nat_cmp} (set entries i (s, v)) ≡ map.insert (from_entries entries) s v
  set_at v = map_with entries (set entries i (s, v)) s v (find-set entries s i v is_at.in_range is_at.has_slot none_before)

  pub sorted_set : (v : A) → IsSorted (set entries i (s, v))
  sorted_set v j k d lower in_range = grind (arith, common_steps, sorted j k d, sorted j i d, sorted i k d, is_at.in_range, is_at.has_slot d)

  -- its entry is removed
  pub remove_at : from_entries {R = nat_cmp} (remove entries i) ≡ map.remove (from_entries entries) s
  remove_at = map_without entries (remove entries i) s (find-remove entries s i is_at.in_range is_at.has_slot none_before none_after)

  pub sorted_remove : IsSorted (remove entries i)
  sorted_remove j k d lower in_range =
      let shorter = length-remove entries i is_at.in_range in
      let below : (j : ℕ) → j < i → slot_at (remove entries i) d j ≡ slot_at entries d j = λ j lt. ap (λ (x : ℕ × A). x.0) (get_or-remove_below entries i d j lt is_at.in_range) in
      let above : (j : ℕ) → i ≤ j → slot_at (remove entries i) d j ≡ slot_at entries d (j + 1) = λ j le. ap (λ (x : ℕ × A). x.0) (get_or-remove_above entries i d j le is_at.in_range) in
      grind (arith, below j, above j, below k, above k, sorted j k d, sorted j (k + 1) d, sorted (j + 1) (k + 1) d)

module _ {A : Type 0} (entries : List (ℕ × A)) (s i : ℕ) (gap : IsGapFor entries s i) where
  -- a slot that has a gap has no value
  pub get_in_gap : map.get (from_entries {R = nat_cmp} entries) s ≡ None
  get_in_gap = map.get-from_entries nat_cmp_total entries s ∙ find_absent entries s (λ j d lower is. grind (arith, gap.lower_before j d, gap.higher_after j d))

  -- nothing is removed
  pub remove_in_gap : from_entries {R = nat_cmp} entries ≡ map.remove (from_entries entries) s
  remove_in_gap = map_without entries entries s (find-without entries s (sym (map.get-from_entries nat_cmp_total entries s) ∙ get_in_gap))

  -- a new entry goes into the gap
  pub insert_at : (v : A) → from_entries {R = nat_cmp} (insert entries i (s, v)) ≡ map.insert (from_entries entries) s v
  insert_at v = map_with entries (insert entries i (s, v)) s v (find-insert entries s i v (λ j d lower is. omega (arith, gap.lower_before j d lower)))

  -- each slot is an old one below the gap, the new one in it, or an old one moved up by one
  pub sorted_insert : (v : A) → IsSorted entries → IsSorted (insert entries i (s, v))
  sorted_insert v sorted j k d lower in_range =
      let new = insert entries i (s, v) in
      let slot = λ (x : ℕ × A). x.0 in
      let longer = length-insert entries i (s, v) gap.in_range in
      let below : (j : ℕ) → j < i → slot_at new d j ≡ slot_at entries d j = λ j lt. ap slot (get_or-insert_below entries i (s, v) d j lt gap.in_range) in
      let here : (j : ℕ) → j ≡ i → slot_at new d j ≡ s = λ j is. rw is (ap slot (get_or-insert_at entries i (s, v) d gap.in_range)) in
      let above : (j : ℕ) → i < j → slot_at new d j ≡ slot_at entries d (j - 1) = λ j gt. subst (λ q. slot_at new d q ≡ slot_at entries d (j - 1)) {x = j - 1 + 1} (omega arith) (ap slot (get_or-insert_above entries i (s, v) d (j - 1) (omega arith) gap.in_range)) in
      grind (arith, below j, here j, above j, below k, here k, above k, sorted j k d, sorted j (k - 1) d, sorted (j - 1) (k - 1) d, gap.lower_before j d, gap.higher_after (k - 1) d)
