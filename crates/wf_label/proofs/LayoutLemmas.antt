-- The placed set: how it grows with the labels, that there is one, and that there is no other.
use Rattle.std.proofs.Common.{◌≡◌, ℕ, zero, suc, ◌+◌, ◌<◌, ◌≤◌, Bool, true, false, List, [], ◌∷◌, ◌++◌, take, length, get_or, pos, if◌then◌else◌, inl, inr, refl, sym, ap, subst, ◌∙◌, arith}
use Rattle.std.proofs.lemmas.Bool.{cases_eq}
use Rattle.std.proofs.lemmas.List.{append-nil, append_assoc, get_or_append_left, get_or_push, length_push, map_push, take-append-le, take_at, take_all, take_more, take_more_same}
use Rattle.std.specs.List.{items_where_true}
use Rattle.wf_geometry.specs.View.{ViewValue}
use Rattle.wf_label.specs.Placed.{PlacedValue, placed_value, placed_values}
use Rattle.wf_label.specs.LabelLayout.{stands, IsPlacedSet, IsLayout, EachListHasOnePlacedSet, EachListHasOneLayout, PlacedIsTheLayout, placed_after, placed_of}
use Rattle.wf_label.specs.declared.placed.Placed.{Placed}

-- ---- one label more

-- the values of the first labels, up to one more
pub one_more : (labels : List Placed) (i : ℕ) (label d : Placed) → i < length labels → label ≡ get_or labels i d →
    placed_values (take (i + 1) labels) ≡ placed_values (take i labels) ++ placed_value label ∷ []
one_more labels i label d within here =
    ap placed_values (take_more labels i d within) ∙ map_push placed_value (take i labels) (get_or labels i d)
    ∙ ap (λ (l : Placed). placed_values (take i labels) ++ placed_value l ∷ []) (sym here)

-- the marked items of two lists are those of the first and then those of the second
marked-append : (marks more : List Bool) (xs ys : List PlacedValue) → length marks ≡ length xs →
    items_where_true (marks ++ more) (xs ++ ys) ≡ items_where_true marks xs ++ items_where_true more ys
marked-append [] more [] ys same = refl
marked-append [] more (x ∷ xs) ys same = absurd (omega (arith, same))
marked-append (mark ∷ marks) more [] ys same = absurd (omega (arith, same))
marked-append (true ∷ marks) more (x ∷ xs) ys same = ap (λ (rest : List PlacedValue). x ∷ rest) (marked-append marks more xs ys (omega (arith, same)))
marked-append (false ∷ marks) more (x ∷ xs) ys same = marked-append marks more xs ys (omega (arith, same))

module _ (view : ViewValue) (labels : List PlacedValue) (members : List Bool) (is : IsPlacedSet view labels members) (label : PlacedValue) where
  -- the mark that the label gets after the others
  abbrev mark : Bool
  mark = stands view (items_where_true members labels) label

  each_before : (i : ℕ) (d : PlacedValue) → i < length labels →
      get_or (members ++ mark ∷ []) i false ≡ stands view (items_where_true (take i (members ++ mark ∷ [])) (take i (labels ++ label ∷ []))) (get_or (labels ++ label ∷ []) i d)
  each_before i d within =
      let marks : take i (members ++ mark ∷ []) ≡ take i members = take-append-le i members (mark ∷ []) (omega (arith, is.size)) in
      let before : take i (labels ++ label ∷ []) ≡ take i labels = take-append-le i labels (label ∷ []) (omega arith) in
      let one : get_or (labels ++ label ∷ []) i d ≡ get_or labels i d = get_or_append_left labels (label ∷ []) d i within in
      let same : get_or (members ++ mark ∷ []) i false ≡ get_or members i false = get_or_append_left members (mark ∷ []) false i (omega (arith, is.size)) in
      rw (marks, before, one, same) (is.each i d within)

  each_last : (d : PlacedValue) →
      get_or (members ++ mark ∷ []) (length labels) false
      ≡ stands view (items_where_true (take (length labels) (members ++ mark ∷ [])) (take (length labels) (labels ++ label ∷ []))) (get_or (labels ++ label ∷ []) (length labels) d)
  each_last d =
      let marks : take (length labels) (members ++ mark ∷ []) ≡ members = take_at members (mark ∷ []) (length labels) is.size in
      let before : take (length labels) (labels ++ label ∷ []) ≡ labels = take_at labels (label ∷ []) (length labels) refl in
      let one : get_or (labels ++ label ∷ []) (length labels) d ≡ label = get_or_push labels label d (length labels) refl in
      let same : get_or (members ++ mark ∷ []) (length labels) false ≡ mark = get_or_push members mark false (length labels) is.size in
      rw (marks, before, one, same) refl

  -- with the label's mark the marks are the placed set of one label more
  pub IsPlacedSet-more : IsPlacedSet view (labels ++ label ∷ []) (members ++ mark ∷ [])
  IsPlacedSet-more = record {
    size = omega (arith, length_push members mark, length_push labels label, is.size);
    each = λ i d within. elim (cases_eq i (length labels)) [
      | inl last ↦ rw last (each_last d)
      | inr apart ↦ each_before i d (omega (arith, length_push labels label, apart))
    ];
  }

  -- its members are those before, and the label if it may be placed
  pub members-more : items_where_true (members ++ mark ∷ []) (labels ++ label ∷ []) ≡ items_where_true members labels ++ items_where_true (mark ∷ []) (label ∷ [])
  members-more = marked-append members (mark ∷ []) labels (label ∷ []) is.size

pub IsLayout-none : (view : ViewValue) → IsLayout view [] []
IsLayout-none view = ([], record { size = refl; each = λ i d within. absurd (omega arith) }, refl)

module _ (view : ViewValue) (labels placed : List PlacedValue) (label : PlacedValue) (layout : IsLayout view labels placed) where
  -- the label may be placed, and is placed after the others
  pub IsLayout-placed : stands view placed label ≡ true → IsLayout view (labels ++ label ∷ []) (placed ++ label ∷ [])
  IsLayout-placed stays =
      let is = layout.1 in
      let here : stands view (items_where_true layout.0 labels) label ≡ true = ap (λ (before : List PlacedValue). stands view before label) (sym layout.2) ∙ stays in
      let all : items_where_true (layout.0 ++ stands view (items_where_true layout.0 labels) label ∷ []) (labels ++ label ∷ []) ≡ placed ++ label ∷ [] =
      members-more view labels layout.0 is label ∙ rw (here, ← layout.2) refl in
      (layout.0 ++ stands view (items_where_true layout.0 labels) label ∷ [], IsPlacedSet-more view labels layout.0 is label, sym all)

  -- the label may not be placed, and isn't
  pub IsLayout-left : stands view placed label ≡ false → IsLayout view (labels ++ label ∷ []) placed
  IsLayout-left goes =
      let is = layout.1 in
      let here : stands view (items_where_true layout.0 labels) label ≡ false = ap (λ (before : List PlacedValue). stands view before label) (sym layout.2) ∙ goes in
      let all : items_where_true (layout.0 ++ stands view (items_where_true layout.0 labels) label ∷ []) (labels ++ label ∷ []) ≡ placed =
      members-more view labels layout.0 is label ∙ rw (here, ← layout.2) (append-nil placed) in
      (layout.0 ++ stands view (items_where_true layout.0 labels) label ∷ [], IsPlacedSet-more view labels layout.0 is label, sym all)

  -- either way
  pub IsLayout-next : IsLayout view (labels ++ label ∷ []) (if stands view placed label then placed ++ label ∷ [] else placed)
  IsLayout-next = by_test (stands view placed label) refl where
    by_test : (b : Bool) → stands view placed label ≡ b → IsLayout view (labels ++ label ∷ []) (if stands view placed label then placed ++ label ∷ [] else placed)
    by_test true placed_here = rw placed_here (IsLayout-placed placed_here)
    by_test false left_out = rw left_out (IsLayout-left left_out)

-- the same by the code's labels, of which the next is placed or not
pub layout_next : (view : ViewValue) (labels : List Placed) (i : ℕ) (d : Placed) (placed after : List PlacedValue) → i < length labels → IsLayout view (placed_values (take i labels)) placed →
    after ≡ (if stands view placed (placed_value (get_or labels i d)) then placed ++ placed_value (get_or labels i d) ∷ [] else placed) → IsLayout view (placed_values (take (i + 1) labels)) after
layout_next view labels i d placed after within layout is =
    rw (is, one_more labels i (get_or labels i d) d within refl) (IsLayout-next view (placed_values (take i labels)) placed (placed_value (get_or labels i d)) layout)

-- ---- there is one

-- labels that are placed or not, one after the other, after those that are placed so far
IsLayout-after : (view : ViewValue) (labels placed rest : List PlacedValue) → IsLayout view labels placed → IsLayout view (labels ++ rest) (placed_after view placed rest)
IsLayout-after view labels placed [] layout = rw (append-nil labels) layout
IsLayout-after view labels placed (label ∷ rest) layout =
    let next : List PlacedValue = if stands view placed label then placed ++ label ∷ [] else placed in
    let all : IsLayout view ((labels ++ label ∷ []) ++ rest) (placed_after view next rest) =
    IsLayout-after view (labels ++ label ∷ []) next rest (IsLayout-next view labels placed label layout) in
    rw (append_assoc labels (label ∷ []) rest) at all

pub placed_is_the_layout : PlacedIsTheLayout
unfolding placed_of
placed_is_the_layout view labels = IsLayout-after view [] [] labels (IsLayout-none view)

-- ---- there is no other

-- an arbitrary label, for an index past the end of the list
nowhere : PlacedValue
nowhere = record { left = pos 0; bottom = pos 0; scale = 1; buffer = 0; force = false; color = record { r = 0; g = 0; b = 0 }; text = [] }

module _ (view : ViewValue) (labels : List PlacedValue) (first second : List Bool) (is : IsPlacedSet view labels first) (also : IsPlacedSet view labels second) where
  -- two placed sets agree on the first labels: whether a label is placed depends on those before it
  -- alone
  same_front : (i : ℕ) → i ≤ length labels → take i first ≡ take i second
  same_front zero within = refl
  same_front (suc i) within =
      let before : take i first ≡ take i second = same_front i (omega arith) in
      let here : get_or first i false ≡ get_or second i false =
      is.each i nowhere (omega arith) ∙ ap (λ (marks : List Bool). stands view (items_where_true marks (take i labels)) (get_or labels i nowhere)) before ∙ sym (also.each i nowhere (omega arith)) in
      let next : i + 1 ≡ suc i = omega arith in
      subst (λ (n : ℕ). take n first ≡ take n second) next (take_more_same first second i false (omega (arith, is.size)) (omega (arith, also.size)) before here)

  pub one_set : first ≡ second
  one_set =
      sym (take_all (length labels) first (omega (arith, is.size))) ∙ same_front (length labels) (omega arith)
      ∙ take_all (length labels) second (omega (arith, also.size))

pub each_has_one_set : EachListHasOnePlacedSet
each_has_one_set view labels =
    let found = placed_is_the_layout view labels in
    record { members = found.0; is = found.1; only = λ others also. one_set view labels others found.0 also found.1 }

pub each_has_one_layout : EachListHasOneLayout
each_has_one_layout view labels placed others first second =
    let same : second.0 ≡ first.0 = one_set view labels second.0 first.0 second.1 first.1 in
    second.2 ∙ ap (λ (marks : List Bool). items_where_true marks labels) same ∙ sym first.2
