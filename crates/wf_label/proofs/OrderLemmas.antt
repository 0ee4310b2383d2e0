-- The label order: `candidates` lists all labels in their one sorted order.
use Rattle.std.proofs.Common.{◌≡◌, ℕ, zero, suc, ◌+◌, ◌<◌, ◌≤◌, ◌==◌, Bool, true, false, cond, List, [], ◌∷◌, ◌++◌, map, length, get_or, reverse, filter, filter_map, flat_map, All, IsPermutation, Option, Some, None, IfSome, is_some, slice_get, option_map, nat_cmp, Ordering, Less, Equal, inl, inr, refl, sym, ap, subst, ◌∙◌, true≢false, arith}
use Rattle.std.specs.Cmp.{IsTotalOrder, nat_cmp_is}
use Rattle.std.specs.List.{cons_option, enumerate_from}
use Rattle.std.specs.List.Sorted.{IsStrictlySortedBy}
use Rattle.std.specs.Ordering.{ordering_then}
use Rattle.std.specs.Prelude.{if◌then◌else◌}
use Rattle.std.proofs.lemmas.Bool.{cases_lt}
use Rattle.std.proofs.lemmas.Cmp.{back_total, nat_cmp_total, on_total, then_total}
use Rattle.std.proofs.lemmas.List.{map-append}
use Rattle.std.proofs.lemmas.List.Elements.{All-append, All-cons, All-nil, recursion_from_All}
use Rattle.std.proofs.lemmas.List.Sorted.{IsPermutation-sym, IsPermutation-trans}
use Rattle.std.proofs.lemmas.Option.{get_or_from_slice_get, slice_get_past}
use Rattle.wf_def.specs.Attribute.{class_of}
use Rattle.wf_def.specs.Definition.{Definition, LayerDefinition, ClassDefinition, LabelDefinition, FeatureDefinition}
use Rattle.wf_def.specs.Limit.{most_priority}
use Rattle.wf_def.specs.Limits.{IsClass, IsLabel, IsLayer, IsWithinLimits}
use Rattle.wf_geometry.specs.Operation.{class_at}
use Rattle.wf_geometry.specs.View.{ViewValue}
use Rattle.wf_label.specs.Anchor.{anchor_of}
use Rattle.wf_label.specs.Label.{candidates, class_label, labels_of, labels_up_to, text_of}
use Rattle.wf_label.specs.Order.{RankedLabel, ranked, ranked_label, ranked_labels, all_labels, label_order, CandidatesAreSorted}
use Rattle.wf_label.specs.Placed.{PlacedValue}
use Rattle.wf_label.specs.Walk.{CandidateValue, candidate_of, chosen, entry_candidates, layer_candidates, walk, with_priority}
use Rattle.wf_label.specs.declared.feature_anchor.Anchor.{Anchor}
use Rattle.wf_label.proofs.LabelLemmas.{priority_chosen}
use Rattle.wf_label.proofs.SortedLemmas.{All-flat_map, IsPermutation-by_levels, IsPermutation-flat_map_reverse, IsSorted-from_strict, IsStrictlySortedBy-append, IsStrictlySortedBy-by_levels, by_levels, flat_map-reverse_more, one_order}

-- ---- the three numbers

label_order_total : IsTotalOrder label_order
label_order_total =
    then_total (on_total (λ (l : RankedLabel). l.priority) (back_total nat_cmp_total))
    (then_total (on_total (λ (l : RankedLabel). l.layer) (back_total nat_cmp_total)) (on_total (λ (l : RankedLabel). l.feature) nat_cmp_total))

-- the order within a priority: the later layer first; within a layer, the earlier feature
abbrev walk_order : RankedLabel → RankedLabel → Ordering
walk_order a b = ordering_then (nat_cmp b.layer a.layer) (nat_cmp a.feature b.feature)

is_less : (x y : ℕ) → x < y → nat_cmp x y ≡ Less
is_less x y less = sym (nat_cmp_is x y Less less)

is_equal : (x y : ℕ) → x ≡ y → nat_cmp x y ≡ Equal
is_equal x y same = sym (nat_cmp_is x y Equal same)

higher_first : (a b : RankedLabel) → b.priority < a.priority → label_order a b ≡ Less
higher_first a b less = ap (λ r. ordering_then r (walk_order a b)) (is_less b.priority a.priority less)

alike_walked : (a b : RankedLabel) → a.priority ≡ b.priority → walk_order a b ≡ Less → label_order a b ≡ Less
alike_walked a b same walked = ap (λ r. ordering_then r (walk_order a b)) (is_equal b.priority a.priority (sym same)) ∙ walked

later_first : (a b : RankedLabel) → b.layer < a.layer → walk_order a b ≡ Less
later_first a b less = ap (λ r. ordering_then r (nat_cmp a.feature b.feature)) (is_less b.layer a.layer less)

earlier_first : (a b : RankedLabel) → a.layer ≡ b.layer → a.feature < b.feature → walk_order a b ≡ Less
earlier_first a b same less = ap (λ r. ordering_then r (nat_cmp a.feature b.feature)) (is_equal b.layer a.layer (sym same)) ∙ is_less a.feature b.feature less

-- ---- one layer

module _ (view : ViewValue) (number : ℕ) (layer : LayerDefinition) where
  -- a label of this layer, of feature k or a later one
  abbrev IsFrom : ℕ → RankedLabel → Type 0
  IsFrom k label = (label.layer ≡ number) × (k ≤ label.feature)

  -- one more feature before the later ones
  feature_sorted : (k : ℕ) (found : Option CandidateValue) (rest : List RankedLabel) → IsStrictlySortedBy walk_order rest → All (IsFrom (k + 1)) rest →
      IsStrictlySortedBy walk_order (cons_option (option_map (ranked number k) found) rest)
  unfolding IsStrictlySortedBy
  feature_sorted k None rest sorted all = sorted
  feature_sorted k (Some c) rest sorted all =
      let first : All (λ y. walk_order (ranked number k c) y ≡ Less) rest =
      λ i d within. let far = all i d within in earlier_first (ranked number k c) (get_or rest i d) (sym far.0) (omega (arith, far.1)) in
      (recursion_from_All (λ y. walk_order (ranked number k c) y ≡ Less) rest first, sorted)

  feature_from : (k : ℕ) (found : Option CandidateValue) (rest : List RankedLabel) → All (IsFrom (k + 1)) rest →
      All (IsFrom k) (cons_option (option_map (ranked number k) found) rest)
  feature_from k None rest all = λ i d within. let far = all i d within in (far.0, omega (arith, far.1))
  feature_from k (Some c) rest all = All-cons (IsFrom k) (ranked number k c) rest (refl, omega arith) (λ i d within. let far = all i d within in (far.0, omega (arith, far.1)))

  features_from : (k : ℕ) (features : List FeatureDefinition) → All (IsFrom k) (filter_map (ranked_label view number layer) (enumerate_from k features))
  unfolding ranked_label
  features_from k [] = All-nil (IsFrom k)
  features_from k (feature ∷ features) =
      feature_from k (candidate_of view layer feature) (filter_map (ranked_label view number layer) (enumerate_from (k + 1) features)) (features_from (k + 1) features)

  features_sorted : (k : ℕ) (features : List FeatureDefinition) → IsStrictlySortedBy walk_order (filter_map (ranked_label view number layer) (enumerate_from k features))
  unfolding ranked_label IsStrictlySortedBy
  features_sorted k [] = tt
  features_sorted k (feature ∷ features) =
      feature_sorted k (candidate_of view layer feature) (filter_map (ranked_label view number layer) (enumerate_from (k + 1) features)) (features_sorted (k + 1) features) (features_from (k + 1) features)

entry_sorted : (view : ViewValue) (number : ℕ) (entry : Option (List ℕ × LayerDefinition)) → IsStrictlySortedBy walk_order (ranked_labels view number entry)
unfolding IsStrictlySortedBy
entry_sorted view number None = tt
entry_sorted view number (Some entry) = features_sorted view number entry.1 0 entry.1.features

entry_from : (view : ViewValue) (number : ℕ) (entry : Option (List ℕ × LayerDefinition)) → All (λ label. label.layer ≡ number) (ranked_labels view number entry)
entry_from view number None = All-nil (λ (label : RankedLabel). label.layer ≡ number)
entry_from view number (Some entry) = λ i d within. (features_from view number entry.1 0 entry.1.features i d within).0

-- ---- the listed layers, from the last to the first

module _ (definition : Definition) (view : ViewValue) where
  abbrev labels_at : ℕ × ℕ → List RankedLabel
  labels_at listed = ranked_labels view listed.0 (slice_get definition.layers listed.1)

  -- all labels in the order of the walk
  abbrev walked_from : ℕ → List ℕ → List RankedLabel
  walked_from number layers = flat_map labels_at (reverse (enumerate_from number layers))

  -- a layer's labels come after those of the layers that are listed later
  walked_more : (number i : ℕ) (layers : List ℕ) → walked_from number (i ∷ layers) ≡ walked_from (number + 1) layers ++ ranked_labels view number (slice_get definition.layers i)
  walked_more number i layers = flat_map-reverse_more labels_at (number, i) (enumerate_from (number + 1) layers)

  walked_later : (number : ℕ) (layers : List ℕ) → All (λ label. number ≤ label.layer) (walked_from number layers)
  walked_later number [] = All-nil (λ (label : RankedLabel). number ≤ label.layer)
  walked_later number (i ∷ layers) =
      let here = entry_from view number (slice_get definition.layers i) in
      let later = walked_later (number + 1) layers in
      subst (λ (l : List RankedLabel). All (λ label. number ≤ label.layer) l) (sym (walked_more number i layers))
      (All-append (λ (label : RankedLabel). number ≤ label.layer) (walked_from (number + 1) layers) (ranked_labels view number (slice_get definition.layers i))
      (λ k d within. omega (arith, later k d within)) (λ k d within. omega (arith, here k d within)))

  walked_sorted : (number : ℕ) (layers : List ℕ) → IsStrictlySortedBy walk_order (walked_from number layers)
  unfolding IsStrictlySortedBy
  walked_sorted number [] = tt
  walked_sorted number (i ∷ layers) =
      let last = ranked_labels view number (slice_get definition.layers i) in
      let front = walked_from (number + 1) layers in
      let here = entry_from view number (slice_get definition.layers i) in
      let later = walked_later (number + 1) layers in
      subst (λ (l : List RankedLabel). IsStrictlySortedBy walk_order l) (sym (walked_more number i layers))
      (IsStrictlySortedBy-append walk_order front last (walked_sorted (number + 1) layers) (entry_sorted view number (slice_get definition.layers i))
      (λ k d within j e inside. later_first (get_or front k d) (get_or last j e) (omega (arith, later k d within, here j e inside))))

-- ---- priorities are within the limits

abbrev IsRank : RankedLabel → Type 0
IsRank label = (1 ≤ label.priority) × (label.priority ≤ most_priority)

-- a property of all items holds for the one at an index
IfSome-get : {X : Type 0} (P : X → Type 0) (xs : List X) (i : ℕ) → All P xs → IfSome (slice_get xs i) P
IfSome-get {X} P xs i all = by_case (slice_get xs i) refl where
  by_case : (o : Option X) → slice_get xs i ≡ o → IfSome o P
  by_case None is = tt
  by_case (Some x) is = elim (cases_lt i (length xs)) [
    | inl inside ↦ subst P (get_or_from_slice_get xs i x x is) (all i x inside)
    | inr past ↦ absurd (true≢false (ap is_some (sym is ∙ slice_get_past xs i past)))
  ]

class_within : (layer : LayerDefinition) (i : Option ℕ) → IsLayer layer → IfSome (class_at layer i) IsClass
class_within layer None is = tt
class_within layer (Some i) is = IfSome-get IsClass layer.classes i is.classes

label_within : (class : Option ClassDefinition) → IfSome class IsClass → IfSome (class_label class) IsLabel
label_within None is = tt
label_within (Some class) is = is.label

found_within : (number k : ℕ) (found : Option LabelDefinition) (text : List ℕ) (anchor : Option Anchor) (rest : List RankedLabel) → IfSome found IsLabel → All IsRank rest →
    All IsRank (cons_option (option_map (ranked number k) (with_priority found text anchor)) rest)
found_within number k None text anchor rest is all = all
found_within number k (Some label) [] anchor rest is all = all
found_within number k (Some label) (b ∷ text) None rest is all = all
found_within number k (Some label) (b ∷ text) (Some anchor) rest is all = All-cons IsRank _ rest (is.priority_least, is.priority_most) all

features_within : (view : ViewValue) (number k : ℕ) (layer : LayerDefinition) (features : List FeatureDefinition) → IsLayer layer → All IsRank (filter_map (ranked_label view number layer) (enumerate_from k features))
unfolding ranked_label candidate_of
features_within view number k layer [] is = All-nil IsRank
features_within view number k layer (feature ∷ features) is =
    let class = class_at layer (class_of layer feature) in
    found_within number k (class_label class) (text_of layer feature) (anchor_of view feature.parts) (filter_map (ranked_label view number layer) (enumerate_from (k + 1) features))
    (label_within class (class_within layer (class_of layer feature) is)) (features_within view number (k + 1) layer features is)

entry_within : (view : ViewValue) (number : ℕ) (entry : Option (List ℕ × LayerDefinition)) → IfSome entry (λ e. IsLayer e.1) → All IsRank (ranked_labels view number entry)
entry_within view number None is = All-nil IsRank
entry_within view number (Some entry) is = features_within view number 0 entry.1 entry.1.features is

walked_within : (definition : Definition) (view : ViewValue) (layers : List ℕ) → IsWithinLimits definition → All IsRank (walked_from definition view 0 layers)
walked_within definition view layers limits =
    All-flat_map IsRank (labels_at definition view) (λ listed. entry_within view listed.0 (slice_get definition.layers listed.1) (IfSome-get (λ e. IsLayer e.1) definition.layers listed.1 limits.layers)) (reverse (enumerate_from 0 layers))

-- ---- what the definition lists

-- a label with its priority only
abbrev without_ranks : RankedLabel → CandidateValue
without_ranks label = record { priority = label.priority; label = label.label }

abbrev label_of_ranked : RankedLabel → PlacedValue
label_of_ranked ranked = ranked.label

one_candidate : (number k : ℕ) (found : Option CandidateValue) (rest : List RankedLabel) → map without_ranks (cons_option (option_map (ranked number k) found) rest) ≡ cons_option found (map without_ranks rest)
one_candidate number k None rest = refl
one_candidate number k (Some c) rest = refl

features_walked : (view : ViewValue) (number k : ℕ) (layer : LayerDefinition) (features : List FeatureDefinition) →
    map without_ranks (filter_map (ranked_label view number layer) (enumerate_from k features)) ≡ filter_map (candidate_of view layer) features
unfolding ranked_label
features_walked view number k layer [] = refl
features_walked view number k layer (feature ∷ features) =
    one_candidate number k (candidate_of view layer feature) (filter_map (ranked_label view number layer) (enumerate_from (k + 1) features))
    ∙ ap (cons_option (candidate_of view layer feature)) (features_walked view number (k + 1) layer features)

entry_walked : (view : ViewValue) (number : ℕ) (entry : Option (List ℕ × LayerDefinition)) → map without_ranks (ranked_labels view number entry) ≡ entry_candidates view entry
unfolding layer_candidates
entry_walked view number None = refl
entry_walked view number (Some entry) = features_walked view number 0 entry.1 entry.1.features

layers_walked : (definition : Definition) (view : ViewValue) (number : ℕ) (layers : List ℕ) →
    map without_ranks (walked_from definition view number layers) ≡ flat_map (λ i. entry_candidates view (slice_get definition.layers i)) (reverse layers)
layers_walked definition view number [] = refl
layers_walked definition view number (i ∷ layers) =
    let entries : ℕ → List CandidateValue = λ n. entry_candidates view (slice_get definition.layers n) in
    let front = walked_from definition view (number + 1) layers in
    let last = ranked_labels view number (slice_get definition.layers i) in
    ap (map without_ranks) (walked_more definition view number i layers)
    ∙ map-append without_ranks front last
    ∙ ap (λ (l : List CandidateValue). l ++ map without_ranks last) (layers_walked definition view (number + 1) layers)
    ∙ ap (λ (l : List CandidateValue). flat_map entries (reverse layers) ++ l) (entry_walked view number (slice_get definition.layers i))
    ∙ sym (flat_map-reverse_more entries i layers)

-- one more label, of the priority or of another
one_chosen : (b : Bool) (label : RankedLabel) (rest : List RankedLabel) (found : List PlacedValue) → found ≡ map label_of_ranked rest →
    cons_option (if b then Some label.label else None) found ≡ map label_of_ranked (cond b (label ∷ rest) rest)
one_chosen true label rest found same = ap (λ (l : List PlacedValue). label.label ∷ l) same
one_chosen false label rest found same = same

-- the labels of a priority
level_chosen : (priority : ℕ) (labels : List RankedLabel) → chosen priority (map without_ranks labels) ≡ map label_of_ranked (filter (λ label. label.priority == priority) labels)
unfolding chosen
level_chosen priority [] = refl
level_chosen priority (label ∷ labels) =
    one_chosen (label.priority == priority) label (filter (λ other. other.priority == priority) labels) (chosen priority (map without_ranks labels)) (level_chosen priority labels)

module _ (definition : Definition) (layers : List ℕ) (view : ViewValue) where
  abbrev walked : List RankedLabel
  walked = walked_from definition view 0 layers

  abbrev ordered : ℕ → List RankedLabel
  ordered n = by_levels (λ label. label.priority) n walked

  level_listed : (priority : ℕ) → labels_of definition layers view priority ≡ map label_of_ranked (filter (λ label. label.priority == priority) walked)
  unfolding walk
  level_listed priority =
      priority_chosen definition layers view priority ∙ ap (chosen priority) (sym (layers_walked definition view 0 layers)) ∙ level_chosen priority walked

  levels_listed : (n : ℕ) → labels_up_to definition layers view n ≡ map label_of_ranked (ordered n)
  unfolding labels_up_to by_levels
  levels_listed zero = refl
  levels_listed (suc n) =
      let front : List RankedLabel = filter (λ label. label.priority == suc n) walked in
      ap (λ (l : List PlacedValue). l ++ labels_up_to definition layers view n) (level_listed (suc n))
      ∙ ap (λ (l : List PlacedValue). map label_of_ranked front ++ l) (levels_listed n)
      ∙ sym (map-append label_of_ranked front (ordered n))

  ordered_has_all : IsWithinLimits definition → IsPermutation (all_labels definition layers view) (ordered most_priority)
  unfolding all_labels
  ordered_has_all limits =
      IsPermutation-trans (flat_map (labels_at definition view) (enumerate_from 0 layers)) walked (ordered most_priority)
      (IsPermutation-flat_map_reverse (labels_at definition view) (enumerate_from 0 layers))
      (IsPermutation-by_levels (λ label. label.priority) most_priority walked (walked_within definition view layers limits))

  ordered_is_sorted : IsStrictlySortedBy label_order (ordered most_priority)
  ordered_is_sorted = IsStrictlySortedBy-by_levels (λ label. label.priority) label_order walk_order higher_first alike_walked most_priority walked (walked_sorted definition view 0 layers)

pub candidates_are_sorted : CandidatesAreSorted
unfolding candidates
candidates_are_sorted definition layers view limits =
    let all = ordered_has_all definition layers view limits in
    let strict = ordered_is_sorted definition layers view in
    record {
      order = ordered definition layers view most_priority;
      is = record { all = all; sorted = IsSorted-from_strict label_order_total (ordered definition layers view most_priority) strict };
      only = λ others is. one_order label_order_total (ordered definition layers view most_priority) others
          (IsPermutation-trans (ordered definition layers view most_priority) (all_labels definition layers view) others (IsPermutation-sym (all_labels definition layers view) (ordered definition layers view most_priority) all) is.all)
          strict is.sorted;
      listed = levels_listed definition layers view most_priority;
    }
