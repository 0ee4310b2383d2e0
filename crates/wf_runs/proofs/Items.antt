-- The steps of sessions as the items of `wf_execution`: each node's own, in their order.
use Rattle.std.proofs.Common.{◌≡◌, ◌≢◌, ℕ, zero, suc, ◌<◌, ◌≤◌, List, [], ◌∷◌, ◌++◌, refl, sym, ap, ◌∙◌, inl, inr, arith, append-nil, eq-eqb, ne_eqb}
use Rattle.std.proofs.lemmas.Bool.{cases_eq}
use Rattle.wf_execution.specs.Execution.{Item, items_of, items_by, items_at}
use Rattle.wf_execution.specs.Run.{Act, RunEnd, Between, Within, Failed}
use Rattle.wf_runs.specs.Session.{SessionStep, NodeSession, acts_at}

-- ---- the items of one process

own_item : (i : ℕ) (item : Item) (items : List Item) → item.process ≡ i → items_of i (item ∷ items) ≡ item ∷ items_of i items
unfolding items_of
own_item i item items same = rw (eq-eqb item.process i same) refl

other_item : (i : ℕ) (item : Item) (items : List Item) → item.process ≢ i → items_of i (item ∷ items) ≡ items_of i items
unfolding items_of
other_item i item items differs = rw (ne_eqb item.process i differs) refl

none_of : (i : ℕ) → items_of i [] ≡ []
unfolding items_of
none_of i = refl

pub more_of : (i : ℕ) (items more : List Item) → items_of i (items ++ more) ≡ items_of i items ++ items_of i more
more_of i [] more = ap (λ xs. xs ++ items_of i more) (sym (none_of i))
more_of i (item ∷ items) more = elim (cases_eq item.process i) [
  | inl own ↦ own_item i item (items ++ more) own ∙ ap (λ xs. item ∷ xs) (more_of i items more) ∙ ap (λ xs. xs ++ items_of i more) (sym (own_item i item items own))
  | inr other ↦ other_item i item (items ++ more) other ∙ more_of i items more ∙ ap (λ xs. xs ++ items_of i more) (sym (other_item i item items other))
]

no_acts : (T : Type 0) (i : ℕ) → acts_at {T = T} i [] ≡ []
unfolding acts_at
no_acts T i = refl

by_none : (T : Type 0) (i : ℕ) → items_by {T = T} i [] ≡ []
unfolding items_by
by_none T i = refl

-- ---- the acts of one node

module _ {T : Type 0} where
  pub acts_own : (i : ℕ) (step : SessionStep T) (steps : List (SessionStep T)) → step.node_index ≡ i → acts_at i (step ∷ steps) ≡ step.act ∷ acts_at i steps
  unfolding acts_at
  acts_own i step steps same = rw (eq-eqb step.node_index i same) refl

  pub acts_other : (i : ℕ) (step : SessionStep T) (steps : List (SessionStep T)) → step.node_index ≢ i → acts_at i (step ∷ steps) ≡ acts_at i steps
  unfolding acts_at
  acts_other i step steps differs = rw (ne_eqb step.node_index i differs) refl

  abbrev item_by : ℕ → Act T → Item
  item_by i act = record { process = i; takes = act.input; outputs = act.outputs }

  by_one_more : (i : ℕ) (act : Act T) (acts : List (Act T)) → items_by i (act ∷ acts) ≡ item_by i act ∷ items_by i acts
  unfolding items_by
  by_one_more i act acts = refl

  -- the items of these steps
  abbrev pub made : List (SessionStep T) → List Item
  made [] = []
  made (step ∷ steps) = item_by step.node_index step.act ∷ made steps

  pub made_own : (i : ℕ) (steps : List (SessionStep T)) → items_of i (made steps) ≡ items_by i (acts_at i steps)
  made_own i [] = none_of i ∙ sym (ap (items_by i) (no_acts T i) ∙ by_none T i)
  made_own i (step ∷ steps) = elim (cases_eq step.node_index i) [
    | inl own ↦
        own_item i (item_by step.node_index step.act) (made steps) own
        ∙ ap (λ k. item_by k step.act ∷ items_of i (made steps)) own
        ∙ ap (λ xs. item_by i step.act ∷ xs) (made_own i steps)
        ∙ sym (ap (items_by i) (acts_own i step steps own) ∙ by_one_more i step.act (acts_at i steps))
    | inr other ↦
        other_item i (item_by step.node_index step.act) (made steps) other ∙ made_own i steps ∙ sym (ap (items_by i) (acts_other i step steps other))
  ]

-- ---- what was cut when a session ended

-- the items of the first nodes, this many
abbrev pub cuts : ℕ → (ℕ → RunEnd) → List Item
cuts zero ends = []
cuts (suc k) ends = cuts k ends ++ items_at k (ends k)

cut_own : (i : ℕ) (end : RunEnd) → items_of i (items_at i end) ≡ items_at i end
cut_own i Between = none_of i
cut_own i (Within input) = own_item i (record { process = i; takes = input; outputs = [] }) [] refl ∙ ap (λ xs. record { process = i; takes = input; outputs = [] } ∷ xs) (none_of i)
cut_own i (Failed input) = none_of i

cut_other : (i k : ℕ) (end : RunEnd) → k ≢ i → items_of i (items_at k end) ≡ []
cut_other i k Between differs = none_of i
cut_other i k (Within input) differs = other_item i (record { process = k; takes = input; outputs = [] }) [] differs ∙ none_of i
cut_other i k (Failed input) differs = none_of i

module _ (i : ℕ) (ends : ℕ → RunEnd) where
  cuts_below : (k : ℕ) → k ≤ i → items_of i (cuts k ends) ≡ []
  cuts_below zero less = none_of i
  cuts_below (suc k) less =
      more_of i (cuts k ends) (items_at k (ends k)) ∙ ap (λ xs. xs ++ items_of i (items_at k (ends k))) (cuts_below k (omega (arith, less)))
      ∙ cut_other i k (ends k) (λ e. omega (arith, less, e))

  pub cuts_own : (n : ℕ) → i < n → items_of i (cuts n ends) ≡ items_at i (ends i)
  cuts_own zero less = absurd (omega (arith, less))
  cuts_own (suc k) less = elim (cases_eq k i) [
    | inl same ↦
        more_of i (cuts k ends) (items_at k (ends k)) ∙ ap (λ xs. xs ++ items_of i (items_at k (ends k))) (cuts_below k (omega (arith, same)))
        ∙ ap (λ j. items_of i (items_at j (ends j))) same ∙ cut_own i (ends i)
    | inr differs ↦
        more_of i (cuts k ends) (items_at k (ends k)) ∙ ap (λ xs. items_of i (cuts k ends) ++ xs) (cut_other i k (ends k) differs)
        ∙ append-nil (items_of i (cuts k ends)) ∙ cuts_own k (omega (arith, less, differs))
  ]

-- ---- all of them: where another session comes after it, a session is cut

abbrev pub all_items : {T : Type 0} → ℕ → List (NodeSession T) → List Item
all_items n [] = []
all_items n (session ∷ []) = made session.steps
all_items n (session ∷ (next ∷ later)) = made session.steps ++ (cuts n session.ends ++ all_items n (next ∷ later))
