-- The nodes below a number, each at its own index.
use Rattle.std.proofs.Common.{◌≡◌, ◌∙◌, ◌+◌, ◌<◌, ◌≤◌, ℕ, zero, suc, List, [], ◌∷◌, ◌++◌, length, get_or, refl, sym, subst, ap, inl, inr, arith}
use Rattle.wf_delivery.proofs.NewCommon.{cases_lt, get_or_append_left, get_or_default, get_or_push, length_push, AreTargets}

-- The nodes below k, each at its own index.
pub record IsUpTo (k : ℕ) (nodes : List ℕ) : Type 0 where
  pub long : length nodes ≡ k
  pub own : (i d : ℕ) → i < k → get_or nodes i d ≡ i

pub none_up_to : IsUpTo 0 []
none_up_to = record { long = refl; own = λ i d less. absurd (omega (arith, less)) }

-- One more node, appended.
pub one_up_to : (k : ℕ) (nodes : List ℕ) → IsUpTo k nodes → IsUpTo (k + 1) (nodes ++ k ∷ [])
one_up_to k nodes is = record {
  long = length_push nodes k ∙ ap (λ n. n + 1) is.long;
  own = λ i d less. elim (cases_lt i k) [
    | inl lower ↦ get_or_append_left nodes (k ∷ []) d i (omega (arith, lower, is.long)) ∙ is.own i d lower
    | inr last ↦ get_or_push nodes k d i (is.long ∙ omega (arith, less, last)) ∙ omega (arith, less, last)
  ];
}

-- All the nodes are the targets if none is named.
pub up_to_targets : (n : ℕ) (nodes : List ℕ) → IsUpTo n nodes → AreTargets n [] nodes
up_to_targets n nodes is = record {
  ascending = λ k within. omega (arith, is.own k 0 (omega (arith, within, is.long)), is.own (k + 1) 0 (omega (arith, within, is.long)));
  named = λ i. (
    λ there. omega (arith, there.1, is.long, there.2, is.own there.0 i (omega (arith, there.1, is.long))),
    λ less. (i, omega (arith, less, is.long), is.own i i less),
  );
}

-- Conversely, if none is named the targets are all the nodes, each at its own index.
module _ (n : ℕ) (targets : List ℕ) (are : AreTargets n [] targets) where
  at_least : (k : ℕ) → k < length targets → k ≤ get_or targets k 0
  at_least zero within = omega arith
  at_least (suc k) within = let next : get_or targets k 0 < get_or targets (k + 1) 0 = are.ascending k (omega (arith, within)) in omega (arith, subst (λ m. get_or targets k 0 < get_or targets m 0) (let is : k + 1 ≡ suc k = omega arith in is) next, at_least k (omega (arith, within)))

  is_node : (k : ℕ) → k < length targets → get_or targets k 0 < n
  is_node k within = (are.named (get_or targets k 0)).0 (k, within, get_or_default targets k (get_or targets k 0) 0 within)

  own_below : (m i : ℕ) → i < m → i < n → (i < length targets) × (get_or targets i 0 ≡ i)
  own_below zero i below less = absurd (omega (arith, below))
  own_below (suc m) i below less =
      let there = (are.named i).1 less in
      let is : get_or targets there.0 0 ≡ i = sym (get_or_default targets there.0 i 0 there.1) ∙ there.2 in
      elim (cases_lt there.0 i) [
        | inl lower ↦ absurd (omega (arith, lower, is, (own_below m there.0 (omega (arith, lower, below)) (omega (arith, lower, less))).1))
        | inr higher ↦
            let it : there.0 ≡ i = omega (arith, higher, is, at_least there.0 there.1) in
            (subst (λ k. k < length targets) it there.1, subst (λ k. get_or targets k 0 ≡ k) it (is ∙ sym it))
      ]

  all_long : length targets ≡ n
  all_long = elim (cases_lt (length targets) n) [
    | inl fewer ↦ absurd (omega (arith, (own_below (suc (length targets)) (length targets) (omega arith) fewer).0))
    | inr enough ↦ elim (cases_lt n (length targets)) [
      | inl more ↦ absurd (omega (arith, at_least n more, is_node n more))
      | inr no_more ↦ omega (arith, enough, no_more)
    ]
  ]

  pub targets_up_to : IsUpTo n targets
  targets_up_to = record {
    long = all_long;
    own = λ i d less.
        let here = own_below (suc i) i (omega arith) less in
        get_or_default targets i d 0 here.0 ∙ here.1;
  }
