-- Three nodes, or one, each at the index of its number.
use Rattle.std.proofs.Common.{◌≡◌, ℕ, zero, suc, [], ◌∷◌, slice_get, Some, subst}
use Rattle.std.proofs.lemmas.Option.{none-some, same_Some}
use Rattle.wf_delivery.specs.Delivery.{StandAmong, StandInTurn}
use Rattle.wf_node.specs.Node.{Node}

module _ {T : Type 0} (first second third : Node T) (first_id : first.id ≡ 0) (first_of : first.n ≡ 3) (second_id : second.id ≡ 1) (second_of : second.n ≡ 3) (third_id : third.id ≡ 2) (third_of : third.n ≡ 3) where
  at_offset : (i : ℕ) (node : Node T) → slice_get (first ∷ second ∷ third ∷ []) i ≡ Some node → (node.id ≡ i) × (node.n ≡ 3)
  at_offset zero node e = subst (λ x. (x.id ≡ 0) × (x.n ≡ 3)) (same_Some first node e) (first_id, first_of)
  at_offset (suc zero) node e = subst (λ x. (x.id ≡ 1) × (x.n ≡ 3)) (same_Some second node e) (second_id, second_of)
  at_offset (suc (suc zero)) node e = subst (λ x. (x.id ≡ 2) × (x.n ≡ 3)) (same_Some third node e) (third_id, third_of)
  at_offset (suc (suc (suc i))) node e = absurd (none-some node e)

  pub three_in_turn : StandInTurn (first ∷ second ∷ third ∷ [])
  unfolding StandAmong
  three_in_turn = λ i node e. at_offset i node e

module _ {T : Type 0} (first : Node T) (first_id : first.id ≡ 0) (first_of : first.n ≡ 1) where
  at_first : (i : ℕ) (node : Node T) → slice_get (first ∷ []) i ≡ Some node → (node.id ≡ i) × (node.n ≡ 1)
  at_first zero node e = subst (λ x. (x.id ≡ 0) × (x.n ≡ 1)) (same_Some first node e) (first_id, first_of)
  at_first (suc i) node e = absurd (none-some node e)

  pub one_in_turn : StandInTurn (first ∷ [])
  unfolding StandAmong
  one_in_turn = λ i node e. at_first i node e
