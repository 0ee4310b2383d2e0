-- A node that stays the same keeps its index among the others and its list of published maps; a
-- node whose tape failed is unchanged.
use Rattle.std.proofs.Common.{◌≡◌, ℕ, Bool, true, false, List, slice_get, slice_set, Some, length-set, refl, sym, ap, subst, ◌∙◌, inl, inr}
use Rattle.wf_delivery.specs.Common.{cases_eq, same_Some, IsGrown, grown_itself, grown_twice, Node}
use Rattle.wf_delivery.specs.Delivery.{EachGrows, KeepHalted, KeepTurn, NoneHalted, StandAmong}
use Rattle.wf_delivery.specs.IndexTheorems.{get_set_same, get_set_other, set_there}

-- ---- the lists

pub each_grows_itself : {T : Type 0} (nodes : List (Node T)) → EachGrows nodes nodes
unfolding EachGrows
each_grows_itself nodes = λ i node at. (node, at, grown_itself node.parts.history)

pub each_grows_twice : {T : Type 0} (nodes middle after : List (Node T)) → EachGrows nodes middle → EachGrows middle after → EachGrows nodes after
unfolding EachGrows
each_grows_twice nodes middle after first second = λ i node at.
    let here = first i node at in
    let next = second i here.0 here.1 in
    (next.0, next.1, grown_twice node.parts.history here.0.parts.history next.0.parts.history here.2 next.2)

one_grows : {T : Type 0} (nodes : List (Node T)) (i : ℕ) (node after : Node T) → slice_get nodes i ≡ Some node → IsGrown node.parts.history after.parts.history →
    EachGrows nodes (slice_set nodes i after)
unfolding EachGrows
one_grows nodes i node after at grown = λ j other there. elim (cases_eq j i) [
  | inl same ↦
      let it : node ≡ other = same_Some node other (sym at ∙ subst (λ k. slice_get nodes k ≡ Some other) same there) in (
        after,
        subst (λ k. slice_get (slice_set nodes i after) k ≡ Some after) (sym same) (set_there nodes i after node at),
        subst (λ n. IsGrown n.parts.history after.parts.history) it grown,
      )
  | inr differs ↦ (other, get_set_other nodes i j after differs ∙ there, grown_itself other.parts.history)
]

-- ---- the nodes whose tapes failed

pub halted_itself : {T : Type 0} (nodes : List (Node T)) → KeepHalted nodes nodes
unfolding KeepHalted
halted_itself nodes = λ i node at halted. at

pub halted_twice : {T : Type 0} (nodes middle after : List (Node T)) → KeepHalted nodes middle → KeepHalted middle after → KeepHalted nodes after
unfolding KeepHalted
halted_twice nodes middle after first second = λ i node at halted. second i node (first i node at halted) halted

-- If no tape has failed afterwards, none had before.
pub none_before : {T : Type 0} (nodes after : List (Node T)) → KeepHalted nodes after → NoneHalted after → NoneHalted nodes
unfolding KeepHalted NoneHalted
none_before {T} nodes after keeps none = λ i node at. runs_by node.halted i node at refl
  where
    runs_by : (halted : Bool) (i : ℕ) (node : Node T) → slice_get nodes i ≡ Some node → node.halted ≡ halted → node.halted ≡ false
    runs_by true i node at is = none i node (keeps i node at is)
    runs_by false i node at is = is

-- ---- the turn

pub keeps_turn_itself : {T : Type 0} (nodes : List (Node T)) → KeepTurn nodes nodes
keeps_turn_itself nodes = record { as_many = refl; in_turn = λ turns. turns; lists = each_grows_itself nodes }

pub keeps_turn_twice : {T : Type 0} (nodes middle after : List (Node T)) → KeepTurn nodes middle → KeepTurn middle after → KeepTurn nodes after
keeps_turn_twice nodes middle after first second = record {
  as_many = second.as_many ∙ first.as_many;
  in_turn = λ turns. second.in_turn (first.in_turn turns);
  lists = each_grows_twice nodes middle after first.lists second.lists;
}

pub keeps_turn : {T : Type 0} (nodes : List (Node T)) (i : ℕ) (node after : Node T) → slice_get nodes i ≡ Some node → (after.id ≡ node.id) × (after.n ≡ node.n) × IsGrown node.parts.history after.parts.history → KeepTurn nodes (slice_set nodes i after)
unfolding StandAmong
keeps_turn {T} nodes i node after at stays = record {
  as_many = length-set nodes i after;
  in_turn = λ turns j n e. elim (cases_eq j i) [
    | inl same ↦
        let it : after ≡ n = get_set_same nodes i after node n at (subst (λ k. slice_get (slice_set nodes i after) k ≡ Some n) same e) in
        (ap (λ (y : Node T). y.id) (sym it) ∙ stays.0 ∙ (turns i node at).0 ∙ sym same, ap (λ (y : Node T). y.n) (sym it) ∙ stays.1 ∙ (turns i node at).1 ∙ sym (length-set nodes i after))
    | inr differs ↦
        let there = turns j n (sym (get_set_other nodes i j after differs) ∙ e) in
        (there.0, there.1 ∙ sym (length-set nodes i after))
  ];
  lists = one_grows nodes i node after at stays.2;
}
