-- A proposal at one of three new nodes is published on all.
use Rattle.std.proofs.Common.{◌≡◌, ◌<◌, ℕ, zero, suc, true, false, List, [], ◌∷◌, length, slice_get, slice_set, Some, Ok, Vec, refl, sym, ap, subst, ◌∙◌, arith}
use Rattle.wf_delivery.proofs.NewCommon.{Global, AllByRecursion, none-some, same_Some, slice_get_within, Message, Definition, definition_eq, World, propose, happens, input_of, start, steps, transition_grown, Node, IsStep, transition_of, AnyPart, AreNodes, Refines, StandInTurn, KeepTurn, AreHandedOut, keeps_turn, AreFresh, NoneHalted, AllPublish, HaveBeenDelivered, PublishedOnAll, AreTargets, deliveries, rounds}
use Rattle.wf_def.specs.EqualityTheorems.{definition_eq_equiv}
use Rattle.wf_model.specs.Table as table
use Rattle.wf_model.specs.World as world
use Rattle.wf_delivery.proofs.Deliveries.{is_running, steps_shown}
use Rattle.wf_delivery.proofs.Exactly.{as_many_sent, delivered_exactly, ends_once, whole_rounds}
use Rattle.wf_delivery.proofs.UpTo.{IsUpTo, none_up_to, one_up_to, up_to_targets}
use Rattle.wf_delivery.proofs.OneRun.{fresh_shown}
use Rattle.wf_delivery.proofs.ThreeNodes.{IsEnded, three, world_at, is_run, all_sent, all_ended, all_counted}
use Rattle.wf_tape.specs.declared.tape.Tape.{Ghosts as Tape}

-- ---- the world

same_itself : (d : Definition) → definition_eq d d ≡ true
same_itself d = definition_eq_equiv.refl d

-- what holds of all elements holds of that at an index
one_of_all : {A : Type 0} (P : A → Type 0) (xs : List A) (i : ℕ) (x : A) → AllByRecursion P xs → slice_get xs i ≡ Some x → P x
one_of_all P [] i x all at = absurd (none-some x at)
one_of_all P (y ∷ xs) zero x all at = subst P (same_Some y x at) all.0
one_of_all P (y ∷ xs) (suc i) x all at = one_of_all P xs i x all.1 at

module _ (d : Definition) (i : ℕ) (node : i < 3) where
  abbrev pub began : World Definition
  began = happens definition_eq (start 3) (propose i d)

  abbrev pub after_rounds : ℕ → World Definition
  after_rounds k = steps definition_eq began (rounds three 0 k)

  nine_rounds : after_rounds 9 ≡ world_at d i 9
  nine_rounds = is_run d definition_eq (same_itself d) i node 9 (omega arith)

  -- Nine rounds are made until no message is left.
  nine : (k : ℕ) → k ≡ length (after_rounds k).sent → k ≡ 9
  nine k ends = sym (ends_once began three 9 k (sym (ap (λ (w : World Definition). length w.sent) nine_rounds ∙ all_sent d i node)) ends)

  -- Then each node has published the definition, and runs no proposal.
  pub published : (k : ℕ) → k ≡ length (after_rounds k).sent → (j : ℕ) (x : world.Node Definition) → slice_get (after_rounds k).nodes j ≡ Some x → IsEnded d x
  published k ends j x at =
      let is : after_rounds k ≡ world_at d i 9 = ap after_rounds (nine k ends) ∙ nine_rounds in
      one_of_all (IsEnded d) (world_at d i 9).nodes j x (all_ended d i node) (subst (λ (w : World Definition). slice_get w.nodes j ≡ Some x) is at)

-- the nodes of three
three_up_to : IsUpTo 3 three
three_up_to = one_up_to 2 (0 ∷ 1 ∷ []) (one_up_to 1 (0 ∷ []) (one_up_to 0 [] none_up_to))

pub are_three : (targets : List ℕ) → IsUpTo 3 targets → targets ≡ three
are_three [] is = absurd (omega (arith, is.long))
are_three (a ∷ []) is = absurd (omega (arith, is.long))
are_three (a ∷ b ∷ []) is = absurd (omega (arith, is.long))
are_three (a ∷ b ∷ c ∷ []) is =
    ap (λ x. x ∷ b ∷ c ∷ []) (is.own 0 0 (omega arith)) ∙ ap (λ x. 0 ∷ x ∷ c ∷ []) (is.own 1 0 (omega arith)) ∙ ap (λ x. 0 ∷ 1 ∷ x ∷ []) (is.own 2 0 (omega arith))
are_three (a ∷ b ∷ c ∷ e ∷ more) is = absurd (omega (arith, is.long))

-- ---- nodes that a caller holds

-- In a world in which each node has published the definition, so have the nodes, if none is halted.
published_by : {T : Type 0} (nodes : List (Node T)) (w : World Definition) (d : Definition) → ((i : ℕ) (x : world.Node Definition) → slice_get w.nodes i ≡ Some x → IsEnded d x) → AreNodes AnyPart nodes w.nodes →
    NoneHalted nodes → AllPublish nodes d
unfolding NoneHalted AllPublish
published_by nodes w d each shown none = λ i node at.
    let here = shown.node_is i node at in
    subst (IsEnded d) (is_running (AnyPart i) node here.0 (none i node at) here.2) (each i here.0 here.1)

module _ {T : Type 0} (tapes : Tape T) (nodes : List (Node T)) (i : ℕ) (before proposed : Node T) (d : Definition) (outputs : Vec Message Global)
    (long : length nodes ≡ 3) (turns : StandInTurn nodes) (fresh : AreFresh nodes) (at : slice_get nodes i ≡ Some before) (step : IsStep tapes before (table.Propose d) (Ok outputs) proposed) where
  node_within : i < 3
  node_within = let within : i < length nodes = slice_get_within nodes i before at in omega (arith, within, long)

  -- The proposal leads to exactly the world after it.
  proposed_shown : Refines AnyPart (slice_set nodes i proposed) outputs.items (began d i node_within)
  unfolding happens input_of AreFresh
  proposed_shown =
      steps_shown AnyPart nodes [] i before proposed (table.Propose d) (table.Propose d) at refl turns (start 3) outputs.items (fresh i before at).runs (sym step.refused) step.done
      (subst (λ n. Refines AnyPart nodes [] (start n)) long (fresh_shown AnyPart nodes fresh))

  proposed_turn : KeepTurn nodes (slice_set nodes i proposed)
  proposed_turn = keeps_turn nodes i before proposed at (step.done.id, step.done.n, transition_grown before proposed (transition_of before (table.Propose d)) outputs.items step.done)

  module _ (after : List (Node T)) (done : ℕ) (out : AreHandedOut tapes (slice_set nodes i proposed) outputs.items done 0 false after) (none : NoneHalted after) where
    many : length (slice_set nodes i proposed) ≡ 3
    many = proposed_turn.as_many ∙ long

    delivered : HaveBeenDelivered three (began d i node_within) done false after
    delivered =
        delivered_exactly tapes (slice_set nodes i proposed) after outputs.items done false (began d i node_within) three (omega (arith, many))
        (subst (λ n. AreTargets n [] three) (sym many) (up_to_targets 3 three three_up_to)) (proposed_turn.in_turn turns) proposed_shown out none

    in_rounds : deliveries three 0 delivered.come.whole delivered.come.some ≡ rounds three 0 delivered.come.whole
    in_rounds = ap (deliveries three 0 delivered.come.whole) delivered.ended.0 ∙ whole_rounds (began d i node_within) three delivered.come.whole

    delivered_shown : Refines AnyPart after delivered.sent (after_rounds d i node_within delivered.come.whole)
    delivered_shown = subst (λ es. Refines AnyPart after delivered.sent (steps definition_eq (began d i node_within) es)) in_rounds delivered.refines

    delivered_ends : delivered.come.whole ≡ length (after_rounds d i node_within delivered.come.whole).sent
    delivered_ends = delivered.ended.1 ∙ sym (as_many_sent after delivered.sent (after_rounds d i node_within delivered.come.whole) delivered_shown)

    all_done : done ≡ 27
    all_done =
        sym delivered.counted ∙ ap length (ap (deliveries three 0 delivered.come.whole) delivered.ended.0)
        ∙ ap (λ k. length (deliveries three 0 k 0)) (nine d i node_within delivered.come.whole delivered_ends) ∙ all_counted

    all_publish : AllPublish after d
    all_publish =
        published_by after (after_rounds d i node_within delivered.come.whole) d (published d i node_within delivered.come.whole delivered_ends) delivered_shown.nodes_are none

pub published_on_all : {T : Type 0} (tapes : Tape T) → PublishedOnAll tapes
published_on_all tapes = λ nodes after i before proposed d outputs done long turns fresh at step out none. (
  all_done tapes nodes i before proposed d outputs long turns fresh at step after done out none,
  all_publish tapes nodes i before proposed d outputs long turns fresh at step after done out none,
)
