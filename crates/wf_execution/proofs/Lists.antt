-- A list of published maps at each moment, and at a later one.
use Rattle.std.proofs.Common.{◌≡◌, ℕ, zero, suc, ◌≤◌, List, [], ◌∷◌, ◌++◌, slice_get, Some, sym, ap, subst, ◌∙◌, arith, append_assoc}
use Rattle.std.proofs.lemmas.Option.{none-some, same_Some}
use Rattle.wf_def.specs.Definition.{Definition}
use Rattle.wf_safety.specs.Theorems.{IsBeginning}
use Rattle.wf_model.specs.DurableState.{definition_at}
use Rattle.wf_node.specs.Growth.{IsGrown, grown_itself, grown_twice}
use Rattle.wf_node.specs.Node.{Node}

pub begins_by : (xs ys : List Definition) → IsGrown xs ys → IsBeginning xs ys
begins_by xs ys grown = (grown.more, grown.is)

pub begins_through : (xs ys zs : List Definition) → IsBeginning xs ys → IsBeginning ys zs → IsBeginning xs zs
begins_through xs ys zs first second = (first.0 ++ second.0, sym (append_assoc xs first.0 second.0) ∙ ap (λ k. k ++ second.0) first.1 ∙ second.1)

-- each node of the list has published what the one before it had, or more; the first one what
-- `from` has, the last one no more than `to`
abbrev pub Grow : {T : Type 0} → List Definition → List (Node T) → List Definition → Type 0
Grow from [] to = IsGrown from to
Grow from (node ∷ nodes) to = IsGrown from node.parts.history × Grow node.parts.history nodes to

module _ {T : Type 0} where
  pub grow_whole : (from to : List Definition) (nodes : List (Node T)) → Grow from nodes to → IsGrown from to
  grow_whole from to [] grow = grow
  grow_whole from to (node ∷ nodes) grow = grown_twice from node.parts.history to grow.0 (grow_whole node.parts.history to nodes grow.1)

  -- up to each of them
  grow_up_to : (from to : List Definition) (nodes : List (Node T)) (k : ℕ) (node : Node T) → Grow from nodes to → slice_get nodes k ≡ Some node → IsGrown from node.parts.history
  grow_up_to from to [] k node grow at = absurd (none-some node at)
  grow_up_to from to (first ∷ nodes) zero node grow at = subst (λ (x : Node T). IsGrown from x.parts.history) (same_Some first node at) grow.0
  grow_up_to from to (first ∷ nodes) (suc k) node grow at = grown_twice from first.parts.history node.parts.history grow.0 (grow_up_to first.parts.history to nodes k node grow.1 at)

  -- from each of them on
  pub grow_to_end : (from to : List Definition) (nodes : List (Node T)) (k : ℕ) (node : Node T) → Grow from nodes to → slice_get nodes k ≡ Some node → IsGrown node.parts.history to
  grow_to_end from to [] k node grow at = absurd (none-some node at)
  grow_to_end from to (first ∷ nodes) zero node grow at = subst (λ (x : Node T). IsGrown x.parts.history to) (same_Some first node at) (grow_whole first.parts.history to nodes grow.1)
  grow_to_end from to (first ∷ nodes) (suc k) node grow at = grow_to_end first.parts.history to nodes k node grow.1 at

  pub grow_between : (from to : List Definition) (nodes : List (Node T)) (k l : ℕ) (node later : Node T) → Grow from nodes to → k ≤ l →
      slice_get nodes k ≡ Some node → slice_get nodes l ≡ Some later → IsGrown node.parts.history later.parts.history
  grow_between from to [] k l node later grow less at then = absurd (none-some node at)
  grow_between from to (first ∷ nodes) zero zero node later grow less at then =
      let same : node ≡ later = same_Some node later (sym at ∙ then) in
      subst (λ (x : Node T). IsGrown node.parts.history x.parts.history) same (grown_itself node.parts.history)
  grow_between from to (first ∷ nodes) zero (suc l) node later grow less at then =
      subst (λ (x : Node T). IsGrown x.parts.history later.parts.history) (same_Some first node at) (grow_up_to first.parts.history to nodes l later grow.1 then)
  grow_between from to (first ∷ nodes) (suc k) zero node later grow less at then = absurd (omega (arith, less))
  grow_between from to (first ∷ nodes) (suc k) (suc l) node later grow less at then =
      grow_between first.parts.history to nodes k l node later grow.1 (omega (arith, less)) at then

-- ---- one history

at_longer : (xs ys : List Definition) (k : ℕ) (d : Definition) → slice_get xs k ≡ Some d → slice_get (xs ++ ys) k ≡ Some d
at_longer [] ys k d at = absurd (none-some d at)
at_longer (x ∷ xs) ys zero d at = at
at_longer (x ∷ xs) ys (suc k) d at = at_longer xs ys k d at

-- a definition of a list's beginning is one of the list
pub definition_longer : (xs ys : List Definition) (s : ℕ) (d : Definition) → IsBeginning xs ys → definition_at xs s ≡ Some d → definition_at ys s ≡ Some d
unfolding definition_at
definition_longer xs ys zero d begins at = absurd (none-some d at)
definition_longer xs ys (suc k) d begins at = subst (λ zs. slice_get zs k ≡ Some d) begins.1 (at_longer xs begins.0 k d at)

-- Two lists of which one history begins have one definition under one sequence.
pub one_definition : (history xs ys : List Definition) → IsBeginning xs history → IsBeginning ys history → (s : ℕ) (c d : Definition) →
    definition_at xs s ≡ Some c → definition_at ys s ≡ Some d → c ≡ d
one_definition history xs ys first second s c d at other =
    same_Some c d (sym (definition_longer xs history s c first at) ∙ definition_longer ys history s d second other)
