-- Each message that the sessions' items deliver was returned by an earlier one.
use Rattle.std.proofs.Common.{◌≡◌, ◌⊎◌, ℕ, zero, suc, ◌<◌, ◌≤◌, List, [], ◌∷◌, ◌++◌, length, slice_get, Some, refl, sym, ap, subst, ◌∙◌, inl, inr, arith, append-nil, append_assoc, length-set}
use Rattle.std.proofs.lemmas.Option.{slice_get_within, slice_get_cases}
use Rattle.wf_execution.specs.Execution.{Item, items_at, IsOneOf, AreInTurn}
use Rattle.wf_execution.specs.Theorems.{outputs_in}
use Rattle.wf_execution.specs.Run.{Input, RunEnd, Between, Within, Failed}
use Rattle.wf_codec.specs.declared.message.Message.{Message}
use Rattle.wf_model.specs.Chosen.{IsIn}
use Rattle.wf_model.specs.declared.action.Action.TheVariants as action
use Rattle.wf_node.specs.Node.{Node}
use Rattle.wf_tape.specs.declared.tape.Tape.{Ghosts as Tape}
use Rattle.wf_runs.specs.Session.{SessionStep, NodeSession, AreStepsTaken, returned, stepped}
use Rattle.wf_runs.specs.Folder.{IsEndBy, IsLeftAt, IsSession, AreSessions}
use Rattle.wf_runs.proofs.Items.{made, cuts, all_items}

-- ---- messages that are among others

abbrev pub AreAmong : List Message → List Message → Type 0
AreAmong xs ys = (m : Message) → IsIn m xs → IsIn m ys

pub in_first : (m : Message) (xs ys : List Message) → IsIn m xs → IsIn m (xs ++ ys)
in_first m [] ys is = absurd is
in_first m (x ∷ xs) ys (inl same) = inl same
in_first m (x ∷ xs) ys (inr later) = inr (in_first m xs ys later)

pub in_second : (m : Message) (xs ys : List Message) → IsIn m ys → IsIn m (xs ++ ys)
in_second m [] ys is = is
in_second m (x ∷ xs) ys is = inr (in_second m xs ys is)

in_either : (m : Message) (xs ys : List Message) → IsIn m (xs ++ ys) → IsIn m xs ⊎ IsIn m ys
in_either m [] ys is = inr is
in_either m (x ∷ xs) ys (inl same) = inl (inl same)
in_either m (x ∷ xs) ys (inr later) = elim (in_either m xs ys later) [
  | inl front ↦ inl (inr front)
  | inr back ↦ inr back
]

pub among_more : (xs ys more : List Message) → AreAmong xs ys → AreAmong (xs ++ more) (ys ++ more)
among_more xs ys more are = λ m is. elim (in_either m xs more is) [
  | inl front ↦ in_first m ys more (are m front)
  | inr back ↦ in_second m ys more back
]

pub arrived_among : (xs ys : List Message) → AreAmong xs ys → (input : Input) → IsOneOf xs input → IsOneOf ys input
arrived_among xs ys are (action.Propose d) is = tt
arrived_among xs ys are action.Retry is = tt
arrived_among xs ys are action.CatchUp is = tt
arrived_among xs ys are (action.Deliver m) is = are m is

-- ---- items in turn

pub turn_both : (n : ℕ) (sent : List Message) (items more : List Item) → AreInTurn n sent items → AreInTurn n (sent ++ outputs_in items) more → AreInTurn n sent (items ++ more)
unfolding outputs_in
turn_both n sent [] more are later = subst (λ ms. AreInTurn n ms more) (append-nil sent) later
turn_both n sent (item ∷ items) more are later =
    (are.0, are.1, turn_both n (sent ++ item.outputs) items more are.2 (subst (λ ms. AreInTurn n ms more) (sym (append_assoc sent item.outputs (outputs_in items))) later))

module _ {T : Type 0} (tapes : Tape T) (n : ℕ) where
  pub outputs_made : (steps : List (SessionStep T)) → outputs_in (made steps) ≡ returned steps
  unfolding outputs_in returned
  outputs_made [] = refl
  outputs_made (step ∷ steps) = ap (λ ms. step.act.outputs ++ ms) (outputs_made steps)

  pub made_turn : (sent among : List Message) (nodes : List (Node T)) (steps : List (SessionStep T)) → length nodes ≡ n → AreAmong sent among → AreStepsTaken tapes sent nodes steps → AreInTurn n among (made steps)
  made_turn sent among nodes [] long are taken = tt
  made_turn sent among nodes (step ∷ steps) long are taken =
      let one = taken.0 in (
        subst (λ k. step.node_index < k) long (slice_get_within nodes step.node_index one.before one.at),
        arrived_among sent among are step.act.input one.arrived,
        made_turn (sent ++ step.act.outputs) (among ++ step.act.outputs) (stepped nodes step) steps (length-set nodes step.node_index step.act.after ∙ long) (among_more sent among step.act.outputs are) taken.1,
      )

-- ---- cuts

cut_turn : (n i : ℕ) (sent among : List Message) (end : RunEnd) → i < n → AreAmong sent among → IsEndBy sent end → AreInTurn n among (items_at i end)
cut_turn n i sent among Between less are by = tt
cut_turn n i sent among (Within input) less are by = (less, arrived_among sent among are input by, tt)
cut_turn n i sent among (Failed input) less are by = tt

cuts_turn : (n k : ℕ) (sent among : List Message) (ends : ℕ → RunEnd) → k ≤ n → AreAmong sent among → ((i : ℕ) → i < k → IsEndBy sent (ends i)) → AreInTurn n among (cuts k ends)
cuts_turn n zero sent among ends most are by = tt
cuts_turn n (suc k) sent among ends most are by =
    turn_both n among (cuts k ends) (items_at k (ends k)) (cuts_turn n k sent among ends (omega (arith, most)) are (λ i less. by i (omega (arith, less))))
    (cut_turn n k sent (among ++ outputs_in (cuts k ends)) (ends k) (omega (arith, most)) (λ m is. in_first m among (outputs_in (cuts k ends)) (are m is)) (by k (omega arith)))

-- ---- all sessions

module _ {T : Type 0} (tapes : Tape T) (n : ℕ) where
  -- where there are n nodes, there is one at each index below n
  pub node_at : (nodes : List (Node T)) (i : ℕ) → length nodes ≡ n → i < n → (node : Node T) × (slice_get nodes i ≡ Some node)
  node_at nodes i long less = elim (slice_get_cases nodes i).1 [
    | inl at ↦ (at.0, at.2)
    | inr past ↦ absurd (omega (arith, past.0, long, less))
  ]

  ended_by : (session next : NodeSession T) → IsSession tapes n (IsLeftAt session) next → (i : ℕ) → i < n → IsEndBy (returned session.steps) (session.ends i)
  ended_by session next is i less =
      let there = node_at next.nodes i is.as_many less in
      (is.opened i there.0 there.1).may_be.sent

  pub all_turn : (found : ℕ → List ℕ → Type 0) (sent : List Message) (sessions : List (NodeSession T)) → AreSessions tapes n found sessions → AreInTurn n sent (all_items n sessions)
  all_turn found sent [] are = tt
  all_turn found sent (session ∷ []) are = made_turn tapes n [] sent session.nodes session.steps are.0.as_many (λ m is. absurd is) are.0.taken
  all_turn found sent (session ∷ (next ∷ later)) are =
      turn_both n sent (made session.steps) (cuts n session.ends ++ all_items n (next ∷ later))
      (made_turn tapes n [] sent session.nodes session.steps are.0.as_many (λ m is. absurd is) are.0.taken)
      (turn_both n (sent ++ outputs_in (made session.steps)) (cuts n session.ends) (all_items n (next ∷ later))
      (cuts_turn n n (returned session.steps) (sent ++ outputs_in (made session.steps)) session.ends (omega arith)
      (λ m is. in_second m sent (outputs_in (made session.steps)) (subst (IsIn m) (sym (outputs_made tapes n session.steps)) is))
      (λ i less. ended_by session next are.1.0 i less))
      (all_turn (IsLeftAt session) ((sent ++ outputs_in (made session.steps)) ++ outputs_in (cuts n session.ends)) (next ∷ later) are.1))
