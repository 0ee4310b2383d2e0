-- The values of the node at one index, at each moment of the sessions, are those of its process's
-- execution, in their order.
use Rattle.std.proofs.Common.{◌≡◌, ◌≢◌, ℕ, zero, suc, ◌≤◌, List, [], ◌∷◌, ◌++◌, length, slice_get, slice_set, Some, refl, sym, ap, subst, ◌∙◌, inl, inr, arith, length-set}
use Rattle.std.specs.Prelude.{⊤}
use Rattle.std.proofs.lemmas.Bool.{cases_eq}
use Rattle.std.proofs.lemmas.Option.{none-some, same_Some}
use Rattle.wf_execution.specs.Execution.{values_after}
use Rattle.wf_execution.specs.Run.{IsAct, AreDone}
use Rattle.wf_codec.specs.declared.message.Message.{Message}
use Rattle.wf_delivery.specs.IndexTheorems.{get_set_other, set_there}
use Rattle.wf_node.specs.Node.{Node}
use Rattle.wf_tape.specs.declared.tape.Tape.{Ghosts as Tape}
use Rattle.wf_runs.specs.Session.{NodeSession, SessionStep, stepped, moments_from, acts_at, AreStepsTaken}
use Rattle.wf_runs.specs.Folder.{IsLeftAt, AreSessions, moments}
use Rattle.wf_runs.proofs.Items.{acts_own, acts_other}

-- ---- the acts of one node are done, one after the other

module _ {T : Type 0} (tapes : Tape T) (i : ℕ) where
  no_acts_done : (first : Node T) → AreDone tapes first (acts_at i [])
  unfolding acts_at
  no_acts_done first = tt

  pub acts_done : (sent : List Message) (nodes : List (Node T)) (steps : List (SessionStep T)) (first : Node T) → slice_get nodes i ≡ Some first → AreStepsTaken tapes sent nodes steps → AreDone tapes first (acts_at i steps)
  acts_done sent nodes [] first at taken = no_acts_done first
  acts_done sent nodes (step ∷ steps) first at taken = elim (cases_eq step.node_index i) [
    | inl own ↦
        let one = taken.0 in
        let same : one.before ≡ first = same_Some one.before first (sym one.at ∙ ap (slice_get nodes) own ∙ at) in
        let there : slice_get (stepped nodes step) i ≡ Some step.act.after = subst (λ k. slice_get (slice_set nodes k step.act.after) i ≡ Some step.act.after) (sym own) (set_there nodes i step.act.after first at) in
        subst (AreDone tapes first) (sym (acts_own i step steps own))
        (subst (λ (x : Node T). IsAct tapes x step.act) same one.is, acts_done (sent ++ step.act.outputs) (stepped nodes step) steps step.act.after there taken.1)
    | inr other ↦
        subst (AreDone tapes first) (sym (acts_other i step steps other))
        (acts_done (sent ++ step.act.outputs) (stepped nodes step) steps first (get_set_other nodes step.node_index i step.act.after (λ e. other (sym e)) ∙ at) taken.1)
  ]

-- ---- moments that show values

-- The nodes at index i, at these moments, are some of these values, in their order, and one may
-- stay for several moments.
pub data Show {T : Type 0} (i : ℕ) : List (List (Node T)) → List (Node T) → Type 0 where
  Ends : (vs : List (Node T)) → Show i [] vs
  Stays : (nodes : List (Node T)) (times : List (List (Node T))) (v : Node T) (vs : List (Node T)) → slice_get nodes i ≡ Some v → Show i times (v ∷ vs) → Show i (nodes ∷ times) (v ∷ vs)
  Passes : (times : List (List (Node T))) (v : Node T) (vs : List (Node T)) → Show i times vs → Show i times (v ∷ vs)

module _ {T : Type 0} (i : ℕ) where
  -- the value at a moment
  record Shown (vs : List (Node T)) (node : Node T) : Type 0 where
    index : ℕ
    at : slice_get vs index ≡ Some node

  shown_at : (times : List (List (Node T))) (vs : List (Node T)) (k : ℕ) (nodes : List (Node T)) (node : Node T) → Show i times vs → slice_get times k ≡ Some nodes → slice_get nodes i ≡ Some node → Shown vs node
  shown_at times vs k nodes node (Ends ws) at there = absurd (none-some nodes at)
  shown_at times vs zero nodes node (Stays now rest v ws is show) at there =
      record { index = 0; at = sym is ∙ ap (λ ns. slice_get ns i) (same_Some now nodes at) ∙ there }
  shown_at times vs (suc k) nodes node (Stays now rest v ws is show) at there = shown_at rest (v ∷ ws) k nodes node show at there
  shown_at times vs k nodes node (Passes rest v ws show) at there =
      let found = shown_at rest ws k nodes node show at there in
      record { index = suc found.index; at = found.at }

  -- the values at two moments, in their order
  pub record ShownBoth (vs : List (Node T)) (node next : Node T) : Type 0 where
    pub index : ℕ
    pub later : ℕ
    pub order : index ≤ later
    pub at : slice_get vs index ≡ Some node
    pub then : slice_get vs later ≡ Some next

  pub shown_both : (times : List (List (Node T))) (vs : List (Node T)) (k l : ℕ) (nodes others : List (Node T)) (node next : Node T) → Show i times vs → k ≤ l →
      slice_get times k ≡ Some nodes → slice_get nodes i ≡ Some node → slice_get times l ≡ Some others → slice_get others i ≡ Some next → ShownBoth vs node next
  shown_both times vs k l nodes others node next (Ends ws) less at there then later = absurd (none-some nodes at)
  shown_both times vs zero l nodes others node next (Stays now rest v ws is show) less at there then later =
      let found = shown_at (now ∷ rest) (v ∷ ws) l others next (Stays now rest v ws is show) then later in
      record { index = 0; later = found.index; order = omega arith; at = sym is ∙ ap (λ ns. slice_get ns i) (same_Some now nodes at) ∙ there; then = found.at }
  shown_both times vs (suc k) zero nodes others node next (Stays now rest v ws is show) less at there then later = absurd (omega (arith, less))
  shown_both times vs (suc k) (suc l) nodes others node next (Stays now rest v ws is show) less at there then later =
      shown_both rest (v ∷ ws) k l nodes others node next show (omega (arith, less)) at there then later
  shown_both times vs k l nodes others node next (Passes rest v ws show) less at there then later =
      let found = shown_both rest ws k l nodes others node next show less at there then later in
      record { index = suc found.index; later = suc found.later; order = omega (arith, found.order); at = found.at; then = found.then }

-- ---- a session shows its run's values

module _ {T : Type 0} (tapes : Tape T) (i : ℕ) where
  after_none : values_after {T = T} [] ≡ []
  unfolding values_after
  after_none = refl

  after_own : (step : SessionStep T) (steps : List (SessionStep T)) → step.node_index ≡ i → values_after (acts_at i (step ∷ steps)) ≡ step.act.after ∷ values_after (acts_at i steps)
  unfolding values_after
  after_own step steps own = ap values_after (acts_own i step steps own)

  after_other : (step : SessionStep T) (steps : List (SessionStep T)) → step.node_index ≢ i → values_after (acts_at i (step ∷ steps)) ≡ values_after (acts_at i steps)
  after_other step steps other = ap values_after (acts_other i step steps other)

  shows_none : (nodes : List (Node T)) (first : Node T) (times : List (List (Node T))) (vs : List (Node T)) → slice_get nodes i ≡ Some first → Show i times vs →
      Show i (moments_from nodes [] ++ times) (first ∷ (values_after (acts_at i []) ++ vs))
  unfolding moments_from values_after acts_at
  shows_none nodes first times vs at show = Stays nodes times first (values_after (acts_at i []) ++ vs) at (Passes times first vs show)

  pub session_shows : (sent : List Message) (nodes : List (Node T)) (steps : List (SessionStep T)) (first : Node T) (times : List (List (Node T))) (vs : List (Node T)) → slice_get nodes i ≡ Some first →
      AreStepsTaken tapes sent nodes steps → Show i times vs → Show i (moments_from nodes steps ++ times) (first ∷ (values_after (acts_at i steps) ++ vs))
  unfolding moments_from
  session_shows sent nodes [] first times vs at taken show = shows_none nodes first times vs at show
  session_shows sent nodes (step ∷ steps) first times vs at taken show = elim (cases_eq step.node_index i) [
    | inl own ↦
        let there : slice_get (stepped nodes step) i ≡ Some step.act.after = subst (λ k. slice_get (slice_set nodes k step.act.after) i ≡ Some step.act.after) (sym own) (set_there nodes i step.act.after first at) in
        let more = moments_from (stepped nodes step) steps ++ times in
        let rest = session_shows (sent ++ step.act.outputs) (stepped nodes step) steps step.act.after times vs there taken.1 show in
        subst (λ after. Show i (nodes ∷ more) (first ∷ (after ++ vs))) (sym (after_own step steps own))
        (Stays nodes more first (step.act.after ∷ (values_after (acts_at i steps) ++ vs)) at (Passes more first (step.act.after ∷ (values_after (acts_at i steps) ++ vs)) rest))
    | inr other ↦
        let there : slice_get (stepped nodes step) i ≡ Some first = get_set_other nodes step.node_index i step.act.after (λ e. other (sym e)) ∙ at in
        let more = moments_from (stepped nodes step) steps ++ times in
        subst (λ after. Show i (nodes ∷ more) (first ∷ (after ++ vs))) (sym (after_other step steps other))
        (Stays nodes more first (values_after (acts_at i steps) ++ vs) at (session_shows (sent ++ step.act.outputs) (stepped nodes step) steps first times vs there taken.1 show))
  ]

-- ---- there are as many nodes at each moment

abbrev pub AllLong : {T : Type 0} → ℕ → List (List (Node T)) → Type 0
AllLong n [] = ⊤
AllLong n (nodes ∷ times) = (length nodes ≡ n) × AllLong n times

module _ {T : Type 0} where
  pub long_at : (n : ℕ) (times : List (List (Node T))) (k : ℕ) (nodes : List (Node T)) → AllLong n times → slice_get times k ≡ Some nodes → length nodes ≡ n
  long_at n [] k nodes all at = absurd (none-some nodes at)
  long_at n (now ∷ times) zero nodes all at = ap length (sym (same_Some now nodes at)) ∙ all.0
  long_at n (now ∷ times) (suc k) nodes all at = long_at n times k nodes all.1 at

  long_both : (n : ℕ) (times more : List (List (Node T))) → AllLong n times → AllLong n more → AllLong n (times ++ more)
  long_both n [] more all also = also
  long_both n (now ∷ times) more all also = (all.0, long_both n times more all.1 also)

  long_from : (n : ℕ) (nodes : List (Node T)) (steps : List (SessionStep T)) → length nodes ≡ n → AllLong n (moments_from nodes steps)
  unfolding moments_from
  long_from n nodes [] long = (long, tt)
  long_from n nodes (step ∷ steps) long = (long, long_from n (stepped nodes step) steps (length-set nodes step.node_index step.act.after ∙ long))

  pub all_long : (tapes : Tape T) (n : ℕ) (found : ℕ → List ℕ → Type 0) (sessions : List (NodeSession T)) → AreSessions tapes n found sessions → AllLong n (moments sessions)
  unfolding moments
  all_long tapes n found [] are = tt
  all_long tapes n found (session ∷ later) are =
      long_both n (moments_from session.nodes session.steps) (moments later) (long_from n session.nodes session.steps are.0.as_many) (all_long tapes n (IsLeftAt session) later are.1)
