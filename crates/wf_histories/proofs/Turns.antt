-- Steps that hear only what their own node returned, and what connections carried, are in turn.
use Rattle.std.proofs.Common.{◌≡◌, ◌⊎◌, ℕ, ◌<◌, ◌==◌, Bool, true, false, List, [], ◌∷◌, ◌++◌, refl, sym, subst, inl, inr, append-nil, append_assoc, eq-eqb}
use Rattle.std.specs.Prelude.{if◌then◌else◌}
use Rattle.wf_actor.specs.Farm.{AreCarried, AreMembers, AreOwn, ArePeersAmong, Step, items, steps_of}
use Rattle.wf_actor.specs.Life.{AreOwnAmong}
use Rattle.wf_actor.specs.declared.actor.Origin.{Origin}
use Rattle.wf_actor.specs.declared.actor.Origin.TheVariants.{Own, Peer}
use Rattle.wf_execution.specs.Execution.{AreInTurn, IsOneOf, Item, items_of}
use Rattle.wf_execution.specs.Run.{Input, given_to}
use Rattle.wf_execution.specs.Theorems.{outputs_in}
use Rattle.wf_codec.specs.declared.message.Message.{Message}
use Rattle.wf_model.specs.Chosen.{IsIn}
use Rattle.wf_model.specs.declared.action.Action.TheVariants as action
use Rattle.wf_wire.specs.Post.{AreAmong}

-- ---- messages that are among others

pub in_first : (m : Message) (xs ys : List Message) → IsIn m xs → IsIn m (xs ++ ys)
in_first m [] ys is = absurd is
in_first m (x ∷ xs) ys (inl same) = inl same
in_first m (x ∷ xs) ys (inr later) = inr (in_first m xs ys later)

pub in_second : (m : Message) (xs ys : List Message) → IsIn m ys → IsIn m (xs ++ ys)
in_second m [] ys is = is
in_second m (x ∷ xs) ys is = inr (in_second m xs ys is)

pub in_either : {A : Type 0} (x : A) (xs ys : List A) → IsIn x (xs ++ ys) → IsIn x xs ⊎ IsIn x ys
in_either x [] ys is = inr is
in_either x (y ∷ xs) ys (inl same) = inl (inl same)
in_either x (y ∷ xs) ys (inr later) = elim (in_either x xs ys later) [
  | inl front ↦ inl (inr front)
  | inr back ↦ inr back
]

more_among : (b : Bool) (emitted outputs sent : List Message) → AreAmong emitted sent → AreAmong (if b then emitted ++ outputs else emitted) (sent ++ outputs)
more_among true emitted outputs sent among = λ m is. elim (in_either m emitted outputs is) [
  | inl front ↦ in_first m sent outputs (among m front)
  | inr back ↦ in_second m sent outputs back
]
more_among false emitted outputs sent among = λ m is. in_first m sent outputs (among m is)

-- ---- one step

-- what is delivered is of these, whether it is the node's own or a peer's
delivers_sent : (emitted sent : List Message) (origin : Origin) (input : Input) → AreAmong emitted sent → AreOwnAmong emitted origin (given_to input) → ArePeersAmong sent origin (given_to input) → IsOneOf sent input
delivers_sent emitted sent origin (action.Propose d) among own peers = tt
delivers_sent emitted sent origin action.Retry among own peers = tt
delivers_sent emitted sent origin action.CatchUp among own peers = tt
delivers_sent emitted sent Own (action.Deliver m) among own peers = among m (own m (inl refl))
delivers_sent emitted sent (Peer peer stream) (action.Deliver m) among own peers = peers m (inl refl)

own_rest : (b : Bool) (emitted : List Message) (step : Step) (rest : List Step) → AreOwn emitted (if b then step ∷ rest else rest) → AreOwn (if b then emitted ++ step.outputs else emitted) rest
unfolding AreOwn
own_rest true emitted step rest own = own.1
own_rest false emitted step rest own = own

own_first : (b : Bool) → b ≡ true → (emitted : List Message) (step : Step) (rest : List Step) → AreOwn emitted (if b then step ∷ rest else rest) → AreOwnAmong emitted step.origin (given_to step.takes)
unfolding AreOwn
own_first b e emitted step rest own = (subst (λ c. AreOwn emitted (if c then step ∷ rest else rest)) e own).0

-- ---- all of them, after these messages were sent, and each node had returned these

pub in_turn : (n : ℕ) (steps : List Step) (sent : List Message) (emitted : ℕ → List Message) → AreMembers n steps → ((i : ℕ) → AreAmong (emitted i) sent) → ((i : ℕ) → i < n → AreOwn (emitted i) (steps_of i steps)) →
    AreCarried sent steps → AreInTurn n sent (items steps)
unfolding AreMembers AreCarried steps_of
in_turn n [] sent emitted members among own carried = tt
in_turn n (step ∷ steps) sent emitted members among own carried =
    let p = step.process in (
      members.0,
      delivers_sent (emitted p) sent step.origin step.takes (among p) (own_first (p == p) (eq-eqb p p refl) (emitted p) step (steps_of p steps) (own p members.0)) carried.0,
      in_turn n steps (sent ++ step.outputs) (λ i. if p == i then emitted i ++ step.outputs else emitted i) members.1
          (λ i. more_among (p == i) (emitted i) step.outputs sent (among i))
          (λ i less. own_rest (p == i) (emitted i) step (steps_of i steps) (own i less)) carried.1,
    )

pub turn_both : (n : ℕ) (sent : List Message) (first more : List Item) → AreInTurn n sent first → AreInTurn n (sent ++ outputs_in first) more → AreInTurn n sent (first ++ more)
unfolding outputs_in
turn_both n sent [] more are later = subst (λ ms. AreInTurn n ms more) (append-nil sent) later
turn_both n sent (item ∷ first) more are later =
    (are.0, are.1, turn_both n (sent ++ item.outputs) first more are.2 (subst (λ ms. AreInTurn n ms more) (sym (append_assoc sent item.outputs (outputs_in first))) later))

-- ---- the items of one process, of both

if_both : (b : Bool) (item : Item) (xs ys : List Item) → (if b then item ∷ (xs ++ ys) else (xs ++ ys)) ≡ (if b then item ∷ xs else xs) ++ ys
if_both true item xs ys = refl
if_both false item xs ys = refl

pub own_both : (i : ℕ) (first more : List Item) → items_of i (first ++ more) ≡ items_of i first ++ items_of i more
unfolding items_of
own_both i [] more = refl
own_both i (item ∷ first) more =
    subst (λ rest. (if item.process == i then item ∷ rest else rest) ≡ (if item.process == i then item ∷ items_of i first else items_of i first) ++ items_of i more)
    (sym (own_both i first more)) (if_both (item.process == i) item (items_of i first) (items_of i more))
