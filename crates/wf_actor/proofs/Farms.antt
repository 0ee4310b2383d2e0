-- Processes that show their lives are a farm.
use Rattle.std.proofs.Common.{◌≡◌, ℕ, ◌<◌, ◌==◌, Bool, true, false, List, [], ◌∷◌, ◌++◌, refl, sym, ap, subst, ◌∙◌, inl, inr, eq-eqb}
use Rattle.std.specs.Prelude.{if◌then◌else◌}
use Rattle.wf_execution.specs.Execution.{IsOneOf, AreInTurn, items_by}
use Rattle.wf_execution.specs.Run.{Act, Input, IsRun, given_to}
use Rattle.wf_codec.specs.declared.message.Message.{Message}
use Rattle.wf_model.specs.declared.action.Action.TheVariants as action
use Rattle.wf_tape.specs.declared.tape.Tape.{Ghosts as Tape}
use Rattle.wf_actor.specs.Farm.{Step, items, steps_of, steps_by, AreOwn, ArePeersAmong, AreCarried, AreMembers, ProcessesAreFarm, LifeIsPart, PartIsFirst, RunsAreOwn}
use Rattle.wf_actor.specs.Life.{AreOwnAmong, AreOwnReceived}
use Rattle.wf_wire.specs.Post.{AreAmong}
use Rattle.wf_actor.specs.declared.actor.Origin.{Origin}
use Rattle.wf_actor.specs.declared.actor.Origin.TheVariants.{Own, Peer}
use Rattle.wf_actor.proofs.Lists.{in_left, in_right, in_either}

-- ---- one step

-- a delivered message is of these, whether it is the node's own or a peer's
delivers_sent : (emitted sent : List Message) (origin : Origin) (input : Input) → AreAmong emitted sent → AreOwnAmong emitted origin (given_to input) → ArePeersAmong sent origin (given_to input) → IsOneOf sent input
delivers_sent emitted sent origin (action.Propose d) among own peers = tt
delivers_sent emitted sent origin action.Retry among own peers = tt
delivers_sent emitted sent origin action.CatchUp among own peers = tt
delivers_sent emitted sent Own (action.Deliver m) among own peers = among m (own m (inl refl))
delivers_sent emitted sent (Peer peer stream) (action.Deliver m) among own peers = peers m (inl refl)

-- what process i has returned after a step of process p
reported_after : ℕ → ℕ → List Message → List Message → List Message
reported_after p i emitted outputs = if p == i then emitted ++ outputs else emitted

reported_among : (b : Bool) (emitted outputs sent : List Message) → AreAmong emitted sent → AreAmong (if b then emitted ++ outputs else emitted) (sent ++ outputs)
reported_among true emitted outputs sent among = λ m there. elim (in_either m emitted outputs there) [ inl a ↦ in_left m sent outputs (among m a) | inr h ↦ in_right m sent outputs h ]
reported_among false emitted outputs sent among = λ m there. in_left m sent outputs (among m there)

own_rest : (b : Bool) (emitted : List Message) (step : Step) (rest : List Step) → AreOwn emitted (if b then step ∷ rest else rest) → AreOwn (if b then emitted ++ step.outputs else emitted) rest
unfolding AreOwn
own_rest true emitted step rest own = own.1
own_rest false emitted step rest own = own

own_first : (b : Bool) → b ≡ true → (emitted : List Message) (step : Step) (rest : List Step) → AreOwn emitted (if b then step ∷ rest else rest) → AreOwnAmong emitted step.origin (given_to step.takes)
unfolding AreOwn
own_first b e emitted step rest own = (subst (λ c. AreOwn emitted (if c then step ∷ rest else rest)) e own).0

-- ---- all of them

in_turn : (n : ℕ) (steps : List Step) (sent : List Message) (emitted : ℕ → List Message) → AreMembers n steps → ((i : ℕ) → AreAmong (emitted i) sent) → ((i : ℕ) → i < n → AreOwn (emitted i) (steps_of i steps)) →
    AreCarried sent steps → AreInTurn n sent (items steps)
unfolding AreMembers AreCarried steps_of reported_after
in_turn n [] sent emitted members among own carried = tt
in_turn n (step ∷ steps) sent emitted members among own carried =
    let p = step.process in (
      members.0,
      delivers_sent (emitted p) sent step.origin step.takes (among p) (own_first (p == p) (eq-eqb p p refl) (emitted p) step (steps_of p steps) (own p members.0)) carried.0,
      in_turn n steps (sent ++ step.outputs) (λ i. reported_after p i (emitted i) step.outputs) members.1
          (λ i. reported_among (p == i) (emitted i) step.outputs sent (among i))
          (λ i is. own_rest (p == i) (emitted i) step (steps_of i steps) (own i is)) carried.1,
    )

pub processes_are_farm : {T : Type 0} (tapes : Tape T) → ProcessesAreFarm tapes
processes_are_farm tapes = λ n executions steps are. record {
  each = are.each;
  own = are.shown;
  in_turn = in_turn n steps [] (λ i. []) are.members (λ i m there. there) are.own are.carried;
}

-- ---- one run

shown_by : {T : Type 0} (i : ℕ) (emitted : List Message) (acts : List (Act T)) (origins : List Origin) → AreOwnReceived emitted acts origins → items (steps_by i acts origins) ≡ items_by i acts
unfolding steps_by items_by AreOwnReceived
shown_by i emitted [] origins received = refl
shown_by i emitted (act ∷ acts) [] received = absurd received
shown_by i emitted (act ∷ acts) (origin ∷ origins) received = ap (λ l. record { process = i; takes = act.input; outputs = act.outputs } ∷ l) (shown_by i (emitted ++ act.outputs) acts origins received.1)

own_by : {T : Type 0} (i : ℕ) (emitted : List Message) (acts : List (Act T)) (origins : List Origin) → AreOwnReceived emitted acts origins → AreOwn emitted (steps_by i acts origins)
unfolding steps_by AreOwn AreOwnReceived
own_by i emitted [] origins received = tt
own_by i emitted (act ∷ acts) [] received = absurd received
own_by i emitted (act ∷ acts) (origin ∷ origins) received = (received.0, own_by i (emitted ++ act.outputs) acts origins received.1)

pub life_is_part : {T : Type 0} (tapes : Tape T) → LifeIsPart tapes
life_is_part tapes = λ read_from stood given emitted node life. record {
  run = life.run;
  origins = life.origins;
  tape = life.opened.tape;
  only = life.opened.only;
  bytes = life.opened.opened.bytes;
  same = life.opened.opened.same;
  is_run = record {
    opened =
        let there = life.opened.opened.opened in
        record { id = sym life.number; among = sym life.among; runs = there.runs; stored = there.stored; idle = there.idle };
    done = life.done;
  };
  values = life.values;
  now = life.now;
  shown = shown_by node.id [] life.run.acts life.origins life.received;
  own = own_by node.id [] life.run.acts life.origins life.received;
}

pub part_is_first : {T : Type 0} (tapes : Tape T) → PartIsFirst tapes
part_is_first tapes = λ read_from stood node part durable empty. subst (λ bytes. IsRun tapes node.n node.id bytes part.run) (part.same durable ∙ empty) part.is_run

-- ---- runs one after the other

among_more : (emitted more : List Message) (origin : Origin) (messages : List Message) → AreAmong emitted more → AreOwnAmong emitted origin messages → AreOwnAmong more origin messages
among_more emitted more Own messages among own = λ m there. among m (own m there)
among_more emitted more (Peer peer stream) messages among own = tt

own_more : (emitted more : List Message) (steps : List Step) → AreAmong emitted more → AreOwn emitted steps → AreOwn more steps
unfolding AreOwn
own_more emitted more [] among own = tt
own_more emitted more (step ∷ steps) among own = (
  among_more emitted more step.origin (given_to step.takes) among own.0,
  own_more (emitted ++ step.outputs) (more ++ step.outputs) steps (λ m there. elim (in_either m emitted step.outputs there) [ inl a ↦ in_left m more step.outputs (among m a) | inr h ↦ in_right m more step.outputs h ]) own.1,
)

pub runs_are_own : RunsAreOwn
unfolding AreOwn
runs_are_own emitted [] more own later = own_more [] emitted more (λ m there. absurd there) later
runs_are_own emitted (step ∷ steps) more own later = (own.0, runs_are_own (emitted ++ step.outputs) steps more own.1 later)
