-- The events of a timeline of `wf_replacement` that processes of `wfarm node` are, in their order.
use Rattle.std.specs.Prelude.{ℕ, zero, suc, ◌<◌, ◌==◌, ⊤, List, [], ◌∷◌, ◌++◌, map, if◌then◌else◌}
use Rattle.wf_actor.specs.Farm.{Step}
use Rattle.wf_actor.specs.declared.actor.Actor.{Actor}
use Rattle.wf_actor.specs.declared.actor.Origin.{Origin}
use Rattle.wf_actor.specs.declared.actor.Origin.TheVariants.{Own}
use Rattle.wf_execution.specs.Run.{Act, Failed, Input}
use Rattle.wf_model.specs.declared.action.Action.TheVariants as action
use Rattle.wf_replacement.specs.Timeline.{Acts, Ends, Loses, Opens, ProcessEvent, Rejoins, process_of}
use Rattle.wf_tape.specs.declared.tape.Tape.{Ghosts as Tape}
use Rattle.wf_histories.specs.Nodes.{NodeProcess, bytes_read, cut_step}
use Rattle.wf_histories.specs.Runs.{LivesOf, TracedRun, first_acts, traced_by}

-- An event, and where the input of its step came from, if it has one: if it is a step, or the end
-- of a run within a step.
pub record TracedEvent (T : Type 0) : Type 0 where
  pub event : ProcessEvent T
  pub origin : Origin

-- an event without a step
abbrev pub stepless : {T : Type 0} → ProcessEvent T → TracedEvent T
stepless event = record { event = event; origin = Own }

module _ {T : Type 0} where
  abbrev pub untraced : List (TracedEvent T) → List (ProcessEvent T)
  untraced traced = map (λ e. e.event) traced

  -- the events of one process, in their order
  unfoldable pub events_of : ℕ → List (TracedEvent T) → List (TracedEvent T)
  events_of i [] = []
  events_of i (e ∷ traced) = if i == process_of e.event then e ∷ events_of i traced else events_of i traced

  -- each event is of one of the n processes
  abbrev pub AreEventsOf : ℕ → List (TracedEvent T) → Type 0
  AreEventsOf n [] = ⊤
  AreEventsOf n (e ∷ traced) = (process_of e.event < n) × AreEventsOf n traced

  -- the steps of events
  abbrev pub step_by : ProcessEvent T → Origin → List Step
  step_by (Opens i node) origin = []
  step_by (Acts i act) origin = record { process = i; takes = act.input; origin = origin; outputs = act.outputs } ∷ []
  step_by (Ends i end left) origin = cut_step i end origin
  step_by (Loses i) origin = []
  step_by (Rejoins i bytes) origin = []

  unfoldable pub steps_in : List (TracedEvent T) → List Step
  steps_in [] = []
  steps_in (e ∷ traced) = step_by e.event e.origin ++ steps_in traced

  -- ---- a run

  unfoldable pub events_by : ℕ → List (Act T) → List Origin → List (TracedEvent T)
  events_by i [] origins = []
  events_by i (act ∷ acts) [] = []
  events_by i (act ∷ acts) (origin ∷ origins) = record { event = Acts i act; origin = origin } ∷ events_by i acts origins

  abbrev pub events_in_run : ℕ → TracedRun T → List (TracedEvent T)
  events_in_run i traced = stepless (Opens i traced.run.first) ∷ events_by i traced.run.acts traced.origins

  -- the input within whose step the tape failed, if it did within one of these
  unfoldable pub failed_input : List (Act T) → Input
  failed_input [] = action.Retry
  failed_input (act ∷ acts) = if act.after.halted then act.input else failed_input acts

module _ {T : Type 0} (tapes : Tape T) where
  -- ---- a process

  -- the bytes that were read at the first of these runs
  abbrev pub bytes_at_first : (ended : List (Actor T tapes × ℕ)) (now : Actor T tapes) → LivesOf tapes ended now → List ℕ
  bytes_at_first [] now lives = lives.opened.opened.bytes
  bytes_at_first (run ∷ ended) now lives = lives.0.opened.opened.bytes

  -- The events of its runs, as far as they were made: so many of them were over, since the tape
  -- failed, and so many acts of the next one were made.
  unfoldable pub events_made : ℕ → (ended : List (Actor T tapes × ℕ)) (now : Actor T tapes) → LivesOf tapes ended now → (over made : ℕ) → List (TracedEvent T)
  events_made i [] now lives over made = events_in_run i (first_acts made (traced_by tapes now lives))
  events_made i (run ∷ ended) now lives zero made = events_in_run i (first_acts made (traced_by tapes run.0 lives.0))
  events_made i (run ∷ ended) now lives (suc over) made =
      events_in_run i (traced_by tapes run.0 lives.0) ++ stepless (Ends i (Failed (failed_input lives.0.run.acts)) (bytes_at_first ended now lives.1)) ∷ events_made i ended now lives.1 over made

  abbrev pub events_made_by : ℕ → NodeProcess tapes → List (TracedEvent T)
  events_made_by i p = events_made i p.has.on.voter.process.ended.items p.has.on.voter.process.actor p.lives p.over p.made

  -- ---- processes on a folder, one after the other

  -- its end, if others came after it: the next one read these bytes
  abbrev pub end_before : ℕ → List (NodeProcess tapes) → NodeProcess tapes → List (TracedEvent T)
  end_before i [] p = []
  end_before i (next ∷ later) p = record { event = Ends i p.end (bytes_read tapes next); origin = p.cut_from } ∷ []

  unfoldable pub events_on : ℕ → List (NodeProcess tapes) → List (TracedEvent T)
  events_on i [] = []
  events_on i (p ∷ later) = events_made_by i p ++ (end_before i later p ++ events_on i later)

  -- ---- a node, on one folder after the other

  -- The processes of a node: those on its first folder, and those on each folder that joined in the
  -- place of the one before it, once it had joined; there is a first one of these.
  pub record Lifetime : Type 0 where
    pub first : List (NodeProcess tapes)
    pub later : List (NodeProcess tapes × List (NodeProcess tapes))

  -- Each folder is lost, and the next one goes on from what its first process read.
  unfoldable pub events_later : ℕ → List (NodeProcess tapes × List (NodeProcess tapes)) → List (TracedEvent T)
  events_later i [] = []
  events_later i (folder ∷ later) = stepless (Loses i) ∷ (stepless (Rejoins i (bytes_read tapes folder.0)) ∷ (events_on i (folder.0 ∷ folder.1) ++ events_later i later))

  abbrev pub events_in : ℕ → Lifetime → List (TracedEvent T)
  events_in i life = events_on i life.first ++ events_later i life.later
