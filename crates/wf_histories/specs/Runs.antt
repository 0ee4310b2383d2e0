-- The runs of a process, as it shows them: acts by which each came about, as far as they were made.
use Rattle.std.specs.Prelude.{ℕ, zero, suc, List, [], ◌∷◌, ◌++◌, take}
use Rattle.wf_actor.specs.Farm.{Step, steps_by}
use Rattle.wf_actor.specs.Life.{IsLife}
use Rattle.wf_actor.specs.Sent.{AreGivenCome}
use Rattle.wf_actor.specs.declared.actor.Actor.{Actor}
use Rattle.wf_actor.specs.declared.actor.Origin.{Origin}
use Rattle.wf_execution.specs.Execution.{values_in}
use Rattle.wf_execution.specs.Run.{Run}
use Rattle.wf_node.specs.Node.{Node}
use Rattle.wf_tape.specs.declared.tape.Tape.{Ghosts as Tape}
use Rattle.wf_wire.specs.Post.{logged}

-- a run, and where the input of each of its acts came from
pub record TracedRun (T : Type 0) : Type 0 where
  pub run : Run T
  pub origins : List Origin

-- its first acts
abbrev pub first_acts : {T : Type 0} → ℕ → TracedRun T → TracedRun T
first_acts made traced = record { run = record { first = traced.run.first; acts = take made traced.run.acts }; origins = take made traced.origins }

-- What a process has made of its runs: those that are over, the first one first, and the one that
-- it is in.
pub record Made (T : Type 0) : Type 0 where
  pub over : List (TracedRun T)
  pub last : TracedRun T

-- ---- as they were logged

module _ {T : Type 0} (tapes : Tape T) where
  -- acts by which a run came about: its logs are of these
  abbrev pub LifeOf : Actor T tapes → Type 0
  LifeOf actor = IsLife tapes actor.read_from.items actor.stood.items actor.given.items (logged actor.emitted.items) actor.node

  -- so of each run of a process: of those that have ended, and of the one that it is in
  abbrev pub LivesOf : List (Actor T tapes × ℕ) → Actor T tapes → Type 0
  LivesOf [] now = LifeOf now
  LivesOf (run ∷ ended) now = LifeOf run.0 × LivesOf ended now

  -- what was given in these runs from peers came on their connections
  abbrev pub ComesOf : List (Actor T tapes × ℕ) → Actor T tapes → Type 0
  ComesOf [] now = AreGivenCome now.given.items
  ComesOf (run ∷ ended) now = AreGivenCome run.0.given.items × ComesOf ended now

  abbrev pub traced_by : (actor : Actor T tapes) → LifeOf actor → TracedRun T
  traced_by actor life = record { run = life.run; origins = life.origins }

  -- What was made of these runs, when so many of them were over, and so many acts of the next one
  -- were made.
  unfoldable pub made_of : (ended : List (Actor T tapes × ℕ)) (now : Actor T tapes) → LivesOf ended now → (over made : ℕ) → Made T
  made_of [] now lives over made = record { over = []; last = first_acts made (traced_by now lives) }
  made_of (run ∷ ended) now lives zero made = record { over = []; last = first_acts made (traced_by run.0 lives.0) }
  made_of (run ∷ ended) now lives (suc over) made =
      let later = made_of ended now lives.1 over made in
      record { over = traced_by run.0 lives.0 ∷ later.over; last = later.last }

-- ---- the steps, and the values of the node

unfoldable pub steps_over : {T : Type 0} → ℕ → List (TracedRun T) → List Step
steps_over i [] = []
steps_over i (traced ∷ later) = steps_by i traced.run.acts traced.origins ++ steps_over i later

-- the steps of node i
abbrev pub steps_made : {T : Type 0} → ℕ → Made T → List Step
steps_made i made = steps_over i made.over ++ steps_by i made.last.run.acts made.last.origins

unfoldable pub values_over : {T : Type 0} → List (TracedRun T) → List (Node T)
values_over [] = []
values_over (traced ∷ later) = values_in traced.run ++ values_over later

-- all values that the node had, in their order
abbrev pub values_made : {T : Type 0} → Made T → List (Node T)
values_made made = values_over made.over ++ values_in made.last.run
