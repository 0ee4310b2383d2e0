-- The premises about the processes of a farm can be met, one thing after the other: nothing has
-- started, a process starts, it takes the next act of its run, and it goes on in its next run.
use Rattle.std.specs.Prelude.{◌≡◌, ℕ, zero, suc, ◌<◌, ◌==◌, List, [], ◌∷◌, ◌++◌, length, slice_get, Some, if◌then◌else◌}
use Rattle.wf_actor.specs.Farm.{Step, items}
use Rattle.wf_actor.specs.declared.actor.Actor.{Actor}
use Rattle.wf_actor.specs.declared.actor.Origin.{Origin}
use Rattle.wf_execution.specs.Execution.{Execution}
use Rattle.wf_execution.specs.Continuation.{left, unstarted}
use Rattle.wf_execution.specs.Run.{Act, given_to}
use Rattle.wf_execution.specs.Theorems.{outputs_in}
use Rattle.wf_codec.specs.declared.message.Message.{Message}
use Rattle.wf_tape.specs.declared.tape.Tape.{Ghosts as Tape}
use Rattle.wf_histories.specs.Carried.{ArePeersSent, AreSentBefore}
use Rattle.wf_histories.specs.Nodes.{AreNodeProcesses, HasEndedBefore, IsProcessOf, NodeProcess, StandsAsBefore, bytes_read, cut_step}
use Rattle.wf_histories.specs.Runs.{LivesOf, TracedRun, traced_by}

module _ {T : Type 0} (tapes : Tape T) where
  -- the folders, that of node i having these processes
  unfoldable pub with_folder : (ℕ → List (NodeProcess tapes)) → ℕ → List (NodeProcess tapes) → ℕ → List (NodeProcess tapes)
  with_folder folders i processes j = if j == i then processes else folders j

  -- ---- nothing

  abbrev pub NothingAdvances : Type 0
  NothingAdvances = (n : ℕ) → AreNodeProcesses tapes n unstarted [] (λ i. []) []

  -- ---- a start

  -- It read what was left on the tape: at first these bytes, then what the last process left.
  unfoldable pub ReadsAfter : List ℕ → List (NodeProcess tapes) → NodeProcess tapes → Type 0
  ReadsAfter left [] p = StandsAsBefore left (bytes_read tapes p)
  ReadsAfter left (last ∷ []) p = HasEndedBefore tapes (p ∷ []) last × StandsAsBefore last.left (bytes_read tapes p)
  ReadsAfter left (first ∷ (next ∷ later)) p = ReadsAfter first.left (next ∷ later) p

  -- the step within which the last process ended
  unfoldable pub last_cut : ℕ → List (NodeProcess tapes) → List Step
  last_cut i [] = []
  last_cut i (last ∷ []) = cut_step i last.end last.cut_from
  last_cut i (first ∷ (next ∷ later)) = last_cut i (next ∷ later)

  -- It is one of node i's, in its first run, and has made no act.
  pub record IsInFirstRun (n i : ℕ) (left : List ℕ) (processes : List (NodeProcess tapes)) (p : NodeProcess tapes) : Type 0 where
    pub is : IsProcessOf tapes n i p
    pub first : p.over ≡ 0
    pub none : p.made ≡ 0
    pub reads : ReadsAfter left processes p

  abbrev pub StartAdvances : Type 0
  StartAdvances = (n i : ℕ) (before : ℕ → Execution T) (sent : List Message) (folders : ℕ → List (NodeProcess tapes)) (steps : List Step) (p : NodeProcess tapes) →
      AreNodeProcesses tapes n before sent folders steps → i < n → IsInFirstRun n i (left (before i)) (folders i) p → AreSentBefore (sent ++ outputs_in (items steps)) (last_cut i (folders i)) →
      AreNodeProcesses tapes n before sent (with_folder folders i (folders i ++ p ∷ [])) (steps ++ last_cut i (folders i))

  -- ---- an act

  -- the run that a process is in, with all its acts
  unfoldable pub run_in : (ended : List (Actor T tapes × ℕ)) (now : Actor T tapes) → LivesOf tapes ended now → (over : ℕ) → TracedRun T
  run_in [] now lives over = traced_by tapes now lives
  run_in (run ∷ ended) now lives zero = traced_by tapes run.0 lives.0
  run_in (run ∷ ended) now lives (suc over) = run_in ended now lives.1 over

  abbrev pub run_of : NodeProcess tapes → TracedRun T
  run_of p = run_in p.has.on.voter.process.ended.items p.has.on.voter.process.actor p.lives p.over

  abbrev pub one_act_more : NodeProcess tapes → NodeProcess tapes
  one_act_more p = record { line = p.line; old = p.old; new = p.new; has = p.has; lives = p.lives; come = p.come; over = p.over; made = suc p.made; end = p.end; cut_from = p.cut_from; left = p.left }

  -- That is the next act of its run, and where its input comes from.
  pub record IsNextAct (p : NodeProcess tapes) (act : Act T) (origin : Origin) : Type 0 where
    pub act_at : slice_get (run_of p).run.acts p.made ≡ Some act
    pub origin_at : slice_get (run_of p).origins p.made ≡ Some origin

  abbrev pub ActAdvances : Type 0
  ActAdvances = (n i : ℕ) (before : ℕ → Execution T) (sent : List Message) (folders : ℕ → List (NodeProcess tapes)) (steps : List Step) (earlier : List (NodeProcess tapes)) (p : NodeProcess tapes) (act : Act T) (origin : Origin) →
      AreNodeProcesses tapes n before sent folders steps → i < n → folders i ≡ earlier ++ p ∷ [] → IsNextAct p act origin → ArePeersSent (sent ++ outputs_in (items steps)) origin (given_to act.input) →
      AreNodeProcesses tapes n before sent (with_folder folders i (earlier ++ one_act_more p ∷ [])) (steps ++ record { process = i; takes = act.input; origin = origin; outputs = act.outputs } ∷ [])

  -- ---- another run of a process

  abbrev pub in_next_run : NodeProcess tapes → NodeProcess tapes
  in_next_run p = record { line = p.line; old = p.old; new = p.new; has = p.has; lives = p.lives; come = p.come; over = suc p.over; made = 0; end = p.end; cut_from = p.cut_from; left = p.left }

  -- All acts of its run were made, and another one came after it.
  pub record HasNextRun (p : NodeProcess tapes) : Type 0 where
    pub all : p.made ≡ length (run_of p).run.acts
    pub another : p.over < length p.has.on.voter.process.ended.items

  abbrev pub RunAdvances : Type 0
  RunAdvances = (n i : ℕ) (before : ℕ → Execution T) (sent : List Message) (folders : ℕ → List (NodeProcess tapes)) (steps : List Step) (earlier : List (NodeProcess tapes)) (p : NodeProcess tapes) →
      AreNodeProcesses tapes n before sent folders steps → i < n → folders i ≡ earlier ++ p ∷ [] → HasNextRun p →
      AreNodeProcesses tapes n before sent (with_folder folders i (earlier ++ in_next_run p ∷ [])) steps
