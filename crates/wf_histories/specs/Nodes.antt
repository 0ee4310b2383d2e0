-- Processes of `wfarm node`: one after the other on a folder, for each node of a farm.
use Rattle.std.specs.Prelude.{◌≡◌, ℕ, ◌<◌, ⊤, List, [], ◌∷◌, ◌++◌, None}
use Rattle.wf_actor.specs.Farm.{Step, AreMembers, steps_of}
use Rattle.wf_actor.specs.Life.{AreOwnAmong}
use Rattle.wf_actor.specs.Sent.{AreCome}
use Rattle.wf_actor.specs.declared.actor.Origin.{Origin}
use Rattle.wf_execution.specs.Execution.{Execution, values}
use Rattle.wf_execution.specs.Continuation.{left}
use Rattle.wf_execution.specs.Run.{RunEnd, Between, Within, Failed, HasLeft, given_to, outputs}
use Rattle.wf_codec.specs.declared.message.Message.{Message}
use Rattle.wf_def.specs.Definition.{Definition}
use Rattle.wf_line.specs.declared.node_line.NodeLine.{NodeLine}
use Rattle.wf_model.specs.DurableState.{DurableState}
use Rattle.wf_node.specs.Images.{StandsFor}
use Rattle.wf_node.specs.Node.{Node}
use Rattle.wf_node_command.specs.Done.{HasServed}
use Rattle.wf_store.specs.Call.{Call}
use Rattle.wf_tape.specs.declared.tape.Tape.{Ghosts as Tape}
use Rattle.wf_histories.specs.Carried.{AreSentBefore}
use Rattle.wf_histories.specs.Runs.{ComesOf, LivesOf, Made, made_of, steps_made, values_made}

-- Whatever durable state the old bytes of a tape stood for, the new ones stand for it: what a start
-- that was cut off, or failed, makes of them by writing them anew, shortened.
abbrev pub StandsAsBefore : List ℕ → List ℕ → Type 0
StandsAsBefore old new = (stored : DurableState Definition) → StandsFor stored old → StandsFor stored new

-- the step within which the process of node i ended, if it was within one: what it was given then
-- came from there
abbrev pub cut_step : ℕ → RunEnd → Origin → List Step
cut_step i Between origin = []
cut_step i (Within input) origin = record { process = i; takes = input; origin = origin; outputs = [] } ∷ []
cut_step i (Failed input) origin = []

-- What that step was given is one of these messages, if it was the node's own, and came on a
-- connection, if it was a peer's. Each step of a process requires that; but no clause says it of a
-- step within which the process was killed, since that never returned.
abbrev pub IsCutGiven : List Message → RunEnd → Origin → Type 0
IsCutGiven emitted Between origin = ⊤
IsCutGiven emitted (Within input) origin = AreOwnAmong emitted origin (given_to input) × AreCome origin (given_to input)
IsCutGiven emitted (Failed input) origin = ⊤

module _ {T : Type 0} (tapes : Tape T) where
  -- One process of `wfarm node`: what it returned, acts by which its runs came about, and that what
  -- it was given from peers came on their connections. One that was killed, or lost its power, is
  -- what it would have returned, and only the first of these acts were made: so many of its runs
  -- were over, and so many acts of the next one were made. So it ended; what it was given in the
  -- step within which it did, if it was within one, came from there; and these bytes were left on
  -- its tape.
  pub record NodeProcess : Type 0 where
    pub line : NodeLine
    pub old : List Call
    pub new : List Call
    pub has : HasServed tapes line old new
    pub lives : LivesOf tapes has.on.voter.process.ended.items has.on.voter.process.actor
    pub come : ComesOf tapes has.on.voter.process.ended.items has.on.voter.process.actor
    pub over : ℕ
    pub made : ℕ
    pub end : RunEnd
    pub cut_from : Origin
    pub left : List ℕ

  abbrev pub made_by : NodeProcess → Made T
  made_by p = made_of tapes p.has.on.voter.process.ended.items p.has.on.voter.process.actor p.lives p.over p.made

  -- the bytes that it read of its tape, before it opened that: the folder's calls have them
  abbrev pub bytes_read : NodeProcess → List ℕ
  bytes_read p = p.has.is_start.is_counted.is_on_tape.is_compared.content

  -- It is node i of n, as the file `farm` of its folder said.
  pub record IsProcessOf (n i : ℕ) (p : NodeProcess) : Type 0 where
    pub number : p.has.file.node ≡ i
    pub among : p.has.file.nodes ≡ n

  -- ---- on one folder

  -- If others came after it, it has ended, and left its bytes. In the step within which it ended it
  -- was given, of its own messages, only what its node had returned in that run.
  abbrev pub HasEndedBefore : List NodeProcess → NodeProcess → Type 0
  HasEndedBefore [] p = ⊤
  HasEndedBefore (next ∷ later) p = HasLeft (made_by p).last.run p.end p.left × IsCutGiven (outputs (made_by p).last.run.acts) p.end p.cut_from

  -- They are processes of node i of n, one after the other: each read of the tape what the one
  -- before it left, or what starts that didn't come to serve made of that; and the first one read
  -- such bytes of these.
  abbrev pub AreOnFolder : (n i : ℕ) → List ℕ → List NodeProcess → Type 0
  AreOnFolder n i left [] = ⊤
  AreOnFolder n i left (p ∷ later) = IsProcessOf n i p × StandsAsBefore left (bytes_read p) × HasEndedBefore later p × AreOnFolder n i p.left later

  abbrev pub cut_before : ℕ → List NodeProcess → RunEnd → Origin → List Step
  cut_before i [] end origin = []
  cut_before i (next ∷ later) end origin = cut_step i end origin

  -- their steps, in their order, and all values that their node ever had
  unfoldable pub steps_on : ℕ → List NodeProcess → List Step
  steps_on i [] = []
  steps_on i (p ∷ later) = steps_made i (made_by p) ++ (cut_before i later p.end p.cut_from ++ steps_on i later)

  unfoldable pub values_on : List NodeProcess → List (Node T)
  values_on [] = []
  values_on (p ∷ later) = values_made (made_by p) ++ values_on later

  -- ---- a farm

  -- What n processes left that had ended, others went on from: those of each node on its folder, by
  -- these steps, in one order of time. In it, when a node was given a message of a peer, all bytes
  -- that had come on the connection were a beginning of what was sent on some connection, into
  -- which only messages were put that had been returned by then, by whichever node. At first
  -- nothing had started (`unstarted`), nothing was sent, and all tapes were empty.
  pub record AreNodeProcesses (n : ℕ) (before : ℕ → Execution T) (sent : List Message) (folders : ℕ → List NodeProcess) (steps : List Step) : Type 0 where
    pub ended : (i : ℕ) → i < n → (before i).now ≡ None
    pub on_folders : (i : ℕ) → i < n → AreOnFolder n i (left (before i)) (folders i)
    pub members : AreMembers n steps
    pub in_order : (i : ℕ) → i < n → steps_of i steps ≡ steps_on i (folders i)
    pub connected : AreSentBefore sent steps

  -- all values that node i ever had
  abbrev pub values_ever : (ℕ → Execution T) → (ℕ → List NodeProcess) → ℕ → List (Node T)
  values_ever before folders i = values (before i) ++ values_on (folders i)
