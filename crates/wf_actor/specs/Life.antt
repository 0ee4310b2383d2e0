-- The life of a node in a process: its acts since it was opened, and where its inputs came from.
use Rattle.std.specs.Prelude.{◌≡◌, ℕ, ⊤, List, [], ◌∷◌, ◌++◌, map}
use Rattle.wf_codec.specs.declared.message.Message.{Message}
use Rattle.wf_execution.specs.Execution.{values_in}
use Rattle.wf_execution.specs.Run.{Act, Run, AreDone, IsOpenedFromTape, given_to, last, outputs}
use Rattle.wf_model.specs.Chosen.{IsIn}
use Rattle.wf_node.specs.Node.{Node}
use Rattle.wf_tape.specs.declared.tape.Tape.{Ghosts as Tape}
use Rattle.wf_actor.specs.declared.actor.Origin.{Origin}
use Rattle.wf_actor.specs.declared.actor.Origin.TheVariants.{Own, Peer}

-- the messages with where they came from
abbrev pub all_from : Origin → List Message → List (Message × Origin)
all_from origin messages = map (λ m. (m, origin)) messages

-- what was delivered by these acts, with where it came from
unfoldable pub delivered : {T : Type 0} → List (Act T) → List Origin → List (Message × Origin)
delivered [] origins = []
delivered (act ∷ acts) [] = []
delivered (act ∷ acts) (origin ∷ origins) = all_from origin (given_to act.input) ++ delivered acts origins

-- each message that comes from the process itself is one of these
abbrev pub AreOwnAmong : List Message → Origin → List Message → Type 0
AreOwnAmong emitted Own messages = (m : Message) → IsIn m messages → IsIn m emitted
AreOwnAmong emitted (Peer peer stream) messages = ⊤

-- Each act has its origin, and each message of its own that an act delivers is one of these, or was
-- returned by an earlier act.
unfoldable pub AreOwnReceived : {T : Type 0} → List Message → List (Act T) → List Origin → Type 0
AreOwnReceived emitted [] [] = ⊤
AreOwnReceived emitted [] (origin ∷ origins) = ⊥
AreOwnReceived emitted (act ∷ acts) [] = ⊥
AreOwnReceived emitted (act ∷ acts) (origin ∷ origins) = AreOwnAmong emitted origin (given_to act.input) × AreOwnReceived (emitted ++ act.outputs) acts origins

-- each node of the log was one of these
abbrev pub AreAmongValues : {T : Type 0} → List (Node T × ℕ) → List (Node T) → Type 0
AreAmongValues [] values = ⊤
AreAmongValues (entry ∷ log) values = IsIn entry.0 values × AreAmongValues log values

-- The log begins with the node as the run began, and ends with it as it is; each node of the log is
-- a value that it had in the run.
pub record AreValuesOf {T : Type 0} (stood : List (Node T × ℕ)) (run : Run T) (node : Node T) : Type 0 where
  pub later : List (Node T × ℕ)
  pub first : stood ≡ (run.first, 0) ∷ later
  pub earlier : List (Node T × ℕ)
  pub now : stood ≡ earlier ++ (node, 0) ∷ []
  pub each : AreAmongValues stood (values_in run)

module _ {T : Type 0} (tapes : Tape T) where
  -- The node was opened from the tape that the log has, and from no other: from what was read of
  -- it, which is its content if it is durable.
  pub record IsOpenedFromLog (read_from : List (T × ℕ)) (node : Node T) : Type 0 where
    pub tape : T
    pub only : read_from ≡ (tape, 0) ∷ []
    pub opened : IsOpenedFromTape tapes node.n node.id tape node

  -- A node that was opened from the tape that `read_from` has is this one by now, by the acts of a
  -- run of `wf_execution`, with the values that `stood` has. By them it was given exactly these
  -- messages, and returned exactly these, and of its own messages it was given only what it had
  -- returned.
  pub record IsLife (read_from : List (T × ℕ)) (stood : List (Node T × ℕ)) (given : List (Message × Origin)) (emitted : List Message) (node : Node T) : Type 0 where
    pub run : Run T
    pub origins : List Origin
    pub opened : IsOpenedFromLog read_from run.first
    pub number : node.id ≡ run.first.id
    pub among : node.n ≡ run.first.n
    pub done : AreDone tapes run.first run.acts
    pub values : AreValuesOf stood run node
    pub now : last run ≡ node
    pub sends : outputs run.acts ≡ emitted
    pub takes : delivered run.acts origins ≡ given
    pub received : AreOwnReceived [] run.acts origins
