-- What a command did.
use Rattle.std.specs.Prelude.{◌≡◌, ◌∷◌, ℕ, List, Option, Result, Ok, Err, IsSome}
use Rattle.wf_loop.specs.Process.{Process}
use Rattle.wf_client.specs.Client.{Client}
use Rattle.wf_folder.specs.NodeFile.{IsNodeFile}
use Rattle.wf_folder.specs.declared.node_file.NodeFile.{NodeFile}
use Rattle.wf_line.specs.declared.node_line.NodeCommand.{NodeCommand}
use Rattle.wf_line.specs.declared.node_line.NodeCommand.TheVariants as commands
use Rattle.wf_line.specs.declared.node_line.NodeLine.{NodeLine}
use Rattle.wf_loop.specs.Answer.{AreAnswered, AreEarlier}
use Rattle.wf_loop.specs.Continuation.{IsEarlier, IsHeardKept}
use Rattle.wf_loop.specs.Exchanges.{Exchange}
use Rattle.wf_loop.specs.Lived.{HasLived}
use Rattle.wf_loop.specs.Readers.{AreRepliedEarlier}
use Rattle.wf_loop.specs.Voter.{Voter}
use Rattle.wf_loop.specs.Membership.{membership_by}
use Rattle.wf_loop.specs.NodePlan.{NodePlan}
use Rattle.wf_node.specs.Node.{stored_of}
use Rattle.wf_node_folder.specs.Cleared.{IsClearDone}
use Rattle.wf_node_folder.specs.Fault.{IsFromSystem, fault_status}
use Rattle.wf_node_folder.specs.Folder.{StandsForRead, StaysFrom, heard_in, tape_in}
use Rattle.wf_node_folder.specs.Held.{IsRaisedTo}
use Rattle.wf_node_command.specs.Learned.{HasOnlyLearned}
use Rattle.wf_node_folder.specs.Made.{IsInitDone}
use Rattle.wf_node_folder.specs.Ready.{IsNodePlanned}
use Rattle.wf_node_folder.specs.Start.{IsNodeFault, IsStartOn, IsProcessStarted}
pub use Rattle.wf_node_folder.specs.declared.fault.CommandFault.{CommandFault}
use Rattle.wf_peer.specs.declared.heard.Heard.{Heard as HeardOfNode}
use Rattle.wf_store.specs.Call.{Call, locked}
use Rattle.wf_tape.specs.declared.tape.Tape.{Ghosts as Tape}

-- ---- node

module _ {T : Type 0} (tapes : Tape T) where
  -- The process has gone on in an event loop, whose voter it is of at a later moment, and has
  -- lived; each client was sent the response to exactly what had come of its request, by this
  -- process, as it was before, which had lived so; each question of a reader was replied by the
  -- list that its node had by then; and what any message of a peer that it was given tells of the
  -- peer's round and promise is in the file `heard`. To its end it went by what its plan says of
  -- replacements, and if its folder joins, it has only learned.
  pub record HasLivedOn (started : Process T tapes) (plan : NodePlan) (calls : List Call) : Type 0 where
    pub voter : Voter T tapes
    pub lived : HasLived tapes voter.process
    pub befores : List (Voter T tapes × ℕ)
    pub clients : List (Client × ℕ)
    pub afters : List (Voter T tapes × ℕ)
    pub answered : ∥ AreAnswered tapes befores clients afters ∥₁
    pub answering : ∥ AreEarlier tapes befores voter.process ∥₁
    pub exchanges : List Exchange
    pub replied : ∥ AreRepliedEarlier tapes voter.process exchanges ∥₁
    pub earlier : IsEarlier tapes started voter.process
    pub heard : IsHeardKept (heard_in calls) voter
    pub went_by : voter.membership ≡ membership_by plan
    pub learned : IsSome plan.joining → HasOnlyLearned tapes voter.process

  -- how the turns of a process ended, if they began: its tape was left to it
  abbrev pub IsNodeServed : Process T tapes → NodePlan → List Call → List Call → Result (Unit {0}) CommandFault → Type 0
  IsNodeServed started plan old new (Ok done) = HasLivedOn started plan new × ∥ StaysFrom old new ∥₁
  IsNodeServed started plan old new (Err fault) = IsFromSystem fault × (new ≡ old)

  -- The node was served. Its folder was locked, and these were the first calls: its start was
  -- admitted, its tape compared and opened, and its file written, raised to what its node had
  -- stored. Its plan goes by what was read of the files `replaced` and `joins`. Then its process
  -- has gone on by that plan, and its tape was left to it.
  pub record HasServed (line : NodeLine) (old new : List Call) : Type 0 where
    pub file : NodeFile
    pub written : NodeFile
    pub sound : IsNodeFile written
    pub heard : List (Option HeardOfNode)
    pub begun : List Call
    pub is_start : IsStartOn line file written heard (locked ∷ old) begun
    pub started : Process T tapes
    pub is_started : IsProcessStarted tapes file started
    pub on_read : StandsForRead (stored_of started.actor.node) (tape_in begun)
    pub is_raised : IsRaisedTo (stored_of started.actor.node) file written
    pub plan : NodePlan
    pub is_planned : IsNodePlanned line file begun plan
    pub on : HasLivedOn started plan new
    pub stays : ∥ StaysFrom begun new ∥₁

  -- What `node` did: it took its turns, and then it was served; or it didn't begin.
  abbrev pub IsNodeDone : NodeLine → List Call → List Call → Result (Unit {0}) CommandFault → Type 0
  IsNodeDone line old new (Ok done) = HasServed line old new
  IsNodeDone line old new (Err fault) = IsNodeFault line old new fault

-- ---- any of them

-- what a command did, by the calls of its folder before and after it
abbrev pub IsCommandDone : {T : Type 0} → Tape T → NodeCommand → List Call → List Call → Result (Unit {0}) CommandFault → Type 0
IsCommandDone tapes (commands.Init line) old new result = IsInitDone line old new result
IsCommandDone tapes (commands.Node line) old new result = IsNodeDone tapes line old new result
IsCommandDone tapes (commands.Clear line) old new result = IsClearDone old new result

-- the exit status of a command
abbrev pub command_status : Result (Unit {0}) CommandFault → ℕ
command_status (Ok done) = 0
command_status (Err fault) = fault_status fault
