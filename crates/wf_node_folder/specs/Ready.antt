-- A node that is ready to be served.
use Rattle.std.specs.Prelude.{◌≡◌, List, [], Option, IfSome, option_map}
use Rattle.wf_voter.specs.Process.{IsJustOpened}
use Rattle.wf_folder.specs.declared.node_file.NodeFile.{NodeFile}
use Rattle.wf_line.specs.declared.node_line.NodeLine.{NodeLine}
use Rattle.wf_peer_connections.specs.declared.plan.NodePlan.{NodePlan}
use Rattle.wf_node.specs.Node.{stored_of}
use Rattle.wf_node_folder.specs.FarmPut.{HasPut}
use Rattle.wf_node_folder.specs.Folder.{StandsForRead, heard_in, tape_in}
use Rattle.wf_node_folder.specs.Held.{IsRaisedTo}
use Rattle.wf_node_folder.specs.ReplacementFiles.{IsJoinsIn, IsOwnJoining, IsReplacedIn}
use Rattle.wf_store.specs.Texts.{is_joins, is_replaced, text_in}
use Rattle.wf_node_folder.specs.Start.{IsCountedOn, IsStartAdmitted, IsProcessStarted}
use Rattle.wf_node_folder.specs.declared.ready.ReadyNode.{ReadyNode}
use Rattle.wf_node_folder.specs.declared.replacement_files.ReplacementFiles.{ReplacementFiles}
use Rattle.wf_peer.specs.Told.{AreLeft, IsHeardText}
use Rattle.wf_peer.specs.declared.heard.Heard.{Heard as HeardOfNode}
use Rattle.wf_store.specs.Call.{Call}
use Rattle.wf_tape.specs.declared.tape.Tape.{Ghosts as Tape}

-- The plan goes by what was last read of the files `replaced` and `joins`, which is of the folder
-- with this file `farm`, and by the line.
pub record IsNodePlanned (line : NodeLine) (file : NodeFile) (calls : List Call) (plan : NodePlan) : Type 0 where
  pub replaced : IsReplacedIn (text_in is_replaced calls) plan.replacements
  pub joins : IsJoinsIn (text_in is_joins calls) (option_map (λ joiner. joiner.joining) plan.joining)
  pub own : IfSome plan.joining (λ joiner. IsOwnJoining file joiner.joining)
  pub allowed : plan.may_replace ≡ line.may_replace

-- it goes by what these files say, and by the line
pub record IsPlanOf (line : NodeLine) (files : ReplacementFiles) (plan : NodePlan) : Type 0 where
  pub known : plan.replacements ≡ files.known
  pub joining : plan.joining ≡ files.joining
  pub allowed : plan.may_replace ≡ line.may_replace

module _ {T : Type 0} (tapes : Tape T) where
  -- It was started as the node of this file, whose folder had admitted that: it had stored what the
  -- bytes stand for that had been read of its tape. And its start was counted: the file was
  -- written, raised to what it had stored. What it heard is what the file `heard` says, but for
  -- folders that others have replaced.
  pub record IsReadyAs (file : NodeFile) (ready : ReadyNode T tapes) (old new : List Call) : Type 0 where
    pub known : List (Option HeardOfNode)
    pub is_counted : IsCountedOn file ready.file known old new
    pub left : AreLeft known ready.plan.replacements ready.heard
    pub on_read : StandsForRead (stored_of ready.process.actor.node) (tape_in new)
    pub is_started : IsProcessStarted tapes file ready.process
    pub is_raised : IsRaisedTo (stored_of ready.process.actor.node) file ready.file

  -- Its process is in its first run, to which nothing was given yet, and what it heard is in the
  -- file `heard`, but for folders that others have replaced. Its file `farm` was put there last.
  pub record IsJustStarted (ready : ReadyNode T tapes) (calls : List Call) : Type 0 where
    pub begun : IsJustOpened ready.process
    pub first : ready.process.ended.items ≡ []
    pub known : List (Option HeardOfNode)
    pub heard : IsHeardText (heard_in calls) known
    pub left : AreLeft known ready.plan.replacements ready.heard
    pub put : HasPut ready.file calls

  -- Its folder, which is locked, had admitted the start.
  pub record IsNodeReady (line : NodeLine) (ready : ReadyNode T tapes) (old new : List Call) : Type 0 where
    pub file : NodeFile
    pub admitted : List Call
    pub is_admitted : IsStartAdmitted line file old admitted
    pub is_ready : IsReadyAs file ready admitted new
    pub is_planned : IsNodePlanned line file new ready.plan
