-- A file `farm` is sound in one way at most.
use Rattle.std.specs.Prelude.{◌≤◌, ℕ, List, Option, Some, None}
use Rattle.std.proofs.Props.{props}
use Rattle.wf_ballot.specs.Ballot.{Ballot}
use Rattle.wf_folder.specs.NodeFile.{IsNodeFile, last_start}
use Rattle.wf_folder.specs.Reach.{IsPromise, IsVoteOrNone}
use Rattle.wf_folder.specs.Suspension.{IsSuspensionOrNone}
use Rattle.wf_folder.specs.declared.node_file.NodeFile.{NodeFile}
use Rattle.wf_folder.specs.declared.reach.HighestVote.{HighestVote}
use Rattle.wf_folder.specs.declared.suspension.Suspension.{Suspension}
use Rattle.wf_node_folder.specs.FarmPut.{IsPutBetween}
use Rattle.wf_node_folder.specs.Folder.{AreFiles, IsFileOrNone}
use Rattle.wf_store.specs.Call.{Call}

is_promise_prop : (promise : Option Ballot) → IsProp (IsPromise promise)
is_promise_prop None = hlevel props
is_promise_prop (Some ballot) = hlevel props

is_vote_prop : (vote : Option HighestVote) → IsProp (IsVoteOrNone vote)
is_vote_prop None = hlevel props
is_vote_prop (Some vote) = hlevel props

is_suspension_prop : (suspension : Option Suspension) → IsProp (IsSuspensionOrNone suspension)
is_suspension_prop None = hlevel props
is_suspension_prop (Some suspension) = hlevel props

is_file_prop : (file : NodeFile) → IsProp (IsNodeFile file)
is_file_prop file = hlevel (props, is_promise_prop, is_vote_prop, is_suspension_prop)

is_file_or_none_prop : (file : Option NodeFile) → IsProp (IsFileOrNone file)
is_file_or_none_prop None = hlevel props
is_file_or_none_prop (Some file) = is_file_prop file

pub are_files_prop : (file : NodeFile) (attempted : Option NodeFile) → IsProp (AreFiles file attempted)
are_files_prop file attempted = hlevel (props, is_file_prop, is_file_or_none_prop)

-- and sound whatever number of starts it counts
pub with_starts : (file : NodeFile) (starts : ℕ) → IsNodeFile file → starts ≤ last_start → IsNodeFile (record file { starts = starts })
with_starts file starts is within = record {
  nodes = is.nodes;
  node = is.node;
  starts = within;
  reached = is.reached;
  suspended = is.suspended;
  farm = is.farm;
  bytes = is.bytes;
  size = is.size;
}

-- what is known of what was put there is known in one way at most
pub put_between_prop : (file : NodeFile) (attempted : Option NodeFile) (calls : List Call) → IsProp (IsPutBetween file attempted calls)
put_between_prop file attempted calls = hlevel props
