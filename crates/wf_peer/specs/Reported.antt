-- What the messages of a node's steps tell of it: no more than it has stored by then.
use Rattle.std.specs.Prelude.{◌≡◌, ℕ, Bool, ⊤, List, [], ◌∷◌, Option, Some}
use Rattle.wf_model.specs.Message.{Message, Vote}
use Rattle.wf_model.specs.DurableState.{DurableState, Record, fold, published}
use Rattle.wf_model.specs.Table.{Input, Transition, transition, store}
use Rattle.wf_model.specs.VolatileState.{VolatileState, at_start}
use Rattle.wf_folder.specs.Reach.{IsNoLowerVote}
use Rattle.wf_folder.specs.declared.reach.HighestVote.{HighestVote}
use Rattle.wf_peer.specs.Progress.{IsNoLess, owed}
use Rattle.wf_peer.specs.Sender.{advance_by}
use Rattle.wf_peer.specs.declared.progress.Progress.{Progress}

-- no stored vote is above this one: that of no node is above its highest vote
pub record IsHighest {V : Type 0} (stored : DurableState V) (highest : Option HighestVote) : Type 0 where
  pub each : (s : ℕ) (vote : Vote V) → stored.votes s ≡ Some vote → IsNoLowerVote (Some (record { ballot = vote.ballot; sequence = s })) highest

-- the progress of a node that has stored this, in this start of it, with this highest vote
abbrev pub progress_of : {V : Type 0} → Progress → Option HighestVote → DurableState V → Progress
progress_of start highest stored = record start { round = stored.tried; promise = stored.promise; vote = highest; published = published stored }

-- what was heard, if the node's progress has all of it that it has to have still, is so after each
-- of these messages
abbrev pub ReportNoMore : {V : Type 0} → Progress → List (Message V) → Type 0
ReportNoMore progress [] = ⊤
ReportNoMore progress (m ∷ rest) = ((known : Progress) → IsNoLess (owed known progress.published) progress → IsNoLess (owed (advance_by known m) progress.published) progress) × ReportNoMore progress rest

-- a transition's record takes back no round, promise and publication, and its messages tell no more
-- than is stored by then, votes included
pub record ReportsNoMore {V : Type 0} (start : Progress) (stored : DurableState V) (transition : Transition V) : Type 0 where
  pub grows : (highest : Option HighestVote) → IsNoLess (progress_of start highest stored) (progress_of start highest (store stored transition.entry))
  pub reports : (highest : Option HighestVote) → IsHighest (store stored transition.entry) highest → ReportNoMore (progress_of start highest (store stored transition.entry)) transition.messages

-- ---- a node's steps and restarts

-- a node that runs, and one that starts with what it has stored
pub record RunningNode (V : Type 0) : Type 0 where
  pub stored : DurableState V
  pub volatile : VolatileState V

abbrev pub node_at_start : {V : Type 0} → DurableState V → RunningNode V
node_at_start stored = record { stored = stored; volatile = at_start }

-- What happens to it: a step with any input, or a restart. A crash within a step is a restart,
-- after the step or instead of it.
pub data Occurrence (V : Type 0) : Type 0 where
  Handled : (input : Input V) → Occurrence V
  Restarted : Occurrence V

-- the node after this transition
abbrev pub after_transition : {V : Type 0} → DurableState V → Transition V → RunningNode V
after_transition stored transition = record { stored = store stored transition.entry; volatile = transition.volatile }

-- node `me` of n after one occurrence, and after these in turn
module _ {V : Type 0} (same : V → V → Bool) (n me : ℕ) where
  unfoldable pub after_occurrence : RunningNode V → Occurrence V → RunningNode V
  after_occurrence node (Handled input) = after_transition node.stored (transition same n me node.stored node.volatile input)
  after_occurrence node Restarted = node_at_start node.stored

  unfoldable pub after_all : RunningNode V → List (Occurrence V) → RunningNode V
  after_all node [] = node
  after_all node (first ∷ rest) = after_all (after_occurrence node first) rest

  -- the next transition, with this input, takes nothing back, and tells no more than is stored by
  -- then
  abbrev pub NextReportsNoMore : Progress → RunningNode V → Input V → Type 0
  NextReportsNoMore start node input = ReportsNoMore start node.stored (transition same n me node.stored node.volatile input)

-- So it is of each node that started from a tape with these records, or with none, whatever
-- happened to it since.
abbrev pub StepsReportNoMore : Type 0 → Type 0
StepsReportNoMore V = (same : V → V → Bool) (n me : ℕ) (records : List (Record V)) (first : DurableState V) → fold records ≡ Some first →
    (occurred : List (Occurrence V)) (input : Input V) (start : Progress) →
    NextReportsNoMore same n me start (after_all same n me (node_at_start first) occurred) input

-- What is no less than a progress is no less than one that this is no less than.
abbrev pub NoLessIsTransitive : Type 0
NoLessIsTransitive = (a b c : Progress) → IsNoLess a b → IsNoLess b c → IsNoLess a c
