-- A folder that joins: what it was told, what counts of that, and when it may vote.
use Rattle.std.specs.Prelude.{◌≡◌, ◌≢◌, ℕ, zero, suc, ◌+◌, ◌*◌, ◌<◌, ◌≤◌, ◌⊎◌, max, Bool, true, false, ◌&&◌, ◌==◌, not, length, replicate, slice_index_or, slice_set}
use Rattle.std.specs.List.{list_all}
use Rattle.wf_ballot.specs.Majority.{count_nodes}
use Rattle.wf_ballot.specs.Sequence.{last_sequence}
use Rattle.wf_folder.specs.FarmFile.{IsNumberOfNodes}
use Rattle.wf_model.specs.VolatileState.{window}
use Rattle.wf_rejoin.specs.Answer.{highest}
use Rattle.wf_rejoin.specs.declared.joining.Joining.{Joining}
use Rattle.wf_rejoin.specs.declared.joining.Stage.{Stage}
use Rattle.wf_rejoin.specs.declared.joining.Stage.TheVariants.{Unasked, Agreed, Answered}
use Rattle.wf_rejoin.specs.declared.replacement.Replacement.{Replacement}

-- it is one of the farm's nodes
pub record IsJoining (j : Joining) : Type 0 where
  pub of_farm : IsNumberOfNodes j.nodes
  pub member : j.node < j.nodes
  pub stages : length j.stages ≡ 64

-- ---- the other nodes

abbrev pub stage_of : Joining → ℕ → Stage
stage_of j i = slice_index_or j.stages i Unasked

abbrev pub has_agreed : Stage → Bool
has_agreed Unasked = false
has_agreed Agreed = true
has_agreed (Answered answer) = true

-- it has agreed and not answered yet
abbrev pub owes : Stage → Bool
owes Unasked = false
owes Agreed = true
owes (Answered answer) = false

abbrev pub owes_nothing : Stage → Bool
owes_nothing stage = not (owes stage)

abbrev pub highest_of : Stage → ℕ
highest_of Unasked = 0
highest_of Agreed = 0
highest_of (Answered answer) = highest answer

-- the nodes that have agreed; it is none of them itself
abbrev pub agreed_nodes : Joining → ℕ → Bool
agreed_nodes j i = not (i == j.node) && has_agreed (stage_of j i)

-- so many have agreed; and they are at least half of all nodes
unfoldable pub agreed_count : Joining → ℕ
agreed_count j = count_nodes j.nodes (agreed_nodes j)

abbrev pub HasHalf : Joining → Type 0
HasHalf j = j.nodes ≤ 2 * agreed_count j

-- each node that has agreed has answered
abbrev pub AllAnswered : Joining → Type 0
AllAnswered j = list_all owes_nothing j.stages ≡ true

-- the highest sequence of all answers
unfoldable pub highest_below : ℕ → (ℕ → Stage) → ℕ
highest_below zero stages = 0
highest_below (suc i) stages = max (highest_below i stages) (highest_of (stages i))

unfoldable pub highest_answer : Joining → ℕ
highest_answer j = highest_below 64 (stage_of j)

-- ---- what it is told

-- a replacement with this count begins: nobody has agreed to it yet
abbrev pub begun : Joining → ℕ → Joining
begun j count = record j { replacement = record { count = count; mark = j.replacement.mark }; stages = replicate 64 Unasked }

abbrev pub with_stage : Joining → ℕ → Stage → Joining
with_stage j i stage = record j { stages = slice_set j.stages i stage }

-- another node of the farm, that hasn't agreed to the replacement, which was begun
pub record IsOpenTo (j : Joining) (i : ℕ) : Type 0 where
  pub begun : 1 ≤ j.replacement.count
  pub other : i ≢ j.node
  pub member : i < j.nodes
  pub first : stage_of j i ≡ Unasked

-- A node's agreement counts: it agrees to just this replacement, for the first time, and half of
-- all nodes haven't yet.
pub record AgreementCounts (j : Joining) (i : ℕ) (r : Replacement) : Type 0 where
  pub open_to : IsOpenTo j i
  pub same : r ≡ j.replacement
  pub before_half : ¬ HasHalf j

-- A node's answer counts: it is to just this replacement, once half of all nodes have agreed, this
-- one among them, and it is its first.
pub record AnswerCounts (j : Joining) (i : ℕ) (r : Replacement) : Type 0 where
  pub same : r ≡ j.replacement
  pub half : HasHalf j
  pub owed : stage_of j i ≡ Agreed

-- ---- when it may vote

-- all definitions up to a whole window after m, or all that there can be
abbrev pub HasWindowAfter : (m published : ℕ) → Type 0
HasWindowAfter m published = (m + window ≤ published) ⊎ (last_sequence ≤ published)

-- half of all nodes have agreed and answered, and it has published a window more
pub record MayVote (j : Joining) (published : ℕ) : Type 0 where
  pub half : HasHalf j
  pub answered : AllAnswered j
  pub far : HasWindowAfter (highest_answer j) published

-- half have agreed and answered, and it has published what they had
pub record MayServe (j : Joining) (published : ℕ) : Type 0 where
  pub half : HasHalf j
  pub answered : AllAnswered j
  pub far : highest_answer j ≤ published
