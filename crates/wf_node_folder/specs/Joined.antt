-- What is written to the file `joins` of a folder that joins, and what may be put in the place of
-- each file.
use Rattle.std.specs.Prelude.{◌≡◌, ◌⊎◌, ℕ, ⊤, true, List, [], ◌∷◌, ◌++◌, Option, Some}
use Rattle.wf_folder.specs.NodeFile.{IsTextOf}
use Rattle.wf_folder.specs.declared.node_file.NodeFile.{NodeFile}
use Rattle.wf_node_folder.specs.FarmPut.{IsOwnFarm, IsPublishedPut, IsRaise}
use Rattle.wf_node_folder.specs.Sound.{IsSoundText}
use Rattle.wf_store.specs.Texts.{is_farm, is_joins, is_tape, text_in}
use Rattle.wf_rejoin.specs.JoinStep.{StepCounts, stepped}
use Rattle.wf_rejoin.specs.Joining.{MayVote}
use Rattle.wf_rejoin.specs.JoiningText.{IsJoins, joins_text}
use Rattle.wf_rejoin.specs.declared.join_step.JoinStep.{JoinStep}
use Rattle.wf_rejoin.specs.declared.joining.Joining.{Joining}
use Rattle.wf_store.specs.Call.{Call}
use Rattle.wf_store.specs.declared.call_kind.CallKind.{CallKind}
use Rattle.wf_store.specs.declared.call_kind.CallKind.TheVariants as kinds
use Rattle.wf_store.specs.declared.file_name.FileName.{FileName}
use Rattle.wf_store.specs.declared.file_name.FileName.TheVariants as names

-- ---- what its files say

-- by what was last read of the file `farm`, or written to it, its node has published so much
pub record SaysPublished (published : ℕ) (calls : List Call) : Type 0 where
  pub bytes : List ℕ
  pub text : text_in is_farm calls ≡ Some bytes
  pub file : NodeFile
  pub is_file : IsTextOf bytes file
  pub same : file.known.reach.published ≡ published

-- by what was last read of the file `joins`, or written to it, the folder joins, and was told this
pub record SaysJoining (joining : Joining) (calls : List Call) : Type 0 where
  pub joins : IsJoins joining
  pub text : text_in is_joins calls ≡ Some (joins_text joining)

-- By both the folder may vote: at least half of all nodes have agreed to it and answered, and it
-- has published a window more than the highest of their answers. What its process put in the place
-- of the file `farm` says no less.
pub record MayVoteBy (calls : List Call) : Type 0 where
  pub joining : Joining
  pub says : SaysJoining joining calls
  pub published : ℕ
  pub farm : SaysPublished published calls
  pub put : IsPublishedPut published calls
  pub may_vote : MayVote joining published

-- The text is that of the folder once it was told one thing more, which counts.
pub record IsToldNext (text : List ℕ) (calls : List Call) : Type 0 where
  pub joining : Joining
  pub says : SaysJoining joining calls
  pub step : JoinStep
  pub counts : StepCounts step joining
  pub joins : IsJoins (stepped step joining)
  pub is : text ≡ joins_text (stepped step joining)

-- ---- what is put in its place

-- After these calls this text may be: an empty one, by which the folder doesn't join any more, only
-- where it may vote by its files.
abbrev pub MayBePut : List ℕ → List Call → Type 0
MayBePut text calls = ((text ≡ []) × MayVoteBy calls) ⊎ IsToldNext text calls

-- what may be put in the place of each file: a sound text, and in that of `farm` one that says no
-- less of its node than before
abbrev pub MayBePutAt : FileName → List ℕ → List Call → Type 0
MayBePutAt names.Farm text calls = IsRaise text calls
MayBePutAt names.Joins text calls = MayBePut text calls
MayBePutAt file text calls = IsSoundText file text

-- The text that a call put there, or tried to, may be: `bytes` are those that the call shows.
pub record IsPutSoundly (file : FileName) (bytes : Option (List ℕ)) (calls : List Call) : Type 0 where
  pub text : List ℕ
  pub may : MayBePutAt file text calls
  pub is : bytes ≡ Some text

-- A tape that failed is opened again: only beside a file `farm` that was read before, and that the
-- process put there, or tried to.
pub record IsReopening (file : FileName) (calls : List Call) : Type 0 where
  pub tape : is_tape file ≡ true
  pub own : IsOwnFarm calls

abbrev pub IsJoinedSoundly : CallKind → Option (List ℕ) → List Call → Type 0
IsJoinedSoundly (kinds.Replaces file) bytes calls = IsPutSoundly file bytes calls
IsJoinedSoundly (kinds.FailsAt file) bytes calls = IsPutSoundly file bytes calls
IsJoinedSoundly (kinds.Opens file) bytes calls = is_tape file ≡ true
IsJoinedSoundly (kinds.OpensExisting file) bytes calls = IsReopening file calls
IsJoinedSoundly kind bytes calls = ⊤

-- so does each of the later calls
abbrev pub AreJoinedSoundly : List Call → List Call → Type 0
AreJoinedSoundly [] begun = ⊤
AreJoinedSoundly (call ∷ later) begun = IsJoinedSoundly call.kind call.bytes (later ++ begun) × AreJoinedSoundly later begun
