-- Theorems: which folders half of all nodes agree to, and what a folder has that may vote.
use Rattle.std.specs.Prelude.{◌≡◌, ◌⊎◌, ℕ, suc, ◌*◌, ◌<◌, ◌≤◌, Bool, true, List, Option, Some}
use Rattle.wf_ballot.specs.Majority.{count_nodes}
use Rattle.wf_model.specs.DurableState.{DurableState}
use Rattle.wf_safety.specs.Replacement.{IsUpTo}
use Rattle.wf_rejoin.specs.Answer.{IsAbout, highest}
use Rattle.wf_rejoin.specs.Joining.{HasHalf, HasWindowAfter, IsJoining, MayVote, agreed_nodes, stage_of}
use Rattle.wf_rejoin.specs.Replacements.{AreNoOlder, latest_of}
use Rattle.wf_rejoin.specs.declared.answer.Answer.{Answer}
use Rattle.wf_rejoin.specs.declared.joining.Joining.{Joining}
use Rattle.wf_rejoin.specs.declared.joining.Stage.TheVariants.{Answered}
use Rattle.wf_rejoin.specs.declared.replacement.Replacement.{Replacement}

-- ---- what nodes agree to. `tables j k` is what node j knows of replacements at moment k.

-- Each change of it is one of `Replacements`, so it is no older after it; so it is after a restart,
-- since it was written.
abbrev pub AreKept : (ℕ → ℕ → List (Option Replacement)) → Type 0
AreKept tables = (j k : ℕ) → AreNoOlder (tables j k) (tables j (suc k))

-- Of no number does a node know a lower count later, nor another folder of the same count.
abbrev pub CountsNeverFall : Type 0
CountsNeverFall = (tables : ℕ → ℕ → List (Option Replacement)) → AreKept tables → (j i k l : ℕ) (r s : Replacement) → k ≤ l →
    latest_of (tables j k) i ≡ Some r → latest_of (tables j l) i ≡ Some s → (r.count < s.count) ⊎ (s ≡ r)

-- Each node that has agreed, by what this folder has, knew of its replacement at some moment.
abbrev pub HaveAgreed : (ℕ → ℕ → List (Option Replacement)) → Joining → Type 0
HaveAgreed tables j = (i : ℕ) → i < j.nodes → agreed_nodes j i ≡ true → (k : ℕ) × (latest_of (tables i k) j.node ≡ Some j.replacement)

-- two folders that join as one node of one farm
pub record AreRivals (j other : Joining) : Type 0 where
  pub node : other.node ≡ j.node
  pub nodes : other.nodes ≡ j.nodes
  pub count : other.replacement.count ≡ j.replacement.count

-- Half of all nodes have agreed to it.
pub record IsAgreedTo (tables : ℕ → ℕ → List (Option Replacement)) (j : Joining) : Type 0 where
  pub joins : IsJoining j
  pub half : HasHalf j
  pub agreed : HaveAgreed tables j

-- Of two folders that join as one node under one count, half of all nodes agree to one at most.
abbrev pub OneFolder : Type 0
OneFolder = (tables : ℕ → ℕ → List (Option Replacement)) (j other : Joining) → AreKept tables → AreRivals j other → IsAgreedTo tables j → IsAgreedTo tables other → other.replacement ≡ j.replacement

-- ---- what a folder has that may vote

-- At least half of all nodes have answered it, and none of their answers is higher than m; it has
-- published a window more.
pub record IsGuardedByAnswers (j : Joining) (published : ℕ) : Type 0 where
  pub m : ℕ
  pub asked : ℕ → Bool
  pub half : j.nodes ≤ 2 * count_nodes j.nodes asked
  pub each : (i : ℕ) → i < j.nodes → asked i ≡ true → (a : Answer) × (stage_of j i ≡ Answered a) × (highest a ≤ m)
  pub far : HasWindowAfter m published

abbrev pub VotersAreGuarded : Type 0
VotersAreGuarded = (j : Joining) (published : ℕ) → IsJoining j → MayVote j published → IsGuardedByAnswers j published

-- What an answer is about is up to m, if the answer is no higher.
abbrev pub AnswersAreBounds : Type 0 → Type 0
AnswersAreBounds V = (stored : DurableState V) (a : Answer) (m : ℕ) → IsAbout stored a → highest a ≤ m → IsUpTo stored m
