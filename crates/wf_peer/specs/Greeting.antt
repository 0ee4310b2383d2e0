-- A greeting and its bytes. Numbers are big-endian.
use Rattle.std.specs.Prelude.{◌≡◌, ℕ, zero, suc, ◌+◌, ◌*◌, ◌<◌, ◌≤◌, ◌^◌, List, [], ◌∷◌, ◌++◌, codes, get_or, length, replicate, Option, Some, None}
use Rattle.std.specs.Int.{w16, w32, to_be_bytes}
use Rattle.wf_ballot.specs.Ballot.{Ballot, ballot_bytes}
use Rattle.wf_ballot.specs.Node.{IsNode}
use Rattle.wf_ballot.specs.Sequence.{IsSequence, seq_bytes}
use Rattle.wf_folder.specs.Name.{IsFarmName}
use Rattle.wf_folder.specs.Reach.{IsPromise, IsVoteOrNone}
use Rattle.wf_folder.specs.declared.reach.HighestVote.{HighestVote}
use Rattle.wf_peer.specs.declared.greeting.Greeting.{Greeting}
use Rattle.wf_peer.specs.declared.progress.Progress.{Progress}
use Rattle.wf_peer.specs.declared.state.NodeState.{NodeState}
use Rattle.wf_peer.specs.declared.state.NodeState.TheVariants as states
use Rattle.wf_rejoin.specs.Replacements.{known_count}
use Rattle.wf_rejoin.specs.declared.replacement.Replacement.{Replacement}

-- a node's progress: a mark and a life of 16 bytes each, and numbers in their ranges
pub record IsProgress (p : Progress) : Type 0 where
  pub mark : length p.mark ≡ 16
  pub starts : p.starts < 2 ^ 32
  pub life : length p.life ≡ 16
  pub round : p.round < 2 ^ 32
  pub promise : IsPromise p.promise
  pub vote : IsVoteOrNone p.vote
  pub published : IsSequence p.published

-- a replacement that is told: a count of 32 bits above 0, and a mark of 16 bytes
pub record IsToldReplacement (r : Replacement) : Type 0 where
  pub begun : 1 ≤ r.count
  pub fits : r.count < 2 ^ 32
  pub size : length r.mark ≡ 16

abbrev pub IsToldOrNone : Option Replacement → Type 0
IsToldOrNone None = Unit {0}
IsToldOrNone (Some r) = IsToldReplacement r

unfoldable pub AreToldOrNone : List (Option Replacement) → Type 0
AreToldOrNone [] = Unit {0}
AreToldOrNone (x ∷ rest) = IsToldOrNone x × AreToldOrNone rest

-- the replacements that are told, that of node i at index i, and with them a sequence, which is 0
-- where none are told
pub record AreTold (known : List (Option Replacement)) (voted : ℕ) : Type 0 where
  pub size : length known ≡ 64
  pub each : AreToldOrNone known
  pub sequence : IsSequence voted
  pub unvoted : known_count known ≡ 0 → voted ≡ 0

-- a farm's name, a number of nodes, a node, its progress, and a digest of 32 bytes
pub record HasFixedParts (g : Greeting) : Type 0 where
  pub farm : IsFarmName g.farm
  pub nodes : g.nodes < 256
  pub node : IsNode g.node
  pub progress : IsProgress g.progress
  pub digest : length g.digest ≡ 32

-- a greeting: these, and what is told of replacements
pub record IsGreeting (g : Greeting) : Type 0 where
  pub fixed : HasFixedParts g
  pub told : AreTold g.replacements g.voted

-- ---- its bytes

-- a promise: that of its ballot, or five zeros
abbrev pub promise_bytes : Option Ballot → List ℕ
promise_bytes None = 0 ∷ 0 ∷ 0 ∷ 0 ∷ 0 ∷ []
promise_bytes (Some ballot) = ballot_bytes ballot

-- a vote: the bytes of its ballot and its sequence, or seven zeros
abbrev pub vote_bytes : Option HighestVote → List ℕ
vote_bytes None = 0 ∷ 0 ∷ 0 ∷ 0 ∷ 0 ∷ 0 ∷ 0 ∷ []
vote_bytes (Some v) = ballot_bytes v.ballot ++ seq_bytes v.sequence

-- a node's state
abbrev pub state_byte : NodeState → ℕ
state_byte states.Serves = 1
state_byte states.Halted = 2
state_byte states.Suspended = 3
state_byte states.Joins = 4
state_byte states.Outvoted = 5

-- the mark, the starts (4 bytes), the life (16), the round (4), the promise (5), the vote (7) and
-- the published sequence (2)
unfoldable pub progress_bytes : Progress → List ℕ
progress_bytes p = p.mark ++ (to_be_bytes w32 p.starts ++ (p.life ++ (to_be_bytes w32 p.round ++ (promise_bytes p.promise ++ (vote_bytes p.vote ++ seq_bytes p.published)))))

-- what each greeting begins with, and its version (2 bytes)
abbrev pub greeting_mark : List ℕ
greeting_mark = codes "wf-node\n"

abbrev pub peer_version : ℕ
peer_version = 2

-- the replacement of node i, if there is one: the node (1), its count (4) and its mark (16); and
-- what follows
unfoldable pub entry_then : ℕ → Option Replacement → List ℕ → List ℕ
entry_then i None rest = rest
entry_then i (Some r) rest = i ∷ (to_be_bytes w32 r.count ++ (r.mark ++ rest))

-- those of the nodes from i on, in rising order
unfoldable pub entries_from : ℕ → List (Option Replacement) → List ℕ
entries_from i [] = []
entries_from i (x ∷ rest) = entry_then i x (entries_from (suc i) rest)

-- after the number of replaced nodes: nothing where it is 0, else the replacements, and the highest
-- sequence at which the node has a vote (2)
abbrev pub told_after : ℕ → List (Option Replacement) → ℕ → List ℕ
told_after zero known voted = []
told_after (suc k) known voted = entries_from 0 known ++ seq_bytes voted

-- the number of replaced nodes (1), and what follows it
unfoldable pub told_bytes : List (Option Replacement) → ℕ → List ℕ
told_bytes known voted = known_count known ∷ told_after (known_count known) known voted

-- after the version: the farm's name (32 bytes), its number of nodes (1), the node (1), its
-- progress (54), the digest (32), the state (1)
unfoldable pub fixed_bytes : Greeting → List ℕ
fixed_bytes g = g.farm ++ ((g.nodes ∷ g.node ∷ []) ++ (progress_bytes g.progress ++ (g.digest ++ (state_byte g.state ∷ []))))

-- these, and what is told of replacements
unfoldable pub body_bytes : Greeting → List ℕ
body_bytes g = fixed_bytes g ++ told_bytes g.replacements g.voted

-- all of it
unfoldable pub greeting_bytes : Greeting → List ℕ
greeting_bytes g = greeting_mark ++ (to_be_bytes w16 peer_version ++ body_bytes g)

-- the greeting that tells of no replacement instead
abbrev pub plain : Greeting → Greeting
plain g = record g { replacements = replicate 64 None; voted = 0 }

-- ---- the number of its bytes

-- of those after the number of replaced nodes
abbrev pub told_length : ℕ → ℕ
told_length zero = 0
told_length (suc k) = 21 * suc k + 2

-- of the greeting that begins so; while fewer than 132 are there, these are its least
abbrev pub greeting_length : List ℕ → ℕ
greeting_length bytes = 132 + told_length (get_or bytes 131 0)

-- Two greetings with which the same bytes begin are as long.
abbrev pub GreetingsAreAsLong : Type 0
GreetingsAreAsLong = (g h : Greeting) (rest more : List ℕ) → IsGreeting g → IsGreeting h → greeting_bytes g ++ rest ≡ greeting_bytes h ++ more →
    length (greeting_bytes g) ≡ length (greeting_bytes h)
