-- What several processes do, each one node of a farm, in one order of time.
use Rattle.std.specs.Prelude.{◌≡◌, ℕ, zero, suc, ◌<◌, ◌==◌, Bool, ⊤, List, [], ◌∷◌, ◌++◌, length, slice_get, Some, if◌then◌else◌}
use Rattle.wf_model.specs.Message.{Message}
use Rattle.wf_model.specs.Table as table
use Rattle.wf_model.specs.Table.{Input}
use Rattle.wf_model.specs.World.{Node, World}
use Rattle.wf_model.specs.Chosen.{IsIn}
use Rattle.wf_trace.specs.Deed.{Deed, Takes, Crashes, Stops, Restarts, IsDone, new_node}

-- the process of that number did this, and sent these messages by it
pub record Entry (V : Type 0) : Type 0 where
  pub process : ℕ
  pub deed : Deed V
  pub outputs : List (Message V)

-- the entries of one process, in their order
unfoldable pub of_process : {V : Type 0} → ℕ → List (Entry V) → List (Entry V)
of_process i [] = []
of_process i (entry ∷ entries) = if entry.process == i then entry ∷ of_process i entries else of_process i entries

-- all messages that the entries sent, in their order
unfoldable pub outputs_by : {V : Type 0} → List (Entry V) → List (Message V)
outputs_by [] = []
outputs_by (entry ∷ entries) = entry.outputs ++ outputs_by entries

-- ---- one process

-- The entries lead the node of process i of n from the one value to the other, deed by deed.
abbrev pub IsLifeByEntries : {V : Type 0} → (V → V → Bool) → ℕ → ℕ → Node V → List (Entry V) → Node V → Type 0
IsLifeByEntries same n i before [] after = after ≡ before
IsLifeByEntries {V} same n i before (entry ∷ entries) after =
    (middle : Node V) × IsDone same n i before entry.deed entry.outputs middle × IsLifeByEntries same n i middle entries after

-- the node after so many of its life's entries, or after all if there are fewer
abbrev pub node_at : {V : Type 0} (same : V → V → Bool) (n i : ℕ) (before : Node V) (entries : List (Entry V)) (after : Node V) →
    IsLifeByEntries same n i before entries after → ℕ → Node V
node_at same n i before [] after life many = before
node_at same n i before (entry ∷ entries) after life zero = before
node_at same n i before (entry ∷ entries) after life (suc many) = node_at same n i life.0 entries after life.2 many

-- ---- what is delivered was sent

-- the message is one of these
abbrev pub IsInputOf : {V : Type 0} → List (Message V) → Input V → Type 0
IsInputOf sent (table.Propose d) = ⊤
IsInputOf sent table.Retry = ⊤
IsInputOf sent table.CatchUp = ⊤
IsInputOf sent (table.Deliver message) = IsIn message sent

-- what a deed delivers is one of these; a stop and a restart deliver nothing
abbrev pub DeliversOneOf : {V : Type 0} → List (Message V) → Deed V → Type 0
DeliversOneOf sent (Takes input) = IsInputOf sent input
DeliversOneOf sent (Crashes input kept) = IsInputOf sent input
DeliversOneOf sent Stops = ⊤
DeliversOneOf sent Restarts = ⊤

-- Each delivered message was sent before: it is one of these, or of those that earlier entries
-- sent, by whichever process.
abbrev pub AreReceived : {V : Type 0} → List (Message V) → List (Entry V) → Type 0
AreReceived sent [] = ⊤
AreReceived sent (entry ∷ entries) = DeliversOneOf sent entry.deed × AreReceived (sent ++ entry.outputs) entries

-- ---- all of them

-- each entry is of one of the n processes
abbrev pub AreMembers : {V : Type 0} → ℕ → List (Entry V) → Type 0
AreMembers n [] = ⊤
AreMembers n (entry ∷ entries) = (entry.process < n) × AreMembers n entries

-- Where these messages were sent before, the entries lead the n processes' nodes from the one to
-- the other: the entries of each process are its life, and each message that is delivered was sent
-- before.
pub record GoOn {V : Type 0} (same : V → V → Bool) (n : ℕ) (sent : List (Message V)) (nodes : ℕ → Node V) (entries : List (Entry V)) (after : ℕ → Node V) : Type 0 where
  pub members : AreMembers n entries
  pub lives : (i : ℕ) → i < n → IsLifeByEntries same n i (nodes i) (of_process i entries) (after i)
  pub received : AreReceived sent entries

-- the entries from the start on: all processes are new, and nothing was sent
abbrev pub IsTrace : {V : Type 0} → (V → V → Bool) → ℕ → List (Entry V) → (ℕ → Node V) → Type 0
IsTrace same n entries nodes = GoOn same n [] (λ i. new_node) entries nodes

-- the world has n nodes, these ones, and exactly these messages were sent in it
pub record Refines {V : Type 0} (n : ℕ) (nodes : ℕ → Node V) (sent : List (Message V)) (w : World V) : Type 0 where
  pub as_many : length w.nodes ≡ n
  pub each : (i : ℕ) → i < n → slice_get w.nodes i ≡ Some (nodes i)
  pub messages : w.sent ≡ sent
