-- The theorems about traces.
use Rattle.std.specs.Prelude.{◌≡◌, ℕ, ◌<◌, ◌≤◌, Bool, List, ◌++◌, Some}
use Rattle.wf_safety.specs.Theorems.{IsBeginning}
use Rattle.wf_model.specs.Message.{Message}
use Rattle.wf_model.specs.DurableState.{definition_at}
use Rattle.wf_model.specs.World.{Node, World, Event, steps, after}
use Rattle.wf_trace.specs.Deed.{new_node}
use Rattle.wf_trace.specs.Trace.{Entry, of_process, outputs_by, IsLifeByEntries, node_at, GoOn, IsTrace, Refines}

-- some events of the model lead from the world to these nodes, with exactly these messages sent
pub record AreNodesReachableFrom {V : Type 0} (same : V → V → Bool) (n : ℕ) (w : World V) (nodes : ℕ → Node V) (sent : List (Message V)) : Type 0 where
  pub events : List (Event V)
  pub refines : Refines n nodes sent (steps same w events)

-- From any world that shows the nodes and has these messages sent, some events lead to one that
-- shows the nodes after, and has all that the entries sent appended, in order.
abbrev pub EntriesAreEvents : Type 0 → Type 0
EntriesAreEvents V = (same : V → V → Bool) (n : ℕ) (sent : List (Message V)) (nodes nodes_after : ℕ → Node V) (entries : List (Entry V)) (w : World V) →
    GoOn same n sent nodes entries nodes_after → Refines n nodes sent w → AreNodesReachableFrom same n w nodes_after (sent ++ outputs_by entries)

-- some events lead from the start of n nodes to these nodes, with exactly these messages sent
pub record AreNodesReachable {V : Type 0} (same : V → V → Bool) (n : ℕ) (nodes : ℕ → Node V) (sent : List (Message V)) : Type 0 where
  pub events : List (Event V)
  pub refines : Refines n nodes sent (after same n events)

-- A trace is a run of the model: it ends at exactly these nodes, and all that was sent, in order.
abbrev pub TraceIsRun : Type 0 → Type 0
TraceIsRun V = (same : V → V → Bool) (n : ℕ) (entries : List (Entry V)) (nodes : ℕ → Node V) → IsTrace same n entries nodes → AreNodesReachable same n nodes (outputs_by entries)

-- Two parts of a trace, one after the other, are one.
abbrev pub PartsAreOne : Type 0 → Type 0
PartsAreOne V = (same : V → V → Bool) (n : ℕ) (sent : List (Message V)) (nodes now nodes_after : ℕ → Node V) (entries later : List (Entry V)) →
    GoOn same n sent nodes entries now → GoOn same n (sent ++ outputs_by entries) now later nodes_after → GoOn same n sent nodes (entries ++ later) nodes_after

-- the definitions that process i has published, after so many of its entries
abbrev pub published_at : {V : Type 0} (same : V → V → Bool) (n : ℕ) (entries : List (Entry V)) (nodes : ℕ → Node V) → IsTrace same n entries nodes →
    (i : ℕ) → i < n → ℕ → List V
published_at same n entries nodes trace i is_member many = (node_at same n i new_node (of_process i entries) (nodes i) (trace.lives i is_member) many).stored.history

-- What a process published at one moment is a beginning of what it has published at each later one.
abbrev pub ListsGrow : Type 0 → Type 0
ListsGrow V = (same : V → V → Bool) (n i : ℕ) (node node_after : Node V) (entries : List (Entry V)) (life : IsLifeByEntries same n i node entries node_after) (many more : ℕ) → many ≤ more →
    IsBeginning (node_at same n i node entries node_after life many).stored.history (node_at same n i node entries node_after life more).stored.history

-- No two processes, at any two moments, have published different definitions under one sequence.
abbrev pub OneDefinition : Type 0 → Type 0
OneDefinition V = (same : V → V → Bool) (n : ℕ) (entries : List (Entry V)) (nodes : ℕ → Node V) (trace : IsTrace same n entries nodes)
    (i j : ℕ) (is_member : i < n) (other_member : j < n) (many other s : ℕ) (c d : V) →
    definition_at (published_at same n entries nodes trace i is_member many) s ≡ Some c → definition_at (published_at same n entries nodes trace j other_member other) s ≡ Some d → c ≡ d

-- There is one history, and what any process has published at any moment is a beginning of it.
pub record HasOneHistory {V : Type 0} (same : V → V → Bool) (n : ℕ) (entries : List (Entry V)) (nodes : ℕ → Node V) (trace : IsTrace same n entries nodes) : Type 0 where
  pub history : List V
  pub each : (i : ℕ) (is_member : i < n) (many : ℕ) → IsBeginning (published_at same n entries nodes trace i is_member many) history

-- That holds of each trace.
abbrev pub OneHistory : Type 0 → Type 0
OneHistory V = (same : V → V → Bool) (n : ℕ) (entries : List (Entry V)) (nodes : ℕ → Node V) (trace : IsTrace same n entries nodes) → HasOneHistory same n entries nodes trace
