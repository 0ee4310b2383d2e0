-- Connections served one after the other: connection c, counted from 0, by node c mod n.
use Rattle.std.specs.Prelude.{◌≡◌, ◌⊎◌, ◌%◌, ℕ, zero, suc, List, length, Option, Result, Ok, Err}
use Rattle.wf_edge.specs.declared.outcome.Outcome.{Outcome}
use Rattle.wf_node.specs.Node.{Node}
use Rattle.wf_serve.specs.ConnectionEffect.{HaveCaughtUp, IsConnection}
use Rattle.wf_serve.specs.declared.fault.ServeFault.{ServeFault}
use Rattle.wf_tape.specs.declared.tape.Tape.{Ghosts as Tape}

module _ {T : Type 0} (tapes : Tape T) where
  -- One connection was served by the node at index `node_index`, whatever was received and sent on
  -- it.
  pub record IsConnectionAnswered (node_index : ℕ) (nodes nodes_after : List (Node T)) : Type 0 where
    -- what was received, and what was written before and after, if known
    pub input : Option (List ℕ)
    pub written : Option (List ℕ)
    pub written_after : Option (List ℕ)
    pub outcome : Outcome
    pub connection : IsConnection tapes node_index input written written_after nodes outcome nodes_after

  -- It was served so; or it couldn't be accepted, and nothing happened.
  abbrev pub MayBeAnswered : ℕ → List (Node T) → List (Node T) → Type 0
  MayBeAnswered node_index nodes nodes_after = IsConnectionAnswered node_index nodes nodes_after ⊎ (nodes_after ≡ nodes)

  -- This many connections were served by `count` nodes, each by the one whose turn it was.
  unfoldable pub HaveCome : ℕ → ℕ → List (Node T) → List (Node T) → Type 0
  HaveCome count zero nodes nodes_after = nodes_after ≡ nodes
  HaveCome count (suc connection) nodes nodes_after =
      (middle : List (Node T)) × HaveCome count connection nodes middle × MayBeAnswered (connection % count) middle nodes_after

  -- for the crate's own contracts: the port was printed, and this many connections were served; or
  -- it wasn't, and none was
  abbrev pub IfReported : ℕ → List (Node T) → Result (Unit {0}) ServeFault → List (Node T) → Type 0
  IfReported requests nodes (Ok done) nodes_after = HaveCome (length nodes) requests nodes nodes_after
  IfReported requests nodes (Err why) nodes_after = nodes_after ≡ nodes

  -- The nodes caught up; then the port was printed, and this many connections were served, or it
  -- wasn't, and none was.
  pub record IsServing (requests : ℕ) (nodes : List (Node T)) (reported : Result (Unit {0}) ServeFault) (nodes_after : List (Node T)) : Type 0 where
    -- the nodes after they caught up
    pub caught : List (Node T)
    pub catch_up : HaveCaughtUp tapes nodes caught
    pub come : IfReported requests caught reported nodes_after
