-- What processes have published at any moments is of one history.
use Rattle.std.proofs.Common.{◌≡◌, ℕ, ◌<◌, Bool, List, Some, ap, ◌∙◌}
use Rattle.wf_safety.specs.Theorems.{IsBeginning, Agreement}
use Rattle.wf_model.specs.DurableState.{definition_at}
use Rattle.wf_model.specs.World.{Node, World, after}
use Rattle.wf_model.specs.Chosen.{IsChosen, history_of, history}
use Rattle.wf_trace.specs.Deed.{new_node}
use Rattle.wf_trace.specs.Trace.{Entry, of_process, outputs_by, IsTrace, Refines}
use Rattle.wf_trace.specs.Theorems.{AreNodesReachable, published_at, OneDefinition, HasOneHistory, OneHistory}
use Rattle.wf_trace.proofs.Entries.{trace_is_run}
use Rattle.wf_trace.proofs.Growth.{begins_through, grows_to_last}
use Rattle.wf_trace.proofs.History.{published_longer, longest_of_all}

-- ---- at the end

module _ {V : Type 0} (theorem : Agreement V) (same : V → V → Bool) (n : ℕ) (entries : List (Entry V)) (nodes : ℕ → Node V) (trace : IsTrace same n entries nodes) where
  reached : AreNodesReachable same n nodes (outputs_by entries)
  reached = trace_is_run V same n entries nodes trace

  world : World V
  world = after same n reached.events

  shown : Refines n nodes (outputs_by entries) world
  unfolding world
  shown = reached.refines

  last_history : (i : ℕ) → i < n → history world i ≡ (nodes i).stored.history
  unfolding history history_of
  last_history i is_member = ap history_of (shown.each i is_member)

  last_chosen : (i s : ℕ) (d : V) → i < n → definition_at (nodes i).stored.history s ≡ Some d → IsChosen n world.sent s d
  unfolding world
  last_chosen i s d is_member at =
      (theorem.facts same n reached.events).published_is_chosen i s d (ap (λ ds. definition_at ds s) (last_history i is_member) ∙ at)

  last_alike : (i j s : ℕ) (c d : V) → i < n → j < n → definition_at (nodes i).stored.history s ≡ Some c → definition_at (nodes j).stored.history s ≡ Some d → c ≡ d
  unfolding world
  last_alike i j s c d is_member other_member at other =
      (theorem.facts same n reached.events).one_chosen s c d (last_chosen i s c is_member at) (last_chosen j s d other_member other)

  -- ---- at any moments

  to_last : (i : ℕ) (is_member : i < n) (many : ℕ) → IsBeginning (published_at same n entries nodes trace i is_member many) (nodes i).stored.history
  to_last i is_member many = grows_to_last same n i new_node (nodes i) (of_process i entries) (trace.lives i is_member) many

  one_definition : (i j : ℕ) (is_member : i < n) (other_member : j < n) (many other s : ℕ) (c d : V) →
      definition_at (published_at same n entries nodes trace i is_member many) s ≡ Some c → definition_at (published_at same n entries nodes trace j other_member other) s ≡ Some d → c ≡ d
  one_definition i j is_member other_member many other s c d at elsewhere =
      last_alike i j s c d is_member other_member
      (published_longer _ (nodes i).stored.history s c (to_last i is_member many) at)
      (published_longer _ (nodes j).stored.history s d (to_last j other_member other) elsewhere)

  -- ---- one history

  one_history : HasOneHistory same n entries nodes trace
  one_history =
      let so = longest_of_all n (λ i. (nodes i).stored.history) last_alike in
      record {
        history = so.0;
        each = λ i is_member many. begins_through (published_at same n entries nodes trace i is_member many) (nodes i).stored.history so.0
            (to_last i is_member many) (so.1 i is_member);
      }

pub one_definition_each : (V : Type 0) → Agreement V → OneDefinition V
one_definition_each V theorem = λ same n entries nodes trace. one_definition theorem same n entries nodes trace

pub one_history_of_all : (V : Type 0) → Agreement V → OneHistory V
one_history_of_all V theorem = λ same n entries nodes trace. one_history theorem same n entries nodes trace
