-- Deliveries by a carrier, one after the other, and what they do to the farm.
use Rattle.std.proofs.Common.{◌≡◌, ◌∙◌, ◌<◌, ◌≤◌, ◌+◌, ℕ, zero, suc, List, [], ◌∷◌, ◌++◌, map, take, get_or, length, inl, inr, refl, sym, ap, subst, slice_get, Option, Some, None, arith}
use Rattle.std.proofs.lemmas.List.{append_assoc, map_more, take_all}
use Rattle.wf_def.specs.Definition.{Definition}
use Rattle.wf_def.specs.Equality.{definition_eq}
use Rattle.wf_safety.specs.Theorems.{IsBeginning}
use Rattle.wf_model.specs.Message as model
use Rattle.wf_model.specs.DurableState.{DurableState}
use Rattle.wf_model.specs.Table as table
use Rattle.wf_model.specs.VolatileState.{VolatileState}
use Rattle.wf_model.specs.World as world
use Rattle.wf_model.specs.World.{Event, Node, World, deliver, delivered, happens, step_rejection_of, step_rejection_running, refused, rejected_at, steps}
use Rattle.wf_farm.specs.Agreement.{HasDurableState, HistoriesGrow, IsOneWorld}
use Rattle.wf_farm.specs.Cluster.{AreNodes, Moves, last_rejected}
use Rattle.wf_farm.specs.Carriage.{IsMemory}
use Rattle.wf_farm.specs.Farm.{MemoryFarm, IsAtOnce, Runs, Refines, size}
use Rattle.wf_farm.specs.NodeHost.{MemoryHost, HostsNode}
use Rattle.wf_farm.specs.declared.fault.FarmFault.{FarmFault}
use Rattle.wf_farm.specs.declared.cluster.NodeHost.TheVariants.{Running, Stopped}
use Rattle.wf_play.specs.OrderEffect.{Delivers}
use Rattle.wf_play.specs.Session.{Plays}
use Rattle.wf_play.proofs.FarmCalls.{nothing_played}

-- a delivery fails for memory before anything is done
pub at_once_is_memory : (fault : FarmFault) → IsAtOnce fault → IsMemory fault
at_once_is_memory fault is = subst IsMemory (sym is) tt

-- ---- events, one list after the other

steps_on : (w : World Definition) (events more : List (Event Definition)) → steps definition_eq (steps definition_eq w events) more ≡ steps definition_eq w (events ++ more)
unfolding steps
steps_on w [] more = refl
steps_on w (event ∷ events) more = steps_on (happens definition_eq w event) events more

runs_on : (events more : List (Event Definition)) (before between after : MemoryFarm) → Runs events before between → Runs more between after → Runs (events ++ more) before after
unfolding Moves
runs_on events more before between after first second = λ w refines.
    subst (λ (v : World Definition). Refines after v) (steps_on w events more) (second (steps definition_eq w events) (first w refines))

-- ---- lists of published maps grow, one after the other

beginning_on : {A : Type 0} (xs ys zs : List A) → IsBeginning xs ys → IsBeginning ys zs → IsBeginning xs zs
beginning_on xs ys zs first second =
    (first.0 ++ second.0, sym (append_assoc xs first.0 second.0) ∙ ap (λ front. front ++ second.0) first.1 ∙ second.1)

-- a node of the model has a durable state
stored_at : (host : MemoryHost) (node : Node Definition) → HostsNode host node → HasDurableState (Some host) node.stored
stored_at (Running running) node is = ap (λ (n : Node Definition). n.stored) is
stored_at (Stopped tape) node is = is.1

stored_in : (hosts : List MemoryHost) (nodes : List (Node Definition)) (i : ℕ) → AreNodes hosts nodes → i < length hosts → (stored : DurableState Definition) × HasDurableState (slice_get hosts i) stored
stored_in [] nodes i are there = absurd (omega arith)
stored_in (host ∷ hosts) [] i are there = absurd are
stored_in (host ∷ hosts) (node ∷ nodes) zero are there = (node.stored, stored_at host node are.0)
stored_in (host ∷ hosts) (node ∷ nodes) (suc i) are there = stored_in hosts nodes i are.1 (omega arith)

-- what has a durable state is there
there_is : (hosts : List MemoryHost) (i : ℕ) (stored : DurableState Definition) → HasDurableState (slice_get hosts i) stored → i < length hosts
there_is [] i stored has = absurd has
there_is (host ∷ hosts) zero stored has = omega arith
there_is (host ∷ hosts) (suc i) stored has = let below = there_is hosts i stored has in omega arith

grows_on : (before between after : MemoryFarm) → size between ≡ size before → IsOneWorld between → HistoriesGrow before between → HistoriesGrow between after → HistoriesGrow before after
unfolding HistoriesGrow
grows_on before between after same one first second = λ i old new had has.
    let below = there_is before.hosts i old had in
    let middle = stored_in between.hosts one.the_world.nodes i one.shown.nodes (omega (arith, below, same)) in
    beginning_on old.history middle.0.history new.history (first i old middle.0 had middle.1) (second i middle.0 new middle.1 has)

hosts_grow : (before between after : MemoryFarm) → between.hosts ≡ before.hosts → HistoriesGrow between after → HistoriesGrow before after
unfolding HistoriesGrow
hosts_grow before between after same grows = λ i old new had has. grows i old new (subst (λ (p : List MemoryHost). HasDurableState (slice_get p i) old) (sym same) had) has

-- ---- a play, and a delivery more

plays_on : (more : List (Event Definition)) (before between after : MemoryFarm) → Plays before between → IsOneWorld between → Runs more between after → size after ≡ size between → HistoriesGrow between after → Plays before after
plays_on more before between after plays one runs same grows = record {
  events = plays.events ++ more;
  runs = runs_on plays.events more before between after plays.runs runs;
  size = same ∙ plays.size;
  grows = inr (
      elim plays.grows [
        | inl still ↦ hosts_grow before between after still grows
        | inr grown ↦ grows_on before between after plays.size one grown grows
      ]
      );
}

-- ---- the deliveries so far

abbrev to_node : ℕ → ℕ → Event Definition
to_node i k = deliver i k

-- the first messages, as many as the index says, were delivered
pub record HaveDelivered (i : ℕ) (messages : List ℕ) (index : ℕ) (before after : MemoryFarm) : Type 0 where
  pub runs : Runs (map (λ k. deliver i k) (take index messages)) before after
  pub refused : after.refused ≡ before.refused
  pub pumped : after.pumped ≡ before.pumped
  pub complete : after.complete ≡ before.complete
  pub plays : Plays before after

runs_none : (i : ℕ) (messages : List ℕ) (farm : MemoryFarm) → Runs (map (λ k. deliver i k) (take 0 messages)) farm farm
unfolding Moves steps
runs_none i messages farm = λ w refines. refines

pub none_so_far : (i : ℕ) (messages : List ℕ) (farm : MemoryFarm) → HaveDelivered i messages 0 farm farm
none_so_far i messages farm = record { runs = runs_none i messages farm; refused = refl; pumped = refl; complete = refl; plays = nothing_played farm }

runs_one : (i : ℕ) (messages : List ℕ) (index k d : ℕ) (before between after : MemoryFarm) → index < length messages → k ≡ get_or messages index d →
    Runs (map (λ k. deliver i k) (take index messages)) before between → Runs (deliver i k ∷ []) between after → Runs (map (λ k. deliver i k) (take (index + 1) messages)) before after
runs_one i messages index k d before between after below is first second =
    let last : to_node i k ≡ to_node i (get_or messages index d) = ap (to_node i) is in
    let all : map (to_node i) (take index messages) ++ to_node i k ∷ [] ≡ map (to_node i) (take (index + 1) messages) =
    ap (λ e. map (to_node i) (take index messages) ++ e ∷ []) last ∙ sym (map_more (to_node i) messages index d below) in
    subst (λ (events : List (Event Definition)). Runs events before after) all (runs_on (map (to_node i) (take index messages)) (to_node i k ∷ []) before between after first second)

pub one_more : (i : ℕ) (messages : List ℕ) (index k d : ℕ) (before between after : MemoryFarm) → HaveDelivered i messages index before between → index < length messages → k ≡ get_or messages index d → IsOneWorld between →
    Runs (deliver i k ∷ []) between after → after.refused ≡ between.refused → after.pumped ≡ between.pumped → after.complete ≡ between.complete → size after ≡ size between → HistoriesGrow between after →
    HaveDelivered i messages (index + 1) before after
one_more i messages index k d before between after so_far below is one runs refused pumped complete same grows = record {
  runs = runs_one i messages index k d before between after below is so_far.runs runs;
  refused = refused ∙ so_far.refused;
  pumped = pumped ∙ so_far.pumped;
  complete = complete ∙ so_far.complete;
  plays = plays_on (deliver i k ∷ []) before between after so_far.plays one runs same grows;
}

pub one_failed : (i : ℕ) (messages : List ℕ) (index : ℕ) (before between after : MemoryFarm) → HaveDelivered i messages index before between → IsOneWorld between → Runs [] between after → size after ≡ size between →
    HistoriesGrow between after → Plays before after
one_failed i messages index before between after so_far one runs same grows = plays_on [] before between after so_far.plays one runs same grows

-- ---- no delivery is rejected

running_takes : (stored : DurableState Definition) (volatile : Option (VolatileState Definition)) (message : model.Message Definition) → step_rejection_running stored volatile (table.Deliver message) ≡ None
unfolding step_rejection_running table.step_rejection
running_takes stored None message = refl
running_takes stored (Some volatile) message = refl

node_takes : (node : Option (Node Definition)) (message : Option (model.Message Definition)) → step_rejection_of node (delivered message) ≡ None
unfolding step_rejection_of delivered
node_takes None message = refl
node_takes (Some node) None = refl
node_takes (Some node) (Some message) = running_takes node.stored node.volatile message

never_rejected : (w : World Definition) (i k : ℕ) → refused w (deliver i k) ≡ None
unfolding refused rejected_at world.input_of
never_rejected w i k = node_takes (slice_get w.nodes i) (slice_get w.sent k)

pub none_rejected : (w : World Definition) (i : ℕ) (messages : List ℕ) → last_rejected w (map (λ k. deliver i k) messages) ≡ None
unfolding last_rejected
none_rejected w i [] = refl
none_rejected w i (k ∷ []) = never_rejected w i k
none_rejected w i (k ∷ next ∷ rest) = none_rejected (happens definition_eq w (deliver i k)) i (next ∷ rest)

pub all_delivered : (i : ℕ) (messages : List ℕ) (index : ℕ) (before after : MemoryFarm) → length messages ≤ index → HaveDelivered i messages index before after → Delivers i messages before after
all_delivered i messages index before after all so_far = record {
  runs = subst (λ (ks : List ℕ). Runs (map (λ k. deliver i k) ks) before after) (take_all index messages all) so_far.runs;
  rejected = λ w refines. none_rejected w i messages;
  refused = so_far.refused;
  pumped = so_far.pumped;
}
