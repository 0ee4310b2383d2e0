-- What an order of a script does to the farm on which it is played, by the order's kind.
use Rattle.wf_play.specs.Session.{Session, node_at}
use Rattle.std.specs.Prelude.{◌≡◌, ℕ, Bool, true, false, ◌&&◌, List, [], ◌∷◌, length, map, slice_get, Option, Some, None, option_map, is_some}
use Rattle.wf_def.specs.Definition.{Definition}
use Rattle.wf_model.specs.Table as table
use Rattle.wf_model.specs.World as world
use Rattle.wf_model.specs.World.{Event, World}
use Rattle.wf_farm.specs.Cluster.{ReportsWhy, last_rejected}
use Rattle.wf_farm.specs.Farm.{MemoryFarm, Runs, Refines}
use Rattle.wf_farm.specs.Pump.{IsPumped}
use Rattle.wf_model.specs.Kept.{view as view_kept}
use Rattle.wf_model.specs.declared.action.Action.{Action}
use Rattle.wf_model.specs.declared.action.Action.TheVariants as action
use Rattle.wf_script.specs.declared.fault.ScriptFault.{ScriptFault}
use Rattle.wf_script.specs.declared.fault.ScriptFault.TheVariants as fault
use Rattle.wf_script.specs.Order.{Order}
use Rattle.wf_script.specs.Order as order
use Rattle.wf_script.specs.Script.{Numbered}

-- the step of an order on a farm, with the map of its script that it names; nothing where the
-- script doesn't have that
abbrev pub action_of : List Definition → Action ℕ ℕ → Option (table.Action Definition ℕ)
action_of maps (action.Propose m) = option_map table.Propose (slice_get maps m)
action_of maps action.Retry = Some table.Retry
action_of maps action.CatchUp = Some table.CatchUp
action_of maps (action.Deliver k) = Some (table.Deliver k)

-- the event that an order is; deliveries and pumps are several, and the others are none
abbrev pub event_at : List Definition → Order → Option (Event Definition)
event_at maps (order.Step i a) = option_map (world.Act i) (action_of maps a)
event_at maps (order.Stop i) = Some (world.Stop i)
event_at maps (order.Restart i) = Some (world.Restart i)
event_at maps (order.Torn i a kept) = option_map (λ a. world.Torn i a (view_kept kept)) (action_of maps a)
event_at maps other = None

-- Exactly these events have happened: the farm reports why the last one was rejected, if it was,
-- and as many messages count as pumped as before.
pub record HaveHappened (events : List (Event Definition)) (before after : MemoryFarm) : Type 0 where
  pub runs : Runs events before after
  pub refused : ReportsWhy (λ w. last_rejected w events) after.refused before.hosts before.sent
  pub pumped : after.pumped ≡ before.pumped

-- this event has happened, or nothing
abbrev pub HappensIf : Option (Event Definition) → MemoryFarm → MemoryFarm → Type 0
HappensIf None before after = after ≡ before
HappensIf (Some event) before after = HaveHappened (event ∷ []) before after

-- Exactly these messages were delivered to node i, in turn. No delivery is rejected; the farm
-- reports the rejection that it reported before, and as many messages count as pumped as before.
pub record Delivers (i : ℕ) (messages : List ℕ) (before after : MemoryFarm) : Type 0 where
  pub runs : Runs (map (λ k. world.deliver i k) messages) before after
  pub rejected : (w : World Definition) → Refines before w → last_rejected w (map (λ k. world.deliver i k) messages) ≡ None
  pub refused : after.refused ≡ before.refused
  pub pumped : after.pumped ≡ before.pumped

-- Messages were pumped to the nodes that are named, to the end or until a pump stops.
pub record ArePumped (nodes : List ℕ) (before after : MemoryFarm) : Type 0 where
  pub stopped : Bool
  pub pumped : IsPumped nodes before after stopped

-- What each order does. Any but deliveries, a pump and `skip` is one event or leaves the farm as it
-- is: a question, and a message that is cut off.
abbrev pub Performs : List Definition → Order → MemoryFarm → MemoryFarm → Type 0
Performs maps (order.Deliver i messages) before after = Delivers i messages before after
Performs maps (order.Pump nodes) before after = ArePumped nodes before after
Performs maps order.Skip before after = after ≡ record before { pumped = length before.sent }
Performs maps other before after = HappensIf (event_at maps other) before after

-- what the order at an index does: nothing where there is none
unfoldable pub PerformsAt : List Definition → Option Numbered → MemoryFarm → MemoryFarm → Type 0
PerformsAt maps None before after = after ≡ before
PerformsAt maps (Some numbered) before after = Performs maps numbered.order before after

-- allocation failure at the line of that order; there is none where there is no order
abbrev pub fault_at : Option Numbered → Option ScriptFault
fault_at numbered = option_map (λ n. fault.Memory n.line) numbered

-- whether the order is of a kind that carries messages
abbrev pub carries : Order → Bool
carries (order.Deliver i messages) = true
carries (order.Cut i k bytes) = true
carries (order.Pump nodes) = true
carries other = false

-- Whether the order may use the carrier: it carries messages. A message is cut off only if it was
-- sent and its node runs.
abbrev pub may_use : Order → MemoryFarm → Bool
may_use (order.Cut i k bytes) farm = is_some (node_at farm i) && is_some (slice_get farm.sent k)
may_use other farm = carries other

-- the same for the order at an index
abbrev pub may_use_at : Option Numbered → MemoryFarm → Bool
may_use_at None farm = false
may_use_at (Some numbered) farm = may_use numbered.order farm

-- ---- orders of a session

-- its order of this number, counted from 0
abbrev pub order_at : Session → ℕ → Option Numbered
order_at session n = slice_get session.script.orders n

-- what that order does
abbrev pub PerformsOrder : ℕ → Session → Session → Type 0
PerformsOrder n before after = PerformsAt before.script.maps (order_at before n) before.farm after.farm

-- for the crate's own contracts: what this order of its script does
abbrev pub DoesOrder : Order → Session → Session → Type 0
DoesOrder order before after = Performs before.script.maps order before.farm after.farm
