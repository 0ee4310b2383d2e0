-- What a line of a script does or asks, in numbers and lists.
use Rattle.std.specs.Prelude.{ℕ, List}
use Rattle.wf_model.specs.declared.action.Action.{Action}
use Rattle.wf_model.specs.declared.action.Kept.{Kept}
use Rattle.wf_script.specs.declared.order.FarmQuestion as question
use Rattle.wf_script.specs.declared.order.Order as code
use Rattle.wf_script.specs.declared.order.Order.TheVariants as order

-- A node, a message, a sequence and a map are their numbers, a query is its bytes.
pub data Order : Type 0 where
  Step : (node : ℕ) (step : Action ℕ ℕ) → Order
  Deliver : (node : ℕ) (messages : List ℕ) → Order
  Cut : (node message bytes : ℕ) → Order
  Stop : (node : ℕ) → Order
  Restart : (node : ℕ) → Order
  Torn : (node : ℕ) (step : Action ℕ ℕ) (kept : Kept) → Order
  Pump : (nodes : List ℕ) → Order
  Skip : Order
  Ask : (question : question.FarmQuestion) → Order
  Get : (node : ℕ) (query : List ℕ) → Order
  Equal : (node other : ℕ) (query : List ℕ) → Order

-- an order of the code
abbrev pub view : code.Order → Order
view (order.Step node step) = Step node step
view (order.Deliver node messages) = Deliver node messages.items
view (order.Cut node message bytes) = Cut node message bytes
view (order.Stop node) = Stop node
view (order.Restart node) = Restart node
view (order.Torn node step kept) = Torn node step kept
view (order.Pump nodes) = Pump nodes.items
view order.Skip = Skip
view (order.Ask question) = Ask question
view (order.Get node query) = Get node query.items
view (order.Equal node other query) = Equal node other query.items
