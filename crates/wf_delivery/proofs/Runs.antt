-- A run of one more event, and the input of a delivery.
use Rattle.std.proofs.Common.{◌≡◌, ◌∙◌, ℕ, List, [], ◌∷◌, ◌++◌, map, slice_get, Some, option_map, refl, ap}
use Rattle.wf_delivery.proofs.Common.{slice_get-map, Message, Definition, definition_eq, World, Event, delivered, happens, input_of, steps}
use Rattle.wf_codec.specs.Message as message
use Rattle.wf_model.specs.Table as table

-- one more event, at the end
pub steps_more : (w : World Definition) (events : List (Event Definition)) (event : Event Definition) →
    steps definition_eq w (events ++ event ∷ []) ≡ happens definition_eq (steps definition_eq w events) event
unfolding steps
steps_more w [] event = refl
steps_more w (first ∷ events) event = steps_more (happens definition_eq w first) events event

-- The input of the delivery of a message that was sent is that message.
pub sent_message : (sent : List Message) (k : ℕ) (m : Message) → slice_get sent k ≡ Some m → input_of (map message.view sent) (table.Deliver k) ≡ Some (table.Deliver (message.view m))
unfolding input_of delivered
sent_message sent k m e = ap delivered (slice_get-map message.view sent k ∙ ap (λ x. option_map message.view x) e)
