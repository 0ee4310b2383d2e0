-- A run, event by event.
use Rattle.std.proofs.Common.{◌≡◌, ℕ, zero, suc, List, [], ◌∷◌, ◌++◌, map, take, slice_get, Some, refl, ap}
use Rattle.wf_farm.proofs.Common.{none-some, same_Some, Message, Definition, definition_eq, World, Event, deliver, refused, happens, steps, view, StayShown, Moves, last_rejected, MemoryHost}
use Rattle.wf_farm.specs.declared.event.Event as declared

pub last_more : (w : World Definition) (events : List (Event Definition)) (event : Event Definition) → last_rejected w (events ++ event ∷ []) ≡ refused (steps definition_eq w events) event
unfolding last_rejected steps
last_more w [] event = refl
last_more w (first ∷ []) event = refl
last_more w (first ∷ next ∷ events) event = last_more (happens definition_eq w first) (next ∷ events) event

-- the events up to the next one
pub take_more : (events : List declared.Event) (done : ℕ) (event : declared.Event) → slice_get events done ≡ Some event → take (suc done) (map view events) ≡ take done (map view events) ++ view event ∷ []
take_more [] done event at = absurd (none-some event at)
take_more (x ∷ events) zero event at = ap (λ e. view e ∷ []) (same_Some x event at)
take_more (x ∷ events) (suc done) event at = ap (λ es. view x ∷ es) (take_more events done event at)

pub given_more : (to : ℕ) (messages : List ℕ) (done k : ℕ) → slice_get messages done ≡ Some k → map (deliver {V = Definition} to) (take (suc done) messages) ≡ map (deliver to) (take done messages) ++ deliver to k ∷ []
given_more to [] done k at = absurd (none-some k at)
given_more to (x ∷ messages) zero k at = ap (λ n. deliver to n ∷ []) (same_Some x k at)
given_more to (x ∷ messages) (suc done) k at = ap (λ rest. deliver to x ∷ rest) (given_more to messages done k at)

-- What changes nothing leaves the run where it was.
pub stays_run : (events : List (Event Definition)) (hosts middle after : List MemoryHost) (sent outputs more : List Message) → Moves events hosts sent middle outputs → StayShown middle outputs after more →
    Moves events hosts sent after more
unfolding Moves StayShown
stays_run events hosts middle after sent outputs more ran stays = λ w refines. stays (steps definition_eq w events) (ran w refines)
