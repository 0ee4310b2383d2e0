-- Messages sent before all messages of a world: they shift the numbers of its messages, and change
-- nothing else.
use Rattle.std.specs.Prelude.{◌≡◌, ℕ, ◌+◌, Bool, List, [], ◌∷◌, ◌++◌, length}
use Rattle.wf_model.specs.Message.{Message}
use Rattle.wf_model.specs.Table as table
use Rattle.wf_model.specs.Table.{Action}
use Rattle.wf_model.specs.World as world
use Rattle.wf_model.specs.World.{World, Event, steps}

-- the world in which these messages were sent before its own
unfoldable pub sent_before : {V : Type 0} → List (Message V) → World V → World V
sent_before earlier w = record w { sent = earlier ++ w.sent }

-- An action, an event and a list of events, each message number increased by `many`.
unfoldable pub raised_action : {V : Type 0} → ℕ → Action V ℕ → Action V ℕ
raised_action many (table.Propose d) = table.Propose d
raised_action many table.Retry = table.Retry
raised_action many table.CatchUp = table.CatchUp
raised_action many (table.Deliver k) = table.Deliver (many + k)

unfoldable pub raised_event : {V : Type 0} → ℕ → Event V → Event V
raised_event many (world.Act i action) = world.Act i (raised_action many action)
raised_event many (world.Stop i) = world.Stop i
raised_event many (world.Restart i) = world.Restart i
raised_event many (world.Torn i action kept) = world.Torn i (raised_action many action) kept

unfoldable pub raised : {V : Type 0} → ℕ → List (Event V) → List (Event V)
raised many [] = []
raised many (event ∷ events) = raised_event many event ∷ raised many events

-- Events lead from a world to the same world with any messages sent before, once each message
-- number is increased by their count.
abbrev pub EarlierMessages : Type 0 → Type 0
EarlierMessages V = (same : V → V → Bool) (earlier : List (Message V)) (w : World V) (events : List (Event V)) →
    steps same (sent_before earlier w) (raised (length earlier) events) ≡ sent_before earlier (steps same w events)
