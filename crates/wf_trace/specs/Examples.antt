-- An example: three processes, one of which crashes and another of which is stopped meanwhile,
-- publish a proposal.
use Rattle.std.specs.Prelude.{◌≡◌, ℕ, ◌<◌, List, [], ◌∷◌}
use Rattle.wf_model.specs.Examples.{Map, a, ballot, just, no_votes, same_map}
use Rattle.wf_model.specs.Message.{Message, Prepare, Promise, Accept, Accepted, Chosen}
use Rattle.wf_model.specs.Table.{Propose, Deliver}
use Rattle.wf_model.specs.World.{Node, After}
use Rattle.wf_trace.specs.Deed.{Deed, Takes, Crashes, Stops, Restarts}
use Rattle.wf_trace.specs.Trace.{Entry, IsTrace}

abbrev pub entry : ℕ → Deed Map → List (Message Map) → Entry Map
entry i deed outputs = record { process = i; deed = deed; outputs = outputs }

-- the process of that number does this, and sends nothing
abbrev pub quietly : ℕ → Deed Map → Entry Map
quietly i deed = entry i deed []

-- the message is delivered to the process
abbrev pub receives : Message Map → Deed Map
receives message = Takes (Deliver message)

-- Process 0 proposes a. It and process 1 promise, process 2 crashes within its promise, and then
-- they vote. Process 1 is stopped while the proposal is published, and each of the three is sent
-- what is chosen.
unfoldable pub three_publish : List (Entry Map)
three_publish =
    entry 0 (Takes (Propose a)) (Prepare 1 (ballot 1 0) ∷ []) ∷
    quietly 2 (Crashes (Deliver (Prepare 1 (ballot 1 0))) After) ∷
    entry 0 (receives (Prepare 1 (ballot 1 0))) (Promise 0 1 (ballot 1 0) no_votes ∷ []) ∷
    entry 1 (receives (Prepare 1 (ballot 1 0))) (Promise 1 1 (ballot 1 0) no_votes ∷ []) ∷
    quietly 2 Restarts ∷
    quietly 0 (receives (Promise 0 1 (ballot 1 0) no_votes)) ∷
    entry 0 (receives (Promise 1 1 (ballot 1 0) no_votes)) (Accept 1 (ballot 1 0) a ∷ []) ∷
    entry 1 (receives (Accept 1 (ballot 1 0) a)) (Accepted 1 1 (ballot 1 0) ∷ []) ∷
    entry 0 (receives (Accept 1 (ballot 1 0) a)) (Accepted 0 1 (ballot 1 0) ∷ []) ∷
    quietly 1 Stops ∷
    quietly 0 (receives (Accepted 0 1 (ballot 1 0))) ∷
    entry 0 (receives (Accepted 1 1 (ballot 1 0))) (Chosen 1 a ∷ []) ∷
    quietly 0 (receives (Chosen 1 a)) ∷
    quietly 2 (receives (Chosen 1 a)) ∷
    quietly 1 Restarts ∷
    quietly 1 (receives (Chosen 1 a)) ∷ []

-- The entries are a trace of three processes, and it ends with the definition published at each of
-- them.
pub record EndsPublished (entries : List (Entry Map)) (d : Map) : Type 0 where
  pub nodes : ℕ → Node Map
  pub trace : IsTrace same_map 3 entries nodes
  pub published : (i : ℕ) → i < 3 → (nodes i).stored.history ≡ just d
