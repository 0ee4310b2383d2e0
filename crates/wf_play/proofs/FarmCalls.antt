-- What the farm's calls play.
use Rattle.std.proofs.Common.{◌≡◌, ℕ, Bool, List, [], inl, inr, take, bytes_eq, not, false, ◌∙◌, refl, sym, ap, subst, slice_get, Option, Some, None}
use Rattle.std.specs.Option.{option_copied}
use Rattle.std.specs.Borrow.{Bor}
use Rattle.std.specs.Prelude.{IfSome}
use Rattle.std.proofs.lemmas.Option.{none-some, same_Some}
use Rattle.std.proofs.lemmas.Slice.Eq.{bytes_eq-Decides}
use Rattle.wf_def.specs.Definition.{Definition}
use Rattle.wf_model.specs.World.{Event, steps}
use Rattle.wf_model.specs.DurableState.{definition_at}
use Rattle.wf_node.specs.Node.{Node, stored_of}
use Rattle.wf_tape.specs.MemoryTape.{TapeValue}
use Rattle.wf_farm.specs.Agreement.{HasDurableState, HistoriesGrow, HasNoTwoDefinitions}
use Rattle.wf_farm.specs.Cluster.{Moves}
use Rattle.wf_farm.specs.Farm.{MemoryFarm, Runs, RunsPart, running_in, size}
use Rattle.wf_farm.specs.NodeHost.{MemoryHost}
use Rattle.wf_farm.specs.Pump.{IsPumped, IsPumpedPart}
use Rattle.wf_farm.specs.declared.cluster.NodeHost.TheVariants.{Running, Stopped}
use Rattle.wf_farm.specs.declared.fault.FarmFault.{FarmFault}
use Rattle.wf_farm.specs.declared.fault.FarmFault.TheVariants.{Memory, NoNode, Carried}
use Rattle.wf_play.specs.Session.{Plays, IsPublishedInFarm}

-- nothing
pub nothing_played : (farm : MemoryFarm) → Plays farm farm
unfolding Moves steps
nothing_played farm = record { events = []; runs = λ w refines. refines; size = refl; grows = inl refl }

-- which messages count as pumped is no event
pub skipped_played : (farm : MemoryFarm) (pumped : ℕ) → Plays farm (record farm { pumped = pumped })
unfolding Moves steps
skipped_played farm pumped = record { events = []; runs = λ w refines. refines; size = refl; grows = inl refl }

-- a run of events
pub run_played : (events : List (Event Definition)) (before after : MemoryFarm) → Runs events before after → size after ≡ size before → HistoriesGrow before after → Plays before after
run_played events before after runs same grows = record { events = events; runs = runs; size = same; grows = inr grows }

pub part_played : (fault : FarmFault) (events : List (Event Definition)) (before after : MemoryFarm) → RunsPart fault events before after → size after ≡ size before → HistoriesGrow before after → Plays before after
part_played (Memory done) events before after part same grows = run_played (take done events) before after part.1 same grows
part_played NoNode events before after part same grows = absurd part
part_played (Carried done) events before after part same grows = absurd part

-- a pump
pub pump_played : (names : List ℕ) (before after : MemoryFarm) (stopped : Bool) → IsPumped names before after stopped → size after ≡ size before → HistoriesGrow before after → Plays before after
pump_played names before after stopped pumped same grows = record { events = _; runs = pumped.0.runs; size = same; grows = inr grows }

pub pump_part_played : (names : List ℕ) (before after : MemoryFarm) (fault : FarmFault) → IsPumpedPart names before after fault → size after ≡ size before → HistoriesGrow before after → Plays before after
pump_part_played names before after (Memory done) part same grows =
    elim part [
      | inl none ↦ subst (Plays before) (sym none.1) (nothing_played before)
      | inr some ↦ record { events = _; runs = some.0.runs; size = same; grows = inr grows }
    ]
pump_part_played names before after NoNode part same grows = absurd part
pump_part_played names before after (Carried done) part same grows = record { events = _; runs = part.0.runs; size = same; grows = inr grows }

-- what is published under one sequence is one definition
pub published_once : (farm : MemoryFarm) (s : ℕ) (c d : Definition) → HasNoTwoDefinitions farm → IsPublishedInFarm farm s c → IsPublishedInFarm farm s d → c ≡ d
unfolding HasNoTwoDefinitions
published_once farm s c d one this that = one this.0 that.0 s c d this.1 that.1

-- what the node that runs at an index has stored
stored_there : (node : Node TapeValue) (host : Option MemoryHost) → Some node ≡ running_in host → HasDurableState host (stored_of node)
stored_there node None runs = absurd (none-some node (sym runs))
stored_there node (Some (Running other)) runs = ap stored_of (same_Some node other runs)
stored_there node (Some (Stopped tape)) runs = absurd (none-some node (sym runs))

-- What a running node's list has at a sequence, it publishes there.
pub published_there : (farm : MemoryFarm) (i s : ℕ) (node : Node TapeValue) (found : Option (Bor Definition)) → Some node ≡ running_in (slice_get farm.hosts i) →
    option_copied found ≡ definition_at (stored_of node).history s → IfSome found (λ canon. IsPublishedInFarm farm s canon.now)
published_there farm i s node None runs at = tt
published_there farm i s node (Some canon) runs at = (i, record { stored = stored_of node; has = stored_there node (slice_get farm.hosts i) runs; entry = sym at })

-- a test whether two texts differ that are the same
pub same_texts : (xs ys : List ℕ) (test : Bool) → test ≡ not (bytes_eq xs ys) → xs ≡ ys → test ≡ false
same_texts xs ys test is same = is ∙ ap not ((bytes_eq-Decides xs ys).1 same)
