-- From what a farm's nodes did to what was served of a service.
use Rattle.std.proofs.Common.{◌≡◌, ℕ, List, ◌∷◌, false, true, inl, inr, length, sym}
use Rattle.std.specs.Prelude.{Option, Some, None, IsSome, Result, Ok, Err, OnErr, OnOk}
use Rattle.std.proofs.lemmas.Option.{none-some}
use Rattle.wf_delivery.specs.Delivery.{AnyPart}
use Rattle.wf_delivery.specs.Reachability.{AreFresh, AreReachableFrom, AreReachable}
use Rattle.wf_node.specs.Node.{Node}
use Rattle.wf_serve.specs.Agreement.{AgreeStill, HaveGoneOn}
use Rattle.wf_serve.specs.OpenedNodes.{WereRead}
use Rattle.wf_serve.specs.Served.{HasServed, HaveServed, Served}
use Rattle.wf_serve.specs.Start.{HasNotServed, IsFarmRejected, IsFarmStarted}
use Rattle.wf_serve.specs.declared.event.Cause.{Cause}
use Rattle.wf_serve.specs.declared.fault.ServeFault.{ServeFault}
use Rattle.wf_service.specs.declared.service.Service.{Service}
use Rattle.wf_store.specs.Call.{Call, locked}
use Rattle.wf_tape.specs.declared.tape.Tape.{Ghosts as Tape}

-- what holds of nodes that events led on
pub gone_on : {T : Type 0} (tapes : Tape T) (nodes after : List (Node T)) → AgreeStill tapes after → AreReachableFrom tapes nodes after → HaveGoneOn tapes nodes after
gone_on tapes nodes after agree reachable = record {
  reachable = reachable;
  reached = λ reached. (agree nodes reached reachable).reached;
  agree = λ reached. (agree nodes reached reachable).history;
  alike = λ reached. (agree nodes reached reachable).alike;
  grows = reachable.turn.lists;
}

none_is_some : {A : Type 0} (x : Option A) → x ≡ None → IsSome x → ⊥
none_is_some None is some = let clash : false ≡ true = some in cc
none_is_some (Some x) is some = none-some x (sym is)

module _ {M F : Type 0} (inside : Tape M) (outside : Tape F) (service : Service) where
  in_memory : (nodes after : List (Node M)) → service.state ≡ None → length nodes ≡ service.nodes → AreFresh nodes → AreReachable AnyPart nodes →
      HaveServed inside service.requests service.cache nodes after → HasServed inside outside service
  in_memory nodes after none many fresh reached have = record {
    memory = λ is. record { nodes = nodes; nodes_after = after; as_many = many; new = fresh; reached = reached; have = have };
    files = λ some. absurd (none_is_some service.state none some);
  }

  in_files : IsSome service.state → Served outside service → HasServed inside outside service
  in_files some served = record {
    memory = λ none. absurd (none_is_some service.state none some);
    files = λ is. served;
  }

  pub served_in_memory : (nodes after : List (Node M)) (result : Result (Unit {0}) ServeFault) → service.state ≡ None → length nodes ≡ service.nodes → AreFresh nodes → AreReachable AnyPart nodes →
      OnOk result (HaveServed inside service.requests service.cache nodes after) → OnOk result (HasServed inside outside service)
  served_in_memory nodes after (Ok done) none many fresh reached have = in_memory nodes after none many fresh reached have
  served_in_memory nodes after (Err why) none many fresh reached have = tt

  pub served_in_files : (result : Result (Unit {0}) ServeFault) → IsSome service.state → OnOk result (Served outside service) → OnOk result (HasServed inside outside service)
  served_in_files (Ok done) some served = in_files some served
  served_in_files (Err why) some served = tt

pub served_so : {T : Type 0} (tapes : Tape T) (service : Service) (nodes after : List (Node T)) (result : Result (Unit {0}) ServeFault) → length nodes ≡ service.nodes → WereRead nodes →
    OnOk result (HaveServed tapes service.requests service.cache nodes after) → OnOk result (Served tapes service)
served_so tapes service nodes after (Ok done) many read have = record { nodes = nodes; nodes_after = after; as_many = many; read = read; have = have }
served_so tapes service nodes after (Err why) many read have = tt

-- what a start that succeeded did, whatever came of it
pub started_so : (n : ℕ) (old new : List Call) (result : Result (Unit {0}) ServeFault) → IsFarmStarted n (locked ∷ old) new → OnOk result (IsFarmStarted n (locked ∷ old) new)
started_so n old new (Ok done) started = started
started_so n old new (Err why) started = tt

pub not_served : (n : ℕ) (old new : List Call) (result : Result (Unit {0}) ServeFault) → IsFarmStarted n (locked ∷ old) new → OnErr result (HasNotServed n old new)
not_served n old new (Ok done) started = tt
not_served n old new (Err why) started = inl started

pub never_started : (n : ℕ) (cause : Cause) (old new : List Call) (result : Result (Unit {0}) ServeFault) → IsFarmRejected n cause old new → OnErr result (HasNotServed n old new)
never_started n cause old new (Ok done) rejected = tt
never_started n cause old new (Err why) rejected = inr (cause, rejected)
