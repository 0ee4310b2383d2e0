-- A failed write is the last call of a play.
use Rattle.std.proofs.Common.{◌≡◌, ◌∙◌, ℕ, List, ◌++◌}
use Rattle.std.specs.Prelude.{Option}
use Rattle.wf_farm.specs.Farm.{MemoryFarm}
use Rattle.wf_script.specs.Script.{Numbered, Script}
use Rattle.wf_stream.specs.KnownTheorems.{appends_more}
use Rattle.wf_stream.specs.Effects.{EndsByFailing}
use Rattle.wf_stream.specs.declared.stream.Sink.{Ghosts as Sink}
use Rattle.wf_play.specs.Fault.{EndsWriting, IsOrderFault}
use Rattle.wf_play.specs.ScriptRun.{HavePlayed, IsStepRejectionOf}
use Rattle.wf_play.specs.declared.fault.PlayFault.{PlayFault}
use Rattle.wf_play.specs.declared.fault.PlayFault.TheVariants as play

module _ {K : Type 0} (sinks : Sink K) where
  -- the texts of the orders before were written without a failure
  pub written_last : (n : ℕ) (script : Script) (before between : MemoryFarm) (old now new : K) (bytes : List ℕ) → HavePlayed n script before between (sinks.written old) (sinks.written now)
      → sinks.failures now ≡ sinks.failures old → EndsByFailing sinks.written sinks.failures sinks.fails bytes now new → EndsWriting sinks old new play.Write
  written_last n script before between old now new bytes played calm ends = (
    played.0 ++ bytes,
    record {
      before = ends.before;
      appended = appends_more (sinks.written old) (sinks.written now) (sinks.written ends.before) played.0 bytes played.2 ends.appended;
      calm = ends.calm ∙ calm;
      failed = ends.failed;
    },
  )

  -- an order's error isn't about a write
  pub order_is_not_last : (there : Option Numbered) (farm : MemoryFarm) (old new : K) (fault : PlayFault) → IsOrderFault there farm fault → EndsWriting sinks old new fault
  order_is_not_last there farm old new (play.Script fault) why = tt
  order_is_not_last there farm old new play.Wire why = tt
  order_is_not_last there farm old new play.Read why = absurd why
  order_is_not_last there farm old new play.Write why = absurd why

  -- nor is that of an input
  pub input_is_not_last : (input : Option (List ℕ)) (old : K) (fault : PlayFault) → IsStepRejectionOf input fault → EndsWriting sinks old old fault
  input_is_not_last input old (play.Script fault) why = tt
  input_is_not_last input old play.Read why = tt
  input_is_not_last input old play.Write why = absurd why
  input_is_not_last input old play.Wire why = absurd why
