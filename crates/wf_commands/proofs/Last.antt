-- A failed write is the last call of a run.
use Rattle.std.proofs.Common.{◌≡◌, ℕ, List, ap}
use Rattle.std.specs.Prelude.{Result, Ok, Err, IfErr}
use Rattle.wf_play.specs.Fault as played
use Rattle.wf_play.specs.declared.fault.PlayFault.{PlayFault}
use Rattle.wf_play.specs.declared.fault.PlayFault.TheVariants as play
use Rattle.wf_serve.specs.StartFault as counted
use Rattle.wf_serve.specs.PortLine.{IsPortLineEnded}
use Rattle.wf_serve.specs.declared.fault.ServeFault.{ServeFault}
use Rattle.wf_serve.specs.declared.fault.ServeFault.TheVariants as serve
use Rattle.wf_stream.specs.Effects.{EndsByFailing}
use Rattle.wf_stream.specs.declared.stream.Sink.{Ghosts as Sink}
use Rattle.wf_commands.specs.FailureCount.{FailsLast}

module _ {K : Type 0} (sinks : Sink K) (old new : K) where
  -- no write has failed
  pub none_failed : sinks.failures new ≡ sinks.failures old → FailsLast sinks old new
  unfolding FailsLast
  none_failed calm risen = absurd (risen calm)

  -- one has, and it was the last call
  pub one_failed : (bytes : List ℕ) → EndsByFailing sinks.written sinks.failures sinks.fails bytes old new → FailsLast sinks old new
  unfolding FailsLast
  one_failed bytes ends risen = (bytes, ends)

  -- of a script
  pub play_fails_last : (result : Result (Unit {0}) PlayFault) → played.CountsWrites result (sinks.failures old) (sinks.failures new) → IfErr result (played.EndsWriting sinks old new)
      → FailsLast sinks old new
  play_fails_last (Ok done) counts ends = none_failed counts
  play_fails_last (Err (play.Script fault)) counts ends = none_failed counts
  play_fails_last (Err play.Read) counts ends = none_failed counts
  play_fails_last (Err play.Write) counts ends = one_failed ends.0 ends.1
  play_fails_last (Err play.Wire) counts ends = none_failed counts

  -- of the line with a port
  pub line_fails_last : (port : ℕ) (result : Result (Unit {0}) ServeFault) → counted.CountsWrites result (sinks.failures old) (sinks.failures new) → IsPortLineEnded sinks port old new result
      → FailsLast sinks old new
  line_fails_last port (Ok done) counts ends = none_failed counts
  line_fails_last port (Err serve.Write) counts ends = one_failed _ ends.2.1
  line_fails_last port (Err serve.Start) counts ends = none_failed (ap sinks.failures ends)
