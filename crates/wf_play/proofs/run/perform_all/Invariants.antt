-- The orders so far are performed, their texts are written, and no write has failed yet.
use Rattle.std.proofs.Common.{◌≡◌, []}
use Rattle.std.specs.String.{string_bytes}
use Rattle.wf_play.specs.ScriptRun.{HavePlayed}
use Rattle.wf_play.proofs.run.perform_all.Given as goal

abbrev pub invariant-loop-number : goal.invariant-loop-number
invariant-loop-number g l = record {
  plays : HavePlayed l.number l.fn.session.script l.fn.session.farm l.session.farm (g.K.Sink.written l.fn.sink) (g.K.Sink.written l.sink);
  script : l.session.script ≡ l.fn.session.script;
  empty : string_bytes l.out ≡ [];
  writes : g.K.Sink.failures l.sink ≡ g.K.Sink.failures l.fn.sink;
}
