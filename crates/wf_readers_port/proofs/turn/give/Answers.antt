use Rattle.std.proofs.Common.{◌++◌, ℕ, List, take, ap, ◌∙◌}
use Rattle.wf_readers_port.proofs.Exchanged.{given}
use Rattle.wf_readers_port.proofs.turn.give.Goals as goal

pub loop-preserved : goal.loop-preserved
loop-preserved g c = (
  c.in-Bytes.ensures.came ∙ c.loop.invariant.0,
  given (g.C.Connection.sent c.loop.connection) (g.C.Connection.sent c.write.new.self) _ c.in-Bytes.count c.loop.reply c.advance.new.self c.advance.ensures
      (c.in-Bytes.ensures.sent ∙ ap (λ (bytes : List ℕ). g.C.Connection.sent c.loop.connection ++ take c.in-Bytes.count bytes) c.rest.ensures) c.loop.invariant.1,
)
