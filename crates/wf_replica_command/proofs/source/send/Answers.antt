use Rattle.std.proofs.Common.{◌++◌, ℕ, List, take, ap, ◌∙◌, Vec}
use Rattle.std.specs.declared.alloc.Global.{Global}
use Rattle.wf_replica_command.proofs.Conversing.{more_written}
use Rattle.wf_replica_command.proofs.source.send.Goals as goal

pub loop-preserved : goal.loop-preserved
loop-preserved g c = (
  c.advance.ensures.question ∙ c.loop.invariant.0,
  c.in-Bytes.ensures.came ∙ c.loop.invariant.1,
  λ front is. more_written front (g.C.Connection.sent c.loop.connection) (g.C.Connection.sent c.write.new.self) c.loop.asked.bytes.items c.advance.new.self.bytes.items c.loop.asked.written c.advance.new.self.written c.in-Bytes.count
      (c.in-Bytes.ensures.sent ∙ ap (λ (bytes : List ℕ). g.C.Connection.sent c.loop.connection ++ take c.in-Bytes.count bytes) c.rest.ensures) c.advance.ensures.written
      (ap (λ (v : Vec ℕ Global). v.items) c.advance.ensures.bytes) (c.loop.invariant.2 front is),
)
