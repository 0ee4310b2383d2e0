-- Nothing was asked yet.
use Rattle.std.proofs.Common.{None, refl, ◌∙◌}
use Rattle.wf_replica_command.proofs.Conversing.{none_read, nothing_asked, nothing_replied}
use Rattle.wf_replica_command.proofs.source_connection.SourceConnection.connect.Goals as goal

pub invariant_of-result : goal.invariant_of-result
invariant_of-result g c = record {
  asked = nothing_asked (g.C.Connection.sent c.watch.new.connection) c.new-then-watch.result.items None (c.if-watch.ensures.sent ∙ c.send_at_once.ensures.sent ∙ c.in_ok-connection.ensures.sent) c.new-then-watch.ensures refl;
  received = nothing_replied (g.C.Connection.came c.watch.new.connection) c.new.result.items c.new-then-watch.result.items (c.if-watch.ensures.came ∙ c.send_at_once.ensures.came ∙ c.in_ok-connection.ensures.came) c.new-then-watch.ensures c.new.ensures.items;
  read = none_read c.new-then-watch.result.items c.new-then-watch.ensures;
}
