-- Its bytes were written, and a loss is the cut's, or the reader's behind them.
use Rattle.std.proofs.Common.{inl, length}
use Rattle.std.specs.Prelude.{Err}
use Rattle.wf_codec.specs.Message.{view}
use Rattle.wf_link.specs.Cause.{BeginsNoMessage}
use Rattle.wf_link.specs.MessageCrossing.{front_of}
use Rattle.wf_link.proofs.Causes.{lost_for, on_lost}
use Rattle.wf_link.proofs.Crossed.{on_each_ok}
use Rattle.wf_link.proofs.Ends.{has_sent, lost_behind, was_lost}
use Rattle.wf_link.proofs.connection.cut_over.Goals as goal

pub returns-in-Ok-clause-sent : goal.returns-in-Ok-clause-sent
returns-in-Ok-clause-sent g c =
    on_each_ok c.read_end-end.result (has_sent g.K.Sink (front_of (view c.args.message.now) c.args.bytes) c.args.ends.sender c.cut_off-cut.new.sink c.in-Ok.ensures.written)

pub returns-in-Ok-clause-lost : goal.returns-in-Ok-clause-lost
returns-in-Ok-clause-lost g c = λ is.
    lost_behind g.K.Sink g.S.Source (front_of (view c.args.message.now) c.args.bytes) BeginsNoMessage c.cut_off-cut.new.sink c.args.ends.receiver c.cut_off-cut.new.source c.read_end-end.new.source c.in-Ok.ensures.none
    (on_lost c.read_end-end.result c.read_end-end.ensures is)

pub returns-in-Err-clause-lost : goal.returns-in-Err-clause-lost
returns-in-Err-clause-lost g c = λ is.
    inl (was_lost g.K.Sink g.S.Source (length (front_of (view c.args.message.now) c.args.bytes)) BeginsNoMessage c.args.ends.sender c.cut_off-cut.new.sink c.args.ends.receiver c.cut_off-cut.new.source
    (lost_for _ _ (Err c.in-Err.fault) c.in-Err.ensures.cause is))
