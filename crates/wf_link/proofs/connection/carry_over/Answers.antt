-- The message crossed between the two ends.
use Rattle.std.proofs.Common.{length}
use Rattle.wf_codec.specs.Message.{view}
use Rattle.wf_codec.specs.Encoding.{spelling}
use Rattle.wf_link.specs.Cause.{IsOneMessage}
use Rattle.wf_link.proofs.Causes.{lost_for}
use Rattle.wf_link.proofs.Ends.{has_crossed, was_lost}
use Rattle.wf_link.proofs.connection.carry_over.Goals as goal

pub returns-clause-crossed : goal.returns-clause-crossed
returns-clause-crossed g c =
    has_crossed g.K.Sink g.S.Source (view c.args.message.now) c.cross.result c.args.ends.now.sender c.cross.new.sink c.args.ends.now.receiver c.cross.new.source c.cross.ensures.written c.cross.ensures.arrived

pub returns-clause-lost : goal.returns-clause-lost
returns-clause-lost g c = λ is.
    was_lost g.K.Sink g.S.Source (length (spelling (view c.args.message.now))) IsOneMessage c.args.ends.now.sender c.cross.new.sink c.args.ends.now.receiver c.cross.new.source (lost_for _ _ c.cross.result c.cross.ensures.cause is)
