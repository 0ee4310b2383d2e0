-- The node in the entry takes the message; a stopped node takes nothing.
use Rattle.std.proofs.Common.{◌≡◌, true, sym, subst}
use Rattle.wf_farm.proofs.Common.{Running, MayBeLost, Takes, KeepsEntry, node_in}
use Rattle.wf_codec.specs.Message.{view}
use Rattle.wf_model.specs.Table as table
use Rattle.wf_farm.proofs.Exchanges.{entry_taken}
use Rattle.wf_farm.proofs.Nodes.{entry_itself}
use Rattle.wf_farm.proofs.entry.NodeHostRecipient.receive.Goals as goal

pub returns-in-Running-clause-takes : goal.returns-in-Running-clause-takes
returns-in-Running-clause-takes g c = λ n i.
    subst (λ p. Takes g.T.Tape c.hand.result.lost (table.Deliver (view c.args.message.now)) (node_in n i p) c.hand.new.node c.hand.result.messages.items) (sym c.in-Running.is) c.hand.ensures.takes

pub returns-in-Running-clause-cause : goal.returns-in-Running-clause-cause
returns-in-Running-clause-cause g c = λ n i. subst (λ p. c.hand.result.lost ≡ true → MayBeLost c.args.message.now (node_in n i p)) (sym c.in-Running.is) c.hand.ensures.cause

pub returns-in-Running-clause-keeps : goal.returns-in-Running-clause-keeps
returns-in-Running-clause-keeps g c =
    subst (λ p. KeepsEntry g.T.Tape p (Running c.hand.new.node)) (sym c.in-Running.is)
    (entry_taken g.T.Tape c.in-Running.node c.hand.new.node (table.Deliver (view c.args.message.now)) c.hand.result.messages.items c.hand.result.lost c.hand.ensures.takes c.hand.ensures.sturdy)

pub returns-in-Stopped-clause-keeps : goal.returns-in-Stopped-clause-keeps
returns-in-Stopped-clause-keeps g c = entry_itself g.T.Tape c.args.self.now
