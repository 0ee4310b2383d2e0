use Rattle.wf_actor.proofs.Lives.{life_opens, logged_none}
use Rattle.wf_actor.proofs.Receipt.{none_given}
use Rattle.wf_actor.proofs.actor.Actor.begin.Goals as goal

pub invariant_of-result : goal.invariant_of-result
invariant_of-result g c = record {
  lived = ∣ life_opens g.T.Tape c.args.node c.new-node.result c.args.read_from.items c.new.result.items c.and-stood.result.items c.new-given.result.items c.new-emitted.result.items c.requires.opened c.new-node.ensures c.new.ensures
      c.and-stood.ensures c.new-given.ensures c.new-emitted.ensures ∣₁;
  received = ∣ none_given c.new-given.result.items c.new-given.ensures ∣₁;
}

pub returns-clause-emitted : goal.returns-clause-emitted
returns-clause-emitted g c = logged_none c.new-emitted.result.items c.new-emitted.ensures
