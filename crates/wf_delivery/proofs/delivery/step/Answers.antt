-- A completed step sends few messages; after an error the node is unchanged, or halted, or the
-- input is lost.
use Rattle.wf_delivery.proofs.Common.{any_sturdy}
use Rattle.wf_node.specs.Input.{view}
use Rattle.wf_delivery.proofs.Deliveries.{any_answered, any_cut, any_rejected, any_short}
use Rattle.wf_delivery.proofs.delivery.step.Goals as goal

pub returns-clause-answers : goal.returns-clause-answers
returns-clause-answers g c =
    any_answered g.T.Tape c.args.node.now c.step.new.self (view c.args.input) c.step.result c.step.ensures.halted c.step.ensures.refused c.step.ensures.transition c.step.ensures.content

pub returns-clause-takes : goal.returns-clause-takes
returns-clause-takes g c =
    any_rejected g.T.Tape c.args.node.now c.step.new.self (view c.args.input) c.step.result c.step.ensures.halted c.step.ensures.running c.step.ensures.refused c.step.ensures.unchanged c.step.ensures.same
    c.step.ensures.memory c.step.ensures.same_tape c.step.ensures.halts c.step.ensures.kept c.step.ensures.part c.step.ensures.torn

pub returns-clause-few : goal.returns-clause-few
returns-clause-few g c = any_short c.args.node.now c.step.new.self (view c.args.input) c.transitions_are_short.ensures c.step.result c.step.ensures.transition

pub returns-clause-sturdy : goal.returns-clause-sturdy
returns-clause-sturdy g c =
    any_sturdy g.T.Tape c.args.node.now c.step.new.self (view c.args.input) c.step.result c.step.ensures.running c.step.ensures.transition c.step.ensures.unchanged c.step.ensures.memory c.step.ensures.sturdy c.step.ensures.sound

pub returns-clause-cut : goal.returns-clause-cut
returns-clause-cut g c = λ durable runs halts.
    any_cut g.T.Tape c.args.node.now c.step.new.self (view c.args.input) c.step.result _ c.step.ensures.running c.step.ensures.transition c.step.ensures.unchanged c.step.ensures.memory (c.step.ensures.cut durable) runs halts
