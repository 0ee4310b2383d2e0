-- The step of the parts is the node's step, and preserves the invariant of nodes.
use Rattle.std.proofs.Common.{subst, sym, ap, ◌∙◌}
use Rattle.wf_node.specs.Input.{view}
use Rattle.wf_model.specs.Table.{store}
use Rattle.wf_node.specs.Images.{EachStandsFor, EachIsCut}
use Rattle.wf_node.specs.Node.{stored_of, view_of}
use Rattle.wf_node.specs.Step.{IsStep, transition_of}
use Rattle.wf_node.proofs.Steps.{act_keeps, act_steps, act_inside, act_cut, act_sturdy}
use Rattle.wf_node.proofs.node.Node.advance.Goals as goal

pub act-requires : goal.act-requires
act-requires g c =
    record {
      running = ap (λ node. node.halted) c.self.view_is ∙ c.requires;
      same_node = c.self.invariant.same_node;
      for_next = c.self.invariant.for_next;
      fits = c.records_fit.ensures;
    }

pub invariant_of-self : goal.invariant_of-self
invariant_of-self g c =
    act_keeps g.T.Tape c.self.inside.machine.journal c.act.new.self.journal c.self.inside.machine.persistent c.act.new.self.persistent c.self.inside.machine.proposer c.act.new.self.proposer
    (view c.args.input) c.act.result c.self.invariant (ap (λ node. node.halted) c.self.view_is ∙ c.requires) c.records_fit.ensures c.act.ensures.id c.act.ensures.act

pub returns-clause-step : goal.returns-clause-step
returns-clause-step g c =
    subst (λ before. IsStep g.T.Tape before (view c.args.input) c.act.result (view_of c.act.new.self.journal c.act.new.self.persistent.parts c.act.new.self.proposer)) c.self.view_is
    (act_steps g.T.Tape c.self.inside.machine.journal c.act.new.self.journal c.self.inside.machine.persistent c.act.new.self.persistent c.self.inside.machine.proposer c.act.new.self.proposer
    (view c.args.input) c.act.result c.self.invariant (ap (λ node. node.halted) c.self.view_is ∙ c.requires) c.records_fit.ensures c.act.ensures.act)

pub returns-clause-inside : goal.returns-clause-inside
returns-clause-inside g c = λ durable.
    subst (λ before. EachStandsFor (stored_of before) (store (stored_of before) (transition_of before (view c.args.input)).entry) (g.T.Tape.left_since c.act.new.self.journal.tape (g.T.Tape.moment before.tape))) c.self.view_is
    (act_inside g.T.Tape c.self.inside.machine.journal c.act.new.self.journal c.self.inside.machine.persistent c.act.new.self.persistent c.self.inside.machine.proposer
    c.act.new.self.proposer (view c.args.input) c.act.result c.self.invariant (ap (λ node. node.halted) c.self.view_is ∙ c.requires) c.records_fit.ensures c.act.ensures.act durable
    (g.met.T.Tape.is_now durable c.self.inside.machine.journal.tape).nothing_else)

pub returns-clause-sturdy : goal.returns-clause-sturdy
returns-clause-sturdy g c = λ sound.
    (act_sturdy g.T.Tape c.self.inside.machine.journal c.act.new.self.journal c.self.inside.machine.persistent.parts c.act.new.self.persistent.parts
    c.self.inside.machine.proposer c.act.new.self.proposer (view c.args.input) c.act.result c.act.ensures.act (subst (λ node. g.T.Tape.never_fails node.tape) (sym c.self.view_is) sound)).0

pub returns-clause-sound : goal.returns-clause-sound
returns-clause-sound g c = λ sound.
    (act_sturdy g.T.Tape c.self.inside.machine.journal c.act.new.self.journal c.self.inside.machine.persistent.parts c.act.new.self.persistent.parts
    c.self.inside.machine.proposer c.act.new.self.proposer (view c.args.input) c.act.result c.act.ensures.act (subst (λ node. g.T.Tape.never_fails node.tape) (sym c.self.view_is) sound)).1

pub returns-clause-cut : goal.returns-clause-cut
returns-clause-cut g c = λ durable failed.
    subst (λ before. EachIsCut (transition_of before (view c.args.input)).entry (stored_of before) (store (stored_of before) (transition_of before (view c.args.input)).entry) (g.T.Tape.images before.tape) (g.T.Tape.images c.act.new.self.journal.tape)) c.self.view_is
    (act_cut g.T.Tape c.self.inside.machine.journal c.act.new.self.journal c.self.inside.machine.persistent c.act.new.self.persistent c.self.inside.machine.proposer
    c.act.new.self.proposer (view c.args.input) c.act.result c.self.invariant (ap (λ node. node.halted) c.self.view_is ∙ c.requires) c.records_fit.ensures c.act.ensures.act durable failed)
