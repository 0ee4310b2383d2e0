-- What the journal now holds stands for the durable state, which is unchanged.
use Rattle.std.proofs.Common.{subst, sym, ap, ◌∙◌}
use Rattle.wf_node.specs.Images.{AllStandFor}
use Rattle.wf_node.specs.DurablePart as keeping
use Rattle.wf_node.specs.Node.{stored_of, view_of}
use Rattle.wf_node.specs.Compaction.{IsShortening, short_records}
use Rattle.wf_node.proofs.Rewrite.{replacement_sturdy, rewriting_keeps, shortens}
use Rattle.wf_node.proofs.Shortened.{stands_on}
use Rattle.wf_node.proofs.node.Node.rewrite.Goals as goal

pub rewrite-requires : goal.rewrite-requires
rewrite-requires g c = ap (λ node. node.halted) c.self.view_is ∙ c.requires

pub invariant_of-self : goal.invariant_of-self
invariant_of-self g c =
    rewriting_keeps g.T.Tape c.self.inside.machine.journal c.rewrite.new.self.journal c.self.inside.machine.persistent c.rewrite.new.self.persistent c.self.inside.machine.proposer c.rewrite.new.self.proposer
    c.rewrite.result c.folds_are_open.ensures c.votes_are_promised.ensures c.self.invariant (ap (λ node. node.halted) c.self.view_is ∙ c.requires) c.rewrite.ensures.replacement c.rewrite.ensures.persistent c.rewrite.ensures.proposer

pub returns-clause-shortening : goal.returns-clause-shortening
returns-clause-shortening g c =
    subst (λ before. IsShortening g.T.Tape before c.rewrite.result (view_of c.rewrite.new.self.journal c.rewrite.new.self.persistent.parts c.rewrite.new.self.proposer)) c.self.view_is
    (shortens g.T.Tape c.self.inside.machine.journal c.rewrite.new.self.journal c.self.inside.machine.persistent c.rewrite.new.self.persistent c.self.inside.machine.proposer c.rewrite.new.self.proposer
    c.rewrite.result c.folds_are_open.ensures c.votes_are_promised.ensures c.self.invariant (ap (λ node. node.halted) c.self.view_is ∙ c.requires) c.rewrite.ensures.replacement c.rewrite.ensures.persistent c.rewrite.ensures.proposer)

pub returns-clause-inside : goal.returns-clause-inside
returns-clause-inside g c = λ durable.
    subst (λ before. AllStandFor (stored_of before) (g.T.Tape.left_since c.rewrite.new.self.journal.tape (g.T.Tape.moment before.tape))) c.self.view_is
    (stands_on c.folds_are_open.ensures c.votes_are_promised.ensures (keeping.stored_of c.self.inside.machine.persistent) (g.T.Tape.images c.self.inside.machine.journal.tape)
    (g.T.Tape.left_since c.rewrite.new.self.journal.tape (g.T.Tape.moment c.self.inside.machine.journal.tape)) (c.rewrite.ensures.inside durable)
    (c.self.invariant.stands durable (ap (λ node. node.halted) c.self.view_is ∙ c.requires)))

pub returns-clause-sturdy : goal.returns-clause-sturdy
returns-clause-sturdy g c = λ sound.
    (replacement_sturdy g.T.Tape c.rewrite.result (short_records (keeping.stored_of c.self.inside.machine.persistent)) c.self.inside.machine.journal c.rewrite.new.self.journal
    c.rewrite.ensures.replacement (subst (λ node. g.T.Tape.never_fails node.tape) (sym c.self.view_is) sound)).0

pub returns-clause-sound : goal.returns-clause-sound
returns-clause-sound g c = λ sound.
    (replacement_sturdy g.T.Tape c.rewrite.result (short_records (keeping.stored_of c.self.inside.machine.persistent)) c.self.inside.machine.journal c.rewrite.new.self.journal
    c.rewrite.ensures.replacement (subst (λ node. g.T.Tape.never_fails node.tape) (sym c.self.view_is) sound)).1
