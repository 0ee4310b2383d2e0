-- The journal holds the records of the durable state, or nothing has changed.
use Rattle.std.proofs.Common.{map, refl, ap, subst, ◌∙◌, inl}
use Rattle.wf_journal.specs.Journal.{Follows, IsSameOrReads}
use Rattle.wf_journal.specs.Record.{view}
use Rattle.wf_node.specs.TapeWrites.{IsReplacement}
use Rattle.wf_node.proofs.Replies.{spared}
use Rattle.wf_node.proofs.machine.Machine.rewrite.Goals as goal

pub returns-in-Ok-clause-replacement : goal.returns-in-Ok-clause-replacement
returns-in-Ok-clause-replacement g c =
    subst (λ records. IsReplacement g.T.Tape records c.args.self.now.journal c.replace-replaced.result c.replace-replaced.new.journal)
    (ap (map view) c.deref.ensures.value ∙ c.in-Ok.ensures) c.replace-replaced.ensures.replacement

pub returns-in-Err-clause-replacement : goal.returns-in-Err-clause-replacement
returns-in-Err-clause-replacement g c = spared g.T.Tape c.args.self.now.journal c.requires

pub returns-in-Ok-clause-inside : goal.returns-in-Ok-clause-inside
returns-in-Ok-clause-inside g c = λ durable.
    subst (λ records. Follows (IsSameOrReads records) (g.T.Tape.images c.args.self.now.journal.tape) (g.T.Tape.left_since c.replace-replaced.new.journal.tape (g.T.Tape.moment c.args.self.now.journal.tape)))
    (ap (map view) c.deref.ensures.value ∙ c.in-Ok.ensures) (c.replace-replaced.ensures.inside durable)

pub returns-in-Err-clause-inside : goal.returns-in-Err-clause-inside
returns-in-Err-clause-inside g c = λ durable image left. (image, (g.met.T.Tape.is_now durable c.args.self.now.journal.tape).nothing_else image left, inl refl)
