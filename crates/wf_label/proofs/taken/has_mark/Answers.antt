use Rattle.std.proofs.Common.{arith}
use Rattle.wf_label.proofs.MarkLemmas.{further_free, part_met}
use Rattle.wf_label.proofs.taken.has_mark.Goals as goal

pub loop-here-init : goal.loop-here-init
loop-here-init c = record { from = omega arith; none = λ n from before. absurd (omega arith) }

pub loop-here-preserved : goal.loop-here-preserved
loop-here-preserved c = record {
  from = omega (arith, c.loop-here.invariant.from, c.min-next.ensures);
  none = further_free c.args.marks.now c.args.start c.loop-here.here c.min-next.result c.loop-here.invariant.none (c.is_word_marked.ensures.free c.if-is_word_marked.false);
}

pub returns-then-is_word_marked-clause-some : goal.returns-then-is_word_marked-clause-some
returns-then-is_word_marked-clause-some c = λ met.
    part_met c.args.marks.now c.args.start c.loop-here.here c.min-next.result c.args.end c.loop-here.invariant.from (omega (arith, c.min-next.ensures))
    (c.is_word_marked.ensures.some c.if-is_word_marked.true)

pub returns-clause-free : goal.returns-clause-free
returns-clause-free c = λ free n from before. c.loop-here.invariant.none n from (omega arith)
