-- The answer of the node of this number is counted in.
use Rattle.std.proofs.Common.{◌≡◌, ◌+◌, max, refl, rules}
use Rattle.wf_rejoin.specs.Joining.{stage_of}
use Rattle.wf_rejoin.proofs.Counted.{one_answered}
use Rattle.wf_rejoin.proofs.joining.highest_answer.Goals as goal

pub loop-index-preserved : goal.loop-index-preserved
loop-index-preserved c =
    let higher : c.max-highest.result ≡ max c.loop-index.highest c.answer_of.result = search rules in
    one_answered c.loop-index.index (c.loop-index.index + 1) c.loop-index.highest c.answer_of.result c.max-highest.result (stage_of c.args.joining.now) refl c.loop-index.invariant c.answer_of.ensures higher
