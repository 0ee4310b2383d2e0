use Rattle.wf_check.proofs.Messages.{next_keyword}
use Rattle.wf_check.proofs.message.names_of.Goals as goal

-- one more keyword
pub loop-keyword-preserved : goal.loop-keyword-preserved
loop-keyword-preserved c =
    next_keyword (λ k. (k.0.now, k.1)) c.args.keywords.now c.loop-keyword.keyword-index _ _ _ c.loop-keyword-test.true c.loop-keyword.invariant c.in_ok-push_name.ensures
