-- The node of this number is counted, or not.
use Rattle.std.proofs.Common.{◌∙◌, ◌+◌, refl, sym, arith}
use Rattle.wf_rejoin.specs.Joining.{agreed_nodes}
use Rattle.wf_rejoin.proofs.Counted.{one_counted, still_counted}
use Rattle.wf_rejoin.proofs.joining.Joining.agreed.Goals as goal
use Rattle.wf_rejoin.proofs.joining.Joining.agreed.Goals.{then-is_agreed, else-is_agreed}

pub loop-index-preserved : goal.loop-index-preserved
loop-index-preserved c = elim c.if-is_agreed.branch [
  | then-is_agreed w ↦ (
    one_counted c.loop-index.index (c.loop-index.index + 1) c.loop-index.count c.if-is_agreed.count (agreed_nodes c.args.self.now) refl c.loop-index.invariant.0 (sym c.is_agreed.ensures ∙ w.if-is_agreed.true) w.count-is,
    omega (arith, c.loop-index.invariant.1, w.count-is),
  )
  | else-is_agreed w ↦ (
    w.count-is ∙ still_counted c.loop-index.index (c.loop-index.index + 1) c.loop-index.count (agreed_nodes c.args.self.now) refl c.loop-index.invariant.0 (sym c.is_agreed.ensures ∙ w.if-is_agreed.false),
    omega (arith, c.loop-index.invariant.1, w.count-is),
  )
]
