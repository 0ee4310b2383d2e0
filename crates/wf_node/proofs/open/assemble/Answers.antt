-- There is no proposal yet.
use Rattle.std.proofs.Common.{sym, subst, ◌∙◌}
use Rattle.wf_def.specs.Definition.{Definition}
use Rattle.wf_model.specs.Fits.{IsForNext}
use Rattle.wf_model.specs.VolatileState.{VolatileState, at_start}
use Rattle.wf_node.specs.DurablePart.{stored_of}
use Rattle.wf_node.proofs.open.assemble.Goals as goal

pub invariant_of-result : goal.invariant_of-result
unfolding at_start
invariant_of-result g c = record {
  same_node = c.requires.id ∙ sym c.new-proposer.ensures.node;
  for_next = subst (λ (w : VolatileState Definition). IsForNext (stored_of c.args.persistent) w.proposing) (sym c.new-proposer.ensures.idle) tt;
  stands = c.requires.stands;
}
