use Rattle.std.proofs.Common.{arith}
use Rattle.wf_label.specs.Placed.{placed_values}
use Rattle.wf_label.proofs.LayoutLemmas.{IsLayout-none, layout_next}
use Rattle.wf_label.proofs.MeaningLemmas.{means_at}
use Rattle.wf_label.proofs.placement.place_among.Goals as goal

pub loop-label-init : goal.loop-label-init
loop-label-init c = record {
  placed = rw c.in_ok-layout.ensures.none (IsLayout-none c.args.view.now);
  taken = rw c.in_ok-layout.ensures.none c.in_ok-layout.ensures.taken;
}

pub place_label-requires-clause-text : goal.place_label-requires-clause-text
place_label-requires-clause-text c = means_at c.args.labels.now c.loop-label.label-index _ (omega arith) c.requires

pub loop-label-preserved : goal.loop-label-preserved
loop-label-preserved c = record {
  placed = layout_next c.args.view.now c.args.labels.now c.loop-label.label-index _ (placed_values c.loop-label.layout.placed.items) _ (omega arith) c.loop-label.invariant.placed c.in_ok-place_label.ensures.placed;
  taken = c.in_ok-place_label.ensures.taken;
}
