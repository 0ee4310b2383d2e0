use Rattle.std.proofs.Common.{◌≡◌, pos, sym, ◌∙◌}
use Rattle.wf_geometry.specs.Position.{centre, turned}
use Rattle.wf_geometry.specs.Coverage.{is_across, is_on_flat}
use Rattle.wf_geometry.proofs.LineLemmas.{on_steep, on_flat}
use Rattle.wf_geometry.proofs.line.strip_of.Goals as goal

pub returns-then-is_steep-clause-shown : goal.returns-then-is_steep-clause-shown
returns-then-is_steep-clause-shown c = λ u v wide high.
    let segment = c.args.segment.now in
    let line = c.in_order.result in
    let position = turned (centre (pos u) (pos v)) in
    let ordered : is_across c.args.width position line.from line.to ≡ is_on_flat c.args.width position (turned segment.from) (turned segment.to) =
    rw (← c.exchange_axes.ensures, ← c.exchange_axes-then-is_steep.ensures) (c.in_order.ensures c.args.width position) in
    c.upward.ensures.shown u v wide high ∙ ordered ∙ sym (on_steep c.args.width (centre (pos u) (pos v)) segment (sym c.is_steep.ensures ∙ c.if-is_steep.true))

pub returns-else-is_steep-clause-shown : goal.returns-else-is_steep-clause-shown
returns-else-is_steep-clause-shown c = λ u v wide high.
    let segment = c.args.segment.now in
    c.rightward.ensures.shown u v wide high ∙ c.in_order-else-is_steep.ensures c.args.width (centre (pos u) (pos v))
    ∙ sym (on_flat c.args.width (centre (pos u) (pos v)) segment (sym c.is_steep.ensures ∙ c.if-is_steep.false))
