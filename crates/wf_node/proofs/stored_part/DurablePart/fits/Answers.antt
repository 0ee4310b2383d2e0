-- A published definition fits iff it is the next one.
use Rattle.std.proofs.Common.{length, ap, ◌∙◌}
use Rattle.wf_node.specs.DurablePart.{DurablePart, stored_of}
use Rattle.wf_node.proofs.PersistentPart.{fits_in_turn}
use Rattle.wf_node.proofs.stored_part.DurablePart.fits.Goals as goal

pub returns-in-Published : goal.returns-in-Published
returns-in-Published c =
    let as_many = c.number-in-Published.ensures.value ∙ c.published.ensures.value ∙ ap (λ (k : DurablePart). length k.parts.history) c.self.view_is in
    fits_in_turn (stored_of c.args.self.now) c.args.entry.now c.in-Published.slot c.number-in-Published.result c.number.result c.in-Published.field-1
    c.in-Published.is c.number.ensures.value as_many
