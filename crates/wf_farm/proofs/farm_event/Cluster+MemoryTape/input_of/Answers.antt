-- The message of a delivery that has an input was sent, and what the carrier brings is that
-- message.
use Rattle.std.proofs.Common.{◌≡◌, ◌∙◌, List, length, map, is_some, true, None, Some, refl, slice_get, sym, ap, subst}
use Rattle.wf_farm.proofs.Common.{ltb-false, ltb-true, slice_get_past, slice_get_read, Message, numbered, input_of}
use Rattle.wf_codec.specs.Message.{view}
use Rattle.wf_model.specs.Table as table
use Rattle.wf_delivery.proofs.Runs.{sent_message}
use Rattle.wf_farm.proofs.Idle.{none_sent}
use Rattle.wf_farm.proofs.farm_event.Cluster+MemoryTape.input_of.Goals as goal

pub unreachable-requires : goal.unreachable-requires
unreachable-requires g c =
    let sent = c.args.self.now.sent.items in
    let none = slice_get_past c.deref.result.now c.in-Deliver.number (ltb-false c.in-Deliver.number (length c.deref.result.now) (sym c.in-None.ensures.lookup.0)) in
    none_sent sent c.in-Deliver.number (subst (λ (ms : List Message). slice_get ms c.in-Deliver.number ≡ None) c.deref.ensures.value none)
    (subst (λ a. is_some (input_of (map view sent) (numbered a)) ≡ true) c.in-Deliver.is c.requires.sent)

pub returns-in-Ok-carry_over-clause-input : goal.returns-in-Ok-carry_over-clause-input
returns-in-Ok-carry_over-clause-input g c =
    let sent = c.args.self.now.sent.items in
    let m = c.in-Some.message.now in
    let there = slice_get_read c.deref.result.now (length c.deref.result.now) c.in-Deliver.number m refl (ltb-true c.in-Deliver.number (length c.deref.result.now) (sym c.in-Some.ensures.lookup.0)) c.in-Some.ensures.lookup.1 in
    let at = subst (λ (ms : List Message). slice_get ms c.in-Deliver.number ≡ Some m) c.deref.ensures.value there in
    subst (λ a. input_of (map view sent) (numbered a) ≡ Some (table.Deliver (view c.in-Ok-carry_over.brought))) (sym c.in-Deliver.is)
    (sent_message sent c.in-Deliver.number m at ∙ ap (λ (x : Message). Some (table.Deliver (view x))) (sym c.in-Ok-carry_over.ensures.same))
