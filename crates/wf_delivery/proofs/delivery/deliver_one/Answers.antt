-- The message is delivered to the node of its entry; without room nothing is.
use Rattle.std.proofs.Common.{◌≡◌, ◌++◌, ◌∙◌, length, true, slice_get, slice_set, Some, refl, sym, ap, subst}
use Rattle.wf_delivery.proofs.Common.{slice_get_read, IsGiven, MayBeLost, Takes, Changed, Unchanged}
use Rattle.wf_codec.specs.Message.{view}
use Rattle.wf_model.specs.Table as table
use Rattle.wf_delivery.proofs.Deliveries.{given_to}
use Rattle.wf_delivery.proofs.delivery.deliver_one.Given as given
use Rattle.wf_delivery.proofs.delivery.deliver_one.Goals as goal

here : (g : given.Over) (c : goal.After-send g) → slice_get c.args.entries.now c.args.index ≡ Some c.index-entries-index.result
here g c = slice_get_read c.args.entries.now (length c.args.entries.now) c.args.index c.index-entries-index.result refl c.requires.index c.index-entries-index.is

pub returns-then-is_err-clause-changed : goal.returns-then-is_err-clause-changed
returns-then-is_err-clause-changed g c = Unchanged

pub returns-clause-given : goal.returns-clause-given
returns-clause-given g c =
    let r = c.receive-messages in
    let entry = c.index-entries-index.result in
    let next = r.new.self in
    let m = c.index.result.now in
    let outputs = r.result.messages.items in
    let lost = r.result.lost in
    let nodes = g.E.Recipient.nodes in
    let node = g.E.Recipient.node in
    let was = c.args.entries.now in
    let n = length was in
    let i = c.args.index in
    let message_there = slice_get_read c.reserve.new.self.items (length c.args.sent.now.items) c.args.number m (sym (ap length c.reserve.ensures.items)) c.requires.number c.index.ensures in
    let message_at = subst (λ ms. slice_get ms c.args.number ≡ Some m) c.reserve.ensures.items message_there in
    let takes = subst (λ e. Takes g.T.Tape lost (table.Deliver (view m)) (node n i e) (node n i next) outputs) (sym c.index-entries-index.is) (r.ensures.takes n i) in
    let cause = subst (λ e. lost ≡ true → MayBeLost m (node n i e)) (sym c.index-entries-index.is) (r.ensures.cause n i) in
    subst (λ ms. IsGiven g.T.Tape i c.args.number lost (nodes was) c.args.sent.now.items (nodes (slice_set was i next)) ms) (sym (c.send.ensures ∙ ap (λ ms. ms ++ outputs) c.reserve.ensures.items))
    (subst (λ ns. IsGiven g.T.Tape i c.args.number lost (nodes was) c.args.sent.now.items ns (c.args.sent.now.items ++ outputs)) (sym (g.met.E.Recipient.set was i next))
    (given_to g.T.Tape (nodes was) c.args.sent.now.items i c.args.number (node n i entry) (node n i next) m outputs (g.met.E.Recipient.get was i entry (here g c)) message_at c.requires.in_turn lost takes cause))

pub returns-clause-changed : goal.returns-clause-changed
returns-clause-changed g c =
    let r = c.receive-messages in
    Changed c.args.entries.now c.args.index c.index-entries-index.result r.new.self Unchanged (here g c)
    (subst (λ e. g.E.Recipient.keeps e r.new.self) (sym c.index-entries-index.is) r.ensures.keeps)
