-- The acceptor's transition is this node's, and it publishes nothing.
use Rattle.std.proofs.Common.{IfOk, OnErr, subst}
use Rattle.wf_model.specs.Table.{on_prepare}
use Rattle.wf_node.specs.DurablePart.{DurablePart, IsTransitionAnswer, Stores, stored_of}
use Rattle.wf_node.specs.Parts as parts
use Rattle.wf_node.proofs.PersistentPart.{parts_of, transition_if_ok, stores_if_err, room_if_ok, prepare_publishes_nothing}
use Rattle.wf_node.proofs.stored_part.DurablePart.on_prepare.Goals as goal

pub returns-clause-transition : goal.returns-clause-transition
returns-clause-transition c =
    subst (λ (k : DurablePart). IfOk c.on_prepare.result (IsTransitionAnswer (λ volatile. on_prepare k.id (stored_of k) volatile c.args.slot c.args.ballot))) c.self.view_is
    (transition_if_ok c.self.inside.tried c.self.inside.acceptor.part c.self.inside.history.definitions
    (λ stored volatile. on_prepare c.self.inside.acceptor.part.id stored volatile c.args.slot c.args.ballot) c.on_prepare.result c.self.invariant c.on_prepare.ensures.transition)

pub returns-clause-room : goal.returns-clause-room
returns-clause-room c =
    let stored = parts.stored_of (parts_of c.self.inside.tried c.self.inside.acceptor.part c.self.inside.history.definitions) in
    room_if_ok c.on_prepare.new.self c.self.inside.history.has_room (λ volatile. on_prepare c.self.inside.acceptor.part.id stored volatile c.args.slot c.args.ballot) c.on_prepare.result
    (prepare_publishes_nothing c.self.inside.acceptor.part.id stored c.args.slot c.args.ballot)
    (transition_if_ok c.self.inside.tried c.self.inside.acceptor.part c.self.inside.history.definitions
    (λ stored volatile. on_prepare c.self.inside.acceptor.part.id stored volatile c.args.slot c.args.ballot) c.on_prepare.result c.self.invariant c.on_prepare.ensures.transition)
    c.on_prepare.ensures.room

pub returns-clause-memory : goal.returns-clause-memory
returns-clause-memory c =
    subst (λ (k : DurablePart). OnErr c.on_prepare.result (Stores (λ volatile. on_prepare k.id (stored_of k) volatile c.args.slot c.args.ballot))) c.self.view_is
    (stores_if_err c.self.inside.tried c.self.inside.acceptor.part c.self.inside.history.definitions
    (λ stored volatile. on_prepare c.self.inside.acceptor.part.id stored volatile c.args.slot c.args.ballot) c.on_prepare.result c.self.invariant c.on_prepare.ensures.memory)
