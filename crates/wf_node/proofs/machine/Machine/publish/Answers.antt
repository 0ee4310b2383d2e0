-- The definition's record is stored, the proposal ends, and nothing is sent.
use Rattle.std.proofs.Common.{◌≡◌, true, map, Some, Ok, Err, Global, IsSome, refl, sym, subst, ap, ◌∙◌, inl}
use Rattle.wf_codec.specs.Message as message
use Rattle.wf_def.specs.Definition.{Definition}
use Rattle.wf_def.specs.Equality.{definition_eq}
use Rattle.wf_model.specs.DurableState.{Published, fits}
use Rattle.wf_model.specs.Table.{Transition, on_chosen, store}
use Rattle.wf_proposer.specs.Proposer.{volatile_of}
use Rattle.wf_node.specs.Fault.{ByEntry}
use Rattle.wf_node.specs.Parts.{stored_of}
use Rattle.wf_node.proofs.Replies.{change_as, spared, write_fails}
use Rattle.wf_node.proofs.Transitions.{chosen_next, ends_at_next, next_fits, publishing}
use Rattle.wf_node.proofs.machine.Machine.publish.Goals as goal

pub returns-then-is_err-clause-change : goal.returns-then-is_err-clause-change
returns-then-is_err-clause-change g c = (
  spared g.T.Tape c.args.self.now.journal c.requires.ready.running,
  record { parts = c.make_room_for.ensures.parts; proposer = refl },
  ByEntry (subst (λ (r : Transition Definition). IsSome r.entry) (sym (chosen_next (stored_of c.args.self.now.persistent.parts) (volatile_of c.args.self.now.proposer) c.args.slot c.args.canon c.requires.next)) refl),
  λ h stored fits stands image left. inl (stands image left),
)

pub apply_entry-requires-clause-fits : goal.apply_entry-requires-clause-fits
apply_entry-requires-clause-fits g c =
    subst (λ parts. fits (stored_of parts) (Published c.args.slot c.args.canon) ≡ true) (sym c.make_room_for.ensures.parts) (next_fits (stored_of c.args.self.now.persistent.parts) c.args.slot c.args.canon c.requires.next)

pub returns-in-Ok-clause-change : goal.returns-in-Ok-clause-change
returns-in-Ok-clause-change g c =
    change_as g.T.Tape (publishing (volatile_of c.args.self.now.proposer) c.args.slot c.args.canon) (on_chosen definition_eq (stored_of c.args.self.now.persistent.parts) (volatile_of c.args.self.now.proposer) c.args.slot c.args.canon) c.args.self.now.journal c.store.new.journal c.args.self.now.persistent.parts c.apply_entry.new.self.parts c.args.self.now.proposer c.end_proposal.new.proposer (Ok c.new.result) (sym (chosen_next (stored_of c.args.self.now.persistent.parts) (volatile_of c.args.self.now.proposer) c.args.slot c.args.canon c.requires.next)) (
      c.in-Ok.ensures,
      record {
        stored = c.apply_entry.ensures.stored ∙ ap (λ parts. store (stored_of parts) (Some (Published c.args.slot c.args.canon))) c.make_room_for.ensures.parts;
        node = c.end_proposal.ensures.node;
        nodes = c.end_proposal.ensures.nodes;
        volatile = c.end_proposal.ensures.volatile ∙ ends_at_next (stored_of c.args.self.now.persistent.parts) (volatile_of c.args.self.now.proposer) c.args.slot c.args.canon c.requires.ready.for_next c.requires.next;
        messages = ap (map message.view) c.new.ensures.items;
      },
    )

pub returns-in-Err-clause-change : goal.returns-in-Err-clause-change
returns-in-Err-clause-change g c =
    change_as g.T.Tape {A = Global} (publishing (volatile_of c.args.self.now.proposer) c.args.slot c.args.canon) (on_chosen definition_eq (stored_of c.args.self.now.persistent.parts) (volatile_of c.args.self.now.proposer) c.args.slot c.args.canon) c.args.self.now.journal c.keep_unwritten.new.journal c.args.self.now.persistent.parts c.make_room_for.new.self.parts c.args.self.now.proposer c.args.self.now.proposer (Err c.in-Err.fault) (sym (chosen_next (stored_of c.args.self.now.persistent.parts) (volatile_of c.args.self.now.proposer) c.args.slot c.args.canon c.requires.next))
    (write_fails g.T.Tape Global (Unit {0}) (publishing (volatile_of c.args.self.now.proposer) c.args.slot c.args.canon) c.args.self.now.journal c.store.new.journal c.keep_unwritten.new.journal
    c.args.self.now.persistent.parts c.make_room_for.new.self.parts c.args.self.now.proposer c.in-Err.fault (Some (Published c.args.slot c.args.canon)) c.make_room_for.ensures.parts refl c.in-Err.ensures c.keep_unwritten.ensures)
