-- The step is done, or lost, or the node crashes within it.
use Rattle.std.proofs.Common.{ap, length, refl, sym, ◌∙◌}
use Rattle.wf_farm.proofs.Common.{both_ways, stored_of, entry_of, stored_next, TapeValue, IsImageNow}
use Rattle.wf_node.specs.Input.{view}
use Rattle.wf_farm.proofs.Taken.{laid_member, laid_within, tape_cut, taken_fares, taken_member, taken_transition, torn_fares}
use Rattle.wf_farm.proofs.Tried.{laid_cut, no_fuse_on}
use Rattle.wf_farm.proofs.node_step.step_running.Goals as goal

pub crash-requires-clause-most : goal.crash-requires-clause-most
crash-requires-clause-most c = (laid_within c.args.node c.consume-messages.new.node c.set_fuse.new.self (view c.args.input) c.consume-messages.result.messages.items _ c.consume-messages.result.lost c.consume-messages.ensures.takes c.set_fuse.ensures c.requires.goes).0

pub crash-requires-clause-within : goal.crash-requires-clause-within
crash-requires-clause-within c = (laid_within c.args.node c.consume-messages.new.node c.set_fuse.new.self (view c.args.input) c.consume-messages.result.messages.items _ c.consume-messages.result.lost c.consume-messages.ensures.takes c.set_fuse.ensures c.requires.goes).1

pub crash-requires-clause-fuse : goal.crash-requires-clause-fuse
crash-requires-clause-fuse c = no_fuse_on c.consume-messages.new.node c.set_fuse.new.self c.set_fuse.ensures

pub returns-then-is_halted-clause-fares : goal.returns-then-is_halted-clause-fares
returns-then-is_halted-clause-fares c =
    let halted = sym c.is_halted.ensures ∙ c.if-is_halted.true in
    let entry = entry_of c.args.node (view c.args.input) in
    let next = stored_next c.args.node (view c.args.input) in
    torn_fares c.args.node (view c.args.input) c.crash.result.1 c.crash.result.0 (λ never. both_ways c.consume-messages.new.node.halted (c.consume-messages.ensures.sturdy never c.requires.goes.0).0 halted)
    (c.crash.ensures.torn entry (stored_of c.args.node) next
    (tape_cut (length c.bytes-long.result.now) entry (stored_of c.args.node) next c.args.node.tape c.set_fuse.new.self.tape (c.tape.ensures.settled tt c.requires.goes.0)
    (ap length (c.bytes-long.ensures ∙ ap (λ (t : TapeValue). t.bytes) c.tape.ensures.value))
    (laid_cut entry (stored_of c.args.node) next (IsImageNow c.args.node.tape) c.consume-messages.new.node c.set_fuse.new.self c.set_fuse.ensures (c.consume-messages.ensures.cut tt c.requires.goes.0 halted))))

pub returns-then-is_halted-clause-member : goal.returns-then-is_halted-clause-member
returns-then-is_halted-clause-member c =
    laid_member c.args.node c.consume-messages.new.node c.set_fuse.new.self (view c.args.input) c.consume-messages.result.messages.items _ c.consume-messages.result.lost c.consume-messages.ensures.takes c.set_fuse.ensures c.crash.result.0 c.crash.ensures.member

pub returns-then-lost-clause-fares : goal.returns-then-lost-clause-fares
returns-then-lost-clause-fares c = λ never. taken_fares c.args.node c.consume-messages.new.node (view c.args.input) c.consume-messages.result.messages.items _ c.consume-messages.result.lost c.consume-messages.ensures.takes c.if-lost.true

pub returns-then-lost-clause-member : goal.returns-then-lost-clause-member
returns-then-lost-clause-member c =
    taken_member c.args.node c.consume-messages.new.node (view c.args.input) c.consume-messages.result.messages.items _ c.consume-messages.result.lost c.consume-messages.ensures.takes (sym c.is_halted.ensures ∙ c.if-is_halted.false)

pub returns-then-lost-clause-sturdy : goal.returns-then-lost-clause-sturdy
returns-then-lost-clause-sturdy c = λ never. (c.consume-messages.ensures.sturdy never c.requires.goes.0).1

pub returns-clause-fares : goal.returns-clause-fares
returns-clause-fares c = (
  c.consume-messages.new.node,
  refl,
  taken_transition _ c.args.node c.consume-messages.new.node (view c.args.input) c.consume-messages.result.messages.items c.requires.goes.0 c.requires.goes.3 c.consume-messages.result.lost c.consume-messages.ensures.takes c.if-lost.false (sym c.is_halted.ensures ∙ c.if-is_halted.false),
)

pub returns-clause-member : goal.returns-clause-member
returns-clause-member c =
    taken_member c.args.node c.consume-messages.new.node (view c.args.input) c.consume-messages.result.messages.items _ c.consume-messages.result.lost c.consume-messages.ensures.takes (sym c.is_halted.ensures ∙ c.if-is_halted.false)

pub returns-clause-sturdy : goal.returns-clause-sturdy
returns-clause-sturdy c = λ never. (c.consume-messages.ensures.sturdy never c.requires.goes.0).1
