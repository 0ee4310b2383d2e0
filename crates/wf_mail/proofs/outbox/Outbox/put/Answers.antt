use Rattle.std.proofs.Common.{◌+◌, ◌≤◌, length, arith}
use Rattle.wf_codec.specs.Message.{view}
use Rattle.wf_codec.specs.Encoding.{spelling}
use Rattle.wf_mail.specs.Outbox.{waiting_in}
use Rattle.wf_mail.proofs.Outboxes.{puts_outbox_logged, is_put_logged, waits_behind, waiting_length}
use Rattle.wf_mail.proofs.outbox.Outbox.put.Goals as goal

pub invariant_of-self-2 : goal.invariant_of-self-2
invariant_of-self-2 c =
    let i = c.self.inside in
    let behind = waits_behind i.front.items i.done i.queue.items c.append.new.queue.items (spelling (view c.args.message.now)) c.take_turn.new.front.items c.take_turn.new.queue.items c.take_turn.new.done
    c.in_ok-count.ensures.items c.take_turn.ensures.waiting in
    let room : length (waiting_in i.front.items i.done i.queue.items) + length (spelling (view c.args.message.now)) ≤ i.limit =
    omega (arith, waiting_length i.front.items i.done i.queue.items, c.self.invariant.bounded, c.in_ok-count.ensures.within, c.in_ok-count.ensures.length, c.len.ensures, c.len-2.ensures) in
    puts_outbox_logged i.log.items i.front.items i.done i.queue.items i.limit c.self.invariant c.args.message.now c.in_ok-count.count c.take_turn.new.front.items c.take_turn.new.done c.take_turn.new.queue.items behind
    c.and-self-inside.result.items c.and-self-inside.ensures c.in_ok-count.ensures.is_message room c.take_turn.ensures.within c.take_turn.ensures.in_turn

pub returns-clause-ok : goal.returns-clause-ok
returns-clause-ok c =
    let i = c.self.inside in
    let behind = waits_behind i.front.items i.done i.queue.items c.append.new.queue.items (spelling (view c.args.message.now)) c.take_turn.new.front.items c.take_turn.new.queue.items c.take_turn.new.done
    c.in_ok-count.ensures.items c.take_turn.ensures.waiting in
    let room : length (waiting_in i.front.items i.done i.queue.items) + length (spelling (view c.args.message.now)) ≤ i.limit =
    omega (arith, waiting_length i.front.items i.done i.queue.items, c.self.invariant.bounded, c.in_ok-count.ensures.within, c.in_ok-count.ensures.length, c.len.ensures, c.len-2.ensures) in
    is_put_logged i.log.items i.front.items i.done i.queue.items i.limit c.self.invariant c.args.message.now c.in_ok-count.count c.take_turn.new.front.items c.take_turn.new.done c.take_turn.new.queue.items behind
    c.and-self-inside.result.items c.and-self-inside.ensures _ _ c.args.self.now c.self.view_is room
