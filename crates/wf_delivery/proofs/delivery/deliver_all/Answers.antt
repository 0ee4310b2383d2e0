-- Without nodes nothing is delivered.
use Rattle.std.proofs.Common.{arith}
use Rattle.wf_delivery.proofs.Common.{AnyPart, StandFor, each_grows_itself, halted_itself}
use Rattle.wf_delivery.proofs.Deliveries.{reaches_nowhere}
use Rattle.wf_delivery.proofs.delivery.deliver_all.Goals as goal

pub returns-then-is_empty-clause-delivered : goal.returns-then-is_empty-clause-delivered
returns-then-is_empty-clause-delivered g c = record { sent = c.args.messages.items; reach = reaches_nowhere AnyPart c.args.nodes.now c.args.messages.items }

pub returns-then-is_empty-clause-on_tape : goal.returns-then-is_empty-clause-on_tape
returns-then-is_empty-clause-on_tape g c = λ h left may. record { sent = c.args.messages.items; reach = reaches_nowhere (StandFor left) c.args.nodes.now c.args.messages.items }

pub returns-then-is_empty-clause-handed : goal.returns-then-is_empty-clause-handed
returns-then-is_empty-clause-handed g c = λ some. absurd (grind (arith, c.is_empty.ensures, c.if-is_empty.true, some))

pub returns-then-is_empty-clause-halted : goal.returns-then-is_empty-clause-halted
returns-then-is_empty-clause-halted g c = halted_itself c.args.nodes.now

pub returns-then-is_empty-clause-lists : goal.returns-then-is_empty-clause-lists
returns-then-is_empty-clause-lists g c = each_grows_itself c.args.nodes.now

-- With nodes the result is that of the deliveries.
pub returns-clause-delivered : goal.returns-clause-delivered
returns-clause-delivered g c = c.deliver_each.ensures.delivered.any

pub returns-clause-on_tape : goal.returns-clause-on_tape
returns-clause-on_tape g c = c.deliver_each.ensures.delivered.on_tape

pub returns-clause-handed : goal.returns-clause-handed
returns-clause-handed g c = λ some. c.deliver_each.ensures.handed

pub returns-clause-halted : goal.returns-clause-halted
returns-clause-halted g c = c.deliver_each.ensures.delivered.halted

pub returns-clause-in_turn : goal.returns-clause-in_turn
returns-clause-in_turn g c = c.deliver_each.ensures.delivered.turn.in_turn c.requires.in_turn

pub returns-clause-size : goal.returns-clause-size
returns-clause-size g c = c.deliver_each.ensures.delivered.turn.as_many

pub returns-clause-lists : goal.returns-clause-lists
returns-clause-lists g c = c.deliver_each.ensures.delivered.turn.lists

pub returns-clause-most : goal.returns-clause-most
returns-clause-most g c = c.deliver_each.ensures.delivered.most
