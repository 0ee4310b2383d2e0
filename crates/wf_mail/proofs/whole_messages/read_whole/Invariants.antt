use Rattle.std.proofs.Common.{ℕ, List, map, length}
use Rattle.wf_codec.specs.Message.{view}
use Rattle.wf_mail.specs.Stream.{Splits}
use Rattle.wf_mail.proofs.whole_messages.read_whole.Given as goal

-- the stream is the messages found so far, followed by the rest
abbrev pub invariant-loop-alloc : goal.invariant-loop-alloc
invariant-loop-alloc l = (stream : List ℕ) → Splits stream (map view l.fn.messages.items) l.bytes → Splits stream (map view l.messages.items) l.rest

abbrev pub decreases-loop-alloc : goal.decreases-loop-alloc
decreases-loop-alloc l = length l.rest
