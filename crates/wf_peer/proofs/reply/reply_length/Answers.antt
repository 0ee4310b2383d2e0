-- A reply's sixth byte says what it is, and a rejection's twelfth what follows it.
use Rattle.std.proofs.Common.{◌≡◌, ◌≤◌, ◌++◌, ℕ, List, length, arith}
use Rattle.wf_peer.specs.GreetingReply.{IsGreetingReply, reply_bytes}
use Rattle.wf_peer.specs.declared.reply.GreetingReply.{GreetingReply}
use Rattle.wf_peer.proofs.Bodies.{at_least}
use Rattle.wf_peer.proofs.Replies.{either, least_reply, long_rejection, sixth_of_rejection}
use Rattle.wf_peer.proofs.reply.reply_length.Goals as goal

pub returns-then-bytes-clause-within : goal.returns-then-bytes-clause-within
returns-then-bytes-clause-within c = λ reply more rest is e. least_reply reply is

pub returns-then-bytes-eq0-clause-within : goal.returns-then-bytes-eq0-clause-within
returns-then-bytes-eq0-clause-within c = λ reply more rest is e. least_reply reply is

pub returns-else-bytes-eq0-clause-within : goal.returns-else-bytes-eq0-clause-within
returns-else-bytes-eq0-clause-within c = either (λ (reply : GreetingReply). (more rest : List ℕ) → IsGreetingReply reply → c.args.bytes.now ++ more ≡ reply_bytes reply ++ rest → 66 ≤ length (reply_bytes reply))
    (λ g more rest is e. omega (arith, at_least g is))
    (λ why p more rest is e. long_rejection c.args.bytes.now more rest why p is e (omega (arith, c.if-bytes.false)) c.if-bytes-eq0.false)

pub returns-else-bytes-2-clause-within : goal.returns-else-bytes-2-clause-within
returns-else-bytes-2-clause-within c = either (λ (reply : GreetingReply). (more rest : List ℕ) → IsGreetingReply reply → c.args.bytes.now ++ more ≡ reply_bytes reply ++ rest → c.greeting_length.result ≤ length (reply_bytes reply))
    (λ g more rest is e. c.greeting_length.ensures.within g more rest is e)
    (λ why p more rest is e. absurd (c.if-bytes-2.false (sixth_of_rejection c.args.bytes.now more rest why p e (omega (arith, c.if-bytes.false)))))
