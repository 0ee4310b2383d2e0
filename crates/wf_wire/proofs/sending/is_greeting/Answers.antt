use Rattle.std.proofs.Common.{◌≡◌, [], ◌∙◌, ◌≤◌, length, rules, append-nil}
use Rattle.wf_wire.proofs.Sent.{whole_greeting}
use Rattle.wf_wire.proofs.sending.is_greeting.Goals as goal

pub returns-in-Ok : goal.returns-in-Ok
returns-in-Ok c = λ yes.
    let equal : c.greeting_length.result ≡ length c.args.bytes.now = search rules in
    let long : 132 ≤ length c.args.bytes.now = search rules in
    let front = c.in-Ok.ensures.front in
    whole_greeting _ c.in-Ok.field-0 front.0 c.greeting_length.result c.in-Ok.ensures.greeting front.1
    (c.greeting_length.ensures.whole c.in-Ok.field-0 [] front.0 c.in-Ok.ensures.greeting (append-nil c.args.bytes.now ∙ front.1) long) equal
