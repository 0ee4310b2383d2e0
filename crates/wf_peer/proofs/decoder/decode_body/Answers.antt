-- The first 121 bytes are fixed, and what follows tells of replacements.
use Rattle.std.proofs.Common.{◌≡◌, ◌∙◌, ◌≤◌, [], length, length-append, sym, ap, arith}
use Rattle.std.proofs.lemmas.List.{append-nil}
use Rattle.std.specs.Prelude.{Ok}
use Rattle.wf_peer.specs.Greeting.{body_bytes, plain}
use Rattle.wf_peer.specs.declared.greeting.Greeting.{Greeting}
use Rattle.wf_peer.proofs.Bodies.{body_parts, body_whole, has_parts, length_of_body, read_whole, same_fixed, short_of_told}
use Rattle.wf_peer.proofs.Decoded.{handed_on, no_error}
use Rattle.wf_peer.proofs.ToldReplacements.{begin_with_nil, nil_after, with_nil}
use Rattle.wf_peer.proofs.decoder.decode_body.Goals as goal

pub returns-then-bytes-lt-BODY-clause-each : goal.returns-then-bytes-lt-BODY-clause-each
returns-then-bytes-lt-BODY-clause-each c = λ g rest is e.
    absurd (omega (arith, c.if-bytes-lt-BODY.true, ap length e, length-append (body_bytes g) rest, length_of_body g is))

pub returns-in-Ok-clause-greeting : goal.returns-in-Ok-clause-greeting
returns-in-Ok-clause-greeting c = has_parts c.in-Some.greeting c.in-Ok.told.0 c.in-Ok.told.1 c.in-Some.ensures.parts c.in-Ok.ensures.told

pub returns-in-Ok-clause-front : goal.returns-in-Ok-clause-front
returns-in-Ok-clause-front c =
    let front = c.in-Ok.ensures.front in (
      front.0,
      body_whole c.args.bytes.now c.split_at.result.0.now c.split_at.result.1.now front.0 (record c.in-Some.greeting { replacements = c.in-Ok.told.0; voted = c.in-Ok.told.1 }) c.split_at.ensures.front c.split_at.ensures.back
          (c.in-Some.ensures.some ∙ sym (same_fixed c.in-Some.greeting c.in-Ok.told.0 c.in-Ok.told.1)) front.1,
    )

pub returns-in-Ok-clause-each : goal.returns-in-Ok-clause-each
returns-in-Ok-clause-each c = λ g rest is e.
    let far : 121 ≤ length c.args.bytes.now = omega (arith, c.if-bytes-lt-BODY.false) in
    let parts = body_parts c.args.bytes.now c.split_at.result.0.now c.split_at.result.1.now [] rest g is.fixed far c.split_at.ensures.front c.split_at.ensures.back (begin_with_nil c.args.bytes.now _ e) in
    let fixed = c.in-Some.ensures.each g is.fixed parts.0 in
    let told = c.in-Ok.ensures.each g.replacements g.voted rest is.told (sym (append-nil c.split_at.result.1.now) ∙ parts.1) in
    let plainly : c.in-Some.greeting ≡ plain g = cc in
    let pair : c.in-Ok.told ≡ (g.replacements, g.voted) = cc in
    ap (λ (x : Greeting). Ok x) (read_whole c.in-Some.greeting g c.in-Ok.told.0 c.in-Ok.told.1 plainly (ap (λ p. p.0) pair) (ap (λ p. p.1) pair))

pub returns-in-Ok-clause-begins : goal.returns-in-Ok-clause-begins
returns-in-Ok-clause-begins c = λ g more is some e.
    let far : 121 ≤ length c.args.bytes.now = omega (arith, c.if-bytes-lt-BODY.false) in
    let parts = body_parts c.args.bytes.now c.split_at.result.0.now c.split_at.result.1.now more [] g is.fixed far c.split_at.ensures.front c.split_at.ensures.back (with_nil _ _ e) in
    absurd (no_error _ _ (c.in-Ok.ensures.begins g.replacements g.voted more is.told some (nil_after _ _ parts.1)))

pub returns-in-Err-clause-each : goal.returns-in-Err-clause-each
returns-in-Err-clause-each c = λ g rest is e.
    let far : 121 ≤ length c.args.bytes.now = omega (arith, c.if-bytes-lt-BODY.false) in
    let parts = body_parts c.args.bytes.now c.split_at.result.0.now c.split_at.result.1.now [] rest g is.fixed far c.split_at.ensures.front c.split_at.ensures.back (begin_with_nil c.args.bytes.now _ e) in
    let told = c.in-Err.ensures.each g.replacements g.voted rest is.told (sym (append-nil c.split_at.result.1.now) ∙ parts.1) in
    cc

pub returns-in-Err-clause-short : goal.returns-in-Err-clause-short
returns-in-Err-clause-short c = λ short.
    let far : 121 ≤ length c.args.bytes.now = omega (arith, c.if-bytes-lt-BODY.false) in
    short_of_told c.args.bytes.now c.split_at.result.1.now c.split_at.ensures.back far (c.in-Err.ensures.short (handed_on _ _ short))

pub returns-in-Err-clause-begins : goal.returns-in-Err-clause-begins
returns-in-Err-clause-begins c = λ g more is some e.
    let far : 121 ≤ length c.args.bytes.now = omega (arith, c.if-bytes-lt-BODY.false) in
    let parts = body_parts c.args.bytes.now c.split_at.result.0.now c.split_at.result.1.now more [] g is.fixed far c.split_at.ensures.front c.split_at.ensures.back (with_nil _ _ e) in
    handed_on c.in-Err.fault _ (c.in-Err.ensures.begins g.replacements g.voted more is.told some (nil_after _ _ parts.1))

pub returns-in-None-clause-each : goal.returns-in-None-clause-each
returns-in-None-clause-each c = λ g rest is e.
    let far : 121 ≤ length c.args.bytes.now = omega (arith, c.if-bytes-lt-BODY.false) in
    let parts = body_parts c.args.bytes.now c.split_at.result.0.now c.split_at.result.1.now [] rest g is.fixed far c.split_at.ensures.front c.split_at.ensures.back (begin_with_nil c.args.bytes.now _ e) in
    let fixed = c.in-None.ensures.each g is.fixed parts.0 in
    cc

pub returns-in-None-clause-begins : goal.returns-in-None-clause-begins
returns-in-None-clause-begins c = λ g more is some e.
    let far : 121 ≤ length c.args.bytes.now = omega (arith, c.if-bytes-lt-BODY.false) in
    let parts = body_parts c.args.bytes.now c.split_at.result.0.now c.split_at.result.1.now more [] g is.fixed far c.split_at.ensures.front c.split_at.ensures.back (with_nil _ _ e) in
    let fixed = c.in-None.ensures.each g is.fixed parts.0 in
    cc
