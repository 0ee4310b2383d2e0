-- A beginning of a greeting isn't whole: its mark, its version or its body ends within it.
use Rattle.std.proofs.Common.{◌≡◌, ◌<◌, ◌++◌, Err, length, ap}
use Rattle.std.proofs.lemmas.Result.{err_from_is_err_and}
use Rattle.std.specs.Int.{w16, to_be_bytes}
use Rattle.wf_peer.specs.Greeting.{body_bytes, greeting_bytes, greeting_mark, peer_version}
use Rattle.wf_peer.proofs.Bodies.{short_of_greeting}
use Rattle.wf_peer.proofs.Decoded.{behind_front, error_of_exit, within_front}
use Rattle.wf_peer.proofs.decoder.decode.Goals as goal

pub returns-in-None-clause-begins : goal.returns-in-None-clause-begins
unfolding greeting_bytes
returns-in-None-clause-begins c = λ g more is some e.
    let few : length c.args.bytes.now < 8 = within_front c.args.bytes.now more greeting_mark (to_be_bytes w16 peer_version ++ body_bytes g) e c.in-None.ensures in
    ap (λ f. Err f) (c.fault_of_mark.ensures.1 few)

pub returns-in_err-after_version-in-Some-clause-begins : goal.returns-in_err-after_version-in-Some-clause-begins
unfolding greeting_bytes
returns-in_err-after_version-in-Some-clause-begins c = λ g more is some e.
    let behind = behind_front c.args.bytes.now c.in-Some.rest.now more greeting_mark (to_be_bytes w16 peer_version ++ body_bytes g) c.in-Some.ensures e in
    let few : length c.in-Some.rest.now < 2 = within_front c.in-Some.rest.now more (to_be_bytes w16 peer_version) (body_bytes g) behind c.in_err-after_version-in-Some.ensures.err in
    let exit = err_from_is_err_and c.from_residual.result c.from_residual.ensures.1 in
    error_of_exit c.from_residual.result exit.0 _ _ exit.1 exit.2 (c.in_err-after_version-in-Some.ensures.begins few)

pub returns-in_ok-after_version-in-Some-clause-begins : goal.returns-in_ok-after_version-in-Some-clause-begins
unfolding greeting_bytes
returns-in_ok-after_version-in-Some-clause-begins c = λ g more is some e.
    let behind = behind_front c.args.bytes.now c.in-Some.rest.now more greeting_mark (to_be_bytes w16 peer_version ++ body_bytes g) c.in-Some.ensures e in
    let rest = c.in_ok-after_version-in-Some.field-0.now in
    let body : rest ++ more ≡ body_bytes g = behind_front c.in-Some.rest.now rest more (to_be_bytes w16 peer_version) (body_bytes g) c.in_ok-after_version-in-Some.ensures.ok behind in
    c.decode_body.ensures.begins g more is some body

pub returns-in_ok-after_version-in-Some-clause-short : goal.returns-in_ok-after_version-in-Some-clause-short
returns-in_ok-after_version-in-Some-clause-short c = λ short.
    short_of_greeting c.args.bytes.now c.in-Some.rest.now c.in_ok-after_version-in-Some.field-0.now c.in-Some.ensures c.in_ok-after_version-in-Some.ensures.ok (c.decode_body.ensures.short short)
