-- The bytes moved behind the rest leave it in front; the message that begins in it ends in the
-- piece.
use Rattle.std.proofs.Common.{rules, ◌≡◌, ◌++◌, ◌-◌, ◌<◌, ◌≤◌, List, ℕ, map, drop, take, length, sym, ap, subst, ◌∙◌, arith}
use Rattle.wf_codec.specs.Message.{view}
use Rattle.wf_codec.specs.Encoding.{header_length}
use Rattle.wf_mail.specs.Header.{known_length}
use Rattle.wf_mail.specs.Stream.{Splits}
use Rattle.wf_mail.specs.FrontMessage.{TakesOne}
use Rattle.wf_mail.proofs.Headers.{front_stays}
use Rattle.wf_mail.proofs.Joined.{still_part, ends_there, on_error, on_error_then}
use Rattle.wf_mail.proofs.piece_join.join.Goals as goal

pub returns-then-len-known_length-clause-ok : goal.returns-then-len-known_length-clause-ok
returns-then-len-known_length-clause-ok c =
    let filled = c.in_ok-complete.ensures.ok in
    let same : known_length c.deref.result.now ≡ known_length c.complete.new.rest.items = ap known_length c.deref.ensures.value in
    let whole : header_length ≤ length c.args.rest.now.items = omega (arith, c.if-before-ge-HEADER_BYTES.true, c.len-before.ensures) in
    let short : length c.complete.new.rest.items < known_length c.complete.new.rest.items = omega (arith, c.if-len-known_length.true, c.len.ensures, c.known_length.ensures, same) in
    still_part view c.args.rest.now.items c.args.piece.now c.complete.new.rest.items filled.0 c.args.messages.now.items c.requires.part filled.1 whole short c.requires.empty

pub returns-in_err-read_next-clause-front : goal.returns-in_err-read_next-clause-front
returns-in_err-read_next-clause-front c =
    let filled = c.in_ok-complete.ensures.ok in
    on_error c.from_residual-in_err-read_next.result
    (front_stays c.args.rest.now.items c.args.piece.now c.complete.new.rest.items filled.0 (known_length c.complete.new.rest.items) filled.1)

pub returns-in-Some-clause-err : goal.returns-in-Some-clause-err
returns-in-Some-clause-err c =
    let filled = c.in_ok-complete.ensures.ok in
    let read : TakesOne c.deref-2.result.now c.in-Some.length (map view c.args.messages.now.items) (map view c.read_next.new.messages.items) = search rules in
    let takes = subst (λ (t : List ℕ). TakesOne t c.in-Some.length (map view c.args.messages.now.items) (map view c.read_next.new.messages.items)) c.deref-2.ensures.value read in
    let there = ends_there view c.args.rest.now.items c.args.piece.now c.complete.new.rest.items filled.0 c.in-Some.length c.args.messages.now.items (map view c.read_next.new.messages.items)
    c.requires.part filled.1 takes c.requires.empty in
    let before : c.len-before.result ≡ length c.args.rest.now.items = omega (arith, c.len-before.ensures) in
    let behind : c.split_at.result.1.now ≡ drop (c.in-Some.length - length c.args.rest.now.items) c.args.piece.now =
    c.split_at.ensures.back ∙ ap (λ (k : ℕ). drop (c.in-Some.length - k) c.args.piece.now) before in
    c.keep_after.ensures.err (c.args.rest.now.items ++ c.args.piece.now)
    (subst (λ (t : List ℕ). Splits (c.args.rest.now.items ++ c.args.piece.now) (map view c.read_next.new.messages.items) t) (sym behind) there)

pub returns-in-Some-clause-front : goal.returns-in-Some-clause-front
returns-in-Some-clause-front c =
    let filled = c.in_ok-complete.ensures.ok in
    let front = front_stays c.args.rest.now.items c.args.piece.now c.complete.new.rest.items filled.0 (known_length c.complete.new.rest.items) filled.1 in
    on_error_then c.keep_after.result c.keep_after.ensures.unchanged (λ same. ap (take (length c.args.rest.now.items)) same ∙ front)
