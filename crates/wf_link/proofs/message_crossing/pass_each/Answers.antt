-- The first pieces are none. After an error a prefix of the next piece is written behind those
-- before, and its cause is the piece's.
use Rattle.std.proofs.Common.{◌+◌, ◌≡◌, ◌∙◌, List, ℕ, ap, arith, length, subst, sym}
use Rattle.std.proofs.lemmas.List.{length-append}
use Rattle.std.specs.Io.KnownBytes.{Appends}
use Rattle.wf_link.specs.Arrival.{Arrives}
use Rattle.wf_link.specs.MessageCrossing.{AppendsPart}
use Rattle.wf_link.proofs.Causes.{piece_fails}
use Rattle.wf_link.proofs.Crossed.{HavePassed, none_passed, part_passed, piece_passed}
use Rattle.wf_link.proofs.message_crossing.pass_each.Goals as goal

pub loop-rest-init : goal.loop-rest-init
loop-rest-init g c =
    none_passed c.args.bytes.now (g.K.Sink.written c.args.sink.now) (g.S.Source.left c.args.source.now) (g.K.Sink.failures c.args.sink.now) (g.S.Source.failures c.args.source.now) c.args.arrival.now

pub loop-rest-preserved : goal.loop-rest-preserved
loop-rest-preserved g c =
    subst
    (λ (xs : List ℕ).
    HavePassed c.args.bytes.now xs (g.K.Sink.written c.args.sink.now) (g.K.Sink.written c.pass.new.sink) (g.S.Source.left c.args.source.now) (g.S.Source.left c.pass.new.source) (g.K.Sink.failures c.args.sink.now)
    (g.K.Sink.failures c.pass.new.sink) (g.S.Source.failures c.args.source.now) (g.S.Source.failures c.pass.new.source) c.args.arrival.now c.pass.new.arrival)
    (sym c.split_at.ensures.back)
    (piece_passed c.args.bytes.now c.loop-rest.rest.now c.min.result (g.K.Sink.written c.args.sink.now) (g.K.Sink.written c.loop-rest.sink) (g.K.Sink.written c.pass.new.sink) (g.S.Source.left c.args.source.now)
    (g.S.Source.left c.loop-rest.source) (g.S.Source.left c.pass.new.source) (g.K.Sink.failures c.args.sink.now) (g.K.Sink.failures c.loop-rest.sink) (g.K.Sink.failures c.pass.new.sink) (g.S.Source.failures c.args.source.now)
    (g.S.Source.failures c.loop-rest.source) (g.S.Source.failures c.pass.new.source) c.args.arrival.now c.loop-rest.arrival c.pass.new.arrival c.loop-rest.invariant
    (subst (λ (xs : List ℕ). Appends (g.K.Sink.written c.loop-rest.sink) (g.K.Sink.written c.pass.new.sink) xs) c.split_at.ensures.front c.in-Ok.ensures.written)
    (subst (λ (xs : List ℕ). Arrives (length xs) (g.S.Source.left c.loop-rest.source) (g.S.Source.left c.pass.new.source) c.loop-rest.arrival c.pass.new.arrival) c.split_at.ensures.front c.in-Ok.ensures.arrives)
    c.in-Ok.ensures.cause)

pub returns-in-Err-clause-part : goal.returns-in-Err-clause-part
returns-in-Err-clause-part g c =
    part_passed c.args.bytes.now c.loop-rest.rest.now c.min.result (g.K.Sink.written c.args.sink.now) (g.K.Sink.written c.loop-rest.sink) (g.K.Sink.written c.pass.new.sink) (g.S.Source.left c.args.source.now)
    (g.S.Source.left c.loop-rest.source) (g.K.Sink.failures c.args.sink.now) (g.K.Sink.failures c.loop-rest.sink) (g.S.Source.failures c.args.source.now) (g.S.Source.failures c.loop-rest.source) c.args.arrival.now
    c.loop-rest.arrival c.loop-rest.invariant
    (subst (λ (xs : List ℕ). AppendsPart (g.K.Sink.written c.loop-rest.sink) (g.K.Sink.written c.pass.new.sink) xs) c.split_at.ensures.front c.in-Err.ensures.part)

pub returns-in-Err-clause-cause : goal.returns-in-Err-clause-cause
returns-in-Err-clause-cause g c =
    let sum : length c.args.bytes.now ≡ length c.loop-rest.invariant.front + length c.loop-rest.rest.now = ap length c.loop-rest.invariant.split ∙ length-append c.loop-rest.invariant.front c.loop-rest.rest.now in
    piece_fails c.in-Err.fault (length c.loop-rest.invariant.front) (length c.split_at.result.0.now) (length c.args.bytes.now) (g.K.Sink.failures c.args.sink.now) (g.K.Sink.failures c.loop-rest.sink) (g.K.Sink.failures c.pass.new.sink)
    (g.S.Source.failures c.args.source.now) (g.S.Source.failures c.loop-rest.source) (g.S.Source.failures c.pass.new.source) (g.S.Source.left c.args.source.now) (g.S.Source.left c.loop-rest.source)
    (g.S.Source.left c.pass.new.source) c.args.arrival.now c.loop-rest.arrival (omega (arith, sum, c.split_at.ensures.back_len, c.split_at.ensures.front_len)) c.loop-rest.invariant.calm c.loop-rest.invariant.arrives
    c.in-Err.ensures.cause
