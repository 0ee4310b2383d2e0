-- The piece of the encoding is its front; where as many bytes came out that begin with a message,
-- that is why it is lost.
use Rattle.std.proofs.Common.{◌∙◌, ℕ, List, [], ap, inr, length, refl, subst}
use Rattle.std.proofs.lemmas.Result.{on_err_weaker, on_ok_weaker}
use Rattle.std.specs.Io.KnownBytes.{Appends}
use Rattle.wf_codec.specs.Message.{view}
use Rattle.wf_link.specs.Cause.{BeginsNoMessage}
use Rattle.wf_link.specs.MessageCrossing.{AppendsPart, front_of}
use Rattle.wf_link.proofs.Causes.{fails_calm, fails_weaker, fares_lost, lost_more}
use Rattle.wf_link.proofs.Crossed.{came_out_of, is_front, on_each_err, on_each_ok, part_of_all}
use Rattle.wf_link.proofs.message_crossing.cut_off.Goals as goal

pub returns-in-Ok-passed-clause-written : goal.returns-in-Ok-passed-clause-written
returns-in-Ok-passed-clause-written g c =
    on_each_ok c.no_message.result
    (subst (λ (xs : List ℕ). Appends (g.K.Sink.written c.args.sink.now) (g.K.Sink.written c.pass_all-passed.new.sink) xs)
    (is_front (view c.args.message.now) c.args.count c.front.result.now c.deref.result.now (c.deref.ensures.value ∙ c.in-Ok.ensures.bytes) c.front.ensures) c.in-Ok-passed.ensures.written)

pub returns-in-Ok-passed-clause-part : goal.returns-in-Ok-passed-clause-part
returns-in-Ok-passed-clause-part g c =
    on_each_err c.no_message.result
    (part_of_all (g.K.Sink.written c.args.sink.now) (g.K.Sink.written c.pass_all-passed.new.sink) (front_of (view c.args.message.now) c.args.count) c.front.result.now
    (is_front (view c.args.message.now) c.args.count c.front.result.now c.deref.result.now (c.deref.ensures.value ∙ c.in-Ok.ensures.bytes) c.front.ensures) c.in-Ok-passed.ensures.written)

pub returns-in-Ok-passed-clause-none : goal.returns-in-Ok-passed-clause-none
returns-in-Ok-passed-clause-none g c =
    let came = c.in-Ok-passed.ensures.arrived in
    on_ok_weaker c.no_message.result
    (λ out. (
      out.0,
      came_out_of (front_of (view c.args.message.now) c.args.count) c.front.result.now (g.S.Source.left c.args.source.now) (g.S.Source.left c.pass_all-passed.new.source) c.in-Ok-passed.arrival [] out.0
          (is_front (view c.args.message.now) c.args.count c.front.result.now c.deref.result.now (c.deref.ensures.value ∙ c.in-Ok.ensures.bytes) c.front.ensures) came out.1,
    ))
    (c.no_message.ensures.none came.bytes came.received)

pub returns-in-Err-passed-clause-part : goal.returns-in-Err-passed-clause-part
returns-in-Err-passed-clause-part g c =
    subst (λ (xs : List ℕ). AppendsPart (g.K.Sink.written c.args.sink.now) (g.K.Sink.written c.pass_all-passed.new.sink) xs)
    (is_front (view c.args.message.now) c.args.count c.front.result.now c.deref.result.now (c.deref.ensures.value ∙ c.in-Ok.ensures.bytes) c.front.ensures) c.in-Err-passed.ensures.part

pub returns-in-Ok-passed-clause-cause : goal.returns-in-Ok-passed-clause-cause
returns-in-Ok-passed-clause-cause g c =
    let came = c.in-Ok-passed.ensures.arrived in
    let long = came.size ∙ ap length (is_front (view c.args.message.now) c.args.count c.front.result.now c.deref.result.now (c.deref.ensures.value ∙ c.in-Ok.ensures.bytes) c.front.ensures) in
    fares_lost _ _ c.no_message.result c.in-Ok-passed.ensures.cause c.no_message.ensures.lost
    (on_err_weaker c.no_message.result (λ other. inr (inr (inr (came.bytes, came.consumed, inr (long, other))))) (c.no_message.ensures.other came.bytes came.received))

pub returns-in-Err-passed-clause-cause : goal.returns-in-Err-passed-clause-cause
returns-in-Err-passed-clause-cause g c =
    fails_weaker c.in-Err-passed.fault (λ calm. calm)
    (lost_more (length c.front.result.now) (length (front_of (view c.args.message.now) c.args.count)) BeginsNoMessage (g.S.Source.left c.args.source.now) (g.S.Source.left c.pass_all-passed.new.source)
    (ap length (is_front (view c.args.message.now) c.args.count c.front.result.now c.deref.result.now (c.deref.ensures.value ∙ c.in-Ok.ensures.bytes) c.front.ensures)))
    c.in-Err-passed.ensures.cause

pub returns-in-Err-clause-cause : goal.returns-in-Err-clause-cause
returns-in-Err-clause-cause g c = fails_calm _ c.in-Err.fault c.in-Err.ensures.memory (refl, refl)
