-- The bytes that came out are as long as the encoding; where they aren't the encoding of one
-- message, that is why it is lost.
use Rattle.std.proofs.Common.{◌∙◌, [], ◌∷◌, ap, inr, length, refl}
use Rattle.std.proofs.lemmas.Result.{IfOk-weaker, on_err_weaker}
use Rattle.wf_codec.specs.Message.{view}
use Rattle.wf_codec.specs.Encoding.{spelling}
use Rattle.wf_mail.specs.Stream.{Reads}
use Rattle.wf_link.specs.Cause.{IsOneMessage}
use Rattle.wf_link.specs.MessageCrossing.{ComesOut, IsSentIfLooped}
use Rattle.wf_link.proofs.Causes.{fails_calm, fails_weaker, fares_lost, lost_more}
use Rattle.wf_link.proofs.Crossed.{came_out_of, sent_if_looped}
use Rattle.wf_link.proofs.message_crossing.cross.Goals as goal

pub returns-in-Ok-passed-clause-arrived : goal.returns-in-Ok-passed-clause-arrived
returns-in-Ok-passed-clause-arrived g c =
    let came = c.in-Ok-passed.ensures.arrived in
    IfOk-weaker c.only_message.result (λ m. Reads came.bytes (view m ∷ []) []) (λ m. ComesOut (view c.args.message.now) (g.S.Source.left c.args.source.now) (g.S.Source.left c.pass_all-passed.new.source) (view m))
    (λ m reads. came_out_of (spelling (view c.args.message.now)) c.deref.result.now (g.S.Source.left c.args.source.now) (g.S.Source.left c.pass_all-passed.new.source) c.in-Ok-passed.arrival (view m ∷ []) []
    (c.deref.ensures.value ∙ c.in-Ok.ensures.bytes) came reads)
    (c.only_message.ensures.one came.bytes came.received)

pub returns-in-Ok-passed-clause-same : goal.returns-in-Ok-passed-clause-same
returns-in-Ok-passed-clause-same g c =
    IfOk-weaker c.only_message.result (λ m. ComesOut (view c.args.message.now) (g.S.Source.left c.args.source.now) (g.S.Source.left c.pass_all-passed.new.source) (view m))
    (λ m. IsSentIfLooped (view c.args.message.now) (g.S.Source.left c.args.source.now) (view m))
    (λ m out. sent_if_looped (view c.args.message.now) (view m) (g.S.Source.left c.args.source.now) (g.S.Source.left c.pass_all-passed.new.source)
    c.in-Ok.ensures.is_message out)
    (returns-in-Ok-passed-clause-arrived g c)

pub returns-in-Ok-passed-clause-cause : goal.returns-in-Ok-passed-clause-cause
returns-in-Ok-passed-clause-cause g c =
    let came = c.in-Ok-passed.ensures.arrived in
    let long = came.size ∙ ap length (c.deref.ensures.value ∙ c.in-Ok.ensures.bytes) in
    fares_lost _ _ c.only_message.result c.in-Ok-passed.ensures.cause c.only_message.ensures.lost
    (on_err_weaker c.only_message.result (λ other. inr (inr (inr (came.bytes, came.consumed, inr (long, other))))) (c.only_message.ensures.other came.bytes came.received))

pub returns-in-Err-passed-clause-cause : goal.returns-in-Err-passed-clause-cause
returns-in-Err-passed-clause-cause g c =
    fails_weaker c.in-Err-passed.fault (λ calm. calm)
    (lost_more (length c.deref.result.now) (length (spelling (view c.args.message.now))) IsOneMessage (g.S.Source.left c.args.source.now) (g.S.Source.left c.pass_all-passed.new.source)
    (ap length (c.deref.ensures.value ∙ c.in-Ok.ensures.bytes)))
    c.in-Err-passed.ensures.cause

pub returns-in-Err-clause-cause : goal.returns-in-Err-clause-cause
returns-in-Err-clause-cause g c = fails_calm _ c.in-Err.fault c.in-Err.ensures.memory (refl, refl)
