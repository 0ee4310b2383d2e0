use Rattle.std.proofs.lemmas.Result.{IfOk-weaker}
use Rattle.wf_wms.proofs.CachedPicturesTheorem.{after_picture, after_ready}
use Rattle.wf_wms.proofs.service.answer_cached.Goals as goal

pub returns-in-Ready-clause-used : goal.returns-in-Ready-clause-used
returns-in-Ready-clause-used c =
    after_ready c.args.seq c.args.history.now.definitions c.args.query.now c.args.cache.now c.in_ok-answer.field-0 c.in-Ready.answer c.in-Ready.is c.in_ok-answer.ensures.wanted

pub returns-in-Picture-clause-used : goal.returns-in-Picture-clause-used
returns-in-Picture-clause-used c =
    IfOk-weaker c.draw_by.result _ _
    (λ answer after. after_picture c.args.seq c.args.history.now.definitions c.args.query.now c.args.cache.now c.draw_by.new.cache c.in_ok-answer.field-0 c.in-Picture.asked c.in-Picture.is c.in_ok-answer.ensures.wanted after)
    c.draw_by.ensures.used
