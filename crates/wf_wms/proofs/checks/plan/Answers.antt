use Rattle.std.proofs.Common.{◌∙◌, ap, refl}
use Rattle.std.specs.Prelude.{Ok}
use Rattle.std.proofs.lemmas.Result.{IfOk-weaker}
use Rattle.wf_wms.specs.Answer.{IsAnswerOf, IsAnswerOn}
use Rattle.wf_wms.specs.declared.checks.WmsOperation.TheVariants.{Map}
use Rattle.wf_wms.proofs.PlanTheorem.{plan_weaker, map_wanted, none_wanted}
use Rattle.wf_wms.proofs.ServiceTheorem.{named, answer_rejected, answer_described, answer_drawn}
use Rattle.wf_wms.proofs.checks.plan.Goals as goal

pub returns-in-Err-clause-plan : goal.returns-in-Err-clause-plan
returns-in-Err-clause-plan g c =
    answer_rejected c.args.seq (g.M.MapSource.definitions c.args.maps.now) c.args.query.now c.in-Err.exception c.in_ok-rejection-in-Err.field-0 c.requires
    (named c.args.query.now c.in_ok-query.query _ c.operation.result _ c.in_ok-query.ensures c.parameter.ensures c.operation.ensures c.in-Err.is) c.in_ok-rejection-in-Err.ensures

pub returns-in-Ok-Capabilities-clause-plan : goal.returns-in-Ok-Capabilities-clause-plan
returns-in-Ok-Capabilities-clause-plan g c =
    answer_described c.args.seq (g.M.MapSource.definitions c.args.maps.now) c.args.query.now c.in_ok-query.query c.published_map-map.result.now c.in_ok-metadata_answer-in-Ok-Capabilities.field-0 c.in_ok-query.ensures
    (named c.args.query.now c.in_ok-query.query _ c.operation.result _ c.in_ok-query.ensures c.parameter.ensures c.operation.ensures (c.in-Ok-Capabilities.is ∙ ap Ok c.in-Ok-Capabilities.field-0-is))
    c.published_map-map.ensures c.in_ok-metadata_answer-in-Ok-Capabilities.ensures

pub returns-clause-plan : goal.returns-clause-plan
returns-clause-plan g c =
    let history = g.M.MapSource.definitions c.args.maps.now in
    let query = c.args.query.now in
    let pairs = c.in_ok-query.query in
    IfOk-weaker c.map_plan.result _ _
    (λ plan is. plan_weaker history (IsAnswerOn (Ok Map) c.args.seq history pairs) (IsAnswerOf c.args.seq history query) plan
    (λ answer. answer_drawn c.args.seq history query pairs answer c.in_ok-query.ensures
    (named query pairs _ c.operation.result _ c.in_ok-query.ensures c.parameter.ensures c.operation.ensures (c.in-Ok-Map.is ∙ ap Ok c.in-Ok-Map.field-0-is))) is)
    c.map_plan.ensures.plan

-- what it requests

pub returns-in-Err-clause-wanted : goal.returns-in-Err-clause-wanted
returns-in-Err-clause-wanted g c =
    none_wanted c.args.seq (g.M.MapSource.definitions c.args.maps.now) c.args.query.now _ (named c.args.query.now c.in_ok-query.query _ c.operation.result _ c.in_ok-query.ensures c.parameter.ensures c.operation.ensures c.in-Err.is) refl

pub returns-in-Ok-Capabilities-clause-wanted : goal.returns-in-Ok-Capabilities-clause-wanted
returns-in-Ok-Capabilities-clause-wanted g c =
    none_wanted c.args.seq (g.M.MapSource.definitions c.args.maps.now) c.args.query.now _
    (named c.args.query.now c.in_ok-query.query _ c.operation.result _ c.in_ok-query.ensures c.parameter.ensures c.operation.ensures (c.in-Ok-Capabilities.is ∙ ap Ok c.in-Ok-Capabilities.field-0-is)) refl

pub returns-clause-wanted : goal.returns-clause-wanted
returns-clause-wanted g c =
    let history = g.M.MapSource.definitions c.args.maps.now in
    let query = c.args.query.now in
    let pairs = c.in_ok-query.query in
    IfOk-weaker c.map_plan.result _ _
    (λ plan is. map_wanted c.args.seq history query pairs plan c.in_ok-query.ensures
    (named query pairs _ c.operation.result _ c.in_ok-query.ensures c.parameter.ensures c.operation.ensures (c.in-Ok-Map.is ∙ ap Ok c.in-Ok-Map.field-0-is)) is)
    c.map_plan.ensures.wanted
