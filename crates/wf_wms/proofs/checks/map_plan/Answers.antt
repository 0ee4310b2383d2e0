use Rattle.std.proofs.Common.{ap, sym, ℕ, arith}
use Rattle.std.specs.Prelude.{Result}
use Rattle.std.proofs.lemmas.Result.{IfOk-weaker}
use Rattle.wf_wms.specs.Requested.{wanted_at}
use Rattle.wf_wms.specs.declared.exception.Exception.{Exception}
use Rattle.wf_wms.proofs.PlanTheorem.{sequence_plan, sequence_wanted}
use Rattle.wf_wms.proofs.ServiceTheorem.{map_rejected}
use Rattle.wf_wms.proofs.checks.map_plan.Goals as goal

pub returns-in_ok-rejection-in-Err-clause-plan : goal.returns-in_ok-rejection-in-Err-clause-plan
returns-in_ok-rejection-in-Err-clause-plan g c =
    map_rejected c.args.seq (g.M.MapSource.definitions c.args.maps.now) c.args.query.now c.in-Err.exception c.in_ok-rejection-in-Err.field-0 c.requires (sym c.in-Err.ensures.value) c.in_ok-rejection-in-Err.ensures

pub returns-in-Ok-clause-plan : goal.returns-in-Ok-clause-plan
returns-in-Ok-clause-plan g c =
    IfOk-weaker c.picture_plan.result _ _
    (λ plan is. sequence_plan (g.M.MapSource.definitions c.args.maps.now) c.args.seq c.in-Ok.number c.args.query.now plan (sym c.in-Ok.ensures.value) (omega (arith, c.in-Ok.ensures.within, c.requires)) is)
    c.picture_plan.ensures.plan

-- what it requests

pub returns-in_ok-rejection-in-Err-clause-wanted : goal.returns-in_ok-rejection-in-Err-clause-wanted
returns-in_ok-rejection-in-Err-clause-wanted g c =
    ap (λ (r : Result ℕ Exception). wanted_at r (g.M.MapSource.definitions c.args.maps.now) c.args.query.now) c.in-Err.ensures.value

pub returns-in-Ok-clause-wanted : goal.returns-in-Ok-clause-wanted
returns-in-Ok-clause-wanted g c =
    IfOk-weaker c.picture_plan.result _ _
    (λ plan is. sequence_wanted c.args.seq c.in-Ok.number (g.M.MapSource.definitions c.args.maps.now) c.args.query.now plan (sym c.in-Ok.ensures.value) is)
    c.picture_plan.ensures.wanted
