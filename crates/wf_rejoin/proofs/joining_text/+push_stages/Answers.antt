-- The first node's line and those of the others are the lines of all.
use Rattle.std.proofs.lemmas.Result.{on_ok_weaker}
use Rattle.wf_rejoin.proofs.Stages.{one_stage_more}
use Rattle.wf_rejoin.proofs.joining_text.+push_stages.Goals as goal

pub returns-in_ok-push_stage-in-Some-clause-items : goal.returns-in_ok-push_stage-in-Some-clause-items
returns-in_ok-push_stage-in-Some-clause-items t c =
    on_ok_weaker c.push_stages.result
    (one_stage_more c.args.text.now.items c.push_stage.new.text.items c.push_stages.new.text.items c.args.stages.now c.in-Some.rest.now c.in-Some.stage.now c.in-Some.ensures.cases.0 c.in_ok-push_stage-in-Some.ensures.items)
    c.push_stages.ensures.items
