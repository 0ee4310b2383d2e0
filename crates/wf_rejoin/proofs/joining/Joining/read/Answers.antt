-- What is read is what was written.
use Rattle.wf_rejoin.specs.JoiningText.{own_line, stage_line}
use Rattle.wf_rejoin.specs.Lines.{lines_of}
use Rattle.wf_rejoin.proofs.Stages.{none_such, only_this}
use Rattle.wf_rejoin.proofs.joining.Joining.read.Goals as goal

pub returns-in_default-clause-each : goal.returns-in_default-clause-each
returns-in_default-clause-each c = λ j is e. absurd (c.in_default.ensures (own_line j.node j.nodes j.replacement (lines_of stage_line j.stages)) e)

pub returns-in-Ok-clause-each : goal.returns-in-Ok-clause-each
returns-in-Ok-clause-each c = only_this c.args.bytes.now c.in-Some.rest.now _ _ _ _ c.read_stages.new.stages c.in-Some.ensures
    c.in-Some-split_own.ensures.some c.in-Some-split_own.ensures.nodes c.in-Some-split_own.ensures.node c.in-Some-split_own.ensures.replacement c.in-Ok.ensures c.told.result c.told.ensures

pub returns-in-Err-clause-each : goal.returns-in-Err-clause-each
returns-in-Err-clause-each c = λ j is e. absurd (none_such c.args.bytes.now c.in-Some.rest.now _ _ _ _ c.in-Some.ensures
    c.in-Some-split_own.ensures.some c.in-Some-split_own.ensures.nodes c.in-Some-split_own.ensures.node c.in-Some-split_own.ensures.replacement c.in-Err.ensures j is e)
