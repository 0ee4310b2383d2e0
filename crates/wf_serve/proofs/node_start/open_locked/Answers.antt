-- The farm starts by what was found.
use Rattle.std.proofs.Common.{◌≡◌, rules}
use Rattle.wf_serve.proofs.Started.{rejected_so, started, unadmitted}
use Rattle.wf_serve.proofs.node_start.open_locked.Goals as goal

pub returns-in-Ok-admit-clause-started : goal.returns-in-Ok-admit-clause-started
returns-in-Ok-admit-clause-started g c =
    let same : c.as_slice.result.now ≡ c.in-Ok.survey.tapes = search rules in
    started c.args.n c.open_admitted.result c.in-Ok.survey c.as_slice.result.now c.in-Ok-admit.start _ _ _ same c.in-Ok.ensures.surveyed c.in-Ok-admit.ensures.start c.open_admitted.ensures.admitted

pub returns-in-Ok-admit-clause-rejected : goal.returns-in-Ok-admit-clause-rejected
returns-in-Ok-admit-clause-rejected g c = rejected_so c.args.n c.open_admitted.result _ _ _ c.inspect.ensures.reads c.open_admitted.ensures.rejected

pub returns-in-Err-admit-clause-rejected : goal.returns-in-Err-admit-clause-rejected
returns-in-Err-admit-clause-rejected g c = unadmitted c.args.n c.in-Err-admit.why _ _ _ c.inspect.ensures.reads c.cause_of_rejection.ensures
