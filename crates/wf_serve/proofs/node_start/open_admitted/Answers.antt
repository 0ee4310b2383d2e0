-- The tapes were read first.
use Rattle.std.proofs.Common.{◌≡◌, rules}
use Rattle.wf_serve.proofs.Started.{admitted, rejected_so}
use Rattle.wf_serve.proofs.node_start.open_admitted.Goals as goal

pub returns-in-Ok-clause-admitted : goal.returns-in-Ok-clause-admitted
returns-in-Ok-clause-admitted g c =
    let same : c.as_slice.result.now ≡ c.args.survey.now.tapes = search rules in
    admitted c.args.n c.open_started.result c.args.survey.now c.as_slice.result.now c.args.start _ _ _ same c.in-Ok.ensures.checked c.open_started.ensures.begun

pub returns-in-Ok-clause-rejected : goal.returns-in-Ok-clause-rejected
returns-in-Ok-clause-rejected g c = rejected_so c.args.n c.open_started.result _ _ _ c.check_tapes.ensures.reads c.open_started.ensures.rejected
