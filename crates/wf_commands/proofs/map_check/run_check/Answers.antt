use Rattle.wf_commands.proofs.Checked.{check_known}
use Rattle.wf_commands.proofs.map_check.run_check.Goals as goal

pub returns-in-Ok-clause-outcome : goal.returns-in-Ok-clause-outcome
returns-in-Ok-clause-outcome g c =
    check_known c.args.format _ c.in-Ok.bytes.items c.deref.result.now _ _ _ c.deref.ensures.value c.in-Ok.ensures.first c.write_check-outcome.ensures.checked
