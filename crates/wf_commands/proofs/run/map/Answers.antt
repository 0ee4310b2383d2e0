use Rattle.wf_commands.proofs.Examined.{means_known, fault_known}
use Rattle.wf_commands.proofs.run.map.Goals as goal

pub returns-in-Ok-clause-ok : goal.returns-in-Ok-clause-ok
returns-in-Ok-clause-ok g c = (
  means_known _ c.in_ok-bytes.bytes.items c.in-Ok.map c.in_ok-bytes.ensures.first (rw c.deref.ensures.value at c.in-Ok.ensures.ok.0),
  c.in-Ok.ensures.ok.1,
)

pub returns-in-Err-clause-err : goal.returns-in-Err-clause-err
returns-in-Err-clause-err g c =
    fault_known _ c.in_ok-bytes.bytes.items c.in-Err.fault c.in_ok-bytes.ensures.first (rw c.deref.ensures.value at c.in-Err.ensures.err)
