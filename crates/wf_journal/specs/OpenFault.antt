-- The error of opening a journal, and of adding a record, given the tape's.
use Rattle.wf_tape.specs.declared.fault.TapeFault.{TapeFault}
use Rattle.wf_tape.specs.declared.fault.TapeFault.TheVariants as tape
use Rattle.wf_journal.specs.declared.open_error.OpenFault.{OpenFault}
use Rattle.wf_journal.specs.declared.open_error.OpenFault.TheVariants as opening

abbrev pub open_fault : TapeFault → OpenFault
open_fault tape.Device = opening.TapeFailed
open_fault tape.Memory = opening.Memory
