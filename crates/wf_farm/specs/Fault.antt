-- The step table's rejections as a farm reports them, and their numbers.
use Rattle.std.specs.Prelude.{ℕ, Option, option_map}
use Rattle.wf_model.specs.Table as table
use Rattle.wf_farm.specs.Common.{StepRejection}
use Rattle.wf_farm.specs.declared.rejection.Rejection.{Rejection}
use Rattle.wf_farm.specs.declared.rejection.Rejection.TheVariants.{Busy, SequenceFull, RoundsFull, NothingToRetry}

-- the rejection, as the code has it
abbrev pub rejection_of : StepRejection → Rejection
rejection_of table.Busy = Busy
rejection_of table.SequenceFull = SequenceFull
rejection_of table.RoundsFull = RoundsFull
rejection_of table.NothingToRetry = NothingToRetry

-- what a farm reports of a rejection
abbrev pub reported : Option StepRejection → Option Rejection
reported step_rejection = option_map rejection_of step_rejection

-- the number of a node's error: N2, N3, N4 or N7
abbrev pub number_of : Rejection → ℕ
number_of Busy = 2
number_of SequenceFull = 3
number_of RoundsFull = 4
number_of NothingToRetry = 7
