-- Rejections, as in the step table.
use Rattle.std.specs.Prelude.{◌≡◌, ℕ, List, codes, Option, Some, None, Result, Ok, Err}
use Rattle.wf_model.specs.Table as table
use Rattle.wf_proposer.specs.Next.{Next}
use Rattle.wf_proposer.specs.declared.step_rejection.StepRejection.{StepRejection}
use Rattle.wf_proposer.specs.declared.step_rejection.StepRejection.TheVariants.{Busy, Nothing, RoundsFull, Memory}

-- the table's rejection; allocation failure isn't one
abbrev pub step_rejection_of : StepRejection → Option table.StepRejection
step_rejection_of Busy = Some table.Busy
step_rejection_of Nothing = Some table.NothingToRetry
step_rejection_of RoundsFull = Some table.RoundsFull
step_rejection_of Memory = None

-- the table's rejection that was returned, None for a Next and for allocation failure
abbrev pub rejected_by : Result Next StepRejection → Option table.StepRejection
rejected_by (Ok next) = None
rejected_by (Err step_rejection) = step_rejection_of step_rejection

-- this is the table's rejection, or none is
abbrev pub IsWhyStepRejected : Option table.StepRejection → Option StepRejection → Type 0
IsWhyStepRejected why None = why ≡ None
IsWhyStepRejected why (Some step_rejection) = (step_rejection_of step_rejection ≡ why) × (why ≡ None → ⊥)

-- the text of a rejection
abbrev pub words_of : StepRejection → List ℕ
words_of Busy = codes "a proposal runs"
words_of Nothing = codes "no proposal runs"
words_of RoundsFull = codes "no higher round"
words_of Memory = codes "out of memory"
