-- Why the nodes of a folder's farm wouldn't start, by its file and by which tapes are there.
use Rattle.std.specs.Prelude.{◌≡◌, ℕ}
use Rattle.wf_folder.specs.Admission.{IsAdmissionFault}
use Rattle.wf_folder.specs.declared.admission.StartRejection.{StartRejection}
use Rattle.wf_folder.specs.declared.admission.StartRejection.TheVariants as rejections
use Rattle.wf_serve.specs.declared.event.Cause.{Cause}
use Rattle.wf_serve.specs.declared.event.Cause.TheVariants as causes
use Rattle.wf_serve.specs.declared.survey.Survey.{Survey}

-- the cause of a rejected start
abbrev pub start_cause : StartRejection → Cause
start_cause (rejections.BadFile fault) = causes.BadFile fault
start_cause (rejections.OtherNodes nodes) = causes.OtherNodes nodes
start_cause (rejections.SurplusTape tape) = causes.TapeSurplus tape
start_cause (rejections.MissingTape tape) = causes.TapeMissing tape

-- of some number of nodes, on a folder with this in it
abbrev pub IsStartCause : Survey → Cause → Type 0
IsStartCause survey cause = (nodes : ℕ) × (why : StartRejection) × IsAdmissionFault nodes survey.found survey.tapes why × (cause ≡ start_cause why)
