-- What a folder that joins is told, one thing after the other.
use Rattle.std.specs.Prelude.{◌<◌}
use Rattle.wf_rejoin.specs.Joining.{AgreementCounts, AnswerCounts, begun, with_stage}
use Rattle.wf_rejoin.specs.declared.join_step.JoinStep.{JoinStep}
use Rattle.wf_rejoin.specs.declared.join_step.JoinStep.TheVariants as steps
use Rattle.wf_rejoin.specs.declared.joining.Joining.{Joining}
use Rattle.wf_rejoin.specs.declared.joining.Stage.TheVariants.{Agreed, Answered}

-- It counts: a higher count than before; or an agreement or an answer that does.
abbrev pub StepCounts : JoinStep → Joining → Type 0
StepCounts (steps.Begin count) j = j.replacement.count < count
StepCounts (steps.Agree i r) j = AgreementCounts j i r
StepCounts (steps.Answer i r a) j = AnswerCounts j i r

-- the folder once it was told that
abbrev pub stepped : JoinStep → Joining → Joining
stepped (steps.Begin count) j = begun j count
stepped (steps.Agree i r) j = with_stage j i Agreed
stepped (steps.Answer i r a) j = with_stage j i (Answered a)
