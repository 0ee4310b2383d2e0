-- The text of the file `joins` of a folder that joins. Numbers have eight hexadecimal digits.
use Rattle.std.specs.Prelude.{ℕ, ◌<◌, ◌^◌, List, ◌++◌, codes}
use Rattle.wf_folder.specs.Words.{mark_then, number_then}
use Rattle.wf_rejoin.specs.Joining.{IsJoining}
use Rattle.wf_rejoin.specs.Lines.{AreAll, lines_of}
use Rattle.wf_rejoin.specs.ReplacementsText.{IsReplacementInRange}
use Rattle.wf_rejoin.specs.declared.answer.Answer.{Answer}
use Rattle.wf_rejoin.specs.declared.joining.Joining.{Joining}
use Rattle.wf_rejoin.specs.declared.joining.Stage.{Stage}
use Rattle.wf_rejoin.specs.declared.joining.Stage.TheVariants.{Unasked, Agreed, Answered}
use Rattle.wf_rejoin.specs.declared.replacement.Replacement.{Replacement}

pub record IsAnswerInRange (a : Answer) : Type 0 where
  pub published : a.published < 2 ^ 16
  pub voted : a.voted < 2 ^ 16

abbrev pub IsStage : Stage → Type 0
IsStage Unasked = Unit {0}
IsStage Agreed = Unit {0}
IsStage (Answered a) = IsAnswerInRange a

pub record IsJoins (j : Joining) : Type 0 where
  pub joins : IsJoining j
  pub replacement : IsReplacementInRange j.replacement
  pub each : AreAll IsStage j.stages

-- what a folder was told, by its parts
abbrev pub told : ℕ → ℕ → Replacement → List Stage → Joining
told node nodes r stages = record { node = node; nodes = nodes; replacement = r; stages = stages }

-- the line of another node, and what follows
unfoldable pub stage_line : Stage → List ℕ → List ℕ
stage_line Unasked rest = codes "nothing\n" ++ rest
stage_line Agreed rest = codes "agreed\n" ++ rest
stage_line (Answered a) rest = number_then (codes "published ") a.published (number_then (codes " voted ") a.voted (codes "\n" ++ rest))

-- its own line, and what follows
unfoldable pub own_line : ℕ → ℕ → Replacement → List ℕ → List ℕ
own_line node nodes r rest = number_then (codes "node ") node (number_then (codes " of ") nodes (number_then (codes " count ") r.count (mark_then (codes " mark ") r.mark (codes "\n" ++ rest))))

abbrev pub joins_line : List ℕ
joins_line = codes "wfarm joins 1\n"

abbrev pub joins_text : Joining → List ℕ
joins_text j = joins_line ++ own_line j.node j.nodes j.replacement (lines_of stage_line j.stages)
