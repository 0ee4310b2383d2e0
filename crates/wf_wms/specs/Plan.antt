-- The checks of a query before a picture is drawn. The result is the answer, or a request for a
-- picture whose answer is the query's.
use Rattle.std.specs.Prelude.{◌≡◌, ◌≤◌, List, length, Option, Some, None}
use Rattle.wf_def.specs.Definition.{Definition}
use Rattle.wf_learner.specs.History.{map_at}
use Rattle.wf_wms.specs.Answer.{AnswerValue, IsPictureOf}
use Rattle.wf_wms.specs.MapRequest.{AreLayersOf}
use Rattle.wf_wms.specs.Requested.{Wanted}
use Rattle.wf_wms.specs.declared.plan.QueriedPicture.{QueriedPicture}
use Rattle.wf_wms.specs.declared.plan.Plan.{Plan}
use Rattle.wf_wms.specs.declared.plan.Plan.TheVariants.{Ready, Picture}

-- The requested picture is of a map that the history has, and its layers are that map's.
pub record IsPictureAskedOf (history : List Definition) (asked : QueriedPicture) : Type 0 where
  pub within : asked.sequence ≤ length history
  pub map : Definition
  pub is_published : map_at history asked.sequence ≡ Some map
  pub layers : AreLayersOf map asked.request.layers

-- the answer is the requested picture
abbrev pub IsPictureFor : List Definition → QueriedPicture → AnswerValue → Type 0
IsPictureFor history asked answer = (map : Definition) → map_at history asked.sequence ≡ Some map → IsPictureOf map asked.request answer

-- Each answer that is the requested picture satisfies `wanted`.
pub record PictureSatisfies (history : List Definition) (wanted : AnswerValue → Type 0) (asked : QueriedPicture) : Type 0 where
  pub of : IsPictureAskedOf history asked
  pub answers : (answer : AnswerValue) → IsPictureFor history asked answer → wanted answer

abbrev pub IsPlanned : List Definition → (AnswerValue → Type 0) → Plan → Type 0
IsPlanned history wanted (Ready answer) = wanted answer
IsPlanned history wanted (Picture asked) = PictureSatisfies history wanted asked

-- the picture that is requested
abbrev pub wanted_in : Plan → Option Wanted
wanted_in (Ready answer) = None
wanted_in (Picture asked) = Some (asked.sequence, asked.request)
