-- The checks of a query, step by step.
use Rattle.std.proofs.Common.{◌≡◌, ◌∙◌, ◌<◌, ◌≤◌, ap, sym, subst, ℕ, List, length}
use Rattle.std.specs.Prelude.{Some, None, Result, Ok, Err, codes}
use Rattle.std.specs.List.{All}
use Rattle.std.proofs.lemmas.Option.{same_Some}
use Rattle.wf_def.specs.Definition.{Definition}
use Rattle.wf_learner.specs.History.{map_at}
use Rattle.wf_picture.specs.Request.{RequestValue}
use Rattle.wf_wms.specs.Answer.{AnswerValue, IsAnswerOn, IsMapAnswer, operation_of, rejection}
use Rattle.wf_wms.specs.Plan.{PictureSatisfies, IsPlanned, wanted_in}
use Rattle.wf_wms.specs.MapRequest.{map_sequence, picture_in}
use Rattle.wf_wms.specs.Query.{pairs_of, parameter}
use Rattle.wf_wms.specs.Requested.{requested, wanted_at, wanted_by, wanted_of}
use Rattle.wf_wms.specs.declared.plan.QueriedPicture.{QueriedPicture}
use Rattle.wf_wms.specs.declared.plan.Plan.{Plan}
use Rattle.wf_wms.specs.declared.plan.Plan.TheVariants.{Ready, Picture}
use Rattle.wf_wms.specs.declared.exception.Exception.{Exception}
use Rattle.wf_wms.specs.declared.checks.WmsOperation.{WmsOperation}
use Rattle.wf_wms.specs.declared.checks.WmsOperation.TheVariants.{Map}
use Rattle.wf_wms.proofs.HistoryTheorem.{map_there}
use Rattle.wf_wms.proofs.ServiceTheorem.{map_drawn}

-- a weaker property follows
pub plan_weaker : (history : List Definition) (P Q : AnswerValue → Type 0) (plan : Plan) → ((answer : AnswerValue) → P answer → Q answer) → IsPlanned history P plan → IsPlanned history Q plan
plan_weaker history P Q (Ready answer) follows is = follows answer is
plan_weaker history P Q (Picture asked) follows is = record { of = is.of; answers = λ answer picture. follows answer (is.answers answer picture) }

-- the parameters after MAPSEQ are rejected
pub picture_rejected : (history : List Definition) (sequence : ℕ) (map : Definition) (pairs : List (List ℕ × List ℕ)) (e : Exception) (answer : AnswerValue) →
    map_at history sequence ≡ Some map → Err e ≡ picture_in map pairs → answer ≡ rejection e → (other : Definition) → map_at history sequence ≡ Some other →
    IsMapAnswer other (picture_in other pairs) answer
picture_rejected history sequence map pairs e answer there rejected is other other_there =
    let same : map ≡ other = same_Some map other (sym there ∙ other_there) in
    let P : Definition → Type 0 = λ m. IsMapAnswer m (picture_in m pairs) answer in
    let R : Result RequestValue Exception → Type 0 = λ r. IsMapAnswer map r answer in
    subst P same (subst R rejected is)

-- or they request a picture
pub picture_wanted : (history : List Definition) (map : Definition) (pairs : List (List ℕ × List ℕ)) (asked : QueriedPicture) → asked.sequence ≤ length history →
    map_at history asked.sequence ≡ Some map → Ok asked.request ≡ picture_in map pairs → All (λ index. index < length map.layers) asked.request.layers →
    (other : Definition) → map_at history asked.sequence ≡ Some other → PictureSatisfies history (IsMapAnswer other (picture_in other pairs)) asked
picture_wanted history map pairs asked within there wanted layers other other_there =
    let same : map ≡ other = same_Some map other (sym there ∙ other_there) in
    let P : Definition → Type 0 = λ m. PictureSatisfies history (IsMapAnswer m (picture_in m pairs)) asked in
    subst P same (record {
      of = record { within = within; map = map; is_published = there; layers = layers };
      answers = λ answer picture.
          let R : Result RequestValue Exception → Type 0 = λ r. IsMapAnswer map r answer in
          subst R wanted (picture map there);
    })

-- so does a GetMap request whose MAPSEQ is accepted
pub sequence_plan : (history : List Definition) (s number : ℕ) (pairs : List (List ℕ × List ℕ)) (plan : Plan) → map_sequence s pairs ≡ Ok number → number ≤ length history →
    ((map : Definition) → map_at history number ≡ Some map → IsPlanned history (IsMapAnswer map (picture_in map pairs)) plan) →
    IsPlanned history (IsAnswerOn (Ok Map) s history pairs) plan
sequence_plan history s number pairs plan taken within is =
    let there = map_there history number within in
    plan_weaker history (IsMapAnswer there.0 (picture_in there.0 pairs)) (IsAnswerOn (Ok Map) s history pairs) plan
    (λ answer. map_drawn s history pairs number there.0 answer taken there.1) (is there.0 there.1)

-- ---- the picture that a query requests

-- a query for something else
pub none_wanted : (s : ℕ) (history : List Definition) (query : List ℕ) (operation : Result WmsOperation Exception) →
    operation_of (parameter (codes "REQUEST") (pairs_of query)) ≡ operation → wanted_by operation s history (pairs_of query) ≡ None → None ≡ requested s history query
unfolding requested
none_wanted s history query operation known none =
    sym (ap (λ (o : Result WmsOperation Exception). wanted_by o s history (pairs_of query)) known ∙ none)

-- a query for a picture
pub map_wanted : (s : ℕ) (history : List Definition) (query : List ℕ) (pairs : List (List ℕ × List ℕ)) (plan : Plan) → pairs ≡ pairs_of query →
    operation_of (parameter (codes "REQUEST") (pairs_of query)) ≡ Ok Map → wanted_in plan ≡ wanted_at (map_sequence s pairs) history pairs →
    wanted_in plan ≡ requested s history query
unfolding requested
map_wanted s history query pairs plan read known wanted =
    wanted ∙ ap (λ (p : List (List ℕ × List ℕ)). wanted_at (map_sequence s p) history p) read
    ∙ sym (ap (λ (o : Result WmsOperation Exception). wanted_by o s history (pairs_of query)) known)

-- by MAPSEQ
pub sequence_wanted : (s m : ℕ) (history : List Definition) (pairs : List (List ℕ × List ℕ)) (plan : Plan) → map_sequence s pairs ≡ Ok m →
    wanted_in plan ≡ wanted_of m (map_at history m) pairs → wanted_in plan ≡ wanted_at (map_sequence s pairs) history pairs
sequence_wanted s m history pairs plan taken wanted = wanted ∙ sym (ap (λ (r : Result ℕ Exception). wanted_at r history pairs) taken)
