-- Answers at a history, by the operation that a query names.
use Rattle.std.proofs.Common.{◌≡◌, ◌≢◌, ◌∙◌, ap, sym, subst, ℕ, ◌≤◌, List, length, refl}
use Rattle.std.specs.Prelude.{Option, Some, None, IsSome, codes, option_copied, Result, Ok, Err}
use Rattle.std.proofs.lemmas.Option.{same_Some}
use denote.Ref.{Bor}
use Rattle.wf_def.specs.Definition.{Definition}
use Rattle.wf_learner.specs.History.{map_at}
use Rattle.wf_picture.specs.Picture.{EachRequestHasOneImage}
use Rattle.wf_wms.specs.Answer.{AnswerValue, AnswersAreDescriptions, AskedMapsAreAnsweredAlike, EachQueryHasOneAnswer, IsAnswerOf, IsAnswerOn, IsMapAnswer, IsOperationAnswer, IsPictureOf, description, description_to, metadata_answer, operation_of, or_own, rejection, subject}
use Rattle.wf_picture.specs.Request.{RequestValue}
use Rattle.wf_wms.specs.MapRequest.{map_request, map_sequence, picture_in}
use Rattle.wf_wms.specs.Query.{pairs_of, parameter}
use Rattle.wf_wms.specs.declared.exception.Exception.{Exception}
use Rattle.wf_wms.specs.declared.checks.WmsOperation.{WmsOperation}
use Rattle.wf_wms.specs.declared.checks.WmsOperation.TheVariants.{Capabilities, Map}
use Rattle.wf_wms.proofs.HistoryTheorem.{map_there}

-- what a history gives for a sequence that it has
pub get_some : (history : List Definition) (s : ℕ) (found : Option (Bor Definition)) → option_copied found ≡ map_at history s → s ≤ length history → IsSome found
get_some history s None is within = let there = map_there history s within in let both : None ≡ Some there.0 = is ∙ there.1 in cc
get_some history s (Some x) is within = refl

-- a GetMap request whose VERSION or MAPSEQ is rejected
pub map_rejected : (s : ℕ) (history : List Definition) (pairs : List (List ℕ × List ℕ)) (e : Exception) (answer : AnswerValue) → s ≤ length history →
    map_sequence s pairs ≡ Err e → answer ≡ rejection e → IsAnswerOn (Ok Map) s history pairs answer
unfolding map_request
map_rejected s history pairs e answer within failed is =
    let there = map_there history s within in
    record {
      map = there.0;
      is_published = ap (λ k. map_at history (or_own s k)) failed ∙ there.1;
      is_answer = rw failed is;
    }

-- and one for a map that exists
pub map_drawn : (s : ℕ) (history : List Definition) (pairs : List (List ℕ × List ℕ)) (number : ℕ) (map : Definition) (answer : AnswerValue) →
    map_sequence s pairs ≡ Ok number → map_at history number ≡ Some map → IsMapAnswer map (picture_in map pairs) answer →
    IsAnswerOn (Ok Map) s history pairs answer
unfolding map_request
map_drawn s history pairs number map answer asked there is =
    record {
      map = map;
      is_published = ap (λ k. map_at history (or_own s k)) asked ∙ there;
      is_answer = rw asked is;
    }

pub rejected : (operation : Result WmsOperation Exception) (s : ℕ) (history : List Definition) (pairs : List (List ℕ × List ℕ)) (e : Exception) (answer : AnswerValue) →
    s ≤ length history → operation ≡ Err e → answer ≡ rejection e → IsAnswerOn operation s history pairs answer
rejected operation s history pairs e answer within failed is =
    let there = map_there history s within in
    let P : Result WmsOperation Exception → Type 0 = λ o. IsAnswerOn o s history pairs answer in
    subst P (sym failed) (record { map = there.0; is_published = there.1; is_answer = is })

pub described : (operation : Result WmsOperation Exception) (s : ℕ) (history : List Definition) (pairs : List (List ℕ × List ℕ)) (map : Definition) (answer : AnswerValue) →
    operation ≡ Ok Capabilities → map_at history s ≡ Some map → answer ≡ metadata_answer s map pairs → IsAnswerOn operation s history pairs answer
described operation s history pairs map answer asked there is =
    let P : Result WmsOperation Exception → Type 0 = λ o. IsAnswerOn o s history pairs answer in
    subst P (sym asked) (record { map = map; is_published = there; is_answer = is })

pub drawn : (operation : Result WmsOperation Exception) (s : ℕ) (history : List Definition) (pairs : List (List ℕ × List ℕ)) (answer : AnswerValue) →
    operation ≡ Ok Map → IsAnswerOn (Ok Map) s history pairs answer → IsAnswerOn operation s history pairs answer
drawn operation s history pairs answer asked is =
    let P : Result WmsOperation Exception → Type 0 = λ o. IsAnswerOn o s history pairs answer in
    subst P (sym asked) is

-- what REQUEST names, as it is read
pub named : (query : List ℕ) (pairs : List (List ℕ × List ℕ)) (value : Option (List ℕ)) (operation is : Result WmsOperation Exception) →
    pairs ≡ pairs_of query → value ≡ parameter (codes "REQUEST") pairs → operation ≡ operation_of value → operation ≡ is →
    operation_of (parameter (codes "REQUEST") (pairs_of query)) ≡ is
named query pairs value operation is read given plan known =
    ap operation_of (ap (parameter (codes "REQUEST")) (sym read) ∙ sym given) ∙ sym plan ∙ known

pub answer_rejected : (s : ℕ) (history : List Definition) (query : List ℕ) (e : Exception) (answer : AnswerValue) → s ≤ length history →
    operation_of (parameter (codes "REQUEST") (pairs_of query)) ≡ Err e → answer ≡ rejection e → IsAnswerOf s history query answer
unfolding IsAnswerOf
answer_rejected s history query e answer within failed is =
    rejected (operation_of (parameter (codes "REQUEST") (pairs_of query))) s history (pairs_of query) e answer within failed is

pub answer_described : (s : ℕ) (history : List Definition) (query : List ℕ) (pairs : List (List ℕ × List ℕ)) (map : Definition) (answer : AnswerValue) →
    pairs ≡ pairs_of query → operation_of (parameter (codes "REQUEST") (pairs_of query)) ≡ Ok Capabilities → map_at history s ≡ Some map →
    answer ≡ metadata_answer s map pairs → IsAnswerOf s history query answer
unfolding IsAnswerOf
answer_described s history query pairs map answer read asked there is =
    described (operation_of (parameter (codes "REQUEST") (pairs_of query))) s history (pairs_of query) map answer asked there
    (is ∙ ap (metadata_answer s map) read)

pub answer_drawn : (s : ℕ) (history : List Definition) (query : List ℕ) (pairs : List (List ℕ × List ℕ)) (answer : AnswerValue) →
    pairs ≡ pairs_of query → operation_of (parameter (codes "REQUEST") (pairs_of query)) ≡ Ok Map → IsAnswerOn (Ok Map) s history pairs answer →
    IsAnswerOf s history query answer
unfolding IsAnswerOf
answer_drawn s history query pairs answer read asked is =
    let P : List (List ℕ × List ℕ) → Type 0 = λ p. IsAnswerOn (Ok Map) s history p answer in
    drawn (operation_of (parameter (codes "REQUEST") (pairs_of query))) s history (pairs_of query) answer asked (subst P read is)

one_picture : (map : Definition) (request : RequestValue) (answer another : AnswerValue) → EachRequestHasOneImage →
    IsPictureOf map request answer → IsPictureOf map request another → another ≡ answer
one_picture map request answer another images is other =
    let bytes : another.bytes ≡ answer.bytes = images map request answer.bytes another.bytes is.image other.image in
    let of_kind : another.kind ≡ answer.kind = other.of_kind ∙ sym is.of_kind in
    let of_media : another.media ≡ answer.media = other.of_media ∙ sym is.of_media in
    λ i. record { kind = of_kind i; media = of_media i; bytes = bytes i }

one_map_answer : (map : Definition) (asked : Result RequestValue Exception) (answer another : AnswerValue) → EachRequestHasOneImage →
    IsMapAnswer map asked answer → IsMapAnswer map asked another → another ≡ answer
one_map_answer map (Err e) answer another images is other = other ∙ sym is
one_map_answer map (Ok request) answer another images is other = one_picture map request answer another images is other

-- one answer to an operation at one map
one_to : (operation : Result WmsOperation Exception) (s : ℕ) (map : Definition) (pairs : List (List ℕ × List ℕ)) (answer another : AnswerValue) →
    EachRequestHasOneImage → IsOperationAnswer operation s map pairs answer → IsOperationAnswer operation s map pairs another → another ≡ answer
one_to (Err e) s map pairs answer another images is other = other ∙ sym is
one_to (Ok Capabilities) s map pairs answer another images is other = other ∙ sym is
one_to (Ok Map) s map pairs answer another images is other = one_map_answer map (map_request s map pairs) answer another images is other

pub one_answer : EachRequestHasOneImage → EachQueryHasOneAnswer
unfolding IsAnswerOf subject
one_answer images s history other query answer another agree is also =
    let same : is.map ≡ also.map = same_Some is.map also.map (sym is.is_published ∙ agree ∙ also.is_published) in
    let P : Definition → Type 0 = λ m. IsOperationAnswer (operation_of (parameter (codes "REQUEST") (pairs_of query))) s m (pairs_of query) another in
    one_to (operation_of (parameter (codes "REQUEST") (pairs_of query))) s is.map (pairs_of query) answer another images is.is_answer (subst P (sym same) also.is_answer)

-- the answer to an operation other than GetMap depends only on the map
operation_described : (operation : Result WmsOperation Exception) (s : ℕ) (history : List Definition) (pairs : List (List ℕ × List ℕ)) (d : Definition) (answer : AnswerValue) →
    map_at history s ≡ Some d → operation ≢ Ok Map → IsAnswerOn operation s history pairs answer → answer ≡ description_to operation s d pairs
operation_described (Err e) s history pairs d answer there other is = is.is_answer
operation_described (Ok Capabilities) s history pairs d answer there other is =
    let same : is.map ≡ d = same_Some is.map d (sym is.is_published ∙ there) in
    is.is_answer ∙ ap (λ m. metadata_answer s m pairs) same
operation_described (Ok Map) s history pairs d answer there other is = absurd (other refl)

pub as_described : AnswersAreDescriptions
unfolding IsAnswerOf description
as_described s history query d answer there other is =
    operation_described (operation_of (parameter (codes "REQUEST") (pairs_of query))) s history (pairs_of query) d answer there other is

-- ---- one map that is asked for, at another last sequence

-- if its sequence is well-formed, the request is its picture
asked_picture : (s m : ℕ) (d : Definition) (pairs : List (List ℕ × List ℕ)) → map_sequence s pairs ≡ Ok m → map_request s d pairs ≡ picture_in d pairs
unfolding map_request
asked_picture s m d pairs asks = rw asks refl

-- the same map is drawn at another last sequence of the server
drawn_elsewhere : (s t m : ℕ) (history : List Definition) (pairs : List (List ℕ × List ℕ)) (answer : AnswerValue) → map_sequence s pairs ≡ Ok m → map_sequence t pairs ≡ Ok m →
    IsAnswerOn (operation_of (Some (codes "GetMap"))) t history pairs answer → IsAnswerOn (operation_of (Some (codes "GetMap"))) s history pairs answer
drawn_elsewhere s t m history pairs answer here there is = record {
  map = is.map;
  is_published = ap (λ k. map_at history (or_own s k)) here ∙ sym (ap (λ k. map_at history (or_own t k)) there) ∙ is.is_published;
  is_answer = subst (λ picture. IsMapAnswer is.map picture answer) (asked_picture t m is.map pairs there ∙ sym (asked_picture s m is.map pairs here)) is.is_answer;
}

pub answered_alike : AskedMapsAreAnsweredAlike
unfolding IsAnswerOf
answered_alike s t m history query answer here there is =
    let at : ℕ → _ → Type 0 = λ k request. IsAnswerOn (operation_of request) k history (pairs_of query) answer in
    subst (at s) (sym here.request) (drawn_elsewhere s t m history (pairs_of query) answer here.sequence there.sequence (subst (at t) there.request is))
