-- A request that its text alone rejects has one answer.
use Rattle.std.proofs.Common.{◌≡◌, ◌∙◌, ap, subst, ℕ, Bool, true, false, List, [], ◌∷◌}
use Rattle.std.specs.Prelude.{nat_le, length, codes, Option, Some, None, Result, Ok, Err, ⊤, if◌then◌else◌}
use Rattle.std.specs.Char.{is_ascii_digit}
use Rattle.std.specs.List.{list_all}
use Rattle.wf_def.specs.Definition.{Definition}
use Rattle.wf_picture.specs.Request.{RequestValue}
use Rattle.wf_wms.specs.Answer.{AnswerValue, IsAnswerOf, IsAnswerOn, IsMapAnswer, check_sequence, check_service, first_failing, metadata_answer, metadata_fault, operation_of, rejection, rejection_or_metadata}
use Rattle.wf_text.specs.Number.{number_of_digits}
use Rattle.wf_wms.specs.Limit.{most_entries}
use Rattle.wf_wms.specs.MapRequest.{◌>>=◌, check_layers, check_version, entries, layers_in, listed_names, map_request, map_sequence, named_layers, passed_or, picture_in, request_in, sequence_in, styled_layers}
use Rattle.wf_wms.specs.Query.{pairs_of, parameter}
use Rattle.wf_wms.specs.Rejection.{IsRejectedAt, IsRejectedByText, SequencesAreRejectedAlike, TextsAreRejectedAlike, check_digits, check_names, from_sequence, map_text, metadata_text, operation_at, operation_text, passed}
use Rattle.wf_wms.specs.UpdateSequence.{sequence_rule, comparison_of}
use Rattle.wf_wms.specs.declared.exception.Exception.{Exception}
use Rattle.wf_wms.specs.declared.exception.Exception.TheVariants as exception
use Rattle.wf_wms.specs.declared.exception.Parameter.TheVariants as parameters
use Rattle.wf_wms.specs.declared.checks.WmsOperation.{WmsOperation}
use Rattle.wf_wms.specs.declared.checks.WmsOperation.TheVariants.{Capabilities, Map}
use Rattle.wf_wms.specs.declared.comparison.Comparison.{Comparison}
use Rattle.wf_wms.specs.declared.comparison.Comparison.TheVariants as comparison

abbrev fails : {A : Type 0} → Exception → Result A Exception
fails e = Err e

abbrev passes : Result ⊤ Exception
passes = Ok tt

-- one exception
same : (e other : Exception) → fails {A = ⊤} e ≡ fails other → e ≡ other
same e other is = cc

-- of a check that passes
none : {P : Type 0} (e : Exception) → passes ≡ fails e → P
none e is = absurd (let impossible : ⊥ = cc in impossible)

-- the same exception, in place of another value
fails_too : {A : Type 0} (e other : Exception) → fails {A = ⊤} e ≡ fails other → fails {A = A} e ≡ fails other
fails_too {A} e other is = ap (λ x. fails {A = A} x) (same e other is)

-- ---- GetCapabilities

-- an UPDATESEQUENCE that isn't digits, at whatever sequence
digits_step : (digits : Bool) (stands : Comparison) (e : Exception) → passed_or exception.InvalidUpdateSequence digits ≡ Err e →
    first_failing (check_sequence (if digits then stands else comparison.NoNumber) ∷ []) ≡ Some e
digits_step true stands e is = none e is
digits_step false stands e is = ap (λ (x : Exception). Some x) (same exception.InvalidUpdateSequence e is)

sequence_step : (s : ℕ) (value : Option (List ℕ)) (e : Exception) → check_digits exception.InvalidUpdateSequence value ≡ Err e →
    first_failing (check_sequence (sequence_rule value s) ∷ []) ≡ Some e
sequence_step s None e is = none e is
sequence_step s (Some []) e is = none e is
sequence_step s (Some (byte ∷ bytes)) e is =
    digits_step (list_all is_ascii_digit (byte ∷ bytes)) (comparison_of (number_of_digits (byte ∷ bytes)) s) e is

service_step : (s : ℕ) (service : Option Exception) (value : Option (List ℕ)) (e : Exception) →
    (passed service >>= λ _. check_digits exception.InvalidUpdateSequence value) ≡ Err e →
    first_failing (service ∷ check_sequence (sequence_rule value s) ∷ []) ≡ Some e
service_step s None value e is = sequence_step s value e is
service_step s (Some x) value e is = ap (λ (x : Exception). Some x) (same x e is)

-- what text alone rejects gets no metadata, at whatever sequence
no_metadata : (s : ℕ) (pairs : List (List ℕ × List ℕ)) (e : Exception) → metadata_text pairs ≡ Err e → metadata_fault s pairs ≡ Some e
unfolding metadata_text metadata_fault
no_metadata s pairs e is = service_step s (check_service (parameter (codes "SERVICE") pairs)) (parameter (codes "UPDATESEQUENCE") pairs) e is

-- ---- GetMap

-- too many names are too many for each map
count_step : {A B : Type 0} (few : Bool) (known : Result ⊤ Exception) (layers : A) (styled : A → Result A Exception) (request : A → Result B Exception) (e : Exception) →
    passed_or (exception.BadValue parameters.Layers) few ≡ Err e →
    (((((passed_or (exception.BadValue parameters.Layers) few) >>= λ _. known) >>= λ _. Ok layers) >>= styled) >>= request) ≡ Err e
count_step true known layers styled request e is = none e is
count_step false known layers styled request e is = fails_too (exception.BadValue parameters.Layers) e is

-- a FORMAT or a LAYERS that is rejected is so for each map
names_step : (d : Definition) (pairs : List (List ℕ × List ℕ)) (listed : Result (List ℕ) Exception) (e : Exception) →
    (listed >>= λ names. passed_or (exception.BadValue parameters.Layers) (nat_le (length (entries names)) most_entries)) ≡ Err e →
    ((listed >>= λ names. styled_layers d (entries names) (parameter (codes "STYLES") pairs)) >>= λ layers. request_in layers d.projection pairs) ≡ Err e
unfolding styled_layers named_layers check_layers
names_step d pairs (Err x) e is = fails_too x e is
names_step d pairs (Ok names) e is = count_step (nat_le (length (entries names)) most_entries) _ _ _ _ e is

no_names : (d : Definition) (pairs : List (List ℕ × List ℕ)) (e : Exception) → check_names pairs ≡ Err e → picture_in d pairs ≡ Err e
unfolding check_names picture_in layers_in
no_names d pairs e is = names_step d pairs (listed_names pairs) e is

-- a MAPSEQ that isn't digits
number_step : (digits : Bool) (number : Result ℕ Exception) (picture : ℕ → Result RequestValue Exception) (e : Exception) →
    passed_or (exception.BadValue parameters.MapSequence) digits ≡ Err e →
    ((if digits then number else Err (exception.BadValue parameters.MapSequence)) >>= picture) ≡ Err e
number_step true number picture e is = none e is
number_step false number picture e is = fails_too (exception.BadValue parameters.MapSequence) e is

asked_step : (s : ℕ) (d : Definition) (pairs : List (List ℕ × List ℕ)) (value : Option (List ℕ)) (e : Exception) → from_sequence value pairs ≡ Err e →
    (sequence_in s value >>= λ _. picture_in d pairs) ≡ Err e
asked_step s d pairs None e is = no_names d pairs e is
asked_step s d pairs (Some text) e is = number_step (list_all is_ascii_digit text) _ (λ _. picture_in d pairs) e is

version_step : (s : ℕ) (d : Definition) (pairs : List (List ℕ × List ℕ)) (version : Result ⊤ Exception) (value : Option (List ℕ)) (e : Exception) →
    (version >>= λ _. from_sequence value pairs) ≡ Err e → ((version >>= λ _. sequence_in s value) >>= λ _. picture_in d pairs) ≡ Err e
version_step s d pairs (Err x) value e is = fails_too x e is
version_step s d pairs (Ok x) value e is = asked_step s d pairs value e is

-- what text alone rejects gets no picture, at whatever sequence, of whatever map
no_picture : (s : ℕ) (d : Definition) (pairs : List (List ℕ × List ℕ)) (e : Exception) → map_text pairs ≡ Err e → map_request s d pairs ≡ Err e
unfolding map_text map_request map_sequence
no_picture s d pairs e is = version_step s d pairs (check_version (parameter (codes "VERSION") pairs)) (parameter (codes "MAPSEQ") pairs) e is

-- ---- both

by_operation : (operation : Result WmsOperation Exception) (s : ℕ) (history : List Definition) (pairs : List (List ℕ × List ℕ)) (e : Exception) (answer : AnswerValue) →
    operation_text operation pairs ≡ Err e → IsAnswerOn operation s history pairs answer → answer ≡ rejection e
unfolding metadata_answer
by_operation (Err x) s history pairs e answer fails is = is.is_answer ∙ ap (λ (x : Exception). rejection x) (same x e fails)
by_operation (Ok Capabilities) s history pairs e answer fails is =
    is.is_answer ∙ ap (λ (f : Option Exception). rejection_or_metadata f s is.map) (no_metadata s pairs e fails)
by_operation (Ok Map) s history pairs e answer fails is =
    subst (λ picture. IsMapAnswer is.map picture answer) (no_picture s is.map pairs e fails) is.is_answer

pub rejected_alike : TextsAreRejectedAlike
unfolding IsRejectedByText IsAnswerOf
rejected_alike s history query e answer fails is =
    by_operation (operation_of (parameter (codes "REQUEST") (pairs_of query))) s history (pairs_of query) e answer fails is

-- ---- at a server's sequence

-- what is rejected there gets no picture of whatever map
picture_step : (d : Definition) (pairs : List (List ℕ × List ℕ)) (asked : Result ℕ Exception) (e : Exception) →
    (asked >>= λ _. check_names pairs) ≡ Err e → (asked >>= λ _. picture_in d pairs) ≡ Err e
picture_step d pairs (Err x) e is = fails_too x e is
picture_step d pairs (Ok m) e is = no_names d pairs e is

no_picture_at : (s : ℕ) (d : Definition) (pairs : List (List ℕ × List ℕ)) (e : Exception) →
    (map_sequence s pairs >>= λ _. check_names pairs) ≡ Err e → map_request s d pairs ≡ Err e
unfolding map_request
no_picture_at s d pairs e is = picture_step d pairs (map_sequence s pairs) e is

failed_at : (found : Option Exception) (e : Exception) → passed found ≡ Err e → found ≡ Some e
failed_at None e is = none e is
failed_at (Some x) e is = ap (λ (x : Exception). Some x) (same x e is)

by_operation_at : (operation : Result WmsOperation Exception) (s : ℕ) (history : List Definition) (pairs : List (List ℕ × List ℕ)) (e : Exception) (answer : AnswerValue) →
    operation_at operation s pairs ≡ Err e → IsAnswerOn operation s history pairs answer → answer ≡ rejection e
unfolding metadata_answer
by_operation_at (Err x) s history pairs e answer fails is = is.is_answer ∙ ap (λ (x : Exception). rejection x) (same x e fails)
by_operation_at (Ok Capabilities) s history pairs e answer fails is =
    is.is_answer ∙ ap (λ (f : Option Exception). rejection_or_metadata f s is.map) (failed_at (metadata_fault s pairs) e fails)
by_operation_at (Ok Map) s history pairs e answer fails is =
    subst (λ picture. IsMapAnswer is.map picture answer) (no_picture_at s is.map pairs e fails) is.is_answer

pub rejected_at : SequencesAreRejectedAlike
unfolding IsRejectedAt IsAnswerOf
rejected_at s history query e answer fails is =
    by_operation_at (operation_of (parameter (codes "REQUEST") (pairs_of query))) s history (pairs_of query) e answer fails is
