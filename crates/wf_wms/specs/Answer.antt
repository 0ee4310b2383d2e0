-- The answer to a request: the exception of the first check that fails, else what the requested
-- operation returns.
use Rattle.std.specs.Prelude.{◌≡◌, ◌≢◌, ◌≤◌, ℕ, length, List, [], ◌∷◌, bytes_eq, codes, Option, Some, None, Result, Ok, Err, if◌then◌else◌}
use Rattle.wf_def.specs.Definition.{Definition}
use Rattle.wf_learner.specs.History.{map_at}
use Rattle.wf_picture.specs.Picture.{IsImageOf}
use Rattle.wf_picture.specs.Request.{RequestValue}
use Rattle.wf_wms.specs.MapRequest.{map_request, map_sequence}
use Rattle.wf_wms.specs.Query.{pairs_of, parameter}
use Rattle.wf_wms.specs.UpdateSequence.{sequence_rule}
use Rattle.wf_wms.specs.Exception.{exception_report}
use Rattle.wf_wms.specs.Capabilities.{capabilities}
use Rattle.wf_wms.specs.declared.comparison.Comparison.{Comparison}
use Rattle.wf_wms.specs.declared.comparison.Comparison.TheVariants as comparison
use Rattle.wf_wms.specs.declared.exception.Parameter.TheVariants.{Request, Service}
use Rattle.wf_wms.specs.declared.exception.Exception.{Exception}
use Rattle.wf_wms.specs.declared.exception.Exception.TheVariants as exception
use Rattle.wf_wms.specs.declared.response.Kind.{Kind}
use Rattle.wf_wms.specs.declared.response.Kind.TheVariants as kind
use Rattle.wf_wms.specs.declared.checks.WmsOperation.{WmsOperation}
use Rattle.wf_wms.specs.declared.checks.WmsOperation.TheVariants.{Capabilities, Map}

-- an answer: its kind, its media type and its bytes
pub record AnswerValue : Type 0 where
  pub kind : Kind
  pub media : List ℕ
  pub bytes : List ℕ

-- the media type of both XML documents
abbrev pub xml : List ℕ
xml = codes "text/xml"

-- the answer that rejects a request
abbrev pub rejection : Exception → AnswerValue
rejection e = record { kind = kind.Exception e; media = xml; bytes = exception_report e }

-- the answer with the service metadata
abbrev pub metadata : ℕ → Definition → AnswerValue
metadata s d = record { kind = kind.Capabilities; media = xml; bytes = capabilities s d }

-- the exception of the first check that fails
abbrev pub first_failing : List (Option Exception) → Option Exception
first_failing [] = None
first_failing (None ∷ checks) = first_failing checks
first_failing (Some e ∷ checks) = Some e

-- the operation that REQUEST names (7.1)
abbrev pub operation_of : Option (List ℕ) → Result WmsOperation Exception
operation_of None = Err (exception.MissingParameter Request)
operation_of (Some request) = if bytes_eq request (codes "GetCapabilities") then Ok Capabilities
    else (if bytes_eq request (codes "GetMap") then Ok Map else Err exception.OperationNotSupported)

-- SERVICE is WMS (7.2.3.3)
abbrev pub check_service : Option (List ℕ) → Option Exception
check_service None = Some (exception.MissingParameter Service)
check_service (Some service) = if bytes_eq service (codes "WMS") then None else Some (exception.BadValue Service)

-- the client's metadata is older than the server's, or the client has none (7.2.3.5)
abbrev pub check_sequence : Comparison → Option Exception
check_sequence comparison.Absent = None
check_sequence comparison.NoNumber = Some exception.InvalidUpdateSequence
check_sequence comparison.Below = None
check_sequence comparison.Equal = Some exception.CurrentUpdateSequence
check_sequence comparison.Above = Some exception.InvalidUpdateSequence

-- the exception if a query gets no metadata at the sequence s
unfoldable pub metadata_fault : ℕ → List (List ℕ × List ℕ) → Option Exception
metadata_fault s pairs = first_failing (
    check_service (parameter (codes "SERVICE") pairs)
    ∷ check_sequence (sequence_rule (parameter (codes "UPDATESEQUENCE") pairs) s)
    ∷ [])

abbrev pub rejection_or_metadata : Option Exception → ℕ → Definition → AnswerValue
rejection_or_metadata None s d = metadata s d
rejection_or_metadata (Some e) s d = rejection e

-- the answer to GetCapabilities
unfoldable pub metadata_answer : ℕ → Definition → List (List ℕ × List ℕ) → AnswerValue
metadata_answer s d pairs = rejection_or_metadata (metadata_fault s pairs) s d

-- the answer to an operation, where GetMap isn't supported
abbrev pub description_to : Result WmsOperation Exception → ℕ → Definition → List (List ℕ × List ℕ) → AnswerValue
description_to (Err e) s d pairs = rejection e
description_to (Ok Capabilities) s d pairs = metadata_answer s d pairs
description_to (Ok Map) s d pairs = rejection exception.OperationNotSupported

-- the answer about one map definition at an update sequence, to a query
unfoldable pub description : ℕ → Definition → List ℕ → AnswerValue
description s d query = description_to (operation_of (parameter (codes "REQUEST") (pairs_of query))) s d (pairs_of query)

-- the media type of a picture
abbrev pub pixmap : List ℕ
pixmap = codes "image/x-portable-pixmap"

-- the answer with a picture file
abbrev pub picture_answer : List ℕ → AnswerValue
picture_answer file = record { kind = kind.Map; media = pixmap; bytes = file }

-- the answer is the requested picture of a map
pub record IsPictureOf (d : Definition) (request : RequestValue) (answer : AnswerValue) : Type 0 where
  pub of_kind : answer.kind ≡ kind.Map
  pub of_media : answer.media ≡ pixmap
  pub image : IsImageOf d request answer.bytes

-- the picture, or the exception of the first check that fails
abbrev pub IsMapAnswer : Definition → Result RequestValue Exception → AnswerValue → Type 0
IsMapAnswer d (Err e) answer = answer ≡ rejection e
IsMapAnswer d (Ok request) answer = IsPictureOf d request answer

-- the answer to an operation
abbrev pub IsOperationAnswer : Result WmsOperation Exception → ℕ → Definition → List (List ℕ × List ℕ) → AnswerValue → Type 0
IsOperationAnswer (Err e) s d pairs answer = answer ≡ rejection e
IsOperationAnswer (Ok Capabilities) s d pairs answer = answer ≡ metadata_answer s d pairs
IsOperationAnswer (Ok Map) s d pairs answer = IsMapAnswer d (map_request s d pairs) answer

abbrev pub or_own : ℕ → Result ℕ Exception → ℕ
or_own s (Ok other) = other
or_own s (Err e) = s

-- the sequence of the map that an operation describes or draws: for GetMap the one that MAPSEQ
-- names, else the server's
abbrev pub subject_of : Result WmsOperation Exception → ℕ → List (List ℕ × List ℕ) → ℕ
subject_of (Err e) s pairs = s
subject_of (Ok Capabilities) s pairs = s
subject_of (Ok Map) s pairs = or_own s (map_sequence s pairs)

-- The answer to an operation at the sequence s of a history, whose first entry has sequence 1. It
-- depends on the history only through the map that is described or drawn.
pub record IsAnswerOn (operation : Result WmsOperation Exception) (s : ℕ) (history : List Definition) (pairs : List (List ℕ × List ℕ)) (answer : AnswerValue) : Type 0 where
  pub map : Definition
  pub is_published : map_at history (subject_of operation s pairs) ≡ Some map
  pub is_answer : IsOperationAnswer operation s map pairs answer

-- the answer to a query
unfoldable pub IsAnswerOf : ℕ → List Definition → List ℕ → AnswerValue → Type 0
IsAnswerOf s history query answer = IsAnswerOn (operation_of (parameter (codes "REQUEST") (pairs_of query))) s history (pairs_of query) answer

-- the query has an answer there
pub record HasAnswer (s : ℕ) (history : List Definition) (query : List ℕ) : Type 0 where
  pub answer : AnswerValue
  pub is : IsAnswerOf s history query answer

-- each query has one, at each sequence that the history has
abbrev pub EachQueryHasAnAnswer : Type 0
EachQueryHasAnAnswer = (s : ℕ) (history : List Definition) (query : List ℕ) → s ≤ length history → HasAnswer s history query

-- the sequence of the map that a query is about
unfoldable pub subject : ℕ → List ℕ → ℕ
subject s query = subject_of (operation_of (parameter (codes "REQUEST") (pairs_of query))) s (pairs_of query)

-- so histories that agree on that map have the same answer
abbrev pub EachQueryHasOneAnswer : Type 0
EachQueryHasOneAnswer = (s : ℕ) (history other : List Definition) (query : List ℕ) (answer another : AnswerValue) →
    map_at history (subject s query) ≡ map_at other (subject s query) →
    IsAnswerOf s history query answer → IsAnswerOf s other query another → another ≡ answer

-- The query is a GetMap request (7.3), and at a server whose last sequence is s it asks for the map
-- of sequence m.
pub record AsksForMap (m s : ℕ) (query : List ℕ) : Type 0 where
  pub request : parameter (codes "REQUEST") (pairs_of query) ≡ Some (codes "GetMap")
  pub sequence : map_sequence s (pairs_of query) ≡ Ok m

-- A GetMap request that asks for the same map at two servers has the same answers at both, whatever
-- their last sequences.
abbrev pub AskedMapsAreAnsweredAlike : Type 0
AskedMapsAreAnsweredAlike = (s t m : ℕ) (history : List Definition) (query : List ℕ) (answer : AnswerValue) → AsksForMap m s query → AsksForMap m t query →
    IsAnswerOf t history query answer → IsAnswerOf s history query answer

-- apart from GetMap, the answer of a server is the description of the map of its sequence
abbrev pub AnswersAreDescriptions : Type 0
AnswersAreDescriptions = (s : ℕ) (history : List Definition) (query : List ℕ) (d : Definition) (answer : AnswerValue) →
    map_at history s ≡ Some d → operation_of (parameter (codes "REQUEST") (pairs_of query)) ≢ Ok Map →
    IsAnswerOf s history query answer → answer ≡ description s d query
