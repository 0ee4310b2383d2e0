-- Requests that are rejected by their text alone: by a check that looks neither at a map nor at the
-- server's sequence, and that comes before each check that does. Every server rejects such a
-- request alike.
use Rattle.std.specs.Prelude.{◌≡◌, ℕ, nat_le, List, length, codes, Option, Some, None, Result, Ok, Err, ⊤}
use Rattle.std.specs.Char.{is_ascii_digit}
use Rattle.std.specs.List.{list_all}
use Rattle.wf_def.specs.Definition.{Definition}
use Rattle.wf_wms.specs.Answer.{AnswerValue, IsAnswerOf, check_service, metadata_fault, operation_of, rejection}
use Rattle.wf_wms.specs.Limit.{most_entries}
use Rattle.wf_wms.specs.MapRequest.{◌>>=◌, check_version, entries, listed_names, map_sequence, passed_or}
use Rattle.wf_wms.specs.Query.{pairs_of, parameter}
use Rattle.wf_wms.specs.declared.exception.Exception.{Exception}
use Rattle.wf_wms.specs.declared.exception.Exception.TheVariants as exception
use Rattle.wf_wms.specs.declared.exception.Parameter.TheVariants as parameters
use Rattle.wf_wms.specs.declared.checks.WmsOperation.{WmsOperation}
use Rattle.wf_wms.specs.declared.checks.WmsOperation.TheVariants.{Capabilities, Map}

-- a check that passes, or its exception
abbrev pub passed : Option Exception → Result ⊤ Exception
passed None = Ok tt
passed (Some e) = Err e

-- the value is digits, if there is one
abbrev pub check_digits : Exception → Option (List ℕ) → Result ⊤ Exception
check_digits e None = Ok tt
check_digits e (Some text) = passed_or e (list_all is_ascii_digit text)

-- of GetCapabilities: SERVICE, and that UPDATESEQUENCE is digits
unfoldable pub metadata_text : List (List ℕ × List ℕ) → Result ⊤ Exception
metadata_text pairs = do
  _ ← passed (check_service (parameter (codes "SERVICE") pairs))
  check_digits exception.InvalidUpdateSequence (parameter (codes "UPDATESEQUENCE") pairs)

-- FORMAT, that LAYERS is there, and that it lists at most 64 names
unfoldable pub check_names : List (List ℕ × List ℕ) → Result ⊤ Exception
check_names pairs = do
  names ← listed_names pairs
  passed_or (exception.BadValue parameters.Layers) (nat_le (length (entries names)) most_entries)

-- That MAPSEQ is digits: whether a map has that number is for the server to say, before the next
-- check. If it is absent, the map is the server's last, which is there, and the next checks are
-- those of FORMAT and LAYERS.
abbrev pub from_sequence : Option (List ℕ) → List (List ℕ × List ℕ) → Result ⊤ Exception
from_sequence None pairs = check_names pairs
from_sequence (Some text) pairs = passed_or (exception.BadValue parameters.MapSequence) (list_all is_ascii_digit text)

-- of GetMap: VERSION and MAPSEQ
unfoldable pub map_text : List (List ℕ × List ℕ) → Result ⊤ Exception
map_text pairs = do
  _ ← check_version (parameter (codes "VERSION") pairs)
  from_sequence (parameter (codes "MAPSEQ") pairs) pairs

-- REQUEST first, then the checks of the operation that it names
abbrev pub operation_text : Result WmsOperation Exception → List (List ℕ × List ℕ) → Result ⊤ Exception
operation_text (Err e) pairs = Err e
operation_text (Ok Capabilities) pairs = metadata_text pairs
operation_text (Ok Map) pairs = map_text pairs

-- the first check on the query's text alone that fails is this exception
unfoldable pub IsRejectedByText : List ℕ → Exception → Type 0
IsRejectedByText query e = operation_text (operation_of (parameter (codes "REQUEST") (pairs_of query))) (pairs_of query) ≡ Err e

-- then it is the answer of every server, whatever maps it has published, and however many
abbrev pub TextsAreRejectedAlike : Type 0
TextsAreRejectedAlike = (s : ℕ) (history : List Definition) (query : List ℕ) (e : Exception) (answer : AnswerValue) →
    IsRejectedByText query e → IsAnswerOf s history query answer → answer ≡ rejection e

-- ---- the same with the server's sequence

-- REQUEST first, then the checks of the operation that it names, up to the first one that looks at
-- a map: for GetCapabilities these are all; for GetMap whether this server has published the map of
-- MAPSEQ, and then FORMAT and LAYERS
abbrev pub operation_at : Result WmsOperation Exception → ℕ → List (List ℕ × List ℕ) → Result ⊤ Exception
operation_at (Err e) s pairs = Err e
operation_at (Ok Capabilities) s pairs = passed (metadata_fault s pairs)
operation_at (Ok Map) s pairs = do
  _ ← map_sequence s pairs
  check_names pairs

-- the first check on the query and the server's sequence alone that fails is this exception
unfoldable pub IsRejectedAt : ℕ → List ℕ → Exception → Type 0
IsRejectedAt s query e = operation_at (operation_of (parameter (codes "REQUEST") (pairs_of query))) s (pairs_of query) ≡ Err e

-- then it is the answer of every server at that sequence, whatever maps it has published
abbrev pub SequencesAreRejectedAlike : Type 0
SequencesAreRejectedAlike = (s : ℕ) (history : List Definition) (query : List ℕ) (e : Exception) (answer : AnswerValue) →
    IsRejectedAt s query e → IsAnswerOf s history query answer → answer ≡ rejection e
