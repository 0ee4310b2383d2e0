-- The picture that a query requests: it is a GetMap request, and no check of it fails (OGC 06-042,
-- 7.3).
use Rattle.std.specs.Prelude.{ℕ, List, codes, Option, Some, None, Result, Ok, Err}
use Rattle.wf_def.specs.Definition.{Definition}
use Rattle.wf_learner.specs.History.{map_at}
use Rattle.wf_picture.specs.Request.{RequestValue}
use Rattle.wf_wms.specs.Answer.{operation_of}
use Rattle.wf_wms.specs.MapRequest.{map_sequence, picture_in}
use Rattle.wf_wms.specs.Query.{pairs_of, parameter}
use Rattle.wf_wms.specs.declared.exception.Exception.{Exception}
use Rattle.wf_wms.specs.declared.checks.WmsOperation.{WmsOperation}
use Rattle.wf_wms.specs.declared.checks.WmsOperation.TheVariants.{Capabilities, Map}

-- a requested picture: the sequence of the map that it is of, and the request for it
abbrev pub Wanted : Type 0
Wanted = ℕ × RequestValue

-- the picture of the map of sequence m, unless the request for it is rejected
abbrev pub wanted_if : ℕ → Result RequestValue Exception → Option Wanted
wanted_if m (Err e) = None
wanted_if m (Ok request) = Some (m, request)

-- by the parameters after MAPSEQ, which are read by that map
abbrev pub wanted_of : ℕ → Option Definition → List (List ℕ × List ℕ) → Option Wanted
wanted_of m None pairs = None
wanted_of m (Some map) pairs = wanted_if m (picture_in map pairs)

-- by MAPSEQ
abbrev pub wanted_at : Result ℕ Exception → List Definition → List (List ℕ × List ℕ) → Option Wanted
wanted_at (Err e) history pairs = None
wanted_at (Ok m) history pairs = wanted_of m (map_at history m) pairs

-- by the operation
abbrev pub wanted_by : Result WmsOperation Exception → ℕ → List Definition → List (List ℕ × List ℕ) → Option Wanted
wanted_by (Err e) s history pairs = None
wanted_by (Ok Capabilities) s history pairs = None
wanted_by (Ok Map) s history pairs = wanted_at (map_sequence s pairs) history pairs

-- the picture that a query requests at a server with this history, whose last sequence is s
unfoldable pub requested : ℕ → List Definition → List ℕ → Option Wanted
requested s history query = wanted_by (operation_of (parameter (codes "REQUEST") (pairs_of query))) s history (pairs_of query)
