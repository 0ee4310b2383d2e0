-- What is read of a request's head, and why there is none.
use Rattle.std.specs.Prelude.{◌≡◌, ◌≢◌, ◌≤◌, ◌<◌, ◌++◌, ℕ, List, [], length, map, take, drop, Option, Result, Ok, Err, IfSome}
use Rattle.std.specs.Io.KnownBytes.{Consumes}
use Rattle.httparse.specs.Grammar.{HasNoRequest}
use Rattle.httparse.specs.Spans.{span_bytes, header_bytes}
use Rattle.httparse.specs.declared.spans.HeaderSpan.{HeaderSpan}
use Rattle.httparse.specs.declared.spans.RequestSpans.{RequestSpans}
use Rattle.wf_stream.specs.Effects.{Rises}
use Rattle.wf_http.specs.Head.{Head, Begins, HasNoSmallRequest, most_head_bytes}
use Rattle.wf_http.specs.declared.http_error.HttpError.{HttpError}
use Rattle.wf_http.specs.declared.http_error.HttpError.TheVariants as http_error
use Rattle.wf_http.specs.declared.fault.RequestFault.{RequestFault}
use Rattle.wf_http.specs.declared.fault.RequestFault.TheVariants as fault

-- a head, and the bytes read after it
pub record Front : Type 0 where
  pub head : Head
  pub behind : List ℕ

-- the front at these spans
abbrev pub front_of : List ℕ → List HeaderSpan → RequestSpans → Front
front_of bytes fields spans = record {
  head = record {
    method = span_bytes bytes spans.method;
    target = span_bytes bytes spans.path;
    fields = map (header_bytes bytes) (take spans.headers fields);
  };
  behind = drop spans.len bytes;
}

-- the bytes are that head and the bytes after it
abbrev pub IsFront : List ℕ → Front → Type 0
IsFront bytes front = Begins bytes front.head front.behind

-- the bytes read are that
abbrev pub TakesFront : Option (List ℕ) → Option (List ℕ) → Front → Type 0
TakesFront old new front = (bytes : List ℕ) × Consumes old new bytes × IsFront bytes front

-- no head is at the front of the bytes, if there are any
abbrev pub HasNoHead : List ℕ → Type 0
HasNoHead bytes = 0 < length bytes → HasNoRequest bytes

-- some bytes were taken from the front of what is left: at most as many as there is room for, and
-- as the reader returns a call, if known
abbrev pub TakesPiece : Option ℕ → ℕ → Option (List ℕ) → Option (List ℕ) → Type 0
TakesPiece piece room old new =
    (bytes : List ℕ) × (length bytes ≤ room) × IfSome piece (λ most. length bytes ≤ most) × Consumes old new bytes

-- A head was looked for in what was taken from the front: at most as many bytes as a head may have,
-- and no head was complete before the last piece. A piece is at most as long as what the reader
-- returns a call, if known.
pub record TakesHead (piece : Option ℕ) (old new : Option (List ℕ)) : Type 0 where
  pub before : List ℕ
  pub last : List ℕ
  pub unfinished : HasNoHead before
  pub most : length (before ++ last) ≤ most_head_bytes
  pub small : IfSome piece (λ most. length last ≤ most)
  pub taken : Consumes old new (before ++ last)

-- why a head is rejected: 400 if none is at the front of the input, 431 if none within the limits
-- is
abbrev pub IsHeadError : List ℕ → HttpError → Type 0
IsHeadError input http_error.BadRequest = HasNoRequest input
IsHeadError input http_error.HeadTooLarge = HasNoSmallRequest input
IsHeadError input http_error.NotFound = ⊥
IsHeadError input (http_error.MethodNotAllowed method) = ⊥
IsHeadError input http_error.LengthRequired = ⊥
IsHeadError input http_error.ContentTooLarge = ⊥
IsHeadError input http_error.NotImplemented = ⊥

-- why no head is read: the input is empty, or its head is rejected; nothing is allocated
abbrev pub IsHeadFault : List ℕ → RequestFault → Type 0
IsHeadFault input fault.NoRequest = input ≡ []
IsHeadFault input (fault.Rejected r) = (input ≢ []) × IsHeadError input r
IsHeadFault input fault.ReadFailed = Unit {0}
IsHeadFault input fault.Memory = ⊥

-- a failed read is reported iff one has failed
abbrev pub CountsReads : {T : Type 0} → Result T RequestFault → ℕ → ℕ → Type 0
CountsReads (Ok x) old new = new ≡ old
CountsReads (Err fault.ReadFailed) old new = Rises old new
CountsReads (Err fault.Memory) old new = new ≡ old
CountsReads (Err fault.NoRequest) old new = new ≡ old
CountsReads (Err (fault.Rejected r)) old new = new ≡ old
