-- A request to a node: what is read of it, and why there is none.
use Rattle.std.specs.Prelude.{◌≡◌, ◌≢◌, ◌≤◌, ◌<◌, ◌⊎◌, ℕ, List, [], length, Option, Ok, Err}
use Rattle.std.specs.Io.KnownBytes.{Consumes}
use Rattle.wf_http.specs.Body.{IsRequestBody}
use Rattle.wf_http.specs.Front.{IsHeadError, TakesHead}
use Rattle.wf_http.specs.Head.{Head, Begins}
use Rattle.wf_http.specs.declared.http_error.HttpError.{HttpError}
use Rattle.wf_http.specs.declared.http_error.HttpError.TheVariants as http_error
use Rattle.wf_http.specs.declared.fault.RequestFault.{RequestFault}
use Rattle.wf_http.specs.declared.fault.RequestFault.TheVariants as fault
use Rattle.wf_edge.specs.Route.{resolved}
use Rattle.wf_edge.specs.declared.resource.RequestedResource.{RequestedResource}
use Rattle.wf_edge.specs.declared.resource.RequestedResource.TheVariants as asked

-- the length of a request's body, by what the request asks for
abbrev pub body_bytes : RequestedResource → ℕ
body_bytes asked.Wms = 0
body_bytes asked.Status = 0
body_bytes (asked.Publish bytes) = bytes

-- a request: its head, what that asks for, and its body
pub record Request : Type 0 where
  pub head : Head
  pub asked : RequestedResource
  pub body : List ℕ

-- the input begins with that request
pub record BeginsWith (input : List ℕ) (request : Request) : Type 0 where
  pub rest : List ℕ
  pub head : Begins input request.head rest
  pub asks : resolved request.head ≡ Ok request.asked
  pub body : IsRequestBody rest (body_bytes request.asked) request.body

-- a check on the head of the input fails
pub record FailsCheck (input : List ℕ) (r : HttpError) : Type 0 where
  pub head : Head
  pub rest : List ℕ
  pub begins : Begins input head rest
  pub fails : resolved head ≡ Err r

-- the body of the input is truncated
pub record EndsInBody (input : List ℕ) (r : HttpError) : Type 0 where
  pub head : Head
  pub rest : List ℕ
  pub begins : Begins input head rest
  pub asked : RequestedResource
  pub asks : resolved head ≡ Ok asked
  pub short : length rest < body_bytes asked
  pub is : r ≡ http_error.BadRequest

-- the head of the input asks for a body of at least one byte
pub record AsksForBody (input : List ℕ) : Type 0 where
  pub head : Head
  pub rest : List ℕ
  pub begins : Begins input head rest
  pub asked : RequestedResource
  pub asks : resolved head ≡ Ok asked
  pub some : 0 < body_bytes asked

-- why an input is rejected
pub data IsRejected (input : List ℕ) (r : HttpError) : Type 0 where
  by_head : input ≢ [] → IsHeadError input r → IsRejected input r
  by_check : FailsCheck input r → IsRejected input r
  by_body : EndsInBody input r → IsRejected input r

-- why there is no request: only a body allocates
abbrev pub IsRequestFault : List ℕ → RequestFault → Type 0
IsRequestFault input fault.NoRequest = input ≡ []
IsRequestFault input (fault.Rejected r) = IsRejected input r
IsRequestFault input fault.ReadFailed = Unit {0}
IsRequestFault input fault.Memory = AsksForBody input

-- ---- how much of the input is taken

-- a head was taken, and of what follows it at most the body that it asks for
pub record TakesBody (old new : Option (List ℕ)) : Type 0 where
  pub bytes : List ℕ
  pub head : Head
  pub behind : List ℕ
  pub asked : RequestedResource
  pub begins : Begins bytes head behind
  pub asks : resolved head ≡ Ok asked
  pub most : length behind ≤ body_bytes asked
  pub taken : Consumes old new bytes

-- Nothing after the request is taken, but what came in one piece with the last of its head.
abbrev pub TakesRequest : Option ℕ → Option (List ℕ) → Option (List ℕ) → Type 0
TakesRequest piece old new = TakesHead piece old new ⊎ TakesBody old new
