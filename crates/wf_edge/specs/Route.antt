-- The routes of a node: which resource is at a path, which method it has, and what the head of a
-- request asks for.
use Rattle.std.specs.Prelude.{ℕ, List, [], ◌∷◌, bytes_eq, codes, Option, Some, None, Result, Ok, Err, if◌then◌else◌}
use Rattle.wf_http.specs.Checks.{body_length, check_target, first_failing, unless_rejected}
use Rattle.wf_http.specs.Head.{Head}
use Rattle.wf_http.specs.Method.{method_name}
use Rattle.wf_http.specs.Target.{path_of}
use Rattle.wf_http.specs.declared.http_error.Allowed.{Allowed}
use Rattle.wf_http.specs.declared.http_error.Allowed.TheVariants as allowed
use Rattle.wf_http.specs.declared.http_error.HttpError.{HttpError}
use Rattle.wf_http.specs.declared.http_error.HttpError.TheVariants as http_error
use Rattle.wf_edge.specs.declared.resource.Resource.{Resource}
use Rattle.wf_edge.specs.declared.resource.Resource.TheVariants as resource
use Rattle.wf_edge.specs.declared.resource.RequestedResource.{RequestedResource}
use Rattle.wf_edge.specs.declared.resource.RequestedResource.TheVariants as asked

-- the resource at a path; paths compare byte by byte
unfoldable pub resource_at : List ℕ → Option Resource
resource_at path =
    if bytes_eq path (codes "/wms") then Some resource.Wms else (
    if bytes_eq path (codes "/status") then Some resource.Status else (
    if bytes_eq path (codes "/publish") then Some resource.Publish else None))

-- the method that a resource has
abbrev pub method_of : Resource → Allowed
method_of resource.Wms = allowed.Get
method_of resource.Status = allowed.Get
method_of resource.Publish = allowed.Post

-- ---- the checks on any head

-- there is a resource at the path
abbrev pub check_path : Option Resource → Option HttpError
check_path None = Some http_error.NotFound
check_path (Some r) = None

-- the resource has the method
abbrev pub check_method : Option Resource → List ℕ → Option HttpError
check_method None method = None
check_method (Some r) method =
    if bytes_eq method (method_name (method_of r)) then None else Some (http_error.MethodNotAllowed (method_of r))

abbrev pub head_checks : Option Resource → List ℕ → List ℕ → List (Option HttpError)
head_checks found target method = check_target target ∷ check_path found ∷ check_method found method ∷ []

-- ---- what is asked for

-- to propose the map in a body of this length, unless the body is rejected
abbrev pub publish_asked : Result ℕ HttpError → Result RequestedResource HttpError
publish_asked (Ok bytes) = Ok (asked.Publish bytes)
publish_asked (Err r) = Err r

-- the request to the resource at the path: only a publish has a body
abbrev pub resolve_at : Option Resource → List (List ℕ × List ℕ) → Result RequestedResource HttpError
resolve_at None fields = Err http_error.NotFound
resolve_at (Some resource.Wms) fields = Ok asked.Wms
resolve_at (Some resource.Status) fields = Ok asked.Status
resolve_at (Some resource.Publish) fields = publish_asked (body_length fields)

abbrev pub resolved_at : Option Resource → Head → Result RequestedResource HttpError
resolved_at found head = unless_rejected (first_failing (head_checks found head.target head.method)) (resolve_at found head.fields)

-- what a head asks for
unfoldable pub resolved : Head → Result RequestedResource HttpError
resolved head = resolved_at (resource_at (path_of head.target)) head
