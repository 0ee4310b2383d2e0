-- The methods of a request (RFC 9110, section 9).
use Rattle.std.specs.Prelude.{ℕ, List, codes}
use Rattle.wf_http.specs.declared.http_error.Allowed.{Allowed}
use Rattle.wf_http.specs.declared.http_error.Allowed.TheVariants as allowed

-- a method's name (RFC 9110, section 9.1)
abbrev pub method_name : Allowed → List ℕ
method_name allowed.Get = codes "GET"
method_name allowed.Post = codes "POST"
