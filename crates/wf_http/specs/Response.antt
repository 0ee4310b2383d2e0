-- The bytes of a response (RFC 9112, sections 4, 5, 6.2 and 9.6; RFC 9110, sections 8.3 and
-- 10.2.1).
use Rattle.std.specs.Prelude.{◌≡◌, ◌≤◌, ◌-◌, ◌^◌, ℕ, min, List, [], ◌++◌, length, take, decimal, codes, unwrap_or, Option, Some, None}
use Rattle.std.specs.Io.KnownBytes.{Appends}
use Rattle.http.specs.StatusCode.{code_digits, reason_phrase}
use Rattle.wf_http.specs.Method.{method_name}
use Rattle.wf_http.specs.declared.http_error.Allowed.{Allowed}

-- a response: the status, the media type of the body, the allowed method if the request's was
-- another, and the body
pub record Response : Type 0 where
  pub status : ℕ
  pub media : List ℕ
  pub allowed : Option Allowed
  pub body : List ℕ

-- a line and its line end
abbrev pub line : List ℕ → List ℕ
line text = text ++ codes "\r\n"

-- the phrase of a status; an unknown one has an empty phrase
unfoldable pub reason : ℕ → List ℕ
reason status = unwrap_or (reason_phrase status) []

-- the line with the allowed method
abbrev pub allow_line : Option Allowed → List ℕ
allow_line None = []
allow_line (Some method) = line (codes "Allow: " ++ method_name method)

-- the lines before the body, including the empty one
unfoldable pub head_bytes : Response → List ℕ
head_bytes r =
    line (codes "HTTP/1.1 " ++ code_digits r.status ++ codes " " ++ reason r.status)
    ++ line (codes "Content-Type: " ++ r.media)
    ++ line (codes "Content-Length: " ++ decimal (length r.body))
    ++ allow_line r.allowed
    ++ line (codes "Connection: close")
    ++ line []

-- the bytes of a response
abbrev pub response_bytes : Response → List ℕ
response_bytes r = head_bytes r ++ r.body

-- a count of bytes, which saturates at the greatest 64-bit number
abbrev pub IsCount : ℕ → ℕ → Type 0
IsCount bytes count = count ≡ min bytes (2 ^ 64 - 1)

-- a prefix of the bytes was appended to what was written, and that is its length
pub record WritesPart (bytes : List ℕ) (old new : Option (List ℕ)) (count : ℕ) : Type 0 where
  pub part : ℕ
  pub within : part ≤ length bytes
  pub appends : Appends old new (take part bytes)
  pub counts : IsCount part count
