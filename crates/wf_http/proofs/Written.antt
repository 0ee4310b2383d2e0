-- The pieces written are the lines of a response.
use Rattle.std.proofs.Common.{◌≡◌, ◌∙◌, ℕ, List, [], ◌++◌, length, refl, sym, ap}
use Rattle.std.specs.Prelude.{codes, decimal, Option, Some}
use Rattle.std.proofs.lemmas.List.{append_assoc}
use Rattle.http.specs.StatusCode.{code_digits}
use Rattle.wf_http.specs.Method.{method_name}
use Rattle.wf_http.specs.declared.http_error.Allowed.{Allowed}
use Rattle.wf_http.specs.Response.{Response, line, reason, allow_line, head_bytes}

-- what is written when the pieces between the parts are these
abbrev pieces : (t k e : List ℕ) (s r m l w : List ℕ) → List ℕ
pieces t k e s r m l w =
    (((((((((([] ++ codes "HTTP/1.1 ") ++ s) ++ codes " ") ++ r) ++ t) ++ m) ++ k) ++ l) ++ codes "\r\n") ++ w) ++ e

regroup : (a b n t k x s r m l w : List ℕ)
    → (((((((((([] ++ a) ++ s) ++ b) ++ r) ++ (n ++ t)) ++ m) ++ (n ++ k)) ++ l) ++ n) ++ w) ++ ((x ++ n) ++ n)
    ≡ (((((((((a ++ s) ++ b) ++ r) ++ n) ++ ((t ++ m) ++ n)) ++ ((k ++ l) ++ n)) ++ w) ++ (x ++ n)) ++ ([] ++ n))
regroup a b n t k x s r m l w = simp append_assoc

type_is : codes "\r\nContent-Type: " ≡ codes "\r\n" ++ codes "Content-Type: "
type_is = refl

length_is : codes "\r\nContent-Length: " ≡ codes "\r\n" ++ codes "Content-Length: "
length_is = refl

close_is : codes "Connection: close\r\n\r\n" ≡ (codes "Connection: close" ++ codes "\r\n") ++ codes "\r\n"
close_is = refl

-- the pieces written are the lines
pub pieces_are_lines : (s r m l w : List ℕ)
    → pieces (codes "\r\nContent-Type: ") (codes "\r\nContent-Length: ") (codes "Connection: close\r\n\r\n") s r m l w
    ≡ line (codes "HTTP/1.1 " ++ s ++ codes " " ++ r) ++ line (codes "Content-Type: " ++ m) ++ line (codes "Content-Length: " ++ l) ++ w
    ++ line (codes "Connection: close") ++ line []
pieces_are_lines s r m l w =
    ap (λ t. pieces t (codes "\r\nContent-Length: ") (codes "Connection: close\r\n\r\n") s r m l w) type_is
    ∙ ap (λ k. pieces (codes "\r\n" ++ codes "Content-Type: ") k (codes "Connection: close\r\n\r\n") s r m l w) length_is
    ∙ ap (λ e. pieces (codes "\r\n" ++ codes "Content-Type: ") (codes "\r\n" ++ codes "Content-Length: ") e s r m l w) close_is
    ∙ regroup (codes "HTTP/1.1 ") (codes " ") (codes "\r\n") (codes "Content-Type: ") (codes "Content-Length: ") (codes "Connection: close") s r m l w

-- the pieces written are the line with the allowed method
line_of : (bytes begin name end : List ℕ) → ((bytes ++ begin) ++ name) ++ end ≡ bytes ++ ((begin ++ name) ++ end)
line_of bytes begin name end = simp append_assoc

pub allow_line_is : (bytes name : List ℕ) (allowed : Option Allowed) (method : Allowed) → allowed ≡ Some method → name ≡ method_name method →
    ((bytes ++ codes "Allow: ") ++ name) ++ codes "\r\n" ≡ bytes ++ allow_line allowed
allow_line_is bytes name allowed method is named =
    line_of bytes (codes "Allow: ") name (codes "\r\n")
    ∙ (ap (λ name. bytes ++ ((codes "Allow: " ++ name) ++ codes "\r\n")) named ∙ ap (λ allowed. bytes ++ allow_line allowed) (sym is))

-- the pieces written are the lines of a response
pub lines_are_head : (response : Response) (s r m l w : List ℕ) → s ≡ code_digits response.status → r ≡ reason response.status → m ≡ response.media
    → l ≡ decimal (length response.body) → w ≡ allow_line response.allowed
    → ((((((((((([] ++ codes "HTTP/1.1 ") ++ s) ++ codes " ") ++ r) ++ codes "\r\nContent-Type: ") ++ m) ++ codes "\r\nContent-Length: ") ++ l) ++ codes "\r\n") ++ w)
    ++ codes "Connection: close\r\n\r\n")
    ≡ head_bytes response
unfolding head_bytes
lines_are_head response s r m l w status phrase media digits allow = pieces_are_lines s r m l w ∙ rw (status, phrase, media, digits, allow) refl
