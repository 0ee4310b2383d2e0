-- The head of a request (RFC 9112, sections 3 and 5), by the grammar of the kit's head parser, and
-- its limits.
use Rattle.std.specs.Prelude.{◌≡◌, ◌≤◌, ℕ, List, length, map}
use Rattle.httparse.specs.Grammar.{RequestHead, ReadsRequest, print_request}
use Rattle.httparse.specs.Spans.{name_and_value}

-- the greatest length of a head, in bytes, with the empty lines before it
abbrev pub most_head_bytes : ℕ
most_head_bytes = 8192

-- the greatest number of fields of a head
abbrev pub most_fields : ℕ
most_fields = 32

-- the contents of a head: its method, its target, and each field's name and value, in order
pub record Head : Type 0 where
  pub method : List ℕ
  pub target : List ℕ
  pub fields : List (List ℕ × List ℕ)

abbrev pub head_of : RequestHead → Head
head_of h = record { method = h.method; target = h.target; fields = map name_and_value h.fields }

-- the head is within the limits
pub record IsSmall (h : RequestHead) : Type 0 where
  pub bytes : length (print_request h) ≤ most_head_bytes
  pub fields : length h.fields ≤ most_fields

-- the input is a head within the limits, followed by `rest`
pub record Begins (input : List ℕ) (head : Head) (rest : List ℕ) : Type 0 where
  pub printed : RequestHead
  pub reads : ReadsRequest input printed rest
  pub small : IsSmall printed
  pub is : head ≡ head_of printed

-- no head within the limits is at the front of the input
abbrev pub HasNoSmallRequest : List ℕ → Type 0
HasNoSmallRequest input = (h : RequestHead) (rest : List ℕ) → ReadsRequest input h rest → ¬ (IsSmall h)
