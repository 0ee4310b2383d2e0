-- Spans of neighbouring pixels.
use Rattle.std.specs.Prelude.{◌≡◌, ℕ, ◌<◌, ◌≤◌, ◌&&◌, Bool, not, nat_lt, max, min}
use Rattle.wf_geometry.specs.declared.level.Span.{Span}

-- the number is in the span
unfoldable pub is_within : Span → ℕ → Bool
is_within span u = not (nat_lt u span.from) && nat_lt u span.to

-- the span has exactly those of the first `most` numbers that pass the test
pub record IsSpanOf (test : ℕ → Bool) (most : ℕ) (span : Span) : Type 0 where
  pub within : span.to ≤ most
  pub passed : (u : ℕ) → u < most → test u ≡ is_within span u

-- the intersection of two spans
abbrev pub shared : Span → Span → Span
shared a b = record { from = max a.from b.from; to = min a.to b.to }
