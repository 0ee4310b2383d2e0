-- A query that asks for one map, by MAPSEQ, asks for a published one.
use Rattle.std.proofs.Common.{◌≡◌, ℕ, ◌≤◌, nat_lt, Bool, true, false, List, Option, Some, None, Result, Ok, Err, refl, subst, arith}
use Rattle.std.proofs.lemmas.Bool.Decides.{nat_tests}
use Rattle.std.specs.Char.{is_ascii_digit}
use Rattle.std.specs.List.{list_all}
use Rattle.std.specs.Prelude.{⊤, codes, if◌then◌else◌}
use Rattle.wf_wms.specs.Answer.{AsksForMap}
use Rattle.wf_wms.specs.MapRequest.{◌>>=◌, check_version, map_sequence, sequence_in}
use Rattle.wf_wms.specs.Query.{pairs_of, parameter}
use Rattle.wf_wms.specs.declared.exception.Exception.{Exception}

-- the result is a sequence that isn't after s, or an exception
abbrev Below : ℕ → Result ℕ Exception → Type 0
Below s (Ok m) = m ≤ s
Below s (Err e) = ⊤

below_tested : (s m : ℕ) (above : Bool) (e : Exception) → nat_lt s m ≡ above → Below s (if above then Err e else Ok m)
below_tested s m true e is = tt
below_tested s m false e is = grind (arith, nat_tests)

below_digits : (s m : ℕ) (digits : Bool) (e f : Exception) → Below s (if digits then (if nat_lt s m then Err e else Ok m) else Err f)
below_digits s m true e f = below_tested s m (nat_lt s m) e refl
below_digits s m false e f = tt

below_in : (s : ℕ) (text : Option (List ℕ)) → Below s (sequence_in s text)
below_in s None = omega (arith)
below_in s (Some text) = below_digits s _ (list_all is_ascii_digit text) _ _

below_after : (s : ℕ) (check : Result ⊤ Exception) (r : Result ℕ Exception) → Below s r → Below s (check >>= (λ x. r))
below_after s (Ok x) r below = below
below_after s (Err e) r below = tt

below_last : (s : ℕ) (pairs : List (List ℕ × List ℕ)) → Below s (map_sequence s pairs)
unfolding map_sequence
below_last s pairs = below_after s (check_version (parameter (codes "VERSION") pairs)) (sequence_in s (parameter (codes "MAPSEQ") pairs)) (below_in s (parameter (codes "MAPSEQ") pairs))

pub asks_published : (m s : ℕ) (query : List ℕ) → AsksForMap m s query → m ≤ s
asks_published m s query asks = subst (λ r. Below s r) asks.sequence (below_last s (pairs_of query))
