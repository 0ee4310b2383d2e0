-- Lists of which one history begins respond to a request alike.
use Rattle.std.proofs.Common.{◌≡◌, ℕ, zero, suc, ◌<◌, ◌≤◌, nat_lt, Bool, true, false, List, [], ◌∷◌, ◌++◌, length, slice_get, take, Option, Some, None, Result, Ok, Err, refl, sym, ap, subst, ◌∙◌, arith}
use Rattle.std.proofs.lemmas.Bool.Decides.{nat_tests}
use Rattle.std.specs.Char.{is_ascii_digit}
use Rattle.std.specs.List.{list_all}
use Rattle.std.specs.Prelude.{⊤, codes, if◌then◌else◌}
use Rattle.std.specs.declared.alloc.Global.{Global}
use Rattle.wf_execution.specs.Theorems.{OneHistory}
use Rattle.wf_def.specs.Definition.{Definition}
use Rattle.wf_edge.specs.Theorem.{AnswerAlike, EqualRequestsHaveEqualResponses, are_asked_alike, stand_alike}
use Rattle.wf_mail.specs.Mail.{IsFirstPart}
use Rattle.wf_learner.specs.History.{map_at}
use Rattle.wf_model.specs.DurableState.{definition_at}
use Rattle.wf_tape.specs.declared.tape.Tape.{Ghosts as Tape}
use Rattle.wf_wms.specs.Answer.{AsksForMap, subject}
use Rattle.wf_wms.specs.MapRequest.{◌>>=◌, check_version, map_sequence, sequence_in}
use Rattle.wf_wms.specs.Query.{pairs_of, parameter}
use Rattle.wf_wms.specs.declared.exception.Exception.{Exception}
use Rattle.wf_actor.specs.Responses.{AskedAlike, AtOneSequence, ForOneMap, ProcessesRespondAlike}

-- ---- a request is for a published map

-- the result is a sequence that isn't after s, or an exception
abbrev Below : ℕ → Result ℕ Exception → Type 0
Below s (Ok m) = m ≤ s
Below s (Err e) = ⊤

below_tested : (s m : ℕ) (above : Bool) (e : Exception) → nat_lt s m ≡ above → Below s (if above then Err e else Ok m)
below_tested s m true e is = tt
below_tested s m false e is = grind (arith, nat_tests)

below_digits : (s m : ℕ) (digits : Bool) (e f : Exception) → Below s (if digits then (if nat_lt s m then Err e else Ok m) else Err f)
below_digits s m true e f = below_tested s m (nat_lt s m) e refl
below_digits s m false e f = tt

below_in : (s : ℕ) (text : Option (List ℕ)) → Below s (sequence_in s text)
below_in s None = omega (arith)
below_in s (Some text) = below_digits s _ (list_all is_ascii_digit text) _ _

below_after : (s : ℕ) (check : Result ⊤ Exception) (r : Result ℕ Exception) → Below s r → Below s (check >>= (λ x. r))
below_after s (Ok x) r below = below
below_after s (Err e) r below = tt

below_last : (s : ℕ) (pairs : List (List ℕ × List ℕ)) → Below s (map_sequence s pairs)
unfolding map_sequence
below_last s pairs = below_after s (check_version (parameter (codes "VERSION") pairs)) (sequence_in s (parameter (codes "MAPSEQ") pairs)) (below_in s (parameter (codes "MAPSEQ") pairs))

asks_published : (m s : ℕ) (query : List ℕ) → AsksForMap m s query → m ≤ s
asks_published m s query asks = subst (λ r. Below s r) asks.sequence (below_last s (pairs_of query))

-- ---- beginnings of one history

front : (xs ys : List Definition) → take (length xs) (xs ++ ys) ≡ xs
front [] ys = refl
front (x ∷ xs) ys = ap (λ l. x ∷ l) (front xs ys)

at_front : (xs ys : List Definition) (k : ℕ) → k < length xs → slice_get (xs ++ ys) k ≡ slice_get xs k
at_front [] ys k less = absurd (omega (arith, less))
at_front (x ∷ xs) ys zero less = refl
at_front (x ∷ xs) ys (suc k) less = at_front xs ys k (omega (arith, less))

module _ (history xs ys : List Definition) (first : IsFirstPart xs history) (second : IsFirstPart ys history) where
  same_list : length ys ≡ length xs → xs ≡ ys
  same_list long =
      sym (front xs first.0) ∙ ap (λ l. take (length xs) l) (first.1 ∙ sym second.1)
      ∙ ap (λ k. take k (ys ++ second.0)) (sym long) ∙ front ys second.0

  same_map : (m : ℕ) → m ≤ length xs → m ≤ length ys → map_at xs m ≡ map_at ys m
  unfolding map_at definition_at
  same_map zero here there = refl
  same_map (suc k) here there =
      sym (at_front xs first.0 k (omega (arith, here))) ∙ ap (λ l. slice_get l k) (first.1 ∙ sym second.1)
      ∙ at_front ys second.0 k (omega (arith, there))

  answer_alike : (query : List ℕ) → AskedAlike query xs ys → AnswerAlike query xs ys
  answer_alike query (AtOneSequence long) = stand_alike long (ap (λ l. map_at l (subject (length xs) query)) (same_list long))
  answer_alike query (ForOneMap m asks asks_too) =
      are_asked_alike m asks asks_too (same_map m (asks_published m (length xs) query asks) (asks_published m (length ys) query asks_too))

-- ---- the theorem

pub processes_respond : {T : Type 0} (tapes : Tape T) → OneHistory tapes → EqualRequestsHaveEqualResponses Global tapes → ProcessesRespondAlike tapes
processes_respond tapes histories equal =
    λ n executions items farm node other held also input query after other_after sent other_sent response another asks alike responds fine responds_too fine_too.
    let so = histories n executions items farm in
    equal input query node after other other_after sent other_sent response another asks
    (answer_alike so.history node.parts.history other.parts.history (so.each node held) (so.each other also) query alike)
    responds fine responds_too fine_too
