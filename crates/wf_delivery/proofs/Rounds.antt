-- Deliveries in rounds: one more delivery, and a complete round.
use Rattle.std.proofs.Common.{◌≡◌, ℕ, zero, suc, ◌+◌, ◌<◌, List, [], ◌∷◌, ◌++◌, length, take, get_or, sym, ap, ◌∙◌, arith, refl}
use Rattle.wf_delivery.proofs.NewCommon.{append-nil, append_assoc, take_all, take_more, deliver, deliveries, rounds, to_each}

to_each_append : (nodes more : List ℕ) (k : ℕ) → to_each (nodes ++ more) k ≡ to_each nodes k ++ to_each more k
unfolding to_each
to_each_append [] more k = refl
to_each_append (i ∷ nodes) more k = ap (λ es. deliver i k ∷ es) (to_each_append nodes more k)

-- one more delivery in a round
pub one_more : (targets : List ℕ) (first whole some : ℕ) → some < length targets →
    deliveries targets first whole some ++ deliver (get_or targets some 0) (first + whole) ∷ [] ≡ deliveries targets first whole (some + 1)
unfolding to_each deliveries
one_more targets first whole some within =
    append_assoc (rounds targets first whole) (to_each (take some targets) (first + whole)) (deliver (get_or targets some 0) (first + whole) ∷ [])
    ∙ ap (λ es. rounds targets first whole ++ es) (sym (to_each_append (take some targets) (get_or targets some 0 ∷ []) (first + whole))
    ∙ ap (λ nodes. to_each nodes (first + whole)) (sym (take_more targets some 0 within)))

-- rounds and one more
pub rounds_more : (targets : List ℕ) (first whole : ℕ) → rounds targets first whole ++ to_each targets (first + whole) ≡ rounds targets first (suc whole)
unfolding rounds
rounds_more targets first zero = ap (to_each targets) (omega arith) ∙ sym (append-nil (to_each targets first))
rounds_more targets first (suc whole) =
    append_assoc (to_each targets first) (rounds targets (suc first) whole) (to_each targets (first + suc whole))
    ∙ ap (λ es. to_each targets first ++ es) (ap (λ k. rounds targets (suc first) whole ++ to_each targets k) (omega arith) ∙ rounds_more targets (suc first) whole)

-- a complete round is one more round
pub whole_round : (targets : List ℕ) (first whole some : ℕ) → some ≡ length targets → deliveries targets first whole some ≡ deliveries targets first (whole + 1) 0
unfolding to_each deliveries
whole_round targets first whole some all =
    ap (λ nodes. rounds targets first whole ++ to_each nodes (first + whole)) (take_all some targets (omega (arith, all)))
    ∙ rounds_more targets first whole ∙ ap (rounds targets first) (omega arith) ∙ sym (append-nil (rounds targets first (whole + 1)))

pub no_deliveries : (targets : List ℕ) (first : ℕ) → deliveries targets first 0 0 ≡ []
unfolding rounds to_each deliveries
no_deliveries targets first = refl
