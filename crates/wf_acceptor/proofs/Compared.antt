-- Votes of two acceptors that are the same, except at a slot.
use Rattle.std.proofs.Common.{◌≡◌, ℕ, Bool, true, false, cond, List, [], ◌∷◌, ◌+◌, ◌<◌, ◌≤◌, length, get_or, drop, Option, Some, None, nat_eq, if◌then◌else◌, refl, sym, ◌∙◌, ap, subst, arith, eqb-true}
use Rattle.std.proofs.lemmas.List.{drop_all, drop_more}
use Rattle.std.proofs.lemmas.Option.{none-some}
use Rattle.std.specs.Cmp.{nat_cmp_total, unsigned_tied}
use Rattle.std.specs.Ordering.{nat_cmp}
use Rattle.std.specs.FinMap as map
use Rattle.std.specs.FinMap.{FinMap}
use Rattle.wf_ballot.specs.Ballot.{Ballot}
use Rattle.wf_def.specs.Definition.{Definition}
use Rattle.wf_model.specs.DurableState.{raised}
use Rattle.wf_journal.specs.declared.record.Record.TheVariants.{Accepted}
use Rattle.wf_acceptor.specs.Acceptor.{Part}
use Rattle.wf_acceptor.specs.Comparison.{KeepsPart, AreSameBut, HasAllBut}
use Rattle.wf_acceptor.specs.Prepared.{with_open, with_promise, with_published}

-- ---- entry by entry

pub has_all_of_none : {A : Type 0} (but : Option ℕ) (others : FinMap nat_cmp A) → HasAllBut but (map.from_entries []) others
unfolding HasAllBut
has_all_of_none {A = A} but others s x open_ found = absurd (none-some x (sym (map.get-empty {X = A} nat_cmp s) ∙ found))

-- One more entry, which the other map has, unless it is that of the slot.
pub has_one_more : {A : Type 0} (but : Option ℕ) (k : ℕ) (v : A) (rest : List (ℕ × A)) (others : FinMap nat_cmp A) →
    ((but ≡ Some k → ⊥) → map.get others k ≡ Some v) → HasAllBut but (map.from_entries rest) others → HasAllBut but (map.from_entries ((k, v) ∷ rest)) others
unfolding HasAllBut
has_one_more {A = A} but k v rest others has all s x open_ found =
    by_key (nat_eq s k) refl (sym (map.get-insert nat_cmp_total (map.from_entries {R = nat_cmp} rest) k v s ∙ ap (λ b. cond b (Some v) (map.get (map.from_entries {R = nat_cmp} rest) s)) (unsigned_tied s k)) ∙ found) where
      by_key : (is_key : Bool) → nat_eq s k ≡ is_key → cond is_key (Some v) (map.get (map.from_entries {R = nat_cmp} rest) s) ≡ Some x → map.get others s ≡ Some x
      by_key true same is =
          let key : s ≡ k = eqb-true s k same in
          ap (map.get others) key ∙ (has (λ at. open_ (at ∙ ap (λ (t : ℕ). Some t) (sym key))) ∙ is)
      by_key false other is = all s x open_ is

-- the entry at this index, and then those after it
pub has_next : {A : Type 0} (but : Option ℕ) (entries : List (ℕ × A)) (i k : ℕ) (v : A) (others : FinMap nat_cmp A) → i < length entries → get_or entries i (k, v) ≡ (k, v) →
    ((but ≡ Some k → ⊥) → map.get others k ≡ Some v) → (HasAllBut but (map.from_entries (drop i entries)) others → HasAllBut but (map.from_entries entries) others) →
    HasAllBut but (map.from_entries (drop (i + 1) entries)) others → HasAllBut but (map.from_entries entries) others
has_next {A = A} but entries i k v others within here has so_far rest =
    let split : drop i entries ≡ (k, v) ∷ drop (i + 1) entries = drop_more entries i (k, v) within ∙ ap (λ (e : ℕ × A). e ∷ drop (i + 1) entries) here in
    so_far (subst (λ (xs : List (ℕ × A)). HasAllBut but (map.from_entries xs) others) (sym split) (has_one_more but k v (drop (i + 1) entries) others has rest))

pub has_each : {A : Type 0} (but : Option ℕ) (entries : List (ℕ × A)) (i : ℕ) (others : FinMap nat_cmp A) → length entries ≤ i →
    (HasAllBut but (map.from_entries (drop i entries)) others → HasAllBut but (map.from_entries entries) others) → HasAllBut but (map.from_entries entries) others
has_each {A = A} but entries i others past so_far =
    so_far (subst (λ (xs : List (ℕ × A)). HasAllBut but (map.from_entries xs) others) (sym (drop_all i entries past)) (has_all_of_none but others))

-- ---- both ways

both : {A : Type 0} (x y : Option A) → ((v : A) → x ≡ Some v → y ≡ Some v) → ((v : A) → y ≡ Some v → x ≡ Some v) → x ≡ y
both None None there back = refl
both None (Some v) there back = back v refl
both (Some v) y there back = sym (there v refl)

pub same_both_ways : {A : Type 0} (but : Option ℕ) (m n : FinMap nat_cmp A) → HasAllBut but m n → HasAllBut but n m → AreSameBut but m n
unfolding HasAllBut AreSameBut
same_both_ways but m n there back s open_ =
    both (map.get m s) (map.get n s) (λ v is. there s v open_ is) (λ v is. back s v open_ is)

-- ---- parts

same_votes : {A : Type 0} (votes others : FinMap nat_cmp A) → ((s : ℕ) → map.get votes s ≡ map.get others s) → votes ≡ others
same_votes votes others same = map.same_map nat_cmp_total map.nat_cmp-IsAntisymmetric votes others same

part_is : (new wanted : Part) → new.id ≡ wanted.id → new.published ≡ wanted.published → new.promise ≡ wanted.promise → new.votes ≡ wanted.votes → new ≡ wanted
part_is new wanted id published promise votes = λ i. record { id = id i; published = published i; promise = promise i; votes = votes i }

pub agrees_as_promised : (old new : Part) (b : Ballot) → KeepsPart (raised old.promise b) old.published None old new → new ≡ with_promise old b
unfolding AreSameBut
agrees_as_promised old new b is =
    part_is new (with_promise old b) is.id is.up_to is.promised (same_votes new.votes old.votes (λ s. is.votes s (none-some s)))

pub agrees_as_same : (old new : Part) → KeepsPart old.promise old.published None old new → new ≡ old
unfolding AreSameBut
agrees_as_same old new is = part_is new old is.id is.up_to is.promised (same_votes new.votes old.votes (λ s. is.votes s (none-some s)))

-- at any other slot than this one
other_slot : (s t : ℕ) → nat_eq t s ≡ false → Some s ≡ Some t → ⊥
other_slot s t other at = grind (arith, other, at)

pub agrees_as_voted : (old new : Part) (s : ℕ) (b : Ballot) (d : Definition) → KeepsPart (raised old.promise b) old.published (Some s) old new → map.get new.votes s ≡ Some (b, d) →
    new ≡ with_open old (Accepted s b d)
unfolding AreSameBut
agrees_as_voted old new s b d is voted =
    part_is new (with_open old (Accepted s b d)) is.id is.up_to is.promised
    (same_votes new.votes (map.insert old.votes s (b, d)) (λ t. at t (nat_eq t s) refl ∙ sym (map.get-insert nat_cmp_total old.votes s (b, d) t ∙ ap (λ v. cond v (Some (b, d)) (map.get old.votes t)) (unsigned_tied t s)))) where
      at : (t : ℕ) (here : Bool) → nat_eq t s ≡ here → map.get new.votes t ≡ cond (nat_eq t s) (Some (b, d)) (map.get old.votes t)
      at t true here = rw here (ap (map.get new.votes) (eqb-true t s here) ∙ voted)
      at t false other = rw other (is.votes t (other_slot s t other))

pub agrees_as_published : (old new : Part) (s : ℕ) → KeepsPart old.promise s (Some s) old new → map.get new.votes s ≡ None → new ≡ with_published old s
unfolding AreSameBut
agrees_as_published old new s is gone =
    part_is new (with_published old s) is.id is.up_to is.promised
    (same_votes new.votes (map.remove old.votes s) (λ t. at t (nat_eq t s) refl ∙ sym (map.get-remove nat_cmp_total old.votes s t ∙ ap (λ v. cond v None (map.get old.votes t)) (unsigned_tied t s)))) where
      at : (t : ℕ) (here : Bool) → nat_eq t s ≡ here → map.get new.votes t ≡ cond (nat_eq t s) None (map.get old.votes t)
      at t true here = rw here (ap (map.get new.votes) (eqb-true t s here) ∙ gone)
      at t false other = rw other (is.votes t (other_slot s t other))
