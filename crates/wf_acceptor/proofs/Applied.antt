-- A record's effect on an acceptor's part is that of the fold.
use Rattle.std.proofs.Common.{◌≡◌, ℕ, ◌+◌, true, false, nat_le, nat_lt, [], ◌∷◌, ◌==◌, Option, Some, None, Result, Ok, Err, OnOk, if◌then◌else◌, refl, sym, ◌∙◌, ap, subst, arith, length-append}
use Rattle.std.proofs.lemmas.Grind.{common_steps}
use Rattle.std.specs.Ordering.{nat_cmp}
use Rattle.std.specs.Cmp.{nat_cmp_total, unsigned_tied}
use Rattle.std.specs.FinMap as map
use Rattle.std.specs.FinMap.{FinMap}
use Rattle.wf_ballot.specs.Ballot.{Ballot}
use Rattle.wf_model.specs.Message.{Vote}
use Rattle.wf_model.specs.DurableState as model
use Rattle.wf_model.specs.DurableState.{published, put, raised, with_record, nothing_stored}
use Rattle.wf_def.specs.Definition.{Definition}
use Rattle.wf_codec.specs.Message.{view_vote}
use Rattle.wf_journal.specs.Record.{view}
use Rattle.wf_journal.specs.declared.record.Record.{Record}
use Rattle.wf_journal.specs.declared.record.Record.TheVariants.{Tried, Promised, Accepted, Published}
use Rattle.wf_acceptor.specs.Acceptor.{Acceptor, Part, ActsFor, Applies, IsNextSlot}
use Rattle.wf_acceptor.specs.Prepared.{with_entry, with_open}

-- inserting into a map, or removing from it, changes the map's function at that slot
insert-put : {A : Type 0} (m : FinMap nat_cmp A) (s : ℕ) (x : A) → put (map.get m) s (Some x) ≡ map.get (map.insert m s x)
unfolding put
insert-put m s x = λ i t. sym (map.get-insert nat_cmp_total m s x t ∙ ap (λ v. if v then Some x else map.get m t) (unsigned_tied t s)) i

remove-put : {A : Type 0} (m : FinMap nat_cmp A) (s : ℕ) → put (map.get m) s None ≡ map.get (map.remove m s)
unfolding put
remove-put m s = λ i t. sym (map.get-remove nat_cmp_total m s t ∙ ap (λ v. if v then None else map.get m t) (unsigned_tied t s)) i

-- votes as the model has them, and a change at one slot
abbrev votes_as : (ℕ → Option (Ballot × Definition)) → ℕ → Option (Vote Definition)
votes_as f s = view_vote (f s)

votes_as-put : (f : ℕ → Option (Ballot × Definition)) (s : ℕ) (x : Option (Ballot × Definition)) → put (votes_as f) s (view_vote x) ≡ votes_as (put f s x)
unfolding put
votes_as-put f s x = λ i t. (elim (t == s) as (λ v. (if v then view_vote x else view_vote (f t)) ≡ view_vote (if v then x else f t)) [ true ↦ refl | false ↦ refl ]) i

-- whether the slot is above the published definitions, by either test
above : (m s : ℕ) → nat_lt m s ≡ (if nat_le s m then false else true)
above m s = grind (arith, common_steps)

applies_promised : (part : Part) (s : ℕ) (b : Ballot) → Applies part (with_entry part (Promised s b)) (model.Promised s b)
unfolding with_record published
applies_promised part s b stored acts = record { promise = ap (λ promise. raised promise b) acts.promise; votes = acts.votes; published = acts.published }

applies_accepted : (part : Part) (s : ℕ) (b : Ballot) (d : Definition) → Applies part (with_entry part (Accepted s b d)) (model.Accepted s b d)
unfolding with_record published
applies_accepted part s b d stored acts =
    let test : nat_lt (published stored) s ≡ (if nat_le s part.published then false else true) = rw acts.published (above part.published s) in
    let vote : Vote Definition = record { ballot = b; definition = d } in
    rw test
    (elim (nat_le s part.published) as (λ v.
    ActsFor (if v then part else with_open part (Accepted s b d))
    (if (if v then false else true) then record stored { promise = raised stored.promise b; votes = put stored.votes s (Some vote) } else stored)) [
      | true ↦ acts
      | false ↦ record {
        promise = ap (λ promise. raised promise b) acts.promise;
        votes = rw acts.votes (votes_as-put (map.get part.votes) s (Some (b, d)) ∙ ap votes_as (insert-put part.votes s (b, d)));
        published = acts.published;
      }
    ])

applies_published : (part : Part) (s : ℕ) (d : Definition) → s ≡ part.published + 1 → Applies part (with_entry part (Published s d)) (model.Published s d)
unfolding with_record published
applies_published part s d next stored acts = record {
  promise = acts.promise;
  votes = rw acts.votes (votes_as-put (map.get part.votes) s None ∙ ap votes_as (remove-put part.votes s));
  published = omega (arith, length-append stored.history (d ∷ []), acts.published);
}

-- Each kind of record has the fold's effect on the part. A tried round doesn't concern an acceptor.
applies : (part : Part) (r : Record) → IsNextSlot part r → Applies part (with_entry part r) (view r)
unfolding with_record published
applies part (Tried round) next stored acts = record { promise = acts.promise; votes = acts.votes; published = acts.published }
applies part (Promised s b) next stored acts = applies_promised part s b stored acts
applies part (Accepted s b d) next stored acts = applies_accepted part s b d stored acts
applies part (Published s d) next stored acts = applies_published part s d next stored acts

-- A part that is the old one with the record is the old one after it.
pub applied_where_equal : (old new : Part) (r : Record) → IsNextSlot old r → new ≡ with_entry old r → Applies old new (view r)
applied_where_equal old new r next is = subst (λ (part : Part). Applies old part (view r)) (sym is) (applies old r next)

-- If applying a record succeeds, it is applied.
pub applied_if_ok : {T E : Type 0} (result : Result T E) (old new : Acceptor) (r : Record) → IsNextSlot old.part r →
    OnOk result (new ≡ record { part = with_entry old.part r; prepared = None }) → OnOk result (Applies old.part new.part (view r))
applied_if_ok (Ok x) old new r next ok =
    subst (λ (part : Part). Applies old.part part (view r)) (sym (ap (λ (a : Acceptor). a.part) ok)) (applies old.part r next)
applied_if_ok (Err e) old new r next ok = tt

-- A part without promise and votes agrees with the state of a node that has stored nothing yet.
pub acts_for-nothing_stored : (id : ℕ) → ActsFor (record { id = id; published = 0; promise = None; votes = map.empty }) nothing_stored
unfolding nothing_stored published
acts_for-nothing_stored id = record {
  promise = refl;
  votes = λ i s. sym (ap view_vote (map.get-empty nat_cmp s)) i;
  published = refl;
}
