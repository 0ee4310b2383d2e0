-- Messages are offered to an outbox.
use Rattle.std.proofs.Common.{◌≡◌, ◌⊎◌, ℕ, ◌+◌, ◌<◌, ◌≤◌, Bool, true, false, List, [], ◌∷◌, ◌++◌, length, take, map, get_or, Option, Some, None, Result, Ok, Err, IsErrOf, OnOk, OnErr, refl, sym, ap, subst, ◌∙◌, inl, inr, arith, length-append}
use Rattle.std.specs.Prelude.{if◌then◌else◌, is_ok, is_some}
use Rattle.std.proofs.lemmas.List.{length-map, length-take, map-append, take_more}
use Rattle.wf_codec.specs.Encoding.{spelling}
use Rattle.wf_def.specs.Definition.{Definition}
use Rattle.wf_mail.specs.Outbox.{OutboxState, IsPut, IsSameOutbox}
use Rattle.wf_mail.specs.declared.dropped.Dropped.{Dropped}
use Rattle.wf_mail.specs.declared.dropped.Dropped.TheVariants.{NoRoom, Memory}
use Rattle.wf_model.specs.Chosen.{IsIn}
use Rattle.wf_model.specs.Message.{Message}
use Rattle.wf_wire.specs.Offer.{AreOffered, AreTallied, IsPutOr}
use Rattle.wf_wire.specs.ToPeer.{IsGreetedFirst, put_into, written_of}

-- ---- members of lists

pub in_left : {A : Type 0} (x : A) (xs ys : List A) → IsIn x xs → IsIn x (xs ++ ys)
in_left x [] ys is = absurd is
in_left x (y ∷ xs) ys is = elim is [ inl e ↦ inl e | inr h ↦ inr (in_left x xs ys h) ]

pub in_right : {A : Type 0} (x : A) (xs ys : List A) → IsIn x ys → IsIn x (xs ++ ys)
in_right x [] ys is = is
in_right x (y ∷ xs) ys is = inr (in_right x xs ys is)

in_either : {A : Type 0} (x : A) (xs ys : List A) → IsIn x (xs ++ ys) → IsIn x xs ⊎ IsIn x ys
in_either x [] ys is = inr is
in_either x (y ∷ xs) ys is = elim is [ inl e ↦ inl (inl e) | inr h ↦ elim (in_either x xs ys h) [ inl a ↦ inl (inr a) | inr b ↦ inr b ] ]

pub in_along : {A : Type 0} (x : A) (xs ys : List A) → xs ≡ ys → IsIn x xs → IsIn x ys
in_along {A} x xs ys e is = subst (λ (l : List A). IsIn x l) e is

pub in_map : {A B : Type 0} (f : A → B) (x : A) (xs : List A) → IsIn x xs → IsIn (f x) (map f xs)
in_map f x [] is = absurd is
in_map f x (y ∷ xs) is = elim is [ inl e ↦ inl (ap f e) | inr h ↦ inr (in_map f x xs h) ]

-- one more element of a list, as it is seen
pub one_more_seen : {A B : Type 0} (f : A → B) (xs : List A) (i : ℕ) (x : A) → i < length xs → x ≡ get_or xs i x → map f (take (i + 1) xs) ≡ map f (take i xs) ++ f x ∷ []
one_more_seen {A} f xs i x lt e = ap (map f) (take_more xs i x lt ∙ ap (λ (y : A). take i xs ++ y ∷ []) (sym e)) ∙ map-append f (take i xs) (x ∷ [])

-- ---- an offer

-- what an outbox returns says whether the message was put in
pub put_or : {U : Type 0} (r : Result U Dropped) (m : Message Definition) (before after : OutboxState) → OnOk r (IsPut before m after) → OnErr r (IsSameOutbox before after) →
    (IsErrOf r NoRoom → before.limit < length before.waiting + length (spelling m)) → (IsErrOf r Memory → before.spare < length (spelling m)) → IsPutOr (is_ok r) m (Some before) (Some after)
put_or (Ok u) m before after put same no_room memory = put
put_or (Err NoRoom) m before after put same no_room memory = record { same = same; why = inl (no_room refl) }
put_or (Err Memory) m before after put same no_room memory = record { same = same; why = inr (memory refl) }

-- one more message is offered
pub offered_more : (m : Message Definition) (messages : List (Message Definition)) (queued : Bool) (before middle after : Option OutboxState) → AreOffered messages before middle → IsPutOr queued m middle after →
    AreOffered (messages ++ m ∷ []) before after
unfolding AreOffered
offered_more m [] queued before middle after none one = (queued, after, subst (λ (o : Option OutboxState). IsPutOr queued m o after) none one, refl)
offered_more m (first ∷ messages) queued before middle after (kept, next, is, rest) one = (kept, next, is, offered_more m messages queued next middle after rest one)

-- ---- how many

-- none yet
pub tallied_none : (before : Option OutboxState) → AreTallied 0 0 [] before before
tallied_none None = record { more = refl; all = refl }
tallied_none (Some before) = record { more = omega arith; all = refl }

one_more : {A : Type 0} (xs : List A) (x : A) → length (xs ++ x ∷ []) ≡ length xs + 1
one_more xs x = omega (arith, length-append xs (x ∷ []))

-- at most one
pub one_if : (b : Bool) → (if b then 1 else 0) ≤ 1
one_if true = omega arith
one_if false = omega arith

-- one message more was put in, if there is an outbox
pub tallied_put : (m : Message Definition) (messages : List (Message Definition)) (before middle after : Option OutboxState) (put dropped more put' : ℕ) → is_some middle ≡ is_some before → IsPutOr true m middle after →
    AreTallied put dropped messages before middle → more ≡ (if is_some middle then 1 else 0) → put' ≡ put + more → AreTallied put' dropped (messages ++ m ∷ []) before after
tallied_put m messages None None after put dropped more put' there is so one e = record {
  more = ap (λ (o : Option OutboxState). length (put_into o)) is ∙ omega (arith, so.more, one, e);
  all = omega (arith, so.all, one, e);
}
tallied_put m messages None (Some middle) after put dropped more put' there is so one e = cc
tallied_put m messages (Some before) None after put dropped more put' there is so one e = cc
tallied_put m messages (Some before) (Some middle) None put dropped more put' there is so one e = absurd is
tallied_put m messages (Some before) (Some middle) (Some after) put dropped more put' there is so one e = record {
  more = omega (arith, so.more, one, e, ap length is.put, one_more middle.put m);
  all = omega (arith, so.all, one, e, one_more messages m);
}

-- one message more was dropped
pub tallied_dropped : (m : Message Definition) (messages : List (Message Definition)) (before middle after : Option OutboxState) (put dropped dropped' : ℕ) → is_some middle ≡ is_some before → IsPutOr false m middle after →
    AreTallied put dropped messages before middle → dropped' ≡ dropped + 1 → AreTallied put dropped' (messages ++ m ∷ []) before after
tallied_dropped m messages before None after put dropped dropped' there is so e = absurd is
tallied_dropped m messages before (Some middle) None put dropped dropped' there is so e = absurd is
tallied_dropped m messages None (Some middle) (Some after) put dropped dropped' there is so e = cc
tallied_dropped m messages (Some before) (Some middle) (Some after) put dropped dropped' there is so e = record {
  more = omega (arith, so.more, ap length is.same.put);
  all = omega (arith, so.all, e, one_more messages m);
}

-- no more than were offered
tallied_within : (messages : List (Message Definition)) (before after : Option OutboxState) (put dropped : ℕ) → AreTallied put dropped messages before after → put + dropped ≤ length messages
tallied_within messages None after put dropped so = omega (arith, so.all)
tallied_within messages (Some before) after put dropped so = omega (arith, so.all)

pub tallied_up_to : {A : Type 0} (f : A → Message Definition) (xs : List A) (i : ℕ) (before after : Option OutboxState) (put dropped : ℕ) → AreTallied put dropped (map f (take i xs)) before after → put + dropped ≤ i
tallied_up_to f xs i before after put dropped so = omega (arith, tallied_within (map f (take i xs)) before after put dropped so, length-map (take i xs) f, length-take i xs)

-- ---- what it leaves

put_by : (queued : Bool) (m : Message Definition) (before after : Option OutboxState) → IsPutOr queued m before after → (x : Message Definition) → IsIn x (put_into after) → IsIn x (put_into before) ⊎ (x ≡ m)
put_by true m None after is x there = absurd (subst (λ (o : Option OutboxState). IsIn x (put_into o)) is there)
put_by true m (Some before) None is x there = absurd is
put_by true m (Some before) (Some after) is x there =
    elim (in_either x before.put (m ∷ []) (in_along x after.put (before.put ++ m ∷ []) is.put there)) [ inl a ↦ inl a | inr b ↦ elim b [ inl e ↦ inr e | inr none ↦ absurd none ] ]
put_by false m None after is x there = absurd is
put_by false m (Some before) None is x there = absurd is
put_by false m (Some before) (Some after) is x there = inl (in_along x after.put before.put is.same.put there)

-- what is in an outbox after messages were offered was in it, or is one of them
pub all_put : (messages : List (Message Definition)) (before after : Option OutboxState) → AreOffered messages before after → (x : Message Definition) → IsIn x (put_into after) → IsIn x (put_into before) ⊎ IsIn x messages
unfolding AreOffered
all_put [] before after same x there = inl (subst (λ (o : Option OutboxState). IsIn x (put_into o)) same there)
all_put (m ∷ messages) before after (queued, middle, is, rest) x there = elim (all_put messages middle after rest x there) [
  | inl a ↦ elim (put_by queued m before middle is x a) [ inl b ↦ inl b | inr e ↦ inr (inl e) ]
  | inr b ↦ inr (inr b)
]

written_by : (queued : Bool) (m : Message Definition) (before after : Option OutboxState) → IsPutOr queued m before after → written_of after ≡ written_of before
written_by true m None after is = ap written_of is
written_by true m (Some before) None is = absurd is
written_by true m (Some before) (Some after) is = is.written
written_by false m None after is = absurd is
written_by false m (Some before) None is = absurd is
written_by false m (Some before) (Some after) is = is.same.written

-- nothing more was written of it
pub none_written : (messages : List (Message Definition)) (before after : Option OutboxState) → AreOffered messages before after → written_of after ≡ written_of before
unfolding AreOffered
none_written [] before after same = ap written_of same
none_written (m ∷ messages) before after (queued, middle, is, rest) = none_written messages middle after rest ∙ written_by queued m before middle is

some_by : (queued : Bool) (m : Message Definition) (before after : Option OutboxState) → IsPutOr queued m before after → is_some after ≡ is_some before
some_by true m None after is = ap is_some is
some_by true m (Some before) None is = absurd is
some_by true m (Some before) (Some after) is = refl
some_by false m None after is = absurd is
some_by false m (Some before) None is = absurd is
some_by false m (Some before) (Some after) is = refl

pub some_still : (messages : List (Message Definition)) (before after : Option OutboxState) → AreOffered messages before after → is_some after ≡ is_some before
unfolding AreOffered
some_still [] before after same = ap is_some same
some_still (m ∷ messages) before after (queued, middle, is, rest) = some_still messages middle after rest ∙ some_by queued m before middle is

-- it is there only if it was
pub first_still : (messages : List (Message Definition)) (left : List ℕ) (before after : Option OutboxState) → AreOffered messages before after → IsGreetedFirst before left → IsGreetedFirst after left
first_still messages left before after offered first there = first (sym (some_still messages before after offered) ∙ there)
