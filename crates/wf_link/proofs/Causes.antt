-- The cause of a loss, piece by piece.
use Rattle.std.proofs.Common.{◌≡◌, ◌<◌, ◌≤◌, ◌∙◌, ◌+◌, ◌⊎◌, ℕ, List, [], ◌∷◌, ◌++◌, length, sym, ap, subst, inl, inr, arith}
use Rattle.std.specs.Prelude.{Option, Result, Ok, Err, IfErr, OnErr}
use Rattle.std.proofs.lemmas.List.{append_assoc, length-append, length-map}
use Rattle.wf_codec.specs.Message.{view}
use Rattle.wf_farm.specs.declared.carrier.CarrierFault.{CarrierFault}
use Rattle.wf_farm.specs.declared.carrier.CarrierFault.TheVariants as faults
use Rattle.wf_stream.specs.KnownTheorems.{consumes_more}
use Rattle.wf_stream.specs.Effects.{Rises}
use Rattle.wf_mail.specs.Inbox.{InboxState, IsBroken, pending_bytes}
use Rattle.wf_mail.proofs.Split.{joined_breaks, split_one_way}
use Rattle.wf_mail.specs.Stream.{Breaks}
use Rattle.wf_codec.specs.declared.fault.DecodeFault.{DecodeFault}
use Rattle.wf_link.specs.Arrival.{Arrives, HasArrived, HasTaken, came_out}
use Rattle.wf_link.specs.Cause.{BeginsNoMessage, IsCutOff, ComesOtherwise, EndsEarly, FailsFor, CrossesOrFails, BreaksArrival, IsAny, IsOneMessage, IsUnpassed, IsUnread}
use Rattle.wf_link.specs.declared.receiver.Arrival.{Arrival}

-- ---- outcomes

pub fails_weaker : {A B C D : Type 0} (fault : CarrierFault) → (A → C) → (B → D) → FailsFor fault A B → FailsFor fault C D
fails_weaker faults.Memory calm cause is = calm is
fails_weaker faults.Lost calm cause is = cause is

pub fares_weaker : {T A B C D : Type 0} (r : Result T CarrierFault) → (A → C) → (B → D) → CrossesOrFails r A B → CrossesOrFails r C D
fares_weaker (Ok x) calm cause is = calm is
fares_weaker (Err fault) calm cause is = fails_weaker fault calm cause is

-- of a call that fails by an allocation alone
pub fails_calm : {A : Type 0} (B : Type 0) (fault : CarrierFault) → fault ≡ faults.Memory → A → FailsFor fault A B
fails_calm B faults.Memory is calm = calm
fails_calm B faults.Lost is calm = absurd (cc)

-- of a call that fails by a loss alone
pub fares_lost : {T : Type 0} (A B : Type 0) (r : Result T CarrierFault) → A → IfErr r (λ fault. fault ≡ faults.Lost) → OnErr r B → CrossesOrFails r A B
fares_lost A B (Ok x) calm lost cause = calm
fares_lost A B (Err faults.Lost) calm lost cause = cause
fares_lost A B (Err faults.Memory) calm lost cause = absurd (cc)

pub never_lost : {T P : Type 0} (r : Result T CarrierFault) → IfErr r (λ fault. fault ≡ faults.Memory) → r ≡ Err faults.Lost → P
never_lost (Ok x) memory is = absurd (cc)
never_lost (Err fault) memory is = absurd (cc)

pub lost_for : {T : Type 0} (A B : Type 0) (r : Result T CarrierFault) → CrossesOrFails r A B → r ≡ Err faults.Lost → B
lost_for A B (Ok x) fares is = absurd (cc)
lost_for A B (Err faults.Lost) fares is = fares
lost_for A B (Err faults.Memory) fares is = absurd (cc)

pub on_lost : {T P : Type 0} (r : Result T CarrierFault) → OnErr r P → r ≡ Err faults.Lost → P
on_lost (Ok x) cause is = absurd (cc)
on_lost (Err fault) cause is = cause

-- ---- a piece

pub broken_piece : (piece : List ℕ) (before : Arrival) (fault : DecodeFault) (after : InboxState) → IsBroken before.inbox piece fault after → BreaksArrival piece before
unfolding BreaksArrival
broken_piece piece before fault after is = λ earlier had.
    let breaks = subst (λ (s : InboxState). IsBroken s piece fault after) had.keeps is in
    (fault, joined_breaks [] earlier piece (came_out before) had.rest fault had.reads breaks.0)

-- ---- a piece after those before

broken_later : (count : ℕ) (left between left_after : Option (List ℕ)) (before middle : Arrival) → Arrives count left between before middle → IsCutOff between left_after middle → IsCutOff left left_after before
unfolding BreaksArrival HasTaken
broken_later count left between left_after before middle arrives (bytes, consumed, broken) = (
  arrives.bytes ++ bytes,
  consumes_more left between left_after arrives.bytes bytes arrives.consumed consumed,
  λ earlier had.
      let late = broken (earlier ++ arrives.bytes) (arrives.taken earlier had) in
      (late.0, subst (λ (xs : List ℕ). Breaks xs late.0) (append_assoc earlier arrives.bytes bytes) late.1),
)

still_few : (xs ys : List ℕ) (count size all : ℕ) → count + size ≤ all → length xs ≡ count → length ys < size → length (xs ++ ys) < all
still_few xs ys count size all within is few =
    let sum : length (xs ++ ys) ≡ length xs + length ys = length-append xs ys in
    omega (arith, within, is, few, sum)

ended_later : (count size all : ℕ) (left between left_after : Option (List ℕ)) (before middle : Arrival) → count + size ≤ all → Arrives count left between before middle → EndsEarly size between left_after → EndsEarly all left left_after
ended_later count size all left between left_after before middle within arrives (bytes, few, consumed, end) = (
  arrives.bytes ++ bytes,
  still_few arrives.bytes bytes count size all within arrives.size few,
  consumes_more left between left_after arrives.bytes bytes arrives.consumed consumed,
  end,
)

pub unread_later : (count size all failures between_failures failures_after : ℕ) (left between left_after : Option (List ℕ)) (before middle : Arrival) → count + size ≤ all → between_failures ≡ failures
    → Arrives count left between before middle → IsUnread size between_failures failures_after between left_after middle → IsUnread all failures failures_after left left_after before
unread_later count size all failures between_failures failures_after left between left_after before middle within same arrives (inl rises) = inl (subst (λ n. Rises n failures_after) same rises)
unread_later count size all failures between_failures failures_after left between left_after before middle within same arrives (inr (inl end)) =
    inr (inl (ended_later count size all left between left_after before middle within arrives end))
unread_later count size all failures between_failures failures_after left between left_after before middle within same arrives (inr (inr breaks)) = inr (inr (broken_later count left between left_after before middle arrives breaks))

unpassed_later : (count size all writes between_writes writes_after failures between_failures failures_after : ℕ) (left between left_after : Option (List ℕ)) (before middle : Arrival) → count + size ≤ all → between_writes ≡ writes
    → between_failures ≡ failures → Arrives count left between before middle → IsUnpassed size between_writes writes_after between_failures failures_after between left_after middle
    → IsUnpassed all writes writes_after failures failures_after left left_after before
unpassed_later count size all writes between_writes writes_after failures between_failures failures_after left between left_after before middle within calm same arrives (inl rises) = inl (subst (λ n. Rises n writes_after) calm rises)
unpassed_later count size all writes between_writes writes_after failures between_failures failures_after left between left_after before middle within calm same arrives (inr unread) =
    inr (unread_later count size all failures between_failures failures_after left between left_after before middle within same arrives unread)

-- the failure of a piece, told of all bytes
pub piece_fails : (fault : CarrierFault) (count size all writes between_writes writes_after failures between_failures failures_after : ℕ) (left between left_after : Option (List ℕ)) (before middle : Arrival) → count + size ≤ all
    → (between_writes ≡ writes) × (between_failures ≡ failures) → Arrives count left between before middle
    → FailsFor fault ((writes_after ≡ between_writes) × (failures_after ≡ between_failures)) (IsUnpassed size between_writes writes_after between_failures failures_after between left_after middle)
    → FailsFor fault ((writes_after ≡ writes) × (failures_after ≡ failures)) (IsUnpassed all writes writes_after failures failures_after left left_after before)
piece_fails faults.Memory count size all writes between_writes writes_after failures between_failures failures_after left between left_after before middle within calm arrives is = (is.0 ∙ calm.0, is.1 ∙ calm.1)
piece_fails faults.Lost count size all writes between_writes writes_after failures between_failures failures_after left between left_after before middle within calm arrives is =
    unpassed_later count size all writes between_writes writes_after failures between_failures failures_after left between left_after before middle within calm.0 calm.1 arrives is

-- the first bytes of all
pub lost_first : (size writes writes_after failures failures_after : ℕ) (left left_after : Option (List ℕ)) (fresh : Arrival) → HasArrived [] fresh → IsUnpassed size writes writes_after failures failures_after left left_after fresh
    → Rises writes writes_after ⊎ (Rises failures failures_after ⊎ (EndsEarly size left left_after ⊎ ComesOtherwise size IsAny left left_after))
unfolding BreaksArrival
lost_first size writes writes_after failures failures_after left left_after fresh nothing (inl rises) = inl rises
lost_first size writes writes_after failures failures_after left left_after fresh nothing (inr (inl rises)) = inr (inl rises)
lost_first size writes writes_after failures failures_after left left_after fresh nothing (inr (inr (inl end))) = inr (inr (inl end))
lost_first size writes writes_after failures failures_after left left_after fresh nothing (inr (inr (inr (bytes, consumed, broken)))) = inr (inr (inr (bytes, consumed, inl (broken [] nothing))))

-- ---- bytes that are something else

-- of as many bytes more is known
pub lost_more : {A B : Type 0} (size other : ℕ) (is : List ℕ → Type 0) (left left_after : Option (List ℕ)) → size ≡ other → A ⊎ (B ⊎ (EndsEarly size left left_after ⊎ ComesOtherwise size IsAny left left_after))
    → A ⊎ (B ⊎ (EndsEarly other left left_after ⊎ ComesOtherwise other is left left_after))
lost_more size other is left left_after same (inl a) = inl a
lost_more size other is left left_after same (inr (inl b)) = inr (inl b)
lost_more size other is left left_after same (inr (inr (inl (bytes, few, consumed, end)))) = inr (inr (inl (bytes, subst (λ n. length bytes < n) same few, consumed, end)))
lost_more size other is left left_after same (inr (inr (inr (bytes, consumed, inl wrong)))) = inr (inr (inr (bytes, consumed, inl wrong)))
lost_more size other is left left_after same (inr (inr (inr (bytes, consumed, inr (long, none))))) = absurd (none tt)

-- of one message one arrived, and nothing is kept behind it
pub one_received : (bytes : List ℕ) (arrival : Arrival) → HasArrived bytes arrival → IsOneMessage bytes → (length arrival.messages.items ≡ 1) × (pending_bytes arrival.inbox ≡ 0)
one_received bytes arrival had (message, reads) =
    let both = split_one_way bytes (came_out arrival) (message ∷ []) had.rest [] had.reads reads in
    (sym (length-map arrival.messages.items view) ∙ ap length both.0, ap pending_bytes had.keeps ∙ ap length both.1)

pub none_received : (bytes : List ℕ) (arrival : Arrival) → HasArrived bytes arrival → BeginsNoMessage bytes → length arrival.messages.items ≡ 0
none_received bytes arrival had (rest, reads) =
    let both = split_one_way bytes (came_out arrival) [] had.rest rest had.reads reads in
    sym (length-map arrival.messages.items view) ∙ ap length both.0
