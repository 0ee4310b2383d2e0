-- The durable state in memory is the fold of the node's records.
use Rattle.std.proofs.Common.{◌≡◌, ℕ, ◌+◌, nat_eq, nat_le, nat_lt, Bool, true, false, List, length, Option, Some, None, Result, Ok, Err, IfOk, IsOk, OnOk, OnErr, IfSome, option_map, if◌then◌else◌, [], ◌∷◌, refl, sym, ap, ◌∙◌, subst, arith, eqb-true}
use Rattle.std.proofs.lemmas.Bool.{false≢true}
use Rattle.std.specs.Prelude.{⊤}
use Rattle.wf_ballot.specs.Ballot.{Ballot}
use Rattle.wf_def.specs.Definition.{Definition}
use Rattle.wf_model.specs.Message as message
use Rattle.wf_model.specs.Message.{Vote}
use Rattle.wf_model.specs.DurableState as model
use Rattle.wf_model.specs.DurableState.{DurableState, published, next_sequence, put, raised, with_record, fits}
use Rattle.wf_model.specs.VolatileState.{VolatileState, at_start}
use Rattle.wf_model.specs.Table.{Transition, store, on_prepare, prepare_open, promise_to, on_accept, accept_open, vote_for, reports, nack, only_sends, quiet, stores, is_above, is_rejected, votes_at}
use Rattle.wf_journal.specs.Record.{view}
use Rattle.wf_journal.specs.declared.record.Record.{Record}
use Rattle.wf_journal.specs.declared.record.Record.TheVariants.{Tried, Promised, Accepted, Published}
use Rattle.wf_acceptor.specs.Acceptor as acceptor
use Rattle.wf_acceptor.specs.Acceptor.{Part, ActsFor, Applies, IsNextSlot}
use Rattle.wf_acceptor.specs.AcceptorAnswer as answers
use Rattle.wf_acceptor.specs.AcceptorAnswer.{AnswersAlways}
use Rattle.wf_acceptor.specs.declared.acceptor.AcceptorAnswer.{AcceptorAnswer}
use Rattle.wf_node.specs.Parts.{Parts, stored_of}
use Rattle.wf_node.specs.DurablePart.{IsTransitionAnswer, Stores, IsRoomFor, tried_after, definitions_after}

-- the durable state, of a tried round, an acceptor's part and a history
abbrev pub parts_of : ℕ → Part → List Definition → Parts
parts_of tried part definitions = record { tried = tried; promise = part.promise; votes = part.votes; history = definitions }

-- The acceptor's part agrees with the durable state.
pub acts_for_persistent : (tried : ℕ) (part : Part) (definitions : List Definition) → part.published ≡ length definitions → ActsFor part (stored_of (parts_of tried part definitions))
unfolding published
acts_for_persistent tried part definitions as_many = record { promise = refl; votes = refl; published = sym as_many }

-- A stored state with which the acceptor's part agrees, and with the same tried round and history,
-- is the durable state.
pub persistent_is : (tried : ℕ) (part : Part) (definitions : List Definition) (stored : DurableState Definition) → tried ≡ stored.tried → ActsFor part stored → definitions ≡ stored.history →
    stored_of (parts_of tried part definitions) ≡ stored
persistent_is tried part definitions stored same_tried acts same_history =
    λ i. record { tried = same_tried i; promise = sym acts.promise i; votes = sym acts.votes i; history = same_history i }

-- Equal rounds, parts and histories are equal durable states.
pub same_persistent : (tried other_tried : ℕ) (part other : Part) (definitions others : List Definition) → tried ≡ other_tried → part ≡ other → definitions ≡ others →
    stored_of (parts_of tried part definitions) ≡ stored_of (parts_of other_tried other others)
same_persistent tried other_tried part other definitions others rounds parts histories = λ i. stored_of (parts_of (rounds i) (parts i) (histories i))

-- ---- applying a record

-- Only a tried round's record changes the round.
tried_is : (stored : DurableState Definition) (r : Record) → tried_after stored.tried r ≡ (with_record stored (view r)).tried
unfolding with_record
tried_is stored (Tried round) = refl
tried_is stored (Promised s b) = refl
tried_is stored (Accepted s b d) =
    let vote : Vote Definition = record { ballot = b; definition = d } in
    elim (nat_lt (published stored) s) as (λ v.
    stored.tried ≡ (if v then record stored { promise = raised stored.promise b; votes = put stored.votes s (Some vote) } else stored).tried) [ true ↦ refl | false ↦ refl ]
tried_is stored (Published s d) = refl

-- Only a published definition's record adds to the history.
history_is : (stored : DurableState Definition) (r : Record) → fits stored (view r) ≡ true → definitions_after stored.history r ≡ (with_record stored (view r)).history
unfolding with_record fits next_sequence published
history_is stored (Tried round) fit = refl
history_is stored (Promised s b) fit = refl
history_is stored (Accepted s b d) fit =
    let vote : Vote Definition = record { ballot = b; definition = d } in
    elim (nat_lt (published stored) s) as (λ v.
    stored.history ≡ (if v then record stored { promise = raised stored.promise b; votes = put stored.votes s (Some vote) } else stored).history) [ true ↦ refl | false ↦ refl ]
history_is stored (Published s d) fit = rw fit refl

-- whether a published definition is the next one
pub fits_in_turn : (stored : DurableState Definition) (r : Record) (s n number : ℕ) (d : Definition) → r ≡ Published s d → number ≡ s → n ≡ length stored.history → nat_eq number (n + 1) ≡ fits stored (view r)
unfolding fits next_sequence published
fits_in_turn stored r s n number d is same_number as_many = rw (is, same_number, as_many) refl

-- A record that fits is one that the acceptor may apply.
pub next_where_fits : (tried : ℕ) (part : Part) (definitions : List Definition) (r : Record) → part.published ≡ length definitions →
    fits (stored_of (parts_of tried part definitions)) (view r) ≡ true → IsNextSlot part r
unfolding fits next_sequence published
next_where_fits tried part definitions (Tried round) as_many fit = tt
next_where_fits tried part definitions (Promised s b) as_many fit = tt
next_where_fits tried part definitions (Accepted s b d) as_many fit = tt
next_where_fits tried part definitions (Published s d) as_many fit = omega (arith, eqb-true s (length definitions + 1) fit)

-- The acceptor after the record agrees with the state after it.
acts_after : (tried : ℕ) (old new : Part) (definitions : List Definition) (r : Record) → old.published ≡ length definitions → Applies old new (view r) →
    ActsFor new (with_record (stored_of (parts_of tried old definitions)) (view r))
acts_after tried old new definitions r as_many applies = applies (stored_of (parts_of tried old definitions)) (acts_for_persistent tried old definitions as_many)

-- so the durable state after it is the fold's
pub applied : (tried new_tried : ℕ) (old new : Part) (definitions new_definitions : List Definition) (r : Record) → old.published ≡ length definitions →
    fits (stored_of (parts_of tried old definitions)) (view r) ≡ true → Applies old new (view r) → new_tried ≡ tried_after tried r → new_definitions ≡ definitions_after definitions r →
    stored_of (parts_of new_tried new new_definitions) ≡ with_record (stored_of (parts_of tried old definitions)) (view r)
applied tried new_tried old new definitions new_definitions r as_many fit applies is_tried are_definitions =
    let stored : DurableState Definition = stored_of (parts_of tried old definitions) in
    persistent_is new_tried new new_definitions (with_record stored (view r)) (is_tried ∙ tried_is stored r) (acts_after tried old new definitions r as_many applies)
    (are_definitions ∙ history_is stored r fit)

-- and the acceptor has the number of definitions published then
pub as_many_after : (tried : ℕ) (old new : Part) (definitions new_definitions : List Definition) (r : Record) → old.published ≡ length definitions →
    fits (stored_of (parts_of tried old definitions)) (view r) ≡ true → Applies old new (view r) → new_definitions ≡ definitions_after definitions r →
    new.published ≡ length new_definitions
unfolding published
as_many_after tried old new definitions new_definitions r as_many fit applies are_definitions =
    let stored : DurableState Definition = stored_of (parts_of tried old definitions) in
    sym ((acts_after tried old new definitions r as_many applies).published) ∙ ap (λ (ds : List Definition). length ds) (sym (are_definitions ∙ history_is stored r fit))

-- If there is room for the record, there is room in the acceptor.
pub room_in_acceptor : (a : acceptor.Acceptor) (has_room : Bool) (r : Record) → IsRoomFor a.prepared has_room r → acceptor.HasRoomFor a r
room_in_acceptor a has_room (Tried round) room = tt
room_in_acceptor a has_room (Promised s b) room = tt
room_in_acceptor a has_room (Accepted s b d) room = room
room_in_acceptor a has_room (Published s d) room = tt

-- A record for which there is room is applied, and the node's durable state includes it.
pub applied_entry : {A E : Type 0} (result : Result A E) (stored new : DurableState Definition) (entry : Option Record) (r : Record) → entry ≡ Some r → IsOk result →
    OnOk result (new ≡ with_record stored (view r)) → new ≡ store stored (option_map view entry)
unfolding store
applied_entry (Ok x) stored new entry r is ok done = done ∙ sym (ap (λ (o : Option Record). store stored (option_map view o)) is)
applied_entry (Err e) stored new entry r is ok done = absurd (false≢true ok)

pub nothing_applied : (stored : DurableState Definition) (entry : Option Record) → entry ≡ None → stored ≡ store stored (option_map view entry)
unfolding store
nothing_applied stored entry none = sym (ap (λ (o : Option Record). store stored (option_map view o)) none)

-- ---- answers

pub transition_if_ok : {E : Type 0} (tried : ℕ) (part : Part) (definitions : List Definition) (transition : DurableState Definition → VolatileState Definition → Transition Definition) (result : Result AcceptorAnswer E) →
    part.published ≡ length definitions → IfOk result (AnswersAlways part transition) → IfOk result (IsTransitionAnswer (transition (stored_of (parts_of tried part definitions))))
transition_if_ok tried part definitions transition (Ok answer) as_many answers_ = λ volatile. answers_ (stored_of (parts_of tried part definitions)) volatile (acts_for_persistent tried part definitions as_many)
transition_if_ok tried part definitions transition (Err e) as_many answers_ = tt

pub stores_if_err : {A E : Type 0} (tried : ℕ) (part : Part) (definitions : List Definition) (transition : DurableState Definition → VolatileState Definition → Transition Definition) (result : Result A E) →
    part.published ≡ length definitions → OnErr result (answers.Stores part transition) → OnErr result (Stores (transition (stored_of (parts_of tried part definitions))))
stores_if_err tried part definitions transition (Ok x) as_many stores_ = tt
stores_if_err tried part definitions transition (Err e) as_many stores_ = λ volatile. stores_ (stored_of (parts_of tried part definitions)) volatile (acts_for_persistent tried part definitions as_many)

-- An acceptor publishes nothing.
abbrev PublishesNothing : Option (model.Record Definition) → Type 0
PublishesNothing None = ⊤
PublishesNothing (Some (model.Tried round)) = ⊤
PublishesNothing (Some (model.Promised s b)) = ⊤
PublishesNothing (Some (model.Accepted s b d)) = ⊤
PublishesNothing (Some (model.Published s d)) = ⊥

prepare_open_publishes_nothing : (me : ℕ) (stored : DurableState Definition) (volatile : VolatileState Definition) (s : ℕ) (b : Ballot) (promise : Option Ballot) →
    PublishesNothing (prepare_open me stored volatile s b promise).entry
unfolding prepare_open promise_to stores only_sends quiet
prepare_open_publishes_nothing me stored volatile s b promise =
    elim (is_above promise b) as (λ v.
    PublishesNothing (if v then promise_to me stored volatile s b else (if is_rejected promise b then only_sends volatile (nack me s b promise) else quiet volatile)).entry) [
      | true ↦ tt
      | false ↦ elim (is_rejected promise b) as (λ v. PublishesNothing (if v then only_sends volatile (nack me s b promise) else quiet volatile).entry) [ true ↦ tt | false ↦ tt ]
    ]

pub prepare_publishes_nothing : (me : ℕ) (stored : DurableState Definition) (s : ℕ) (b : Ballot) (volatile : VolatileState Definition) → PublishesNothing (on_prepare me stored volatile s b).entry
unfolding on_prepare only_sends
prepare_publishes_nothing me stored s b volatile =
    elim (nat_le s (published stored)) as (λ v. PublishesNothing (if v then only_sends volatile (reports stored.history s) else prepare_open me stored volatile s b stored.promise).entry) [
      | true ↦ tt
      | false ↦ prepare_open_publishes_nothing me stored volatile s b stored.promise
    ]

vote_publishes_nothing : (me : ℕ) (stored : DurableState Definition) (volatile : VolatileState Definition) (s : ℕ) (b : Ballot) (d : Definition) → PublishesNothing (vote_for me stored volatile s b d).entry
unfolding vote_for stores only_sends
vote_publishes_nothing me stored volatile s b d =
    elim (votes_at (stored.votes s) b) as (λ v.
    PublishesNothing (if v then only_sends volatile (message.Accepted me s b ∷ []) else stores volatile (model.Accepted s b d) (message.Accepted me s b)).entry) [ true ↦ tt | false ↦ tt ]

accept_open_publishes_nothing : (me : ℕ) (stored : DurableState Definition) (volatile : VolatileState Definition) (s : ℕ) (b : Ballot) (d : Definition) (promise : Option Ballot) →
    PublishesNothing (accept_open me stored volatile s b d promise).entry
unfolding accept_open only_sends
accept_open_publishes_nothing me stored volatile s b d promise =
    elim (is_rejected promise b) as (λ v. PublishesNothing (if v then only_sends volatile (nack me s b promise) else vote_for me stored volatile s b d).entry) [
      | true ↦ tt
      | false ↦ vote_publishes_nothing me stored volatile s b d
    ]

pub accept_publishes_nothing : (me : ℕ) (stored : DurableState Definition) (s : ℕ) (b : Ballot) (d : Definition) (volatile : VolatileState Definition) →
    PublishesNothing (on_accept me stored volatile s b d).entry
unfolding on_accept only_sends
accept_publishes_nothing me stored s b d volatile =
    elim (nat_le s (published stored)) as (λ v.
    PublishesNothing (if v then only_sends volatile (reports stored.history s) else accept_open me stored volatile s b d stored.promise).entry) [
      | true ↦ tt
      | false ↦ accept_open_publishes_nothing me stored volatile s b d stored.promise
    ]

-- So if the acceptor has room for an answer's record, there is room for it.
entry_has_room : (a : acceptor.Acceptor) (has_room : Bool) (entry : Option Record) → PublishesNothing (option_map view entry) → IfSome entry (acceptor.HasRoomFor a) →
    IfSome entry (IsRoomFor a.prepared has_room)
entry_has_room a has_room None nothing room = tt
entry_has_room a has_room (Some (Tried round)) nothing room = tt
entry_has_room a has_room (Some (Promised s b)) nothing room = tt
entry_has_room a has_room (Some (Accepted s b d)) nothing room = room
entry_has_room a has_room (Some (Published s d)) nothing room = absurd nothing

pub room_if_ok : {E : Type 0} (a : acceptor.Acceptor) (has_room : Bool) (transition : VolatileState Definition → Transition Definition) (result : Result AcceptorAnswer E) →
    ((volatile : VolatileState Definition) → PublishesNothing (transition volatile).entry) → IfOk result (IsTransitionAnswer transition) → IfOk result (λ answer. IfSome answer.entry (acceptor.HasRoomFor a)) →
    IfOk result (λ answer. IfSome answer.entry (IsRoomFor a.prepared has_room))
room_if_ok a has_room transition (Ok answer) nothing is_transition room =
    let same = ap (λ (r : Transition Definition). r.entry) (is_transition at_start) in
    entry_has_room a has_room answer.entry (subst (λ (entry : Option (model.Record Definition)). PublishesNothing entry) (sym same) (nothing at_start)) room
room_if_ok a has_room transition (Err e) nothing is_transition room = tt
