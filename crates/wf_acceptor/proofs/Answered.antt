-- The transitions of the step table, in terms of an acceptor's part of the node.
use Rattle.std.proofs.Common.{◌≡◌, ℕ, List, ◌<◌, true, false, nat_le, Option, Some, None, option_map, IsSome, Result, Ok, Err, IfOk, OnErr, refl, sym, ◌∙◌, ap, subst}
use Rattle.std.specs.Option.{option_to_list}
use Rattle.std.proofs.lemmas.Bool.{lt-leb}
use Rattle.wf_ballot.specs.Ballot.{Ballot}
use Rattle.wf_model.specs.Message as model
use Rattle.wf_model.specs.Message.{Vote}
use Rattle.wf_model.specs.DurableState as stored_part
use Rattle.wf_model.specs.DurableState.{DurableState, published}
use Rattle.wf_model.specs.VolatileState.{VolatileState, window}
use Rattle.wf_model.specs.Table.{Transition, only_sends, stores, quiet, is_above, is_rejected, nack, on_prepare, prepare_open, promise_to, on_accept, accept_open, vote_for, votes_at, votes_from}
use Rattle.wf_def.specs.Definition.{Definition}
use Rattle.wf_codec.specs.Message.{view}
use Rattle.wf_codec.specs.declared.message.Message.TheVariants.{Accepted, Nack}
use Rattle.wf_acceptor.specs.Acceptor.{Part, ActsFor, votes_of}
use Rattle.wf_acceptor.specs.Prepared.{nack_of, promising, replying, voting}
use Rattle.wf_acceptor.specs.AcceptorAnswer.{accept_transition, prepare_transition, AnswersAlways, Stores}
use Rattle.wf_acceptor.specs.declared.acceptor.AcceptorAnswer.{AcceptorAnswer}
use Rattle.wf_acceptor.proofs.Reported.{as_reported}

nack-as : (part : Part) (s : ℕ) (b : Ballot) → option_to_list (option_map view (nack_of part s b)) ≡ nack part.id s b part.promise
nack-as part s b =
    elim part.promise as (λ promise. option_to_list (option_map view (option_map (λ promise. Nack part.id s b promise) promise)) ≡ nack part.id s b promise) [
      | None ↦ refl
      | Some promise ↦ refl
    ]

-- Above the published definitions the part's promise determines the transition.
prepare_by_promise : (part : Part) (stored : DurableState Definition) (volatile : VolatileState Definition) (s : ℕ) (b : Ballot) → ActsFor part stored → part.published < s →
    prepare_transition part s b stored volatile ≡ prepare_open part.id stored volatile s b part.promise
unfolding on_prepare
prepare_by_promise part stored volatile s b acts above =
    let open_ : nat_le s (published stored) ≡ false = rw acts.published (lt-leb s part.published above) in
    rw open_ (ap (λ promise. prepare_open part.id stored volatile s b promise) acts.promise)

accept_by_promise : (part : Part) (stored : DurableState Definition) (volatile : VolatileState Definition) (s : ℕ) (b : Ballot) (d : Definition) → ActsFor part stored → part.published < s →
    accept_transition part s b d stored volatile ≡ accept_open part.id stored volatile s b d part.promise
unfolding on_accept
accept_by_promise part stored volatile s b d acts above =
    let open_ : nat_le s (published stored) ≡ false = rw acts.published (lt-leb s part.published above) in
    rw open_ (ap (λ promise. accept_open part.id stored volatile s b d promise) acts.promise)

-- A ballot above the promise is promised, and the votes are reported.
prepare_promises : (part : Part) (stored : DurableState Definition) (volatile : VolatileState Definition) (s : ℕ) (b : Ballot) → ActsFor part stored → part.published < s →
    is_above part.promise b ≡ true →
    prepare_transition part s b stored volatile ≡ stores volatile (stored_part.Promised s b) (model.Promise part.id s b (votes_from (votes_of part) s window))
unfolding prepare_open promise_to
prepare_promises part stored volatile s b acts open_ high =
    prepare_by_promise part stored volatile s b acts open_ ∙ rw high
    (ap (λ (f : ℕ → Option (Vote Definition)). stores volatile (stored_part.Promised s b) (model.Promise part.id s b (votes_from f s window))) acts.votes)

-- A ballot that isn't below the promise gets a vote, unless it has one.
accept_votes : (part : Part) (stored : DurableState Definition) (volatile : VolatileState Definition) (s : ℕ) (b : Ballot) (d : Definition) → ActsFor part stored → part.published < s →
    is_rejected part.promise b ≡ false → votes_at (votes_of part s) b ≡ false →
    accept_transition part s b d stored volatile ≡ stores volatile (stored_part.Accepted s b d) (model.Accepted part.id s b)
unfolding accept_open vote_for
accept_votes part stored volatile s b d acts open_ high voted =
    let here : votes_at (stored.votes s) b ≡ false = ap (λ (f : ℕ → Option (Vote Definition)). votes_at (f s) b) acts.votes ∙ voted in
    accept_by_promise part stored volatile s b d acts open_ ∙ rw (high, here)

-- ---- the answers are the transitions

pub promising_answers : (part : Part) (s : ℕ) (b : Ballot) → part.published < s → is_above part.promise b ≡ true →
    AnswersAlways part (prepare_transition part s b) (promising part s b)
unfolding stores
promising_answers part s b open_ high stored volatile acts =
    ap (λ (votes : List (Option (Vote Definition))). stores volatile (stored_part.Promised s b) (model.Promise part.id s b votes)) (as_reported part.votes s window)
    ∙ sym (prepare_promises part stored volatile s b acts open_ high)

pub step_rejection_answers : (part : Part) (s : ℕ) (b : Ballot) → part.published < s → is_above part.promise b ≡ false → is_rejected part.promise b ≡ true →
    AnswersAlways part (prepare_transition part s b) (replying (nack_of part s b))
unfolding prepare_open only_sends
step_rejection_answers part s b open_ high low stored volatile acts =
    rw (nack-as part s b) (sym (prepare_by_promise part stored volatile s b acts open_ ∙ rw (high, low)))

pub silence_answers : (part : Part) (s : ℕ) (b : Ballot) → part.published < s → is_above part.promise b ≡ false → is_rejected part.promise b ≡ false →
    AnswersAlways part (prepare_transition part s b) (replying None)
unfolding prepare_open quiet
silence_answers part s b open_ high low stored volatile acts = sym (prepare_by_promise part stored volatile s b acts open_ ∙ rw (high, low))

pub nack_answers : (part : Part) (s : ℕ) (b : Ballot) (d : Definition) → part.published < s → is_rejected part.promise b ≡ true →
    AnswersAlways part (accept_transition part s b d) (replying (nack_of part s b))
unfolding accept_open only_sends
nack_answers part s b d open_ low stored volatile acts =
    rw (nack-as part s b) (sym (accept_by_promise part stored volatile s b d acts open_ ∙ rw low))

pub again_answers : (part : Part) (s : ℕ) (b : Ballot) (d : Definition) → part.published < s → is_rejected part.promise b ≡ false → votes_at (votes_of part s) b ≡ true →
    AnswersAlways part (accept_transition part s b d) (replying (Some (Accepted part.id s b)))
unfolding accept_open vote_for only_sends
again_answers part s b d open_ high voted stored volatile acts =
    let here : votes_at (stored.votes s) b ≡ true = ap (λ (f : ℕ → Option (Vote Definition)). votes_at (f s) b) acts.votes ∙ voted in
    sym (accept_by_promise part stored volatile s b d acts open_ ∙ rw (high, here))

pub voting_answers : (part : Part) (s : ℕ) (b : Ballot) (d : Definition) → part.published < s → is_rejected part.promise b ≡ false → votes_at (votes_of part s) b ≡ false →
    AnswersAlways part (accept_transition part s b d) (voting part s b d)
unfolding stores
voting_answers part s b d open_ high voted stored volatile acts = sym (accept_votes part stored volatile s b d acts open_ high voted)

-- ---- transitions that store a record

stores_some : (transition : Transition Definition) (volatile : VolatileState Definition) (r : stored_part.Record Definition) (m : model.Message Definition) → transition ≡ stores volatile r m → IsSome transition.entry
unfolding stores
stores_some transition volatile r m is = subst (λ (x : Transition Definition). IsSome x.entry) (sym is) refl

pub promising_stores : (part : Part) (s : ℕ) (b : Ballot) → part.published < s → is_above part.promise b ≡ true → Stores part (prepare_transition part s b)
promising_stores part s b open_ high stored volatile acts =
    stores_some (prepare_transition part s b stored volatile) volatile (stored_part.Promised s b) (model.Promise part.id s b (votes_from (votes_of part) s window))
    (prepare_promises part stored volatile s b acts open_ high)

pub voting_stores : (part : Part) (s : ℕ) (b : Ballot) (d : Definition) → part.published < s → is_rejected part.promise b ≡ false → votes_at (votes_of part s) b ≡ false →
    Stores part (accept_transition part s b d)
voting_stores part s b d open_ high voted stored volatile acts =
    stores_some (accept_transition part s b d stored volatile) volatile (stored_part.Accepted s b d) (model.Accepted part.id s b)
    (accept_votes part stored volatile s b d acts open_ high voted)

-- ---- the same for a call's result

-- an answer that is equal to one that is the transition
pub answers_as : (part : Part) (transition : DurableState Definition → VolatileState Definition → Transition Definition) (given wanted : AcceptorAnswer) → given ≡ wanted → AnswersAlways part transition wanted → AnswersAlways part transition given
answers_as part transition given wanted is answers = subst (λ (x : AcceptorAnswer). AnswersAlways part transition x) (sym is) answers

pub answers_if_ok : {E : Type 0} (part : Part) (transition : DurableState Definition → VolatileState Definition → Transition Definition) (wanted : AcceptorAnswer) (r : Result AcceptorAnswer E) →
    IfOk r (λ answer. answer ≡ wanted) → AnswersAlways part transition wanted → IfOk r (AnswersAlways part transition)
answers_if_ok part transition wanted (Ok given) is answers = answers_as part transition given wanted is answers
answers_if_ok part transition wanted (Err e) is answers = tt

pub stores_if_err : {T E : Type 0} (r : Result T E) (fact : Type 0) → fact → OnErr r fact
stores_if_err (Ok x) fact holds = tt
stores_if_err (Err e) fact holds = holds
