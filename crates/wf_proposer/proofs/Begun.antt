-- The beginning of a proposal is the table's: with a leadership, in a new round, and for a retry.
use Rattle.std.proofs.Common.{◌≡◌, ℕ, ◌+◌, max, Bool, true, false, if◌then◌else◌, [], ◌∷◌, Option, Some, None, Result, Ok, Err, IfOk, ap, sym, subst, ◌∙◌}
use Rattle.wf_ballot.specs.Ballot.{Ballot}
use Rattle.wf_def.specs.Definition.{Definition}
use Rattle.wf_model.specs.Fits.{IsForNext}
use Rattle.wf_model.specs.DurableState.{HasStored, DurableState, next_sequence}
use Rattle.wf_model.specs.Message.{Prepare, Accept, from_sequence, vote_of}
use Rattle.wf_model.specs.DurableState as stored_part
use Rattle.wf_model.specs.Table.{Transition, StepRejection, begin_at, stores, only_sends, ask_votes, lead, propose_by, on_propose, on_retry, running_transition, round_known, rounds_full, reject_round}
use Rattle.wf_model.specs.VolatileState as model
use Rattle.wf_model.specs.VolatileState.{leading_at, is_in_window, nobody, proposed, carried}
use Rattle.wf_proposer.specs.Next.{Next, begun, led, transition_at}
use Rattle.wf_proposer.specs.StepRejection.{rejected_by, IsWhyStepRejected}
use Rattle.wf_proposer.specs.VolatileState.{leadership_of, leading_of, proposing_of, volatile_from}
use Rattle.wf_proposer.specs.declared.proposal.Proposal.{Proposal}
use Rattle.wf_proposer.specs.declared.step_rejection.StepRejection as held
use Rattle.wf_proposer.specs.declared.volatile.Leadership.{Leadership}
use Rattle.wf_proposer.specs.declared.volatile.Proposing.{Proposing}
use Rattle.wf_proposer.specs.declared.volatile.Proposing.TheVariants.{Running}
use Rattle.wf_proposer.specs.declared.volatile.Phase.{Phase}
use Rattle.wf_proposer.specs.declared.volatile.Phase.TheVariants.{Accepting}
use Rattle.wf_proposer.proofs.ResponderSets.{among-nobody}

abbrev Leading : Type 0
Leading = Option (model.Leadership Definition)

-- ---- the next sequence

after_published : (slot tried sequence : ℕ) (stored : DurableState Definition) → HasStored stored tried sequence → slot ≡ sequence + 1 → slot ≡ next_sequence stored
unfolding next_sequence
after_published slot tried sequence stored has after = after ∙ ap (λ p. p + 1) (sym has.up_to)

-- ---- in a new round

-- the beginning of a proposal, with these nodes as those whose answers are counted
abbrev begun_with : ℕ → Definition → Ballot → (ℕ → Bool) → Transition Definition
begun_with s own ballot responders =
    stores (record {
      proposing = model.Running (record {
        sequence = s;
        ballot = ballot;
        own = own;
        phase = model.Preparing;
        responders = responders;
        best = [];
        seen = 0;
      });
      leadership = None;
    })
    (stored_part.Tried ballot.round) (Prepare s ballot)

begun-transition : (o : Option Leadership) (q : Proposing) (me slot round : ℕ) (own : Definition) (stored : DurableState Definition) → slot ≡ next_sequence stored →
    transition_at o q (begun slot own (record { round = round; node = me })) ≡ begin_at me stored own round
unfolding begin_at stores
begun-transition o q me slot round own stored for_next =
    let ballot : Ballot = record { round = round; node = me } in
    ap (λ (s : ℕ). transition_at o q (begun s own ballot)) for_next ∙ ap (begun_with (next_sequence stored) own ballot) among-nobody

-- the first attempt is for the sequence after the published ones, in the round after the one tried
first-transition : (next : Next) (o : Option Leadership) (q : Proposing) (me slot tried sequence : ℕ) (own : Definition) (stored : DurableState Definition) →
    HasStored stored tried sequence → slot ≡ sequence + 1 → None ≡ leading_at (leading_of o) slot →
    next ≡ begun slot own (record { round = tried + 1; node = me }) →
    transition_at o q next ≡ on_propose me stored (volatile_from (leading_of o) q) own
unfolding on_propose propose_by
first-transition next o q me slot tried sequence own stored has after leads_not is =
    let for_next : slot ≡ next_sequence stored = after_published slot tried sequence stored has after in
    let none : None ≡ leading_at (leading_of o) (next_sequence stored) = leads_not ∙ ap (leading_at (leading_of o)) for_next in
    ap (transition_at o q) (is ∙ ap (λ (r : ℕ). begun slot own (record { round = r + 1; node = me })) (sym has.tried)) ∙
    begun-transition o q me slot (stored.tried + 1) own stored for_next ∙
    ap (λ (l : Leading). propose_by me stored l own) none

pub first_answer : (r : Result Next held.StepRejection) (o : Option Leadership) (q : Proposing) (me slot tried sequence : ℕ) (own : Definition) (stored : DurableState Definition) →
    HasStored stored tried sequence → slot ≡ sequence + 1 → None ≡ leading_at (leading_of o) slot →
    IfOk r (λ next. next ≡ begun slot own (record { round = tried + 1; node = me })) →
    IfOk r (λ next. transition_at o q next ≡ on_propose me stored (volatile_from (leading_of o) q) own)
first_answer (Ok next) o q me slot tried sequence own stored has after leads_not is = first-transition next o q me slot tried sequence own stored has after leads_not is
first_answer (Err e) o q me slot tried sequence own stored has after leads_not is = is

-- ---- with a leadership

-- the beginning of a leader's proposal under this leadership, with these nodes as those whose
-- answers are counted
abbrev led_with : model.Leadership Definition → ℕ → Definition → (ℕ → Bool) → Transition Definition
led_with l s own responders =
    ask_votes l (record {
      sequence = s;
      ballot = l.ballot;
      own = own;
      phase = model.Accepting;
      responders = responders;
      best = from_sequence l.base l.best s;
      seen = 0;
    })

inside : (l : model.Leadership Definition) (k : model.Leadership Definition) (b : Bool) → Some l ≡ (if b then Some k else None) → ◌≡◌ {A = Leading} (Some k) (Some l)
inside l k true e = sym e
inside l k false e = absurd cc

-- a leadership that covers the sequence is the one held
covering : (o : Leading) (s : ℕ) (l : model.Leadership Definition) → Some l ≡ leading_at o s → o ≡ Some l
unfolding leading_at
covering None s l e = absurd cc
covering (Some k) s l e = inside l k (is_in_window k.base s) e

-- its transition, if this is the leadership held
abbrev led_under : Leadership → ℕ → Definition → Leading → Transition Definition
led_under l slot own m =
    record {
      entry = None;
      messages = Accept slot l.ballot (carried (vote_of l.base l.best slot) own) ∷ [];
      volatile = volatile_from m (Running (record { slot = slot; ballot = l.ballot; own = own; responders = 0; seen = 0 }) Accepting);
    }

led-transition : (l : Leadership) (o : Option Leadership) (q : Proposing) (me slot : ℕ) (own : Definition) (stored : DurableState Definition) → slot ≡ next_sequence stored →
    Some (leadership_of l) ≡ leading_at (leading_of o) slot →
    transition_at o q (led l slot own) ≡ on_propose me stored (volatile_from (leading_of o) q) own
unfolding on_propose propose_by lead ask_votes only_sends proposed
led-transition l o q me slot own stored for_next leads =
    let held : leading_of o ≡ Some (leadership_of l) = covering (leading_of o) slot (leadership_of l) leads in
    let at_next : Some (leadership_of l) ≡ leading_at (leading_of o) (next_sequence stored) = leads ∙ ap (leading_at (leading_of o)) for_next in
    ap (led_under l slot own) held ∙
    ap (led_with (leadership_of l) slot own) among-nobody ∙
    ap (λ (s : ℕ). led_with (leadership_of l) s own nobody) for_next ∙
    ap (λ (m : Leading). propose_by me stored m own) at_next

pub led_answer : (r : Result Next held.StepRejection) (l : Leadership) (o : Option Leadership) (q : Proposing) (me slot tried sequence : ℕ) (own : Definition) (stored : DurableState Definition) →
    HasStored stored tried sequence → slot ≡ sequence + 1 → Some (leadership_of l) ≡ leading_at (leading_of o) slot →
    IfOk r (λ next. next ≡ led l slot own) → IfOk r (λ next. transition_at o q next ≡ on_propose me stored (volatile_from (leading_of o) q) own)
led_answer (Ok next) l o q me slot tried sequence own stored has after leads is =
    ap (transition_at o q) is ∙ led-transition l o q me slot own stored (after_published slot tried sequence stored has after) leads
led_answer (Err e) l o q me slot tried sequence own stored has after leads is = is

-- ---- rejections

pub led_rejected : (r : Result Next held.StepRejection) (o : Leading) (l : model.Leadership Definition) (slot tried sequence : ℕ) (stored : DurableState Definition) →
    HasStored stored tried sequence → slot ≡ sequence + 1 → Some l ≡ leading_at o slot → rejected_by r ≡ None → rejected_by r ≡ reject_round stored (leading_at o (next_sequence stored))
unfolding reject_round
led_rejected r o l slot tried sequence stored has after leads none =
    none ∙ ap (reject_round stored) (leads ∙ ap (leading_at o) (after_published slot tried sequence stored has after))

pub first_rejected : (r : Result Next held.StepRejection) (o : Leading) (slot tried sequence : ℕ) (stored : DurableState Definition) →
    HasStored stored tried sequence → slot ≡ sequence + 1 → None ≡ leading_at o slot → rejected_by r ≡ rounds_full tried → rejected_by r ≡ reject_round stored (leading_at o (next_sequence stored))
unfolding reject_round
first_rejected r o slot tried sequence stored has after leads_not full =
    full ∙ ap rounds_full (sym has.tried) ∙ ap (reject_round stored) (leads_not ∙ ap (leading_at o) (after_published slot tried sequence stored has after))

-- why a proposal would be rejected where none runs
pub led_allowed : (o : Leading) (l : model.Leadership Definition) (slot tried sequence : ℕ) (stored : DurableState Definition) →
    HasStored stored tried sequence → slot ≡ sequence + 1 → Some l ≡ leading_at o slot → IsWhyStepRejected (reject_round stored (leading_at o (next_sequence stored))) None
unfolding reject_round
led_allowed o l slot tried sequence stored has after leads =
    sym (ap (reject_round stored) (leads ∙ ap (leading_at o) (after_published slot tried sequence stored has after)))

pub first_why : (why : Option held.StepRejection) (o : Leading) (slot tried sequence : ℕ) (stored : DurableState Definition) →
    HasStored stored tried sequence → slot ≡ sequence + 1 → None ≡ leading_at o slot → IsWhyStepRejected (rounds_full tried) why → IsWhyStepRejected (reject_round stored (leading_at o (next_sequence stored))) why
unfolding reject_round
first_why why o slot tried sequence stored has after leads_not is =
    let full : rounds_full tried ≡ reject_round stored (leading_at o (next_sequence stored)) =
    ap rounds_full (sym has.tried) ∙ ap (reject_round stored) (leads_not ∙ ap (leading_at o) (after_published slot tried sequence stored has after)) in
    subst (λ (x : Option StepRejection). IsWhyStepRejected x why) full is

-- ---- a retry

-- a retry is for the same sequence, in the round after the highest one known
again-transition : (next : Next) (o : Option Leadership) (q : Proposing) (p : Proposal) (phase : Phase) (me tried : ℕ) (stored : DurableState Definition) →
    q ≡ Running p phase → stored.tried ≡ tried → p.slot ≡ next_sequence stored →
    next ≡ begun p.slot p.own (record { round = max tried p.seen + 1; node = me }) →
    transition_at o q next ≡ on_retry me stored (volatile_from (leading_of o) q)
unfolding on_retry round_known
again-transition next o q p phase me tried stored runs same for_next is =
    let W : model.VolatileState Definition = volatile_from (leading_of o) q in
    ap (transition_at o q) (is ∙ ap (λ (r : ℕ). begun p.slot p.own (record { round = max r p.seen + 1; node = me })) (sym same)) ∙
    begun-transition o q me p.slot (max stored.tried p.seen + 1) p.own stored for_next ∙
    ap (λ (x : Proposing). running_transition W (proposing_of (leading_of o) x) (λ proposal. begin_at me stored proposal.own (round_known stored proposal + 1))) (sym runs)

pub again_answer : (r : Result Next held.StepRejection) (o : Option Leadership) (q : Proposing) (p : Proposal) (phase : Phase) (me tried : ℕ) (stored : DurableState Definition) →
    q ≡ Running p phase → stored.tried ≡ tried → IsForNext stored (proposing_of (leading_of o) q) →
    IfOk r (λ next. next ≡ begun p.slot p.own (record { round = max tried p.seen + 1; node = me })) →
    IfOk r (λ next. transition_at o q next ≡ on_retry me stored (volatile_from (leading_of o) q))
again_answer (Ok next) o q p phase me tried stored runs same for_next is =
    again-transition next o q p phase me tried stored runs same (subst (λ (x : Proposing). IsForNext stored (proposing_of (leading_of o) x)) runs for_next) is
again_answer (Err e) o q p phase me tried stored runs same for_next is = is
