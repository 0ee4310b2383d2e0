-- The transitions of answers that a proposal counts: promises, votes and Nacks.
use Rattle.std.proofs.Common.{◌≡◌, ℕ, suc, max, Bool, true, false, ◌==◌, ◌&&◌, if◌then◌else◌, List, [], ◌∷◌, Option, Some, None, Result, Ok, Err, IfOk, IsErr, refl, ap, sym, subst, ◌∙◌, eq-eqb}
use Rattle.wf_ballot.specs.Ballot.{Ballot}
use Rattle.wf_ballot.specs.Majority.{count_nodes, is_majority_of}
use Rattle.wf_def.specs.Definition.{Definition}
use Rattle.wf_def.specs.Equality.{definition_eq}
use Rattle.wf_codec.specs.Message.{view_votes}
use Rattle.wf_codec.specs.Report.{Report}
use Rattle.wf_model.specs.Message as message
use Rattle.wf_model.specs.Message.{Vote, first_vote, from_sequence}
use Rattle.wf_model.specs.DurableState as stored_part
use Rattle.wf_model.specs.Table.{Transition, quiet, only_sends, stores, ask_votes, with_proposal, is_new_response, promised, with_promise, asking_votes, voted, with_vote, on_promise, on_accepted, on_nack, leadership_of, ended, ends, after_publishing}
use Rattle.wf_model.specs.VolatileState as model
use Rattle.wf_model.specs.VolatileState.{nobody, and_node, better_each, carried, proposed, same_ballot, is_at}
use Rattle.wf_proposer.specs.Responders.{among}
use Rattle.wf_proposer.specs.Next.{Next, transition_at, Sends, elect, ended_with, chosen_for, promised_by, voted_by, nacked_by}
use Rattle.wf_proposer.specs.Proposal.{proposal_of}
use Rattle.wf_proposer.specs.Proposer.{runs_for}
use Rattle.wf_proposer.specs.VolatileState.{best_of, leading_of, led_votes, phase_of, proposing_of, volatile_from}
use Rattle.wf_proposer.specs.declared.change.Change.TheVariants as change
use Rattle.wf_proposer.specs.declared.proposal.Proposal.{Proposal}
use Rattle.wf_proposer.specs.declared.step_rejection.StepRejection.{StepRejection}
use Rattle.wf_proposer.specs.declared.step_rejection.StepRejection.TheVariants.{Memory}
use Rattle.wf_proposer.specs.declared.volatile.Leadership.{Leadership}
use Rattle.wf_proposer.specs.declared.volatile.Proposing.{Proposing}
use Rattle.wf_proposer.specs.declared.volatile.Proposing.TheVariants.{Running}
use Rattle.wf_proposer.specs.declared.volatile.Phase.{Phase}
use Rattle.wf_proposer.specs.declared.volatile.Phase.TheVariants.{Preparing, Accepting}
use Rattle.wf_proposer.proofs.ResponderSets.{among-nobody}

abbrev Votes : Type 0
Votes = List (Option (Vote Definition))

-- ---- a choice of two

if_true : {A : Type 0} (b : Bool) (x y : A) → b ≡ true → (if b then x else y) ≡ x
if_true true x y e = refl
if_true false x y e = absurd cc

if_false : {A : Type 0} (b : Bool) (x y : A) → b ≡ false → (if b then x else y) ≡ y
if_false true x y e = absurd cc
if_false false x y e = refl

-- ---- how a proposal ends

-- its definition, or another's, is published at its slot
pub published_there : (o : Option (model.Leadership Definition)) (q : Proposing) (p : Proposal) (phase : Phase) (s : ℕ) (d : Definition) → q ≡ Running p phase → (p.slot == s) ≡ true →
    volatile_from o (ended_with p d) ≡ (if runs_for s (proposing_of o q) then after_publishing definition_eq (volatile_from o q) d else volatile_from o q)
unfolding after_publishing ends ended
published_there o q p phase s d runs here =
    ap (λ (x : Proposing). after_publishing definition_eq (volatile_from o x) d) (sym runs) ∙
    sym (if_true (runs_for s (proposing_of o q)) (after_publishing definition_eq (volatile_from o q) d) (volatile_from o q) (ap (λ (x : Proposing). runs_for s (proposing_of o x)) runs ∙ here))

-- ---- promises

-- the votes from the first sequence on are all of them
from_first : {V : Type 0} (s : ℕ) (votes : List (Option (Vote V))) → from_sequence s votes s ≡ votes
unfolding from_sequence
from_first s [] = refl
from_first s (vote ∷ rest) = if_true (s == s) (vote ∷ rest) (from_sequence (suc s) rest s) (eq-eqb s s refl)

module _ (o : Option Leadership) (p : Proposal) (best : Votes) (n from : ℕ) (b : Ballot) (report : Report) where
  abbrev W : model.VolatileState Definition
  W = volatile_from (leading_of o) (Running p (Preparing best))

  abbrev Better : Votes
  Better = better_each best (view_votes report.votes)

  abbrev Responders : (ℕ → Bool) → model.Proposal Definition
  Responders nodes = record { sequence = p.slot; ballot = p.ballot; own = p.own; phase = model.Preparing; responders = nodes; best = Better; seen = p.seen }

  abbrev OnPromise : Transition Definition
  OnPromise = on_promise n W from report.slot b (view_votes report.votes)

  abbrev IsMajority : (ℕ → Bool) → Bool
  IsMajority nodes = is_majority_of (count_nodes n nodes) n

  abbrev IsNewResponse : Bool
  IsNewResponse = is_new_response n (proposal_of model.Preparing best p) model.Preparing from report.slot b

  not_received : IsNewResponse ≡ false → quiet W ≡ OnPromise
  unfolding on_promise
  not_received e = sym (if_false IsNewResponse (promised n W (with_promise (proposal_of model.Preparing best p) from (view_votes report.votes))) (quiet W) e)

  promised_transition : IsNewResponse ≡ true → promised n W (Responders (and_node (among p.responders) from)) ≡ OnPromise
  unfolding on_promise with_promise
  promised_transition e = sym (if_true IsNewResponse (promised n W (with_promise (proposal_of model.Preparing best p) from (view_votes report.votes))) (quiet W) e)

  -- votes are asked for, with these nodes as those whose votes are counted, and these votes as the
  -- best
  abbrev asked : (ℕ → Bool) → Votes → Transition Definition
  asked nodes votes =
      record {
        entry = None;
        messages = message.Accept p.slot p.ballot (carried (first_vote Better) p.own) ∷ [];
        volatile = record {
          proposing = model.Running (record { sequence = p.slot; ballot = p.ballot; own = p.own; phase = model.Accepting; responders = nodes; best = votes; seen = p.seen });
          leadership = Some (record { base = p.slot; ballot = p.ballot; best = Better });
        };
      }

  elected_transition : transition_at o (Running p (Preparing best)) (elect p Better) ≡ asked nobody Better
  elected_transition = ap (asked (among 0)) (from_first p.slot Better) ∙ ap (λ (nodes : ℕ → Bool). asked nodes Better) among-nobody

  by_majority : (responders : ℕ) (m : Bool) →
      transition_at o (Running p (Preparing best)) (if m then elect p Better else record { entry = None; messages = []; change = change.CountsPromise responders report }) ≡
      (if m then asked nobody Better else quiet (with_proposal W (Responders (among responders))))
  unfolding quiet with_proposal
  by_majority responders true = elected_transition
  by_majority responders false = refl

  table_transition : (nodes : ℕ → Bool) → promised n W (Responders nodes) ≡ (if IsMajority nodes then asked nobody Better else quiet (with_proposal W (Responders nodes)))
  unfolding promised ask_votes only_sends asking_votes leadership_of proposed
  table_transition nodes = refl

  counted : (responders : ℕ) → IsNewResponse ≡ true → among responders ≡ and_node (among p.responders) from → transition_at o (Running p (Preparing best)) (promised_by n p best responders report) ≡ OnPromise
  counted responders receives_it set =
      by_majority responders (IsMajority (among responders)) ∙ sym (table_transition (among responders)) ∙ ap (λ (nodes : ℕ → Bool). promised n W (Responders nodes)) set ∙ promised_transition receives_it

  sends : (responders : ℕ) → IsNewResponse ≡ true → among responders ≡ and_node (among p.responders) from → IsMajority (among responders) ≡ true → Sends OnPromise
  sends responders receives_it set majority none =
      let transition : asked nobody Better ≡ OnPromise =
      sym (if_true (IsMajority (among responders)) (asked nobody Better) (quiet (with_proposal W (Responders (among responders)))) majority) ∙
      sym (table_transition (among responders)) ∙ ap (λ (nodes : ℕ → Bool). promised n W (Responders nodes)) set ∙ promised_transition receives_it in
      let some : (asked nobody Better).messages ≡ [] = ap (λ (r : Transition Definition). r.messages) transition ∙ none in absurd cc

  pub promise_ignored : IsNewResponse ≡ false → transition_at o (Running p (Preparing best)) (record { entry = None; messages = []; change = change.Nothing }) ≡ OnPromise
  unfolding quiet
  promise_ignored e = not_received e

  pub promise_counted : (r : Result Next StepRejection) (responders : ℕ) → IsNewResponse ≡ true → among responders ≡ and_node (among p.responders) from → IfOk r (λ next. next ≡ promised_by n p best responders report) →
      IfOk r (λ next. transition_at o (Running p (Preparing best)) next ≡ OnPromise)
  promise_counted (Ok next) responders receives_it set e = ap (transition_at o (Running p (Preparing best))) e ∙ counted responders receives_it set
  promise_counted (Err fault) responders receives_it set e = e

  pub promise_sends : (r : Result Next StepRejection) (responders : ℕ) → IsNewResponse ≡ true → among responders ≡ and_node (among p.responders) from →
      (IsErr r → (IsMajority (among responders) ≡ true) × (r ≡ Err Memory)) → IsErr r → Sends OnPromise × (r ≡ Err Memory)
  promise_sends r responders receives_it set why failed =
      let both : (IsMajority (among responders) ≡ true) × (r ≡ Err Memory) = why failed in (sends responders receives_it set both.0, both.1)

-- ---- votes

module _ (o : Option Leadership) (p : Proposal) (n from s : ℕ) (b : Ballot) where
  abbrev V : model.VolatileState Definition
  V = volatile_from (leading_of o) (Running p Accepting)

  abbrev Reported : Votes
  Reported = led_votes (leading_of o) p.slot

  abbrev Asked : Definition
  Asked = carried (first_vote Reported) p.own

  abbrev With : (ℕ → Bool) → model.Proposal Definition
  With nodes = record { sequence = p.slot; ballot = p.ballot; own = p.own; phase = model.Accepting; responders = nodes; best = Reported; seen = p.seen }

  abbrev OnAccepted : Transition Definition
  OnAccepted = on_accepted definition_eq n V from s b

  abbrev IsAMajority : (ℕ → Bool) → Bool
  IsAMajority nodes = is_majority_of (count_nodes n nodes) n

  abbrev Waits : Bool
  Waits = is_new_response n (proposal_of model.Accepting Reported p) model.Accepting from s b

  vote_not_received : Waits ≡ false → quiet V ≡ OnAccepted
  unfolding on_accepted
  vote_not_received e = sym (if_false Waits (voted definition_eq n V (with_vote (proposal_of model.Accepting Reported p) from)) (quiet V) e)

  voted_transition : Waits ≡ true → voted definition_eq n V (With (and_node (among p.responders) from)) ≡ OnAccepted
  unfolding on_accepted with_vote
  voted_transition e = sym (if_true Waits (voted definition_eq n V (with_vote (proposal_of model.Accepting Reported p) from)) (quiet V) e)

  -- the definition is published, and this is how the proposal ends
  abbrev published_as : model.Proposing Definition → Transition Definition
  published_as how =
      record {
        entry = Some (stored_part.Published p.slot Asked);
        messages = message.Chosen p.slot Asked ∷ [];
        volatile = record { proposing = how; leadership = leading_of o };
      }

  abbrev Ended : model.Proposing Definition
  Ended = if definition_eq p.own Asked then model.Won p.slot else model.Overtaken p.slot

  by_most : (responders : ℕ) (m : Bool) →
      transition_at o (Running p Accepting) (if m then chosen_for p Asked else record { entry = None; messages = []; change = change.CountsVote responders }) ≡
      (if m then published_as Ended else quiet (with_proposal V (With (among responders))))
  unfolding quiet with_proposal
  by_most responders true = refl
  by_most responders false = refl

  table_vote_transition : (nodes : ℕ → Bool) → voted definition_eq n V (With nodes) ≡ (if IsAMajority nodes then published_as Ended else quiet (with_proposal V (With nodes)))
  unfolding voted stores ended proposed
  table_vote_transition nodes = refl

  vote_counted : (responders : ℕ) → Waits ≡ true → among responders ≡ and_node (among p.responders) from → transition_at o (Running p Accepting) (voted_by n p Asked responders) ≡ OnAccepted
  vote_counted responders receives_it set =
      by_most responders (IsAMajority (among responders)) ∙ sym (table_vote_transition (among responders)) ∙ ap (λ (nodes : ℕ → Bool). voted definition_eq n V (With nodes)) set ∙ voted_transition receives_it

  vote_sends : (responders : ℕ) → Waits ≡ true → among responders ≡ and_node (among p.responders) from → IsAMajority (among responders) ≡ true → Sends OnAccepted
  vote_sends responders receives_it set majority none =
      let transition : published_as Ended ≡ OnAccepted =
      sym (if_true (IsAMajority (among responders)) (published_as Ended) (quiet (with_proposal V (With (among responders)))) majority) ∙
      sym (table_vote_transition (among responders)) ∙ ap (λ (nodes : ℕ → Bool). voted definition_eq n V (With nodes)) set ∙ voted_transition receives_it in
      let some : (published_as Ended).messages ≡ [] = ap (λ (r : Transition Definition). r.messages) transition ∙ none in absurd cc

  pub vote_ignored : Waits ≡ false → transition_at o (Running p Accepting) (record { entry = None; messages = []; change = change.Nothing }) ≡ OnAccepted
  unfolding quiet
  vote_ignored e = vote_not_received e

  pub vote_transition : (r : Result Next StepRejection) (responders : ℕ) (d : Definition) → Waits ≡ true → among responders ≡ and_node (among p.responders) from → d ≡ Asked → IfOk r (λ next. next ≡ voted_by n p d responders) →
      IfOk r (λ next. transition_at o (Running p Accepting) next ≡ OnAccepted)
  vote_transition (Ok next) responders d receives_it set is_asked e = ap (transition_at o (Running p Accepting)) (e ∙ ap (λ (x : Definition). voted_by n p x responders) is_asked) ∙ vote_counted responders receives_it set
  vote_transition (Err fault) responders d receives_it set is_asked e = e

  pub vote_memory : (r : Result Next StepRejection) (responders : ℕ) → Waits ≡ true → among responders ≡ and_node (among p.responders) from →
      (IsErr r → (IsAMajority (among responders) ≡ true) × (r ≡ Err Memory)) → IsErr r → Sends OnAccepted × (r ≡ Err Memory)
  vote_memory r responders receives_it set why failed =
      let both : (IsAMajority (among responders) ≡ true) × (r ≡ Err Memory) = why failed in (vote_sends responders receives_it set both.0, both.1)

-- ---- a Nack

nacked : (o : Option Leadership) (p : Proposal) (phase : Phase) (round : ℕ) (m : Bool) →
    transition_at o (Running p phase) (record { entry = None; messages = []; change = if m then change.Sees round else change.Nothing }) ≡
    (if m then quiet (with_proposal (volatile_from (leading_of o) (Running p phase)) (proposal_of (phase_of phase) (best_of (leading_of o) p.slot phase) (record p { seen = round }))) else quiet (volatile_from (leading_of o) (Running p phase)))
unfolding quiet with_proposal
nacked o p phase round true = refl
nacked o p phase round false = refl

pub nack_counted : (o : Option Leadership) (q : Proposing) (p : Proposal) (phase : Phase) (next : Next) (s : ℕ) (b promise : Ballot) → q ≡ Running p phase → next ≡ nacked_by p s b promise →
    transition_at o q next ≡ on_nack (volatile_from (leading_of o) q) s b promise
unfolding on_nack is_at
nack_counted o q p phase next s b promise is e =
    subst (λ (x : Proposing). transition_at o x next ≡ on_nack (volatile_from (leading_of o) x) s b promise) (sym is)
    (ap (transition_at o (Running p phase)) e ∙ nacked o p phase (max p.seen promise.round) ((p.slot == s) && same_ballot p.ballot b))
