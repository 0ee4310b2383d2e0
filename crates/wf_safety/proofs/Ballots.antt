-- What the model's tests on ballots, phases and sets of nodes mean.
use Rattle.std.proofs.Common.{◌≡◌, ◌⊎◌, ℕ, ◌<◌, Bool, true, ◌==◌, nat_lt, ◌&&◌, not, refl, inl, inr, eqb-true, eq-eqb}
use Rattle.std.proofs.lemmas.Bool.{and_parts, or_cases, cases_Bool, ltb-true}
use Rattle.wf_ballot.specs.Ballot.{Ballot}
use Rattle.wf_ballot.specs.OrderTheorems as order
use Rattle.wf_model.specs.VolatileState.{Phase, Preparing, Accepting, Proposal, and_node, same_ballot, same_phase, is_at}
use Rattle.wf_model.specs.Table.{is_new_response}

pub same_ballot-true : (a b : Ballot) → same_ballot a b ≡ true → a ≡ b
unfolding same_ballot
same_ballot-true a b h =
    let parts : (a.round == b.round ≡ true) × (a.node == b.node ≡ true) = and_parts (a.round == b.round) (a.node == b.node) h in
    order.same_ballot a b (eqb-true a.round b.round parts.0) (eqb-true a.node b.node parts.1)

pub same_phase-true : (a b : Phase) → same_phase a b ≡ true → a ≡ b
unfolding same_phase
same_phase-true Preparing Preparing h = refl
same_phase-true Accepting Accepting h = refl
same_phase-true Preparing Accepting h = cc
same_phase-true Accepting Preparing h = cc

-- a member of a set with one more node
pub and_node-true : (nodes : ℕ → Bool) (i j : ℕ) → and_node nodes i j ≡ true → (j ≡ i) ⊎ (nodes j ≡ true)
unfolding and_node
and_node-true nodes i j h = elim (or_cases (j == i) (nodes j) h) [ inl e ↦ inl (eqb-true j i e) | inr k ↦ inr k ]

pub and_node-self : (nodes : ℕ → Bool) (i : ℕ) → and_node nodes i i ≡ true
unfolding and_node
and_node-self nodes i = rw (eq-eqb i i refl) refl

pub and_node-old : (nodes : ℕ → Bool) (i j : ℕ) → nodes j ≡ true → and_node nodes i j ≡ true
unfolding and_node
and_node-old nodes i j h = elim (cases_Bool (j == i)) [ inl e ↦ rw e refl | inr e ↦ rw (e, h) refl ]

-- what a proposal counts is an answer to it, in its phase, from a node of the farm
pub record IsNewResponse {V : Type 0} (n : ℕ) (p : Proposal V) (phase : Phase) (sender s : ℕ) (b : Ballot) : Type 0 where
  pub in_phase : p.phase ≡ phase
  pub at_sequence : p.sequence ≡ s
  pub at_ballot : p.ballot ≡ b
  pub is_node : sender < n

-- The test is a conjunction: each conjunct is one of the facts.
pub is_new_response-true : {V : Type 0} (n : ℕ) (p : Proposal V) (phase : Phase) (sender s : ℕ) (b : Ballot) → is_new_response n p phase sender s b ≡ true → IsNewResponse n p phase sender s b
unfolding is_new_response is_at
is_new_response-true n p phase sender s b h =
    let (in_phase, rest) = and_parts (same_phase p.phase phase) (((p.sequence == s) && same_ballot p.ballot b) && (nat_lt sender n && not (p.responders sender))) h in
    let (is_at, fresh) = and_parts ((p.sequence == s) && same_ballot p.ballot b) (nat_lt sender n && not (p.responders sender)) rest in
    let (at_sequence, at_ballot) = and_parts (p.sequence == s) (same_ballot p.ballot b) is_at in
    let (is_node, _) = and_parts (nat_lt sender n) (not (p.responders sender)) fresh in
    record {
      in_phase = same_phase-true p.phase phase in_phase;
      at_sequence = eqb-true p.sequence s at_sequence;
      at_ballot = same_ballot-true p.ballot b at_ballot;
      is_node = ltb-true sender n is_node;
    }
