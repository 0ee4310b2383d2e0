-- How many nodes have agreed, and the highest answer, node by node.
use Rattle.std.proofs.Common.{◌≡◌, ◌∙◌, ℕ, suc, ◌+◌, max, Bool, true, false, refl, sym, ap, arith}
use Rattle.wf_ballot.specs.Majority.{count_nodes}
use Rattle.wf_ballot.specs.QuorumTheorems.{count_nodes-in, count_nodes-out, count_nodes-zero}
use Rattle.wf_rejoin.specs.Joining.{highest_below, highest_of}
use Rattle.wf_rejoin.specs.declared.joining.Stage.{Stage}

pub none_counted : (nodes : ℕ → Bool) → 0 ≡ count_nodes 0 nodes
none_counted nodes = sym (count_nodes-zero nodes)

pub one_counted : (n next count total : ℕ) (nodes : ℕ → Bool) → next ≡ n + 1 → count ≡ count_nodes n nodes → nodes n ≡ true → total ≡ count + 1 → total ≡ count_nodes next nodes
one_counted n next count total nodes is_next e is_in is_total =
    let same : suc n ≡ next = omega (arith, is_next) in
    is_total ∙ ap (λ (k : ℕ). k + 1) e ∙ sym (count_nodes-in n nodes is_in) ∙ ap (λ (k : ℕ). count_nodes k nodes) same

pub still_counted : (n next count : ℕ) (nodes : ℕ → Bool) → next ≡ n + 1 → count ≡ count_nodes n nodes → nodes n ≡ false → count ≡ count_nodes next nodes
still_counted n next count nodes is_next e is_out =
    let same : suc n ≡ next = omega (arith, is_next) in
    e ∙ sym (count_nodes-out n nodes is_out) ∙ ap (λ (k : ℕ). count_nodes k nodes) same

pub none_answered : (stages : ℕ → Stage) → 0 ≡ highest_below 0 stages
unfolding highest_below
none_answered stages = refl

with_next : (n : ℕ) (stages : ℕ → Stage) → max (highest_below n stages) (highest_of (stages n)) ≡ highest_below (suc n) stages
unfolding highest_below
with_next n stages = refl

pub one_answered : (n next high answer now : ℕ) (stages : ℕ → Stage) → next ≡ n + 1 → high ≡ highest_below n stages → answer ≡ highest_of (stages n) → now ≡ max high answer → now ≡ highest_below next stages
one_answered n next high answer now stages is_next e is_answer is_now =
    let same : suc n ≡ next = omega (arith, is_next) in
    is_now ∙ ap (λ (k : ℕ). max k answer) e ∙ ap (λ (k : ℕ). max (highest_below n stages) k) is_answer ∙ with_next n stages ∙ ap (λ (k : ℕ). highest_below k stages) same
