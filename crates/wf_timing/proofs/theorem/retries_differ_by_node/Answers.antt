-- After equally many tries two nodes' waits are at least as far apart as their first ones: doubling
-- keeps that, and so do limits that are as far apart.
use Rattle.std.proofs.Common.{ℕ, zero, suc, ◌+◌, ◌≤◌, ◌<◌, arith}
use Rattle.wf_timing.specs.Waits.{RetriesDifferByNode, doubled, first_retry, longest_retry, wait_after}
use Rattle.wf_timing.proofs.theorem.retries_differ_by_node.Goals as goal

apart_doubled : (a b x y : ℕ) → a + 40 ≤ b → x + 40 ≤ y → doubled a x + 40 ≤ doubled b y
apart_doubled a b x y limits waits = omega (arith, limits, waits)

apart : (first first' limit limit' tries : ℕ) → first + 40 ≤ first' → limit + 40 ≤ limit' → wait_after first limit tries + 40 ≤ wait_after first' limit' tries
unfolding wait_after
apart first first' limit limit' zero firsts limits = firsts
apart first first' limit limit' (suc tries) firsts limits = apart_doubled limit limit' _ _ limits (apart first first' limit limit' tries firsts limits)

firsts_apart : (lower higher : ℕ) → lower < higher → first_retry lower + 40 ≤ first_retry higher
firsts_apart lower higher less = omega (arith, less)

theorem : RetriesDifferByNode
theorem lower higher tries less =
    apart (first_retry lower) (first_retry higher) (longest_retry lower) (longest_retry higher) tries (firsts_apart lower higher less) (omega (arith, firsts_apart lower higher less))

pub returns : goal.returns
returns c = theorem
