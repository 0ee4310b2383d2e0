-- Waits that double up to a limit, and a node's waits before a retry.
use Rattle.std.specs.Prelude.{ℕ, zero, suc, ◌+◌, ◌*◌, ◌<◌, ◌≤◌, min}
use Rattle.wf_timing.specs.declared.backoff.Backoff.{Backoff}

-- the wait after this one
abbrev pub doubled : (limit wait : ℕ) → ℕ
doubled limit wait = min (wait * 2) limit

-- neither the first wait nor the next is over the limit
pub record IsBackoff (backoff : Backoff) : Type 0 where
  pub first : backoff.first ≤ backoff.limit
  pub wait : backoff.wait ≤ backoff.limit

-- the wait after that many tries
unfoldable pub wait_after : (first limit tries : ℕ) → ℕ
wait_after first limit zero = first
wait_after first limit (suc tries) = doubled limit (wait_after first limit tries)

-- a node's first wait before a retry, in milliseconds: 100, and 40 for each lower node; and its
-- longest
abbrev pub first_retry : ℕ → ℕ
first_retry node = 100 + 40 * node

abbrev pub longest_retry : ℕ → ℕ
longest_retry node = first_retry node + 10000

-- a node's wait before a retry, after that many
abbrev pub retry_wait : (node tries : ℕ) → ℕ
retry_wait node tries = wait_after (first_retry node) (longest_retry node) tries

-- after equally many tries, two nodes' waits are at least 40 ms apart
abbrev pub RetriesDifferByNode : Type 0
RetriesDifferByNode = (lower higher tries : ℕ) → lower < higher → retry_wait lower tries + 40 ≤ retry_wait higher tries
