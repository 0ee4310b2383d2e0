use Rattle.std.proofs.Common.{◌%◌, ℕ, cond, nat_lt, ap}
use Rattle.std.proofs.lemmas.List.Sorted.{IsNonDecreasingBy-from_sort, sum_by-IsPermutation}
use Rattle.wf_paint.proofs.inside.sort_reaches.Goals as goal

pub returns-then-len-lt-MANY-clause-sorted : goal.returns-then-len-lt-MANY-clause-sorted
returns-then-len-lt-MANY-clause-sorted c = IsNonDecreasingBy-from_sort (λ (r : ℕ). r) c.sort_unstable.new.self.items c.sort_unstable.ensures.sorted

pub returns-then-len-lt-MANY-clause-parity : goal.returns-then-len-lt-MANY-clause-parity
returns-then-len-lt-MANY-clause-parity c = λ u.
    ap (λ (n : ℕ). n % 2) (sum_by-IsPermutation (λ reach. cond (nat_lt u reach) 1 0) c.args.reaches.now.items c.sort_unstable.new.self.items c.sort_unstable.ensures.permutation)
