-- The failure that a tape in memory will have, counted down by its calls.
use Rattle.std.proofs.Common.{◌≡◌, ℕ, ◌+◌, ◌-◌, zero, suc, nat_eq, Bool, true, false, Some, None, if◌then◌else◌, refl, ap, arith}
use Rattle.std.proofs.lemmas.Bool.Decides.{nat_tests}
use Rattle.wf_tape.specs.Fuse.{fuse_at, burn_at}
use Rattle.wf_tape.specs.MemoryTape.{risen}
use Rattle.wf_tape.specs.Tape.{last_count}

pub no_fuse : (call kept : ℕ) → call ≡ 0 → fuse_at call kept ≡ None
unfolding fuse_at
no_fuse zero kept none = refl
no_fuse (suc before) kept none = absurd (omega (arith, none))

pub fuse_later : (call kept : ℕ) → (call ≡ 0 → ⊥) → fuse_at call kept ≡ Some (record { before = call - 1; kept = kept })
unfolding fuse_at
fuse_later zero kept some = absurd (some refl)
fuse_later (suc before) kept some = ap (λ (n : ℕ). fuse_at (suc n) kept) (omega arith)

pub burns_now : (before kept : ℕ) → before ≡ 0 → burn_at before kept ≡ Some kept
unfolding burn_at
burns_now zero kept none = refl
burns_now (suc before) kept none = absurd (omega (arith, none))

pub burns_later : (before kept : ℕ) → (before ≡ 0 → ⊥) → burn_at before kept ≡ None
unfolding burn_at
burns_later zero kept some = absurd (some refl)
burns_later (suc before) kept some = refl

-- the count of failures

is_last : (count : ℕ) → count ≡ last_count → nat_eq count last_count ≡ true
is_last count last = grind (arith, nat_tests, last)

not_last : (count : ℕ) → (count ≡ last_count → ⊥) → nat_eq count last_count ≡ false
not_last count lower = grind (arith, nat_tests, lower)

pub stays_highest : (count : ℕ) → count ≡ last_count → risen count ≡ count
unfolding risen
stays_highest count last = ap (λ (b : Bool). if b then count else count + 1) (is_last count last)

pub rises : (count : ℕ) → (count ≡ last_count → ⊥) → risen count ≡ count + 1
unfolding risen
rises count lower = ap (λ (b : Bool). if b then count else count + 1) (not_last count lower)
