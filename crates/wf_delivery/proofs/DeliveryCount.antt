-- The counts of deliveries after one more delivery, and at the end.
use Rattle.std.proofs.Common.{◌≡◌, ℕ, zero, suc, ◌+◌, ◌<◌, ◌≤◌, Bool, true, false, refl, subst, arith, if◌then◌else◌, ◌==◌}
use Rattle.wf_delivery.proofs.Common.{PumpProgress, AreCounted, counted, next, begun, most_deliveries}

-- the progress after one more delivery, whether or not it completes a round
abbrev next_by : Bool → PumpProgress → PumpProgress
next_by whole p = if whole then record { whole = p.whole + 1; some = 0; done = p.done + 1 } else record { whole = p.whole; some = p.some + 1; done = p.done + 1 }

part_by : (round : ℕ) (p : PumpProgress) (whole : Bool) → (p.some + 1 == round) ≡ whole → p.some < round → (next_by whole p).some < round
part_by round p true all part = omega (arith, part)
part_by round p false some part = grind (arith, some, part)

pub begun_most : (some : ℕ) → begun some ≤ 1
begun_most zero = omega arith
begun_most (suc some) = omega arith

within_by : (first : ℕ) (p : PumpProgress) (whole : Bool) (sent : ℕ) → first + p.whole < sent → first + (next_by whole p).whole + begun (next_by whole p).some ≤ sent
within_by first p true sent there = omega (arith, there)
within_by first p false sent there = omega (arith, there, begun_most (p.some + 1))

done_by : (p : PumpProgress) (whole : Bool) → (next_by whole p).done ≡ p.done + 1
done_by p true = refl
done_by p false = refl

pub done_on : (round : ℕ) (p : PumpProgress) → (next round p).done ≡ p.done + 1
done_on round p = done_by p (p.some + 1 == round)

-- a delivery adds at most one to the count of those lost
counted_most : (lost : ℕ) (loses : Bool) → counted lost loses ≤ lost + 1
counted_most lost true = omega arith
counted_most lost false = omega arith

-- Nothing is delivered yet.
pub none_counted : (round first sent : ℕ) → 0 < round → first ≤ sent → AreCounted round first (record { whole = 0; some = 0; done = 0 }) 0 sent
none_counted round first sent some within = record { part = some; within = omega (arith, within); most = omega arith; fewer = omega arith }

-- One more delivery.
pub one_counted : (round first : ℕ) (p : PumpProgress) (lost : ℕ) (loses : Bool) (sent more : ℕ) → AreCounted round first p lost sent → first + p.whole < sent → p.done < most_deliveries → sent ≤ more →
    AreCounted round first (next round p) (counted lost loses) more
one_counted round first p lost loses sent more counts left may grows = record {
  part = part_by round p (p.some + 1 == round) refl counts.part;
  within = omega (arith, within_by first p (p.some + 1 == round) sent left, grows);
  most = omega (arith, done_on round p, may);
  fewer = omega (arith, done_on round p, counts.fewer, counted_most lost loses);
}

-- If no message is left, the last round is complete.
pub none_begun : (round first : ℕ) (p : PumpProgress) (lost sent : ℕ) → AreCounted round first p lost sent → sent ≤ first + p.whole → (p.some ≡ 0) × (first + p.whole ≡ sent)
none_begun round first p lost sent counts all = none_begun_by p.some refl
  where
    none_begun_by : (some : ℕ) → p.some ≡ some → (p.some ≡ 0) × (first + p.whole ≡ sent)
    none_begun_by zero is = (is, omega (arith, all, subst (λ k. first + p.whole + begun k ≤ sent) is counts.within))
    none_begun_by (suc k) is = absurd (omega (arith, all, subst (λ j. first + p.whole + begun j ≤ sent) is counts.within))
