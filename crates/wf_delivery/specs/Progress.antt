-- How far deliveries have come, which are made message by message to each of some nodes, and their
-- counts.
use Rattle.std.specs.Prelude.{◌<◌, ◌≤◌, ◌+◌, ℕ, zero, suc, Bool, true, false, if◌then◌else◌, ◌==◌}
use Rattle.wf_delivery.specs.declared.progress.PumpProgress.{PumpProgress}

-- the most deliveries of one call
abbrev pub most_deliveries : ℕ
most_deliveries = 100000

-- the number of messages that a partial round begins, where `some` of its deliveries are done
abbrev pub begun : ℕ → ℕ
begun zero = 0
begun (suc some) = 1

-- one more delivery: on to the next of `round` targets, or the round is complete
abbrev pub next : ℕ → PumpProgress → PumpProgress
next targets p = if p.some + 1 == targets
    then record { whole = p.whole + 1; some = 0; done = p.done + 1 }
    else record { whole = p.whole; some = p.some + 1; done = p.done + 1 }

-- the counts of the deliveries, where this many messages are sent by now
pub record AreCounted (round first : ℕ) (p : PumpProgress) (lost sent : ℕ) : Type 0 where
  pub part : p.some < round
  pub within : first + p.whole + begun p.some ≤ sent
  pub most : p.done ≤ most_deliveries
  pub fewer : lost ≤ p.done

-- the count of lost deliveries after one more delivery, by whether that is lost
abbrev pub counted : ℕ → Bool → ℕ
counted lost true = lost + 1
counted lost false = lost
