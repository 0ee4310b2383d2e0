-- How far a folder is that joins.
use Rattle.std.specs.Prelude.{◌≡◌, ℕ, ◌+◌, ◌*◌, ◌≤◌, min}
use Rattle.wf_ballot.specs.Sequence.{last_sequence}
use Rattle.wf_model.specs.VolatileState.{window}
use Rattle.wf_rejoin.specs.Joining.{AllAnswered, HasHalf, HasWindowAfter, agreed_count, highest_answer}
use Rattle.wf_rejoin.specs.declared.joining.Joining.{Joining}
use Rattle.wf_rejoin.specs.declared.phase.Phase.{Phase}
use Rattle.wf_rejoin.specs.declared.phase.Phase.TheVariants.{Waits, Asks, Hears, Learns, Votes}

-- the highest answer is m, and it has published so far
abbrev pub IsAfterAnswers : ℕ → ℕ → Phase → Type 0
IsAfterAnswers m published Votes = HasWindowAfter m published
IsAfterAnswers m published (Learns left target) = (target ≡ min (m + window) last_sequence) × (published + left ≡ target) × (1 ≤ left)
IsAfterAnswers m published phase = ⊥

abbrev pub IsPhase : Joining → ℕ → Phase → Type 0
IsPhase j published Waits = (¬ HasHalf j) × (j.replacement.count ≡ 0)
IsPhase j published (Asks agreed needed) = (¬ HasHalf j) × (1 ≤ j.replacement.count) × (agreed ≡ agreed_count j) × (j.nodes ≤ 2 * needed) × (2 * needed ≤ j.nodes + 1)
IsPhase j published (Hears agreed) = HasHalf j × (¬ AllAnswered j) × (agreed ≡ agreed_count j)
IsPhase j published (Learns left target) = HasHalf j × AllAnswered j × IsAfterAnswers (highest_answer j) published (Learns left target)
IsPhase j published Votes = HasHalf j × AllAnswered j × IsAfterAnswers (highest_answer j) published Votes
