use Rattle.wf_model.proofs.Runs.{rejected_busy, rejected_busy_unchanged, rejected_nothing, rejected_nothing_unchanged, rejected_sequences, rejected_sequences_unchanged, rejected_rounds, rejected_rounds_unchanged}
use Rattle.wf_model.proofs.rejected_steps.Goals as goal

pub returns : goal.returns
returns c = record { busy = rejected_busy; busy_unchanged = rejected_busy_unchanged; nothing = rejected_nothing; nothing_unchanged = rejected_nothing_unchanged; sequences = rejected_sequences; sequences_unchanged = rejected_sequences_unchanged; rounds = rejected_rounds; rounds_unchanged = rejected_rounds_unchanged }
