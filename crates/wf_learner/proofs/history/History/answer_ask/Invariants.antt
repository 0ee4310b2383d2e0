-- The messages so far, followed by those still to come, are those from the slot on.
use Rattle.std.proofs.Common.{◌≡◌, ℕ, ◌+◌, ◌++◌, map}
use Rattle.wf_model.specs.Table.{most_reports, reports_from}
use Rattle.wf_codec.specs.Message.{view as view_message}
use Rattle.wf_learner.proofs.history.History.answer_ask.Given as goal

abbrev pub invariant-loop-number : goal.invariant-loop-number
invariant-loop-number l = (left : ℕ) → l.number + left ≡ l.fn.slot + most_reports →
    map view_message l.messages.items ++ reports_from l.self.definitions l.number left ≡ reports_from l.self.definitions l.fn.slot most_reports
