use Rattle.std.proofs.Common.{◌≡◌, ◌≤◌, ◌++◌, ℕ, List, length}
use Rattle.wf_reader.specs.Question.{question_length}
use Rattle.wf_readers_port.proofs.turn.receive.Given as goal

abbrev pub invariant-loop : goal.invariant-loop
invariant-loop g l = ((front : List ℕ) → g.C.Connection.came l.fn.connection ≡ front ++ l.fn.question.items → g.C.Connection.came l.connection ≡ front ++ l.question.items)
    × (g.C.Connection.sent l.connection ≡ g.C.Connection.sent l.fn.connection)
    × (length l.fn.question.items ≤ question_length → length l.question.items ≤ question_length)
