-- The kind's byte is that of the arm.
use Rattle.wf_journal.proofs.record.Record.read.Goals as goal

pub returns-in-1 : goal.returns-in-1
returns-in-1 c = λ most. rw c.in-1.is (c.read_tried.ensures most)

pub returns-in-2 : goal.returns-in-2
returns-in-2 c = λ most. rw c.in-2.is (c.read_promised.ensures most)

pub returns-in-3 : goal.returns-in-3
returns-in-3 c = λ most. rw c.in-3.is (c.read_accepted.ensures most)
