-- The line about two answers is the order's.
use Rattle.wf_play.proofs.session.Session.act.Goals as goal

pub returns-in-Equal-clause-reports : goal.returns-in-Equal-clause-reports
returns-in-Equal-clause-reports c = rw c.in-Equal.is (rw c.deref-in-Equal.ensures.value at c.write_equal.ensures)
