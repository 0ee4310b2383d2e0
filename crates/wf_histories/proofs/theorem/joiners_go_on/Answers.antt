use Rattle.wf_histories.proofs.Joining.{act_joins, calls_show, first_joins, more_is_sent, next_joins, next_votes, run_joins}
use Rattle.wf_histories.proofs.theorem.joiners_go_on.Goals as goal

pub returns-clause-first : goal.returns-clause-first
returns-clause-first g c = first_joins g.T.Tape

pub returns-clause-act : goal.returns-clause-act
returns-clause-act g c = act_joins g.T.Tape

pub returns-clause-run : goal.returns-clause-run
returns-clause-run g c = run_joins g.T.Tape

pub returns-clause-more : goal.returns-clause-more
returns-clause-more g c = more_is_sent g.T.Tape

pub returns-clause-next : goal.returns-clause-next
returns-clause-next g c = next_joins g.T.Tape

pub returns-clause-votes : goal.returns-clause-votes
returns-clause-votes g c = next_votes g.T.Tape

pub returns-clause-calls : goal.returns-clause-calls
returns-clause-calls g c = calls_show g.T.Tape
