use Rattle.wf_histories.proofs.LivesAdvance.{first_starts, life_goes_on, nothing_lives, takes_place}
use Rattle.wf_histories.proofs.theorem.lifetimes_go_on.Goals as goal

pub returns-clause-nothing : goal.returns-clause-nothing
returns-clause-nothing g c = nothing_lives g.T.Tape

pub returns-clause-goes_on : goal.returns-clause-goes_on
returns-clause-goes_on g c = life_goes_on g.T.Tape

pub returns-clause-first : goal.returns-clause-first
returns-clause-first g c = first_starts g.T.Tape

pub returns-clause-replaced : goal.returns-clause-replaced
returns-clause-replaced g c = takes_place g.T.Tape
