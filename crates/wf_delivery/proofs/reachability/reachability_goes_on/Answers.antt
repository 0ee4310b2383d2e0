use Rattle.wf_delivery.proofs.OneRun.{both_are_output, nothing_is_output, nothing_is_reachable, reachable_is_transitive, unheard_is_reachable}
use Rattle.wf_delivery.proofs.reachability.reachability_goes_on.Goals as goal

pub returns-clause-still : goal.returns-clause-still
returns-clause-still g c = nothing_is_reachable g.T.Tape

pub returns-clause-again : goal.returns-clause-again
returns-clause-again g c = reachable_is_transitive g.T.Tape

pub returns-clause-quiet : goal.returns-clause-quiet
returns-clause-quiet g c = nothing_is_output g.T.Tape

pub returns-clause-more : goal.returns-clause-more
returns-clause-more g c = both_are_output g.T.Tape

pub returns-clause-lost : goal.returns-clause-lost
returns-clause-lost g c = unheard_is_reachable g.T.Tape
