-- A stopped node has come nowhere.
use Rattle.std.proofs.Common.{refl, sym, subst}
use Rattle.wf_catch_up.proofs.Common.{rank, node_in}
use Rattle.wf_catch_up.proofs.questions.rank_in.Goals as goal
use Rattle.std.proofs.Common.{◌≡◌, Some}

pub returns-in-Running : goal.returns-in-Running
returns-in-Running g c = λ n i. subst (λ p. c.rank_of.result ≡ rank (Some (node_in n i p))) (sym c.in-Running.is) c.rank_of.ensures

pub returns-in-Stopped : goal.returns-in-Stopped
returns-in-Stopped g c = λ n i. subst (λ p. 0 ≡ rank (Some (node_in n i p))) (sym c.in-Stopped.is) refl
