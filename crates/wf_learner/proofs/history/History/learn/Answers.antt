-- The definitions grow by the chosen one iff its slot is the next, as in the transition.
use Rattle.std.proofs.Common.{◌≡◌, arith}
use Rattle.std.proofs.lemmas.Grind.{common_steps}
use Rattle.wf_learner.specs.History.{with_chosen}
use Rattle.wf_learner.proofs.ChosenTransition.{chosen_transition_as}
use Rattle.wf_learner.proofs.history.History.learn.Goals as goal
use Rattle.wf_learner.proofs.history.History.learn.Goals.{in-Published+in_ok-make_room, in_default}

pub returns-clause-transition : goal.returns-clause-transition
returns-clause-transition c =
    let grown : c.match-learned.self.definitions ≡ with_chosen c.args.self.now.definitions c.args.slot c.args.canon =
    elim c.match-learned.branch [
      | in-Published+in_ok-make_room w ↦ grind (arith, common_steps)
      | in_default w ↦ grind (arith, common_steps)
    ] in
    chosen_transition_as _ _ _ _ _ grown c.judge-learned.ensures
