-- The tape of a node that was closed stands for what it stored.
use Rattle.std.proofs.Common.{◌∙◌, refl, sym, subst, subst₂}
use Rattle.wf_farm.proofs.Common.{NeverFails, KeepsSturdy, Stops}
use Rattle.wf_farm.proofs.node_step.NodeHost+MemoryTape.stop.Goals as goal

pub returns-in-Running-clause-stopped : goal.returns-in-Running-clause-stopped
returns-in-Running-clause-stopped c =
    subst₂ Stops (sym c.in-Running.is ∙ c.replace-before.ensures.value) (sym c.replace.ensures.after) (c.close.result, refl, c.close.ensures.stands tt)

pub returns-in-Running-clause-sturdy : goal.returns-in-Running-clause-sturdy
returns-in-Running-clause-sturdy c =
    subst₂ KeepsSturdy (sym c.in-Running.is ∙ c.replace-before.ensures.value) (sym c.replace.ensures.after) (λ never. subst NeverFails (sym c.close.ensures.tape) never)

pub returns-in-Stopped-clause-stopped : goal.returns-in-Stopped-clause-stopped
returns-in-Stopped-clause-stopped c = subst₂ Stops (sym c.in-Stopped.is ∙ c.replace-before.ensures.value) (sym c.replace-in-Stopped.ensures.after) refl
