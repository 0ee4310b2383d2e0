-- The node that runs in the entry takes the step.
use Rattle.std.proofs.Common.{◌∙◌, sym, subst, subst₂}
use Rattle.wf_farm.proofs.Common.{KeepsMember, KeepsSturdy, Fares, Goes}
use Rattle.wf_node.specs.Input.{view}
use Rattle.wf_farm.proofs.node_step.NodeHost+MemoryTape.step.Goals as goal

pub step_running-after-requires : goal.step_running-after-requires
step_running-after-requires c = record { goes = subst (Goes (view c.args.input)) (sym c.replace-before.ensures.value ∙ c.in-Running.is) c.requires.goes }

pub unreachable-requires : goal.unreachable-requires
unreachable-requires c = subst (Goes (view c.args.input)) (sym c.replace-before.ensures.value ∙ c.in-Stopped.is) c.requires.goes

pub returns-clause-fares : goal.returns-clause-fares
returns-clause-fares c =
    subst₂ (Fares (view c.args.input) c.step_running-after.result.1) (sym c.in-Running.is ∙ c.replace-before.ensures.value) (sym c.replace.ensures.after) c.step_running-after.ensures.fares

pub returns-clause-member : goal.returns-clause-member
returns-clause-member c = subst₂ KeepsMember (sym c.in-Running.is ∙ c.replace-before.ensures.value) (sym c.replace.ensures.after) c.step_running-after.ensures.member

pub returns-clause-sturdy : goal.returns-clause-sturdy
returns-clause-sturdy c = subst₂ KeepsSturdy (sym c.in-Running.is ∙ c.replace-before.ensures.value) (sym c.replace.ensures.after) c.step_running-after.ensures.sturdy
