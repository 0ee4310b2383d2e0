-- Without a number there is no line.
use Rattle.std.specs.Prelude.{Option, Some, None, IfNone}
use Rattle.wf_line.proofs.node_arguments.init_line.Goals as goal

held : {A P : Type 0} (found : Option A) → P → IfNone found P
held None why = why
held (Some x) why = tt

pub returns-in_err-id-clause-none : goal.returns-in_err-id-clause-none
returns-in_err-id-clause-none c = held c.from_residual-in_err-id.result (λ s is. c.in_err-id.ensures.none s.id is.id)

pub returns-in_err-nodes-clause-none : goal.returns-in_err-nodes-clause-none
returns-in_err-nodes-clause-none c = held c.from_residual-in_err-nodes.result (λ s is. c.in_err-nodes.ensures.none s.nodes is.nodes)
