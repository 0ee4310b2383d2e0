-- Without a number there is no line.
use Rattle.std.specs.Prelude.{Option, Some, None, IfNone}
use Rattle.wf_line.proofs.replica_arguments.replica_line.Goals as goal

held : {A P : Type 0} (found : Option A) → P → IfNone found P
held None why = why
held (Some x) why = tt

pub returns-in_err-cache-clause-none : goal.returns-in_err-cache-clause-none
returns-in_err-cache-clause-none c = held c.from_residual-in_err-cache.result (λ s is. c.in_err-cache.ensures.none s.cache is.cache)
