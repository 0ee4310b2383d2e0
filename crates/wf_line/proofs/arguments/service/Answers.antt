-- No number, nothing to serve.
use Rattle.std.proofs.Common.{subst}
use Rattle.std.specs.Prelude.{Option, Some, None, IfNone}
use Rattle.wf_line.specs.CommandLine.{IsCacheBy}
use Rattle.wf_line.proofs.arguments.service.Goals as goal

held : {A P : Type 0} (found : Option A) → P → IfNone found P
held None why = why
held (Some x) why = tt

pub returns-in_err-nodes-clause-none : goal.returns-in_err-nodes-clause-none
returns-in_err-nodes-clause-none c = held c.from_residual.result (λ s is. c.in_err-nodes.ensures.none s.nodes is.nodes)

pub returns-in_err-port-clause-none : goal.returns-in_err-port-clause-none
returns-in_err-port-clause-none c = held c.from_residual-in_err-port.result (λ s is. c.in_err-port.ensures.none s.port is.port)

pub returns-in_err-requests-clause-none : goal.returns-in_err-requests-clause-none
returns-in_err-requests-clause-none c = held c.from_residual-in_err-requests.result (λ s is. c.in_err-requests.ensures.none s.requests is.requests)

pub returns-in_err-cache-clause-none : goal.returns-in_err-cache-clause-none
returns-in_err-cache-clause-none c = held c.from_residual-in_err-cache.result (λ s is. c.in_err-cache.ensures.none s.cache (subst (λ word. IsCacheBy word s.cache) c.word_of.ensures is.cache))
