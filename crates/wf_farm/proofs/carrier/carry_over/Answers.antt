-- What a faithful carrier brings is the message.
use Rattle.std.proofs.Common.{◌≡◌}
use Rattle.wf_farm.specs.declared.carrier.CarrierFault.TheVariants as faults
use Rattle.wf_farm.proofs.Carried.{no_error}
use Rattle.wf_farm.proofs.carrier.carry_over.Goals as goal

pub returns-in-Ok-clause-memory : goal.returns-in-Ok-clause-memory
returns-in-Ok-clause-memory g c = λ faithful. no_error (λ fault. fault ≡ faults.Memory) c.check_same.result (c.check_same.ensures.all (c.in-Ok.ensures.same faithful))
