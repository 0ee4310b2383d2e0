use Rattle.std.proofs.Math.Logic.{∥∥₁_map}
use Rattle.wf_actor.proofs.Receipt.{one_come}
use Rattle.wf_actor.proofs.process.Process.deliver.Goals as goal

pub give-requires-clause-come : goal.give-requires-clause-come
give-requires-clause-come g c = ∥∥₁_map c.into_parts-message.ensures.come (λ come. one_come _ _ _ come)
