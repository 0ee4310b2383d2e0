-- Cached pictures outlast a step of their node.
use Rattle.std.proofs.Common.{◌≡◌, Bool, true, false, Vec, refl, sym, ap, subst}
use Rattle.std.specs.Prelude.{Result}
use Rattle.wf_codec.specs.declared.message.Message.{Message}
use Rattle.wf_def.specs.Definition.{Definition}
use Rattle.wf_edge.specs.StepResult.{IsStepResult}
use Rattle.wf_edge.specs.Growth.{cached_on}
use Rattle.wf_model.specs.Table.{Input}
use Rattle.wf_node.specs.Growth.{IsGrown, grown_itself, step_grown}
use Rattle.wf_node.specs.Node.{Node}
use Rattle.wf_node.specs.declared.fault.NodeFault.{NodeFault}
use Rattle.wf_tape.specs.declared.tape.Tape.{Ghosts as Tape}
use Rattle.wf_wms.specs.CachedPictures.{AllCached, CacheValue}
use Rattle.wf_wms.proofs.CachedPicturesTheorem.{growth_keeps}

module _ {T A : Type 0} (tapes : Tape T) (input : Input Definition) (before after : Node T) (answer : Result (Vec Message A) NodeFault) where
  grown_by : (halted : Bool) → before.halted ≡ halted → IsStepResult tapes input before answer after → IsGrown before.parts.history after.parts.history
  grown_by true is answered =
      subst (IsGrown before.parts.history) (sym (ap (λ (n : Node T). n.parts.history) (answered.refused is).1)) (grown_itself before.parts.history)
  grown_by false is answered = step_grown before after tapes input answer (answered.steps is)

  pub still_kept : (cache : CacheValue) → IsStepResult tapes input before answer after → AllCached before.parts.history cache → AllCached after.parts.history cache
  still_kept cache answered kept = cached_on growth_keeps before.parts.history after.parts.history cache (grown_by before.halted refl answered) kept
