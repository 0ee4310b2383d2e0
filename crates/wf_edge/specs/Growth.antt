-- A request only adds to the node's list of published maps, and pictures cached for a list are
-- valid for each list that has grown from it.
use Rattle.std.proofs.Common.{◌≡◌, Bool, true, false, List, Vec, refl, sym, ap, subst}
use Rattle.std.specs.Prelude.{Result}
use Rattle.wf_codec.specs.declared.message.Message.{Message}
use Rattle.wf_def.specs.Definition.{Definition}
use Rattle.wf_model.specs.Table.{Propose}
use Rattle.wf_node.specs.Growth.{IsGrown, grown_itself, step_grown}
use Rattle.wf_node.specs.Node.{Node}
use Rattle.wf_node.specs.declared.fault.NodeFault.{NodeFault}
use Rattle.wf_edge.specs.Publish.{IsProposed}
use Rattle.wf_edge.specs.RequestEffect.{MovesOnce, Stays, Proposes}
use Rattle.wf_wms.specs.CachedPictures.{AllCached, CacheValue, GrowthKeepsAll}
use Rattle.wf_tape.specs.declared.tape.Tape.{Ghosts as Tape}

unmoved_grown : {T : Type 0} (before after : Node T) → after ≡ before → IsGrown before.parts.history after.parts.history
unmoved_grown {T} before after same = subst (IsGrown before.parts.history) (sym (ap (λ (n : Node T). n.parts.history) same)) (grown_itself before.parts.history)

module _ {T A : Type 0} (tapes : Tape T) (before after : Node T) where
  proposed_grown : (halted : Bool) → before.halted ≡ halted → (d : Definition) (result : Result (Vec Message A) NodeFault) →
      IsProposed tapes before d result after → IsGrown before.parts.history after.parts.history
  proposed_grown true is d result proposed = unmoved_grown before after (proposed.refused is).1
  proposed_grown false is d result proposed = step_grown before after tapes (Propose d) result (proposed.steps is)

  pub moved_grown : (sent : Vec Message A) → MovesOnce tapes before sent after → IsGrown before.parts.history after.parts.history
  moved_grown sent (Stays unmoved) = unmoved_grown before after unmoved.same
  moved_grown sent (Proposes d result proposed hands) = proposed_grown before.halted refl d result proposed

pub cached_on : GrowthKeepsAll → (history other : List Definition) (cache : CacheValue) → IsGrown history other → AllCached history cache → AllCached other cache
cached_on theorem history other cache grown cached = subst (λ (h : List Definition). AllCached h cache) grown.is (theorem history grown.more cache cached)
