use Rattle.std.proofs.Common.{◌∙◌, ap, subst}
use Rattle.std.specs.Prelude.{IfSome}
use Rattle.wf_farm.specs.Farm.{MemoryFarm}
use Rattle.wf_play.specs.Session.{Session}
use Rattle.wf_model.specs.DurableState.{definition_at}
use Rattle.wf_play.specs.Session.{IsPublishedInFarm}
use Rattle.wf_play.proofs.FarmCalls.{published_there}
use Rattle.wf_play.proofs.session.Session.published_by.Goals as goal

pub returns-in-Some : goal.returns-in-Some
returns-in-Some c =
    subst (λ (farm : MemoryFarm). IfSome c.canon.result (λ canon. IsPublishedInFarm farm c.args.slot canon.now)) (ap (λ (s : Session). s.farm) c.self.view_is)
    (published_there c.self.inside.farm c.args.number c.args.slot c.in-Some.node.now c.canon.result c.in-Some.ensures (c.canon.ensures ∙ ap (λ h. definition_at h c.args.slot) c.history.ensures))
