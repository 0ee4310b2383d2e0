-- Two maps that are published under one sequence are one, and so are their texts.
use Rattle.std.proofs.Common.{◌∙◌, sym, ap, subst}
use Rattle.wf_spelling.specs.Canon.{canon}
use Rattle.wf_farm.specs.Agreement.{HasNoTwoDefinitions}
use Rattle.wf_play.specs.Session.{Session}
use Rattle.wf_play.proofs.FarmCalls.{published_once, same_texts}
use Rattle.wf_play.proofs.session.Session.are_unequal.Goals as goal

pub returns : goal.returns
returns c =
    let one = subst HasNoTwoDefinitions (ap (λ (s : Session). s.farm) c.self.view_is) c.agree.ensures.agree in
    let same = published_once c.args.self.now.farm c.args.slot c.args.known.now c.args.canon.now one c.requires.known c.requires.canon in
    same_texts _ _ c.ne.result c.ne.ensures (c.text.ensures.value ∙ ap canon same ∙ sym c.text-2.ensures.value)
