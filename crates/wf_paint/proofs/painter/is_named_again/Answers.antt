use Rattle.std.proofs.Common.{eqb, ◌+◌, drop, get_or}
use Rattle.std.specs.List.{IsAnyAnswer}
use Rattle.std.proofs.lemmas.List.{take_rest}
use Rattle.std.proofs.lemmas.List.Elements.{contains_decides, Decides-contains}
use Rattle.std.proofs.lemmas.Bool.Decides.{Decides-eqb}
use Rattle.std.proofs.Common.{◌≡◌}
use Rattle.wf_paint.proofs.painter.is_named_again.Goals as goal

pub returns : goal.returns
returns c =
    let later = drop (c.args.index + 1) c.args.layers.now in
    let named = get_or c.args.layers.now c.args.index 0 in
    let asked : IsAnyAnswer (λ y t. eqb y named ≡ t) later c.contains.result = rw (take_rest c.args.layers.now (c.args.index + 1)) at c.contains.ensures.cases in
    Decides-contains later named c.contains.result (contains_decides eqb Decides-eqb later named c.contains.result asked)
