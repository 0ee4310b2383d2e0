use Rattle.std.proofs.Common.{◌+◌, nat_lt, sym, ap, ◌∙◌}
use Rattle.wf_geometry.proofs.StepsLemmas.{multiples_counted}
use Rattle.wf_geometry.proofs.steps.multiples_below.Goals as goal

pub returns-then-last-from-clause-below : goal.returns-then-last-from-clause-below
returns-then-last-from-clause-below c = λ u within.
    multiples_counted c.args.step c.args.bound u c.requires.step c.requires.bound
    ∙ ap (λ last. nat_lt u (last + 1)) (sym c.divide-last.ensures)
