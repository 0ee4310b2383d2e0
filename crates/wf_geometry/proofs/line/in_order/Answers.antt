use Rattle.std.proofs.Common.{◌≡◌, true, false, FitsSigned, w64, to_z-of_z, sym, ◌∙◌, rules}
use Rattle.wf_geometry.specs.Exact.{is_less}
use Rattle.wf_geometry.proofs.LineLemmas.{flat_back, flat_forth}
use Rattle.wf_geometry.proofs.line.in_order.Goals as goal

pub returns-then-is_less : goal.returns-then-is_less
returns-then-is_less c = λ width position.
    let to : FitsSigned w64 c.x.result = search rules in
    let from : FitsSigned w64 c.x-2.result = search rules in
    let compared : c.is_less.result ≡ is_less c.x.result c.x-2.result = simp to_z-of_z at c.is_less.ensures in
    let back : is_less c.args.to.x c.args.from.x ≡ true = rw (← c.x.ensures.value, ← c.x-2.ensures.value) (sym compared ∙ c.if-is_less.true) in
    sym (flat_back width position c.args.from c.args.to back)

pub returns-else-is_less : goal.returns-else-is_less
returns-else-is_less c = λ width position.
    let to : FitsSigned w64 c.x.result = search rules in
    let from : FitsSigned w64 c.x-2.result = search rules in
    let compared : c.is_less.result ≡ is_less c.x.result c.x-2.result = simp to_z-of_z at c.is_less.ensures in
    let forth : is_less c.args.to.x c.args.from.x ≡ false = rw (← c.x.ensures.value, ← c.x-2.ensures.value) (sym compared ∙ c.if-is_less.false) in
    sym (flat_forth width position c.args.from c.args.to forth)
