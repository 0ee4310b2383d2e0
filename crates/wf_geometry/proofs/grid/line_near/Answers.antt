use Rattle.std.proofs.Common.{◌≡◌, ◌≤◌, ◌*◌, ℤ, pos, nat_abs, FitsSigned, w64, to_z-of_z, rules, arith}
use Rattle.std.specs.Int.{w128}
use Rattle.wf_geometry.specs.Exact.{difference, product}
use Rattle.wf_geometry.proofs.GridLemmas.{line_near_enough, stretched_most, level_wide}
use Rattle.wf_geometry.proofs.grid.line_near.Goals as goal

pub nearest-requires-clause-most : goal.nearest-requires-clause-most
nearest-requires-clause-most c =
    let away : FitsSigned w64 c.distance.result = search rules in
    let stretched : FitsSigned w128 c.multiple-stretched.result = search rules in
    let size : nat_abs c.multiple-stretched.result ≡ nat_abs c.distance.result * c.args.cells = simp to_z-of_z at c.multiple-stretched.ensures.within in
    let most = stretched_most (nat_abs c.distance.result) c.args.width c.args.cells c.distance.ensures.within c.requires.level in
    rw (to_z-of_z stretched) (omega arith)

pub nearest-requires-clause-some : goal.nearest-requires-clause-some
nearest-requires-clause-some c = let wide = level_wide c.args.width c.args.cells c.requires.level in omega arith

pub returns-clause-only : goal.returns-clause-only
returns-clause-only c = λ k on.
    let least = c.ranges.least in
    let x = c.ranges.x in
    let away : FitsSigned w64 c.distance.result = search rules in
    let stretched : FitsSigned w128 c.multiple-stretched.result = search rules in
    let answered : FitsSigned w64 c.nearest.result = search rules in
    let value : c.multiple-stretched.result ≡ product c.distance.result (pos c.args.cells) = simp to_z-of_z at c.multiple-stretched.ensures.value in
    let apart : c.distance.result ≡ difference c.args.x c.args.least = simp to_z-of_z at c.distance.ensures.value in
    let near = line_near_enough c.args.least c.args.width c.args.cells k c.args.x c.requires.level on in
    let here : 4 * nat_abs (difference c.multiple-stretched.result (product k (pos c.args.width))) ≤ c.args.width = rw (value, apart) near in
    let only : (j : ℤ) → 4 * nat_abs (difference c.multiple-stretched.result (product j (pos c.args.width))) ≤ c.args.width → j ≡ c.nearest.result =
    simp to_z-of_z at c.nearest.ensures.only in
    rw (to_z-of_z answered) (only k here)
