use Rattle.std.proofs.Common.{◌≡◌, ◌≤◌, ◌^◌, arith}
use Rattle.std.proofs.Math.Nat.{pow-le-pow_right}
use Rattle.wf_geometry.proofs.grid.cells_at.Goals as goal

pub returns-clause-most : goal.returns-clause-most
returns-clause-most c =
    let most : 2 ^ c.args.z ≤ 2 ^ 20 = pow-le-pow_right {n = 2} (omega arith) {i = c.args.z} {j = 20} (omega arith) in
    let value : c.pow.result ≡ 2 ^ c.args.z = c.pow.ensures in
    rw value most
