use Rattle.std.proofs.Common.{◌≡◌, drop}
use Rattle.wf_paint.proofs.PlainLemmas.{written_after}
use Rattle.wf_paint.proofs.pixels.Pixels.write.Goals as goal

pub returns : goal.returns
returns c =
    let same : c.args.self.now ≡ drop c.self.inside.room c.self.inside.bytes.items = cc in
    let within = rw same at c.requires in
    rw same (written_after c.self.inside.room c.args.index c.args.color c.self.inside.bytes.items within)
