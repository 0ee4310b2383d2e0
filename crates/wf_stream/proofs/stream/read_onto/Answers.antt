use Rattle.std.proofs.Common.{rules}
use Rattle.wf_stream.specs.KnownTheorems.{takes_after}
use Rattle.wf_stream.proofs.stream.read_onto.Goals as goal

pub returns-in-Err-clause-most : goal.returns-in-Err-clause-most
returns-in-Err-clause-most g c =
    takes_after (g.S.Source.left c.args.source.now) (g.S.Source.left c.loop-count.source) (g.S.Source.left c.read_piece.new.source) c.loop-count.count
    _ c.args.limit c.args.bytes.now.items c.loop-count.bytes.items c.loop-count.invariant.0 c.read_piece.ensures.most (search rules)
