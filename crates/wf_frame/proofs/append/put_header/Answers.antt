use Rattle.std.proofs.Common.{◌++◌, ap, ◌∙◌}
use Rattle.wf_frame.proofs.Written.{put_together}
use Rattle.wf_frame.proofs.append.put_header.Goals as goal

pub returns-clause-frame : goal.returns-clause-frame
returns-clause-frame c body same =
    put_together c.args.out.now.items c.put.new.out.items c.put-2.new.out.items body c.args.version c.args.kind c.args.count c.put.ensures.items
    (c.put-2.ensures.items ∙ ap (λ t. c.put.new.out.items ++ t) c.to_be_bytes.ensures) same
