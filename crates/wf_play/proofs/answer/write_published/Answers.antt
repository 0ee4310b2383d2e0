-- Each index is written after those before it.
use Rattle.std.proofs.Common.{arith}
use Rattle.std.specs.Prelude.{codes}
use Rattle.std.specs.String.{string_bytes}
use Rattle.wf_play.proofs.Report.{host_reported}
use Rattle.wf_play.proofs.answer.write_published.Goals as goal

pub loop-number-preserved : goal.loop-number-preserved
loop-number-preserved c =
    host_reported c.args.farm.now.hosts c.loop-number.number (string_bytes c.args.out.now) (codes "published") (string_bytes c.loop-number.out) (string_bytes c.write_published_by.new.out)
    (omega (arith, c.loop-number-test.true, c.size-number-end.ensures.value)) c.loop-number.invariant c.in_ok-write_published_by.ensures
