use Rattle.std.proofs.Common.{append_assoc}
use Rattle.wf_wms.specs.Exception.{exception_report}
use Rattle.wf_wms.proofs.report.exception_report.Goals as goal

pub returns : goal.returns
unfolding exception_report
returns c =
    rw (c.in_ok-write_text-3.ensures, c.in_ok-write_words.ensures, c.in_ok-write_text-2.ensures, c.in_ok-write_code.ensures, c.in_ok-write_text.ensures, c.new-document.ensures.items)
    (simp append_assoc)
