use Rattle.std.proofs.Common.{sym, ◌∙◌}
use Rattle.wf_canon.specs.Canon.{most_canon_bytes}
use Rattle.wf_codec.proofs.Reports.{read_count, report_failed, report_read}
use Rattle.wf_codec.proofs.decoder.report_of.Goals as goal

pub of-requires : goal.of-requires
of-requires c =
    read_count most_canon_bytes c.count_of-count.result c.args.bytes.now c.read_votes.new.votes.items (sym c.are_votes.ensures ∙ c.if-are_votes.true)
    (λ cut e. rw (c.new-votes.ensures, c.in-Ok.is) at (c.read_votes.ensures cut e)) ∙ c.count_of-count.ensures.value

pub returns-in-Err : goal.returns-in-Err
returns-in-Err c =
    report_failed c.args.slot c.count_of-count.result c.args.bytes.now c.count_of-count.ensures.value c.read_votes.new.votes.items c.in-Err.fault (sym c.are_votes.ensures ∙ c.if-are_votes.true)
    (λ cut e. rw (c.new-votes.ensures, c.in-Err.is) at (c.read_votes.ensures cut e))

pub returns-in-Ok : goal.returns-in-Ok
returns-in-Ok c =
    rw c.of.ensures (report_read c.args.slot c.count_of-count.result c.args.bytes.now c.count_of-count.ensures.value c.read_votes.new.votes.items (sym c.are_votes.ensures ∙ c.if-are_votes.true)
    (λ cut e. rw (c.new-votes.ensures, c.in-Ok.is) at (c.read_votes.ensures cut e)))
