-- What is appended to nothing is the record's encoding.
use Rattle.std.proofs.Common.{ap, ◌++◌, ◌∙◌}
use Rattle.wf_journal.specs.Record.{view}
use Rattle.wf_journal.specs.Encoding.{spelling}
use Rattle.wf_journal.proofs.encoder.encode.Goals as goal

pub returns : goal.returns
returns c = record {
  is_record = c.push.ensures.is_record;
  spelled = c.in_ok-push.ensures.spelled ∙ ap (λ bytes. bytes ++ spelling (view c.args.entry.now)) c.new-bytes.ensures.items;
}
