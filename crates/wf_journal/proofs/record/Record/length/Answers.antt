use Rattle.std.proofs.Common.{refl}
use Rattle.wf_journal.specs.Record.{view}
use Rattle.wf_journal.proofs.Validated.{whole_length}
use Rattle.wf_journal.proofs.record.Record.length.Goals as goal

pub returns : goal.returns
returns c = whole_length (view c.args.self.now) c.put_fields.new.fields.items c.put_fields.result.1.now c.len.result _ c.put_fields.ensures.body c.len.ensures.value refl
