use Rattle.std.proofs.Common.{arith}
use Rattle.wf_journal.specs.Record.{view}
use Rattle.wf_journal.proofs.Validated.{begins, is_torn, torn_begins_none, is_bad}
use Rattle.wf_journal.proofs.decoder.decode.Goals as goal

pub returns-clause-read : goal.returns-clause-read
returns-clause-read c = begins view c.validate.result c.args.bytes.now (λ i. omega (arith, c.type_inv.bytes i)) c.validate.ensures

pub returns-clause-torn : goal.returns-clause-torn
returns-clause-torn c = is_torn view c.validate.result c.args.bytes.now c.validate.ensures

pub returns-clause-none_yet : goal.returns-clause-none_yet
returns-clause-none_yet c = torn_begins_none view c.validate.result c.args.bytes.now c.validate.ensures

pub returns-clause-bad : goal.returns-clause-bad
returns-clause-bad c = is_bad view c.validate.result c.args.bytes.now c.validate.ensures
