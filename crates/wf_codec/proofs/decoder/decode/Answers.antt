use Rattle.std.proofs.Common.{arith}
use Rattle.wf_codec.specs.Message.{view}
use Rattle.wf_codec.proofs.Validated.{begins, has_bytes, whole_is_read, refused, short_unfinished, unfinished_short, short_is_none}
use Rattle.wf_codec.proofs.Faults.{answered, memory_over_text}
use Rattle.wf_codec.proofs.decoder.decode.Goals as goal

pub returns-clause-read : goal.returns-clause-read
returns-clause-read c = begins view c.validate.result c.args.bytes.now (λ i. omega (arith, c.type_inv.bytes i)) c.validate.ensures

pub returns-clause-each : goal.returns-clause-each
returns-clause-each c = whole_is_read c.one_text_one_map.ensures view c.validate.result c.args.bytes.now c.validate.ensures

pub returns-clause-refused : goal.returns-clause-refused
returns-clause-refused c = refused view c.validate.result c.args.bytes.now (λ i. omega (arith, c.type_inv.bytes i)) c.validate.ensures

pub returns-clause-short : goal.returns-clause-short
returns-clause-short c = (short_unfinished view c.validate.result c.args.bytes.now c.validate.ensures, unfinished_short view c.validate.result c.args.bytes.now c.validate.ensures)

pub returns-clause-none_yet : goal.returns-clause-none_yet
returns-clause-none_yet c = short_is_none c.one_text_one_map.ensures view c.validate.result c.args.bytes.now c.validate.ensures

pub returns-clause-count : goal.returns-clause-count
returns-clause-count c = has_bytes view c.validate.result c.args.bytes.now (begins view c.validate.result c.args.bytes.now (λ i. omega (arith, c.type_inv.bytes i)) c.validate.ensures)

pub returns-clause-first : goal.returns-clause-first
returns-clause-first c = answered view c.validate.result c.args.bytes.now c.validate.ensures

pub returns-clause-memory : goal.returns-clause-memory
returns-clause-memory c = memory_over_text view c.validate.result c.args.bytes.now c.validate.ensures
