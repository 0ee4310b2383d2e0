-- Two bytes that aren't this version's are another's.
use Rattle.wf_reader.proofs.Parts.{other_version}
use Rattle.wf_reader.proofs.question_bytes.fault_of_version.Goals as goal

pub returns-in-len2-up-clause-version : goal.returns-in-len2-up-clause-version
returns-in-len2-up-clause-version c = other_version c.args.bytes.now c.in-len2-up.len_at_least c.requires.other
