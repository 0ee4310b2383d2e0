-- The text stands over the front of zeros.
use Rattle.wf_folder.proofs.Names.{written_over}
use Rattle.wf_folder.proofs.name.pad.Goals as goal

pub returns : goal.returns
returns c = written_over c.args.text.now c.copy_from_slice.new.self c.copy_from_slice.ensures.after
