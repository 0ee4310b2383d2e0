-- The file isn't written, after the tapes were opened.
use Rattle.wf_serve.proofs.Started.{unwritten}
use Rattle.wf_serve.proofs.node_start.open_with.Goals as goal

pub returns-in-Err-write_file-clause-rejected : goal.returns-in-Err-write_file-clause-rejected
returns-in-Err-write_file-clause-rejected g c = unwritten c.args.n c.in-Err-write_file.cause _ _ _ c.in-Ok.ensures.opened c.in-Err-write_file.ensures.unwritten
