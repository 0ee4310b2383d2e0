-- The name of a tape has its node's number.
use Rattle.wf_store.proofs.file_name.path_in.Goals as goal

pub returns-in-NodeTape : goal.returns-in-NodeTape
returns-in-NodeTape c = rw c.in-NodeTape.is c.tape_path.ensures
