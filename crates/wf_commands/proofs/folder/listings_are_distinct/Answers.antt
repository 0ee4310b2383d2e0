use Rattle.wf_commands.proofs.Distinct.{distinct}
use Rattle.wf_commands.proofs.folder.listings_are_distinct.Goals as goal

pub returns : goal.returns
returns c = distinct
