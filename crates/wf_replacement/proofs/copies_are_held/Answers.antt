use Rattle.wf_replacement.proofs.Copies.{copies_are_held}
use Rattle.wf_replacement.proofs.copies_are_held.Goals as goal

pub returns : goal.returns
returns c = copies_are_held c.copied_tapes.ensures
