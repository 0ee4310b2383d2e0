-- Another node's tape isn't taken.
use Rattle.std.proofs.Common.{◌∙◌, sym}
use Rattle.wf_commands.proofs.Folders.{other_taken}
use Rattle.wf_commands.proofs.folder.take_own.Goals as goal

pub returns-else-is_own : goal.returns-else-is_own
returns-else-is_own c = other_taken c.args.owner.now c.args.number c.args.bytes.items c.args.check (sym c.is_own.ensures ∙ c.if-is_own.false)
