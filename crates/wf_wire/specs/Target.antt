-- Whom a node's messages are for.
use Rattle.std.specs.Prelude.{ℕ, ◌==◌, Bool, true}
use Rattle.wf_codec.specs.declared.message.Message.{Message}
use Rattle.wf_codec.specs.declared.message.Message.TheVariants.{Prepare, Promise, Accept, Accepted, Nack, Chosen, Ask}
use Rattle.wf_wire.specs.declared.target.Target.{Target}
use Rattle.wf_wire.specs.declared.target.Target.TheVariants.{Everyone, Only}

-- whether the node of that number is among them
abbrev pub includes : Target → ℕ → Bool
includes Everyone node = true
includes (Only only) node = only == node

-- An answer to a Prepare, an Accept or an Ask is for the node that it comes from, anything else for
-- every node.
abbrev pub reply_target : Message → ℕ → Target
reply_target (Prepare s b) from = Only from
reply_target (Promise i b report) from = Everyone
reply_target (Accept s b d) from = Only from
reply_target (Accepted i s b) from = Everyone
reply_target (Nack i s b q) from = Everyone
reply_target (Chosen s d) from = Everyone
reply_target (Ask s) from = Only from
