-- What is read is what was written.
use Rattle.std.proofs.Common.{inl, inr}
use Rattle.wf_peer.specs.PeerProgressText.{lines_of}
use Rattle.wf_peer.proofs.Lines.{only_these, only_these_old}
use Rattle.wf_peer.proofs.peer_progress.PeerProgress.read.Goals as goal

pub returns-in-Ok-clause-each : goal.returns-in-Ok-clause-each
returns-in-Ok-clause-each c = only_these c.args.bytes.now c.in-Some.rest.now c.read_lines.new.nodes c.in-Some.ensures c.in-Ok.ensures

pub returns-in_default-after-clause-each : goal.returns-in_default-after-clause-each
returns-in_default-after-clause-each c = λ known count are text. elim text [
  | inl e ↦ absurd (c.in_default.ensures (lines_of known) e)
  | inr e ↦ absurd (c.in_default-after.ensures (lines_of known) e)
]

pub returns-in-Ok-read_lines-clause-each : goal.returns-in-Ok-read_lines-clause-each
returns-in-Ok-read_lines-clause-each c = only_these_old c.args.bytes.now c.in-Some-after.rest.now c.read_lines-2.new.nodes c.in-Some-after.ensures c.in-Ok-read_lines.ensures
