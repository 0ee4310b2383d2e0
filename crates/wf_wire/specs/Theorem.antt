-- The theorem about the two ends of a connection.
use Rattle.std.specs.Prelude.{ℕ, List, Vec}
use Rattle.std.specs.declared.alloc.Global.{Global}
use Rattle.wf_def.specs.Definition.{Definition}
use Rattle.wf_mail.specs.Mail.{IsFirstPart}
use Rattle.wf_mail.specs.Receiver.{ReceiverState}
use Rattle.wf_model.specs.Chosen.{IsIn}
use Rattle.wf_model.specs.Message.{Message}
use Rattle.wf_wire.specs.FromPeer.{HasComeFrom, bytes_by_then}
use Rattle.wf_wire.specs.ToPeer.{IsSentAs}

-- A message that came on a connection of which all bytes that had come are a beginning of what was
-- sent on one was put into that one's outbox.
abbrev pub OnlyPostedCome : Type 0
OnlyPostedCome = (peer : ℕ) (stream : List (Vec ℕ Global × ReceiverState)) (m : Message Definition) (come : HasComeFrom peer stream m) (sent : List ℕ) (put : List (Message Definition)) →
    IsSentAs sent put → IsFirstPart (bytes_by_then come) sent → IsIn m put
