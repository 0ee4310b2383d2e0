-- The two ends of a connection.
use Rattle.std.proofs.Common.{◌≡◌, ◌∙◌, ℕ, List, ◌++◌, drop, length, sym, ap, append_assoc, Vec}
use Rattle.std.proofs.Math.Seq.{drop-append_seam}
use Rattle.std.specs.declared.alloc.Global.{Global}
use Rattle.wf_def.specs.Definition.{Definition}
use Rattle.wf_mail.specs.Mail.{IsFirstPart, spelled}
use Rattle.wf_mail.specs.Receiver.{ReceiverState, came, taken}
use Rattle.wf_mail.specs.Theorem.{OnlySentCome}
use Rattle.wf_model.specs.Message.{Message}
use Rattle.wf_peer.specs.Greeting.{GreetingsAreAsLong, greeting_bytes}
use Rattle.wf_wire.specs.FromPeer.{HasComeFrom, bytes_by_then}
use Rattle.wf_wire.specs.Theorem.{OnlyPostedCome}
use Rattle.wf_wire.specs.ToPeer.{IsSentAs}
use Rattle.wf_wire.proofs.Offers.{in_along, in_left}

-- what came after the greeting is a beginning of the encodings
after_greeting : GreetingsAreAsLong → (peer : ℕ) (stream : List (Vec ℕ Global × ReceiverState)) (m : Message Definition) (come : HasComeFrom peer stream m) (sent : List ℕ) (put : List (Message Definition)) →
    IsSentAs sent put → IsFirstPart (bytes_by_then come) sent → IsFirstPart (taken come.receiver) (spelled put)
after_greeting as_long peer stream m come sent put is begins =
    let said = greeting_bytes come.said in
    let own = greeting_bytes is.own in
    let more = begins.0 ++ is.begins.0 in
    let all : said ++ (taken come.receiver ++ more) ≡ own ++ spelled put =
    sym (append_assoc said (taken come.receiver) more)
    ∙ sym (append_assoc (said ++ taken come.receiver) begins.0 is.begins.0)
    ∙ ap (λ (l : List ℕ). ((l ++ taken come.receiver) ++ begins.0) ++ is.begins.0) (sym come.bytes)
    ∙ ap (λ (l : List ℕ). l ++ is.begins.0) begins.1 ∙ is.begins.1 in
    (more, behind said own (taken come.receiver ++ more) (spelled put) (as_long come.said is.own (taken come.receiver ++ more) (spelled put) come.is_greeting is.is_greeting all) all)
  where
    behind : (a b x y : List ℕ) → length a ≡ length b → a ++ x ≡ b ++ y → x ≡ y
    behind a b x y e same = sym (drop-append_seam a x) ∙ ap (drop (length a)) same ∙ ap (λ (n : ℕ). drop n (b ++ y)) e ∙ drop-append_seam b y

pub only_posted : GreetingsAreAsLong → OnlySentCome → OnlyPostedCome
only_posted as_long only peer stream m come sent put is begins =
    let came_first = only put (came come.receiver) (taken come.receiver) come.rest (record { messages = is.messages; begins = after_greeting as_long peer stream m come sent put is begins }) come.reads.splits in
    in_along m (came come.receiver ++ came_first.0) put came_first.1 (in_left m (came come.receiver) came_first.0 come.one)
