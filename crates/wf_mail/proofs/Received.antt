-- What a receiver returns and leaves, by its inbox and its log.
use Rattle.std.proofs.Common.{◌≡◌, ◌≢◌, ℕ, Bool, true, false, List, [], ◌∷◌, ◌++◌, map, Vec, Result, Ok, Err, refl, sym, ap, subst, ◌∙◌, append_assoc, append-nil}
use Rattle.std.specs.declared.alloc.Global.{Global}
use mathlib.Core.Bool.{true≢false}
use Rattle.wf_codec.specs.Message.{view}
use Rattle.wf_codec.specs.declared.message.Message as code
use Rattle.wf_def.specs.Definition.{Definition}
use Rattle.wf_model.specs.Message.{Message}
use Rattle.wf_mail.specs.Inbox as inbox
use Rattle.wf_mail.specs.Inbox.{InboxState, IsFed, IsBroken}
use Rattle.wf_mail.specs.Stream.{Splits, Reads, Breaks}
use Rattle.wf_codec.specs.declared.fault.DecodeFault.{DecodeFault}
use Rattle.wf_codec.specs.declared.fault.DecodeFault.TheVariants.{Short, BadVersion, BadKind, BadField, NotCanonical, TooLong, Memory}
use Rattle.wf_mail.specs.Mail.{spelled, AreMessages}
use Rattle.wf_mail.specs.Receiver.{ReceiverState, Closed, is_memory, logged, with_inbox, state_of, came, taken, IsPieceReceived, IsClosed, KeepsPartIn, IsReceiver}
use Rattle.wf_mail.proofs.Spelled.{spelled_then, messages_then}
use Rattle.wf_mail.proofs.Streams.{splits_are, are_split, breaks_behind}
use Rattle.wf_mail.proofs.WholeMessages.{nothing_is_part}

abbrev Log : Type 0
Log = List (Vec code.Message Global × ℕ)

pub memory_is : (fault : DecodeFault) → is_memory fault ≡ true → fault ≡ Memory
memory_is Memory e = refl
memory_is BadVersion e = absurd (true≢false (sym e))
memory_is BadKind e = absurd (true≢false (sym e))
memory_is BadField e = absurd (true≢false (sym e))
memory_is NotCanonical e = absurd (true≢false (sym e))
memory_is TooLong e = absurd (true≢false (sym e))
memory_is Short e = absurd (true≢false (sym e))

pub not_memory : (fault : DecodeFault) → is_memory fault ≡ false → fault ≢ Memory
not_memory fault e = λ same. true≢false (sym (ap is_memory same) ∙ e)

-- the log of one more call
logged_more : (log : Log) (messages : Vec code.Message Global) (count : ℕ) → logged (log ++ (messages, count) ∷ []) ≡ logged log ++ map view messages.items
logged_more [] messages count = append-nil (map view messages.items)
logged_more (entry ∷ log) messages count =
    ap (λ ms. map view entry.0.items ++ ms) (logged_more log messages count) ∙ sym (append_assoc (map view entry.0.items) (logged log) (map view messages.items))

-- ---- a new one

pub new_is_receiver : (log : Log) (state : InboxState) → log ≡ [] → state ≡ inbox.Open [] → IsReceiver (logged log) state
new_is_receiver log state no_log no_rest = record {
  messages = subst (λ l. AreMessages (logged l)) (sym no_log) tt;
  part = subst KeepsPartIn (sym no_rest) nothing_is_part;
}

-- ---- a piece that is taken

-- the messages of the log with these
more_came : (log log' : Log) (messages : Vec code.Message Global) (count : ℕ) → log' ≡ log ++ (messages, count) ∷ [] → logged log' ≡ logged log ++ map view messages.items
more_came log log' messages count e = ap logged e ∙ logged_more log messages count

received : (log log' : Log) (messages : Vec code.Message Global) (count : ℕ) (old new : InboxState) (piece : List ℕ) → log' ≡ log ++ (messages, count) ∷ [] → IsFed old piece (map view messages.items) new →
    IsPieceReceived (with_inbox (logged log) old) piece (map view messages.items) (with_inbox (logged log') new)
received log log' messages count (inbox.Open rest) (inbox.Open after) piece e fed = (more_came log log' messages count e, fed)
received log log' messages count (inbox.Open rest) (inbox.Failed fault) piece e fed = absurd fed
received log log' messages count (inbox.Failed fault) new piece e fed = absurd fed

takes_on : (log log' : Log) (messages : Vec code.Message Global) (count : ℕ) (old new : InboxState) (piece : List ℕ) → log' ≡ log ++ (messages, count) ∷ [] → IsFed old piece (map view messages.items) new →
    taken (with_inbox (logged log') new) ≡ taken (with_inbox (logged log) old) ++ piece
takes_on log log' messages count (inbox.Open rest) (inbox.Open after) piece e fed =
    ap (λ ms. spelled ms ++ after) (more_came log log' messages count e)
    ∙ ap (λ bytes. bytes ++ after) (spelled_then (logged log) (map view messages.items))
    ∙ append_assoc (spelled (logged log)) (spelled (map view messages.items)) after
    ∙ ap (λ bytes. spelled (logged log) ++ bytes) (sym (splits_are (rest ++ piece) (map view messages.items) after fed.splits).1)
    ∙ sym (append_assoc (spelled (logged log)) rest piece)
takes_on log log' messages count (inbox.Open rest) (inbox.Failed fault) piece e fed = absurd fed
takes_on log log' messages count (inbox.Failed fault) new piece e fed = absurd fed

pub stays_receiver : (log log' : Log) (messages : Vec code.Message Global) (count : ℕ) (old new : InboxState) (piece : List ℕ) → log' ≡ log ++ (messages, count) ∷ [] → IsFed old piece (map view messages.items) new →
    IsReceiver (logged log) old → IsReceiver (logged log') new
stays_receiver log log' messages count (inbox.Open rest) (inbox.Open after) piece e fed is = record {
  messages = subst AreMessages (sym (more_came log log' messages count e)) (messages_then (logged log) (map view messages.items) is.messages (splits_are (rest ++ piece) (map view messages.items) after fed.splits).0);
  part = fed.part;
}
stays_receiver log log' messages count (inbox.Open rest) (inbox.Failed fault) piece e fed is = absurd fed
stays_receiver log log' messages count (inbox.Failed fault) new piece e fed is = absurd fed

-- by what the receiver was
pub received_now : (out : Bool) (log log' : Log) (messages : Vec code.Message Global) (count : ℕ) (old new : InboxState) (piece : List ℕ) (before : ReceiverState) → out ≡ false → state_of out (logged log) old ≡ before →
    log' ≡ log ++ (messages, count) ∷ [] → IsFed old piece (map view messages.items) new → IsPieceReceived before piece (map view messages.items) (state_of out (logged log') new)
received_now out log log' messages count old new piece before not_out was e fed =
    subst (λ x. IsPieceReceived x piece (map view messages.items) (state_of out (logged log') new)) was
    (subst (λ o. IsPieceReceived (state_of o (logged log) old) piece (map view messages.items) (state_of o (logged log') new)) (sym not_out) (received log log' messages count old new piece e fed))

pub takes_now : (out : Bool) (log log' : Log) (messages : Vec code.Message Global) (count : ℕ) (old new : InboxState) (piece : List ℕ) (before : ReceiverState) → out ≡ false → state_of out (logged log) old ≡ before →
    log' ≡ log ++ (messages, count) ∷ [] → IsFed old piece (map view messages.items) new → taken (state_of out (logged log') new) ≡ taken before ++ piece
takes_now out log log' messages count old new piece before not_out was e fed =
    subst (λ x. taken (state_of out (logged log') new) ≡ taken x ++ piece) was
    (subst (λ o. taken (state_of o (logged log') new) ≡ taken (state_of o (logged log) old) ++ piece) (sym not_out) (takes_on log log' messages count old new piece e fed))

-- ---- an error

-- the error of the inbox, once it has failed
closes_by_fault : (messages : List (Message Definition)) (old new : InboxState) (piece : List ℕ) (fault : DecodeFault) → AreMessages messages → IsBroken old piece fault new →
    IsClosed (with_inbox messages old) piece fault (with_inbox messages new)
closes_by_fault messages (inbox.Open rest) new piece fault are broken = (
  ap (with_inbox messages) broken.1,
  λ differs. subst (λ bytes. Breaks bytes fault) (sym (append_assoc (spelled messages) rest piece)) (breaks_behind messages (rest ++ piece) fault are broken.0),
)
closes_by_fault messages (inbox.Failed earlier) new piece fault are broken = (broken.0, ap (with_inbox messages) broken.1)

-- an allocation failed
closes_by_memory : (messages : List (Message Definition)) (old : InboxState) (piece : List ℕ) (fault : DecodeFault) → fault ≡ Memory → ((earlier : DecodeFault) → old ≡ inbox.Failed earlier → fault ≡ earlier) →
    IsClosed (with_inbox messages old) piece fault (Closed messages Memory)
closes_by_memory messages (inbox.Open rest) piece fault memory again = (ap (Closed messages) (sym memory), λ differs. absurd (differs memory))
closes_by_memory messages (inbox.Failed earlier) piece fault memory again = (again earlier refl, ap (Closed messages) (sym memory ∙ again earlier refl))

closes : (is_out : Bool) (messages : List (Message Definition)) (old new : InboxState) (piece : List ℕ) (fault : DecodeFault) → is_memory fault ≡ is_out → AreMessages messages →
    (fault ≢ Memory → IsBroken old piece fault new) → ((earlier : DecodeFault) → old ≡ inbox.Failed earlier → fault ≡ earlier) → IsClosed (with_inbox messages old) piece fault (state_of is_out messages new)
closes true messages old new piece fault out are broken again = closes_by_memory messages old piece fault (memory_is fault out) again
closes false messages old new piece fault out are broken again = closes_by_fault messages old new piece fault are (broken (not_memory fault out))

pub closed_now : (out out_now : Bool) (messages : List (Message Definition)) (old new : InboxState) (piece : List ℕ) (fault : DecodeFault) (before : ReceiverState) → out ≡ false → state_of out messages old ≡ before →
    out_now ≡ is_memory fault → AreMessages messages → (fault ≢ Memory → IsBroken old piece fault new) → ((earlier : DecodeFault) → old ≡ inbox.Failed earlier → fault ≡ earlier) →
    IsClosed before piece fault (state_of out_now messages new)
closed_now out out_now messages old new piece fault before not_out was now are broken again =
    subst (λ x. IsClosed x piece fault (state_of out_now messages new)) was
    (subst (λ o. IsClosed (state_of o messages old) piece fault (state_of out_now messages new)) (sym not_out) (closes out_now messages old new piece fault (sym now) are broken again))

error_of : {T E : Type 0} → Result T E → E → E
error_of (Ok x) e = e
error_of (Err y) e = y

pub same_error : {T E : Type 0} (x y : E) → ◌≡◌ {A = Result T E} (Err x) (Err y) → x ≡ y
unfolding error_of
same_error x y e = ap (λ r. error_of r x) e

pub failed_part : (state : InboxState) (fault : DecodeFault) → state ≡ inbox.Failed fault → KeepsPartIn state
failed_part state fault e = subst KeepsPartIn (sym e) tt

pub broken_part : (old new : InboxState) (piece : List ℕ) (fault : DecodeFault) → IsBroken old piece fault new → KeepsPartIn new
broken_part (inbox.Open rest) new piece fault broken = failed_part new fault broken.1
broken_part (inbox.Failed earlier) new piece fault broken = failed_part new earlier broken.1

-- ---- what came, always

-- of a closed one
closed_reads : (messages : List (Message Definition)) → AreMessages messages → (rest : List ℕ) × Reads (spelled messages) messages rest
closed_reads messages are = (
  [],
  record {
    splits = subst (λ bytes. Splits bytes messages []) (append-nil (spelled messages)) (are_split messages [] are);
    part = nothing_is_part;
  },
)

reads_of : (messages : List (Message Definition)) (state : InboxState) → IsReceiver messages state → (rest : List ℕ) × Reads (taken (with_inbox messages state)) (came (with_inbox messages state)) rest
reads_of messages (inbox.Open rest) is = (rest, record { splits = are_split messages rest is.messages; part = is.part })
reads_of messages (inbox.Failed fault) is = closed_reads messages is.messages

pub reads_always : (is_out_of_memory : Bool) (messages : List (Message Definition)) (state : InboxState) → IsReceiver messages state →
    (rest : List ℕ) × Reads (taken (state_of is_out_of_memory messages state)) (came (state_of is_out_of_memory messages state)) rest
reads_always true messages state is = closed_reads messages is.messages
reads_always false messages state is = reads_of messages state is
