-- What came on a connection from a peer.
use Rattle.std.proofs.Common.{◌≡◌, ◌∙◌, ℕ, ◌<◌, ◌≤◌, List, [], ◌∷◌, ◌++◌, length, map, take, refl, sym, ap, subst, append_assoc, append-nil, arith, length-append, Option, Some, None, true, false, inl, inr, Vec}
use Rattle.std.specs.Prelude.{◌-◌, ◌≢◌, Bool}
use Rattle.std.proofs.lemmas.List.{length-take-le}
use Rattle.std.proofs.Math.Logic.{∥∥₁_map, ∥∥₁_map₂}
use Rattle.std.specs.declared.alloc.Global.{Global}
use Rattle.wf_codec.specs.Message.{view}
use Rattle.wf_codec.specs.declared.fault.DecodeFault.{DecodeFault}
use Rattle.wf_codec.specs.declared.fault.DecodeFault.TheVariants.{Memory}
use Rattle.wf_codec.specs.declared.message.Message as code
use Rattle.wf_def.specs.Definition.{Definition}
use Rattle.wf_mail.specs.Mail.{IsFirstPart, spelled}
use Rattle.wf_mail.specs.Receiver as mail
use Rattle.wf_mail.specs.Receiver.{IsClosed, IsPieceReceived, ReceiverState, came, taken}
use Rattle.wf_mail.specs.Stream.{Reads}
use Rattle.wf_model.specs.Chosen.{IsIn}
use Rattle.wf_model.specs.Message.{Message}
use Rattle.wf_peer.specs.Greeting.{IsGreeting, greeting_bytes}
use Rattle.wf_peer.specs.declared.greeting.Greeting.{Greeting}
use Rattle.wf_wire.specs.FromPeer.{HasComeFrom, IsGreetedBy, IsTakenIn, bytes_by_then, takes_more}
use Rattle.wf_wire.specs.Post.{AreAmong}
use Rattle.wf_sockets.specs.declared.connection.Connection.{Ghosts as Connection}
use Rattle.wf_wire.specs.Reception.{AreLostOn, AreTakenOn, IsBrokenOn, IsLoss, IsLostBy, IsLostOn, IsReadBehind, IsStoppedBy}
use Rattle.wf_wire.specs.declared.from_peer.FromPeer.{FromPeer}
use Rattle.wf_wire.specs.declared.receipt.ReceptionFault.{ReceptionFault}
use Rattle.wf_wire.specs.declared.receipt.ReceptionFault.TheVariants as faults
use Rattle.wf_wire.proofs.Offers.{in_along, in_right}

-- ---- bytes

-- a new receiver took nothing
pub taken_none : (receiver : ReceiverState) → receiver ≡ mail.Open [] [] → taken receiver ≡ []
unfolding spelled
taken_none receiver e = ap taken e

pub nothing_came : (all greeting : List ℕ) (receiver : ReceiverState) (whole : Bool) → all ≡ [] → greeting ≡ [] → receiver ≡ mail.Open [] [] → ∥ IsTakenIn all greeting receiver whole ∥₁
nothing_came all greeting receiver whole none empty fresh = ∣ record {
  rest = [];
  bytes = none ∙ sym (ap (λ (l : List ℕ). l ++ (taken receiver ++ [])) empty ∙ ap (λ (l : List ℕ). l ++ []) (taken_none receiver fresh));
  none = λ w. refl;
} ∣₁

all_taken : (all greeting : List ℕ) (receiver : ReceiverState) (whole : Bool) → whole ≡ true → IsTakenIn all greeting receiver whole → all ≡ greeting ++ taken receiver
all_taken all greeting receiver whole w is =
    is.bytes ∙ ap (λ (l : List ℕ). greeting ++ (taken receiver ++ l)) (is.none w) ∙ ap (λ (l : List ℕ). greeting ++ l) (append-nil (taken receiver))

-- more of the greeting came
pub greeting_came : (all greeting all' greeting' : List ℕ) (count most : ℕ) (receiver : ReceiverState) (whole whole' : Bool) → whole ≡ true → taken receiver ≡ [] → IsReadBehind count most all greeting all' greeting' →
    ∥ IsTakenIn all greeting receiver whole ∥₁ → ∥ IsTakenIn all' greeting' receiver whole' ∥₁
greeting_came all greeting all' greeting' count most receiver whole whole' w fresh read before = ∥∥₁_map before so
  where
    so : IsTakenIn all greeting receiver whole → IsTakenIn all' greeting' receiver whole'
    so is = record {
      rest = [];
      bytes = read.came ∙ ap (λ (l : List ℕ). l ++ read.more) (all_taken all greeting receiver whole w is ∙ ap (λ (l : List ℕ). greeting ++ l) fresh ∙ append-nil greeting)
          ∙ sym read.behind ∙ sym (append-nil greeting') ∙ ap (λ (l : List ℕ). greeting' ++ (l ++ [])) (sym fresh);
      none = λ t. refl;
    }

-- bytes of it are lost
pub greeting_lost : (all greeting all' greeting' : List ℕ) (receiver : ReceiverState) (whole : Bool) → IsLostOn all greeting all' greeting' → ∥ IsTakenIn all greeting receiver whole ∥₁ → ∥ IsTakenIn all' greeting' receiver false ∥₁
greeting_lost all greeting all' greeting' receiver whole lost before = ∥∥₁_map before so
  where
    so : IsTakenIn all greeting receiver whole → IsTakenIn all' greeting' receiver false
    so is = record {
      rest = is.rest ++ lost.lost;
      bytes = lost.came ∙ ap (λ (l : List ℕ). l ++ lost.lost) is.bytes ∙ append_assoc greeting (taken receiver ++ is.rest) lost.lost
          ∙ ap (λ (l : List ℕ). greeting ++ l) (append_assoc (taken receiver) is.rest lost.lost) ∙ ap (λ (l : List ℕ). l ++ (taken receiver ++ (is.rest ++ lost.lost))) (sym lost.same);
      none = λ t. absurd cc;
    }

    false_true : false ≡ true → ⊥
    false_true e = subst (λ (b : Bool). is_false b) e tt
      where
        is_false : Bool → Type 0
        is_false true = ⊥
        is_false false = Unit {0}

-- messages came
pub messages_came : (all greeting all' : List ℕ) (messages : Vec code.Message Global) (receiver receiver' : ReceiverState) (whole whole' : Bool) → whole ≡ true → AreTakenOn messages all receiver all' receiver' →
    ∥ IsTakenIn all greeting receiver whole ∥₁ → ∥ IsTakenIn all' greeting receiver' whole' ∥₁
messages_came all greeting all' messages receiver receiver' whole whole' w take before = ∥∥₁_map before so
  where
    so : IsTakenIn all greeting receiver whole → IsTakenIn all' greeting receiver' whole'
    so is = record {
      rest = [];
      bytes = take.all_is ∙ ap (λ (l : List ℕ). l ++ take.more) (all_taken all greeting receiver whole w is) ∙ append_assoc greeting (taken receiver) take.more
          ∙ ap (λ (l : List ℕ). greeting ++ l) (sym take.takes ∙ sym (append-nil (taken receiver')));
      none = λ t. refl;
    }

-- bytes of them are lost
pub messages_lost : (all greeting all' : List ℕ) (receiver receiver' : ReceiverState) (whole : Bool) → whole ≡ true → AreLostOn all receiver all' receiver' →
    ∥ IsTakenIn all greeting receiver whole ∥₁ → ∥ IsTakenIn all' greeting receiver' false ∥₁
messages_lost all greeting all' receiver receiver' whole w lost before = ∥∥₁_map before so
  where
    so : IsTakenIn all greeting receiver whole → IsTakenIn all' greeting receiver' false
    so is = record {
      rest = lost.lost;
      bytes = lost.left greeting (all_taken all greeting receiver whole w is);
      none = λ t. absurd cc;
    }

    false_true : false ≡ true → ⊥
    false_true e = subst (λ (b : Bool). is_false b) e tt
      where
        is_false : Bool → Type 0
        is_false true = ⊥
        is_false false = Unit {0}

pub none_came : (all all' greeting : List ℕ) (receiver receiver' : ReceiverState) (whole : Bool) → all' ≡ all → receiver' ≡ receiver → ∥ IsTakenIn all greeting receiver whole ∥₁ → ∥ IsTakenIn all' greeting receiver' whole ∥₁
none_came all all' greeting receiver receiver' whole same still is =
    subst (λ (l : List ℕ). ∥ IsTakenIn l greeting receiver' whole ∥₁) (sym same) (subst (λ (r : ReceiverState). ∥ IsTakenIn all greeting r whole ∥₁) (sym still) is)

-- the bytes that were moved are so many
pub some_moved : (count : ℕ) (bytes piece : List ℕ) → piece ≡ take count bytes → 0 < count → count ≤ length bytes → 0 < length piece
some_moved count bytes piece is some within = subst (λ (l : List ℕ). 0 < length l) (sym is) (omega (arith, some, length-take-le count bytes within))

-- ---- the greeting

-- no more bytes came than a greeting has, so these are the whole of it
pub now_said : (all greeting all' greeting' : List ℕ) (count most wanted : ℕ) (g : Greeting) → IsReadBehind count most all greeting all' greeting' → 0 < count → most ≤ wanted - length greeting →
    ((h : Greeting) (more rest : List ℕ) → IsGreeting h → greeting ++ more ≡ greeting_bytes h ++ rest → wanted ≤ length (greeting_bytes h)) →
    IsGreeting g → (rest : List ℕ) → greeting' ≡ greeting_bytes g ++ rest → greeting' ≡ greeting_bytes g
now_said all greeting all' greeting' count most wanted g read some room within is rest e =
    e ∙ ap (λ (l : List ℕ). greeting_bytes g ++ l) (empty rest (omega (
      arith,
      some,
      room,
      read.counted,
      read.within,
      within g read.more rest is (sym read.behind ∙ e),
      ap length e,
      ap length read.behind,
      length-append greeting read.more,
      length-append (greeting_bytes g) rest,
    ))) ∙ append-nil (greeting_bytes g)
  where
    empty : (l : List ℕ) → length l ≡ 0 → l ≡ []
    empty [] none = refl
    empty (x ∷ l) none = absurd (omega (arith, none))

pub said_now : (g : Greeting) (greeting : List ℕ) (said : Option Greeting) → said ≡ Some g → IsGreeting g → greeting ≡ greeting_bytes g → ∥ IsGreetedBy said greeting ∥₁
said_now g greeting said now is whole = subst (λ (s : Option Greeting). ∥ IsGreetedBy s greeting ∥₁) (sym now) ∣ (is, whole) ∣₁

pub unsaid : (said : Option Greeting) (greeting : List ℕ) → said ≡ None → ∥ IsGreetedBy said greeting ∥₁
unsaid said greeting none = subst (λ (s : Option Greeting). ∥ IsGreetedBy s greeting ∥₁) (sym none) ∣ tt ∣₁

-- ---- messages

pub among_nothing : (messages : List code.Message) (all : List (Message Definition)) → messages ≡ [] → ∥ AreAmong (map view messages) all ∥₁
among_nothing messages all none = ∣ (λ x there. absurd (subst (λ (l : List code.Message). IsIn x (map view l)) none there)) ∣₁

pub among_same : (messages : List code.Message) (receiver receiver' : ReceiverState) → came receiver' ≡ came receiver → ∥ AreAmong (map view messages) (came receiver) ∥₁ → ∥ AreAmong (map view messages) (came receiver') ∥₁
among_same messages receiver receiver' same are = subst (λ (l : List (Message Definition)). ∥ AreAmong (map view messages) l ∥₁) (sym same) are

pub among_behind : (messages front rest : List code.Message) (all : List (Message Definition)) → messages ≡ front ++ rest → ∥ AreAmong (map view messages) all ∥₁ → ∥ AreAmong (map view rest) all ∥₁
among_behind messages front rest all e are = ∥∥₁_map are (λ all_are x there. all_are x (subst (λ (l : List code.Message). IsIn x (map view l)) (sym e) (behind front x there)))
  where
    behind : (first : List code.Message) (x : Message Definition) → IsIn x (map view rest) → IsIn x (map view (first ++ rest))
    behind [] x there = there
    behind (m ∷ first) x there = inr (behind first x there)

-- the first of those that wait came
pub come_from : (said : Greeting) (greeting : Vec ℕ Global) (receiver : ReceiverState) (stream : List (Vec ℕ Global × ReceiverState)) (messages others : List code.Message) (m : code.Message) (rest : List ℕ) →
    stream ≡ (greeting, receiver) ∷ [] → ∥ IsGreetedBy (Some said) greeting.items ∥₁ → Reads (taken receiver) (came receiver) rest → messages ≡ m ∷ others → ∥ AreAmong (map view messages) (came receiver) ∥₁ →
    ∥ HasComeFrom said.node stream (view m) ∥₁
come_from said greeting receiver stream messages others m rest only is reads first are = ∥∥₁_map₂ is are so
  where
    so : IsGreetedBy (Some said) greeting.items → AreAmong (map view messages) (came receiver) → HasComeFrom said.node stream (view m)
    so said_is all_are = record {
      greeting = greeting;
      receiver = receiver;
      only = only;
      said = said;
      is_greeting = said_is.0;
      bytes = said_is.1;
      by = refl;
      rest = rest;
      reads = reads;
      one = all_are (view m) (subst (λ (l : List code.Message). IsIn (view m) (map view l)) (sym first) (inl refl));
    }

-- ---- what a receiver makes of a piece

abbrev first_of : {A : Type 0} → List A → A → A
first_of [] none = none
first_of (x ∷ xs) none = x

-- what had come by the time of a message is a beginning of all that has come
pub came_by_then : (all : List ℕ) (greeting : Vec ℕ Global) (receiver : ReceiverState) (whole : Bool) (peer : ℕ) (stream : List (Vec ℕ Global × ReceiverState)) (m : Message Definition)
    → stream ≡ (greeting, receiver) ∷ [] → ∥ IsTakenIn all greeting.items receiver whole ∥₁ → (come : HasComeFrom peer stream m) → ∥ IsFirstPart (bytes_by_then come) all ∥₁
came_by_then all greeting receiver whole peer stream m only taken_in come =
    let same : (greeting, receiver) ≡ (come.greeting, come.receiver) = ap (λ (s : List (Vec ℕ Global × ReceiverState)). first_of s (greeting, receiver)) (sym only ∙ come.only) in
    let known : ∥ IsTakenIn all come.greeting.items come.receiver whole ∥₁ = subst (λ (entry : Vec ℕ Global × ReceiverState). ∥ IsTakenIn all entry.0.items entry.1 whole ∥₁) same taken_in in
    ∥∥₁_map known (λ is. (is.rest, append_assoc come.greeting.items (taken come.receiver) is.rest ∙ sym is.bytes))

pub taken_on : (messages : Vec code.Message Global) (all all' piece : List ℕ) (receiver receiver' : ReceiverState) → 0 < length piece → all' ≡ all ++ piece → IsPieceReceived receiver piece (map view messages.items) receiver' → taken receiver' ≡ taken receiver ++ piece →
    AreTakenOn messages all receiver all' receiver'
taken_on messages all all' piece receiver receiver' some more received takes = record { more = piece; all_is = more; some = some; takes = takes; received = received; among = ∣ seen receiver receiver' received ∣₁ }
  where
    seen : (r r' : ReceiverState) → IsPieceReceived r piece (map view messages.items) r' → AreAmong (map view messages.items) (came r')
    seen (mail.Open before rest) (mail.Open after rest') is = λ x there. in_along x (before ++ map view messages.items) after (sym is.0) (in_right x before (map view messages.items) there)
    seen (mail.Open before rest) (mail.Closed after fault) is = absurd is
    seen (mail.Closed before fault) r' is = absurd is

pub closed_on : (all all' piece : List ℕ) (fault : DecodeFault) (receiver receiver' : ReceiverState) → all' ≡ all ++ piece → IsClosed receiver piece fault receiver' → AreLostOn all receiver all' receiver'
closed_on all all' piece fault (mail.Open before rest) receiver' more closed = record {
  lost = rest ++ piece;
  left = λ front is. more ∙ ap (λ (l : List ℕ). l ++ piece) is ∙ append_assoc front (spelled before ++ rest) piece ∙ ap (λ (l : List ℕ). front ++ l) (append_assoc (spelled before) rest piece)
      ∙ ap (λ (r : ReceiverState). front ++ (taken r ++ (rest ++ piece))) (sym closed.0);
  same = ap came closed.0;
}
closed_on all all' piece fault (mail.Closed before earlier) receiver' more closed = record {
  lost = piece;
  left = λ front is. more ∙ ap (λ (l : List ℕ). l ++ piece) is ∙ append_assoc front (spelled before) piece ∙ ap (λ (r : ReceiverState). front ++ (taken r ++ piece)) (sym closed.1);
  same = ap came closed.1;
}

-- with bytes that aren't messages
pub broken_on : (all all' piece : List ℕ) (fault : DecodeFault) (receiver receiver' : ReceiverState) → all' ≡ all ++ piece → IsClosed receiver piece fault receiver' → fault ≢ Memory → takes_more receiver ≡ true → IsBrokenOn all receiver all'
broken_on all all' piece fault (mail.Open before rest) receiver' more closed lasts takes = record { more = piece; came = more; fault = fault; breaks = closed.1 lasts }
broken_on all all' piece fault (mail.Closed before earlier) receiver' more closed lasts takes = cc

pub lost_by : (fault : ReceptionFault) (all all' : List ℕ) (receiver : ReceiverState) → IsLoss fault → IsLostBy fault all receiver all'
lost_by faults.Closed all all' receiver end = tt
lost_by faults.Failed all all' receiver end = tt
lost_by faults.Memory all all' receiver end = tt
lost_by (faults.BadGreeting fault) all all' receiver end = absurd end
lost_by faults.BadMessage all all' receiver end = absurd end

-- a receiver is open after messages came
pub still_open : (piece : List ℕ) (messages : List (Message Definition)) (receiver receiver' : ReceiverState) → IsPieceReceived receiver piece messages receiver' → takes_more receiver' ≡ true
still_open piece messages (mail.Open before rest) (mail.Open after rest') is = refl
still_open piece messages (mail.Open before rest) (mail.Closed after fault) is = absurd is
still_open piece messages (mail.Closed before fault) receiver' is = absurd is

pub opened : (receiver : ReceiverState) → receiver ≡ mail.Open [] [] → takes_more receiver ≡ true
opened receiver fresh = ap takes_more fresh

-- ---- why nothing more comes

module _ {C : Type 0} {connections : Connection C} where
  -- the connection ended
  pub stopped_by : (fault : ReceptionFault) (before after : FromPeer C connections) → IsLoss fault → after.is_whole ≡ false → IsStoppedBy fault before after
  stopped_by faults.Closed before after end whole = whole
  stopped_by faults.Failed before after end whole = whole
  stopped_by faults.Memory before after end whole = whole
  stopped_by (faults.BadGreeting fault) before after end whole = absurd end
  stopped_by faults.BadMessage before after end whole = absurd end

  -- or what came aren't messages
  pub stopped_on : (fault : ReceptionFault) (before after : FromPeer C connections) → IsLostBy fault (connections.came before.connection) before.receiver (connections.came after.connection) →
      takes_more before.receiver ≡ true → after.is_whole ≡ false → IsStoppedBy fault before after
  stopped_on faults.Closed before after lost takes whole = whole
  stopped_on faults.Failed before after lost takes whole = whole
  stopped_on faults.Memory before after lost takes whole = whole
  stopped_on (faults.BadGreeting fault) before after lost takes whole = absurd lost
  stopped_on faults.BadMessage before after lost takes whole = (lost takes, whole)

pub lost_nothing : (all all' : List ℕ) (receiver receiver' : ReceiverState) → all' ≡ all ++ [] → receiver' ≡ receiver → AreLostOn all receiver all' receiver'
lost_nothing all all' receiver receiver' none same = record {
  lost = [];
  left = λ front is. none ∙ append-nil all ∙ is ∙ ap (λ (l : List ℕ). front ++ l) (sym (append-nil (taken receiver)) ∙ ap (λ (r : ReceiverState). taken r ++ []) (sym same));
  same = ap came same;
}
