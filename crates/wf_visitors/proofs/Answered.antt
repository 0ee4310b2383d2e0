-- What came from clients and was sent to them, as slots change and more are answered.
use Rattle.std.proofs.Common.{◌≡◌, ◌+◌, ℕ, suc, zero, false, true, List, [], ◌∷◌, ◌++◌, Option, Some, None, take, drop, replicate, slice_index_or, slice_set, sym, ap, subst, ◌∙◌, inl, inr, refl, arith}
use Rattle.std.proofs.Math.Logic.{∥∥₁_map}
use Rattle.std.proofs.Math.Seq.{take-add}
use Rattle.std.proofs.lemmas.List.{append-nil, append_assoc, drop-drop, replicate-append-replicate}
use Rattle.wf_client.specs.Client.{Client, is_asking}
use Rattle.wf_client.specs.PartialRequest.{Incoming}
use Rattle.wf_client.specs.ResponseBuffer.{Outgoing, rest_of}
use Rattle.wf_client.specs.declared.client.ClientPhase.TheVariants.{Asking, Taking}
use Rattle.wf_sockets.specs.declared.connection.Connection.{Ghosts as Connection}
use Rattle.wf_visitors.specs.Responses.{AreResponses, GoesOnFrom, WasSentOne, MayRespond, MayRespondAt, MayRespondOn}
use Rattle.wf_visitors.specs.Turn.{IfHere, IsGiving, IsReceiving}
use Rattle.wf_visitors.specs.declared.socket.ClientConnection.{ClientConnection}
use Rattle.wf_visitors.specs.declared.turn.ClientTurn.{ClientTurn}
use Rattle.wf_visitors.specs.declared.turn.ClientTurn.TheVariants.{Here, Gone}

-- ---- bytes

pub goes_on_from_more : (first second third : List ℕ) → GoesOnFrom third second → GoesOnFrom second first → GoesOnFrom third first
goes_on_from_more first second third more rest = (rest.0 ++ more.0, more.1 ∙ ap (λ (s : List ℕ). s ++ more.0) rest.1 ∙ append_assoc first rest.0 more.0)

pub goes_on_from_itself : (bytes : List ℕ) → GoesOnFrom bytes bytes
goes_on_from_itself bytes = ([], sym (append-nil bytes))

pub goes_on_from_read : (bytes all all' more : List ℕ) → all' ≡ all ++ more → GoesOnFrom all bytes → GoesOnFrom all' bytes
goes_on_from_read bytes all all' more is begins = goes_on_from_more bytes all all' (more, is) begins

-- the next bytes behind those that were taken
taken_on : (bytes sent sent' : List ℕ) (done count done' : ℕ) → done' ≡ done + count → sent ≡ take done bytes
    → sent' ≡ sent ++ take count (drop done bytes) → sent' ≡ take done' bytes
taken_on bytes sent sent' done count done' is before after =
    after ∙ ap (λ (s : List ℕ). s ++ take count (drop done bytes)) before ∙ sym (take-add done count bytes) ∙ ap (λ (n : ℕ). take n bytes) (sym is)

taken_twice : (bytes sent sent' sent'' : List ℕ) (done first done' second : ℕ) → done' ≡ done + first
    → sent' ≡ sent ++ take first (drop done bytes) → sent'' ≡ sent' ++ take second (drop done' bytes) → sent'' ≡ sent ++ take (first + second) (drop done bytes)
taken_twice bytes sent sent' sent'' done first done' second is before after =
    let e : drop done' bytes ≡ drop first (drop done bytes) = ap (λ (n : ℕ). drop n bytes) is ∙ sym (drop-drop first done bytes) in
    after ∙ ap (λ (s : List ℕ). s ++ take second (drop done' bytes)) before ∙ append_assoc sent (take first (drop done bytes)) (take second (drop done' bytes))
    ∙ ap (λ (s : List ℕ). sent ++ (take first (drop done bytes) ++ take second s)) e ∙ ap (λ (s : List ℕ). sent ++ s) (sym (take-add first second (drop done bytes)))

-- ---- the log of responses

has_more : (responses more : List (Client × ℕ)) (came response : List ℕ) → WasSentOne responses came response → WasSentOne (responses ++ more) came response
unfolding WasSentOne
has_more [] more came response has = absurd has
has_more (entry ∷ responses) more came response (inl is) = inl is
has_more (entry ∷ responses) more came response (inr has) = inr (has_more responses more came response has)

has_last : (responses : List (Client × ℕ)) (client : Client) (k : ℕ) (came response : List ℕ) → came ≡ client.incoming.bytes → client.outgoing.bytes ≡ response → WasSentOne (responses ++ (client, k) ∷ []) came response
unfolding WasSentOne
has_last [] client k came response all is = inl (([], all ∙ sym (append-nil client.incoming.bytes)), is)
has_last (entry ∷ responses) client k came response all is = inr (has_last responses client k came response all is)

-- more came
has_begun : (responses : List (Client × ℕ)) (came came' response : List ℕ) → GoesOnFrom came' came → WasSentOne responses came response → WasSentOne responses came' response
unfolding WasSentOne
has_begun [] came came' response more has = absurd has
has_begun (entry ∷ responses) came came' response more (inl is) = inl (goes_on_from_more entry.0.incoming.bytes came came' more is.0, is.1)
has_begun (entry ∷ responses) came came' response more (inr has) = inr (has_begun responses came came' response more has)

-- one more client was answered
pub logged : (before taken noted after more : List (Client × ℕ)) → taken ≡ before → noted ≡ taken ++ more → after ≡ noted → after ≡ before ++ more
logged before taken noted after more taken_is noted_is after_is = after_is ∙ noted_is ∙ ap (λ (s : List (Client × ℕ)). s ++ more) taken_is

-- ---- a client and its connection

may_more : (responses more : List (Client × ℕ)) (came sent : List ℕ) (client : Client) → MayRespond responses came sent client → MayRespond (responses ++ more) came sent client
may_more responses more came sent client may = record {
  asked = may.asked;
  silent = may.silent;
  answered = λ is. ∥∥₁_map (may.answered is) (λ has. has_more responses more came client.outgoing.bytes has);
  taken = may.taken;
}

-- a newcomer
pub may_new : (responses : List (Client × ℕ)) (came sent : List ℕ) (client : Client) → came ≡ [] → sent ≡ [] → client.phase ≡ Asking → client.incoming ≡ record { bytes = []; needed = 1; is_closed = false } → MayRespond responses came sent client
may_new responses came sent client none unsent asks empty = record {
  asked = λ is. none ∙ sym (ap (λ (i : Incoming). i.bytes) empty);
  silent = λ is. unsent;
  answered = λ is. absurd (let e : is_asking client.phase ≡ true = ap is_asking asks in cc);
  taken = λ is. absurd (let e : is_asking client.phase ≡ true = ap is_asking asks in cc);
}

-- the connection was watched, or its writing was ended
pub may_same : (responses : List (Client × ℕ)) (came sent came' sent' : List ℕ) (client : Client) → came' ≡ came → sent' ≡ sent → MayRespond responses came sent client → MayRespond responses came' sent' client
may_same responses came sent came' sent' client came_is sent_is may = subst (λ (c : List ℕ). MayRespond responses c sent' client) (sym came_is) (subst (λ (s : List ℕ). MayRespond responses came s client) (sym sent_is) may)

-- the request isn't whole
pub may_ask : (responses : List (Client × ℕ)) (came sent : List ℕ) (old new : Client) → is_asking old.phase ≡ true → new.phase ≡ old.phase → new.incoming.bytes ≡ old.incoming.bytes → MayRespond responses came sent old → MayRespond responses came sent new
may_ask responses came sent old new asks phase bytes may = record {
  asked = λ is. may.asked asks ∙ sym bytes;
  silent = λ is. may.silent asks;
  answered = λ is. absurd (let e : is_asking new.phase ≡ is_asking old.phase = ap is_asking phase in cc);
  taken = λ is. absurd (let e : is_asking new.phase ≡ is_asking old.phase = ap is_asking phase in cc);
}

pub may_receive : (responses : List (Client × ℕ)) (came sent came' sent' : List ℕ) (old new : Client) → old.phase ≡ Asking → IsReceiving came sent old came' sent' new → MayRespond responses came sent old → MayRespond responses came' sent' new
may_receive responses came sent came' sent' old new asks is may =
    let was : is_asking old.phase ≡ true = ap is_asking asks in
    let now : is_asking new.phase ≡ true = ap is_asking is.phase ∙ was in
    record {
      asked = λ is_now. is.came_more ∙ ap (λ (b : List ℕ). b ++ is.piece) (may.asked was) ∙ sym is.incoming;
      silent = λ is_now. is.sent_still ∙ may.silent was;
      answered = λ other. absurd cc;
      taken = λ other. absurd cc;
    }

-- the client that was answered last is to take its response
pub may_answer : (responses responses' : List (Client × ℕ)) (k : ℕ) (came sent : List ℕ) (old answered new : Client) → is_asking old.phase ≡ true → MayRespond responses came sent old
    → answered.incoming ≡ old.incoming → answered.outgoing.done ≡ 0 → responses' ≡ responses ++ (answered, k) ∷ [] → new.phase ≡ Taking → new.outgoing ≡ answered.outgoing → MayRespond responses' came sent new
may_answer responses responses' k came sent old answered new asks may incoming done more takes outgoing =
    let now : is_asking new.phase ≡ false = ap is_asking takes in
    let start : new.outgoing.done ≡ 0 = ap (λ (o : Outgoing). o.done) outgoing ∙ done in
    record {
      asked = λ other. absurd cc;
      silent = λ other. absurd cc;
      answered = λ is. subst (λ (s : List (Client × ℕ)). ∥ WasSentOne s came new.outgoing.bytes ∥₁) (sym more)
          ∣ has_last responses answered k came new.outgoing.bytes (may.asked asks ∙ sym (ap (λ (i : Incoming). i.bytes) incoming)) (sym (ap (λ (o : Outgoing). o.bytes) outgoing)) ∣₁;
      taken = λ is. may.silent asks ∙ sym (ap (λ (n : ℕ). take n new.outgoing.bytes) start);
    }

pub may_give : (responses : List (Client × ℕ)) (came sent came' sent' : List ℕ) (old new : Client) → old.phase ≡ Taking → IsGiving came sent old came' sent' new → MayRespond responses came sent old → MayRespond responses came' sent' new
may_give responses came sent came' sent' old new takes is may =
    let was : is_asking old.phase ≡ false = ap is_asking takes in
    let now : is_asking new.phase ≡ false = ap is_asking is.phase ∙ was in
    record {
      asked = λ other. absurd cc;
      silent = λ other. absurd cc;
      answered = λ is_now. subst (λ (c : List ℕ). ∥ WasSentOne responses c new.outgoing.bytes ∥₁) (sym is.came_still)
          (subst (λ (b : List ℕ). ∥ WasSentOne responses came b ∥₁) (sym is.bytes) (may.answered was));
      taken = λ is_now. taken_on old.outgoing.bytes sent sent' old.outgoing.done is.count new.outgoing.done is.done (may.taken was) is.sent_more ∙ ap (λ (b : List ℕ). take new.outgoing.done b) (sym is.bytes);
    }

-- what still comes is dropped
pub may_drop : (responses : List (Client × ℕ)) (came sent came' sent' : List ℕ) (old new : Client) → is_asking old.phase ≡ false → is_asking new.phase ≡ false → new.outgoing ≡ old.outgoing
    → GoesOnFrom came' came → sent' ≡ sent → MayRespond responses came sent old → MayRespond responses came' sent' new
may_drop responses came sent came' sent' old new was now outgoing more sent_is may = record {
  asked = λ other. absurd cc;
  silent = λ other. absurd cc;
  answered = λ is. subst (λ (o : Outgoing). ∥ WasSentOne responses came' o.bytes ∥₁) (sym outgoing) (∥∥₁_map (may.answered was) (λ has. has_begun responses came came' old.outgoing.bytes more has));
  taken = λ is. sent_is ∙ may.taken was ∙ sym (ap (λ (o : Outgoing). take o.done o.bytes) outgoing);
}

-- ---- slots

pub one_more_free : {X : Type 0} (n : ℕ) (one : X) → replicate n one ++ one ∷ [] ≡ replicate (n + 1) one
one_more_free n one = replicate-append-replicate n 1 one

module _ {C : Type 0} (connections : Connection C) where
  none_there : (responses : List (Client × ℕ)) (n : ℕ) (slots : List (Option Client)) → AreResponses connections responses (replicate n None) slots
  unfolding AreResponses MayRespondAt
  none_there responses zero slots = tt
  none_there responses (suc n) [] = tt
  none_there responses (suc n) (slot ∷ slots) = (tt, none_there responses n slots)

  -- none is there
  pub none_responses : (responses : List (Client × ℕ)) (n : ℕ) (there : List (Option (ClientConnection C))) (slots : List (Option Client)) → there ≡ replicate n None → AreResponses connections responses there slots
  none_responses responses n there slots is = subst (λ (t : List (Option (ClientConnection C))). AreResponses connections responses t slots) (sym is) (none_there responses n slots)

  set_at : (responses : List (Client × ℕ)) (there : List (Option (ClientConnection C))) (slots : List (Option Client)) (i : ℕ) (connection : Option (ClientConnection C)) (slot : Option Client)
      → MayRespondAt connections responses connection slot → AreResponses connections responses there slots → AreResponses connections responses (slice_set there i connection) (slice_set slots i slot)
  unfolding AreResponses
  set_at responses [] slots i connection slot may are = tt
  set_at responses (one ∷ there) [] zero connection slot may are = tt
  set_at responses (one ∷ there) [] (suc i) connection slot may are = tt
  set_at responses (one ∷ there) (other ∷ slots) zero connection slot may are = (may, are.1)
  set_at responses (one ∷ there) (other ∷ slots) (suc i) connection slot may are = (are.0, set_at responses there slots i connection slot may are.1)

  nobody : (responses : List (Client × ℕ)) (connection : Option (ClientConnection C)) → MayRespondAt connections responses connection None
  unfolding MayRespondAt
  nobody responses None = tt
  nobody responses (Some connection) = tt

  read_at : (responses : List (Client × ℕ)) (there : List (Option (ClientConnection C))) (slots : List (Option Client)) (i : ℕ)
      → AreResponses connections responses there slots → MayRespondAt connections responses (slice_index_or there i None) (slice_index_or slots i None)
  unfolding AreResponses MayRespondAt
  read_at responses [] slots i are = tt
  read_at responses (one ∷ there) [] zero are = nobody responses one
  read_at responses (one ∷ there) [] (suc i) are = nobody responses (slice_index_or there i None)
  read_at responses (one ∷ there) (other ∷ slots) zero are = are.0
  read_at responses (one ∷ there) (other ∷ slots) (suc i) are = read_at responses there slots i are.1

  -- both are taken out of a slot, or one that is alone there
  pub left_at : (responses : List (Client × ℕ)) (there there' : List (Option (ClientConnection C))) (slots slots' : List (Option Client)) (i : ℕ)
      → there' ≡ slice_set there i None → slots' ≡ slice_set slots i None → AreResponses connections responses there slots → AreResponses connections responses there' slots'
  unfolding MayRespondAt
  left_at responses there there' slots slots' i there_is slots_is are = subst (λ (t : List (Option (ClientConnection C))). AreResponses connections responses t slots') (sym there_is)
      (subst (λ (s : List (Option Client)). AreResponses connections responses (slice_set there i None) s) (sym slots_is) (set_at responses there slots i None None tt are))

  pub taken_at : (responses : List (Client × ℕ)) (there : List (Option (ClientConnection C))) (slots : List (Option Client)) (i : ℕ) (connection : ClientConnection C) (client : Client)
      → Some connection ≡ slice_index_or there i None → Some client ≡ slice_index_or slots i None → AreResponses connections responses there slots → MayRespondOn connections responses connection client
  unfolding MayRespondAt
  taken_at responses there slots i connection client there_is slots_is are = subst (λ (c : Option (ClientConnection C)). MayRespondAt connections responses c (Some client)) (sym there_is)
      (subst (λ (s : Option Client). MayRespondAt connections responses (slice_index_or there i None) s) (sym slots_is) (read_at responses there slots i are))

  -- both are put into a slot
  pub put_at : (responses : List (Client × ℕ)) (there there' : List (Option (ClientConnection C))) (slots slots' : List (Option Client)) (i : ℕ) (connection : ClientConnection C) (client : Client)
      → there' ≡ slice_set there i (Some connection) → slots' ≡ slice_set slots i (Some client) → AreResponses connections responses there slots → MayRespondOn connections responses connection client → AreResponses connections responses there' slots'
  unfolding MayRespondAt
  put_at responses there there' slots slots' i connection client there_is slots_is are may = subst (λ (t : List (Option (ClientConnection C))). AreResponses connections responses t slots') (sym there_is)
      (subst (λ (s : List (Option Client)). AreResponses connections responses (slice_set there i (Some connection)) s) (sym slots_is) (set_at responses there slots i (Some connection) (Some client) may are))

  may_more_at : (responses more : List (Client × ℕ)) (connection : Option (ClientConnection C)) (slot : Option Client) → MayRespondAt connections responses connection slot → MayRespondAt connections (responses ++ more) connection slot
  unfolding MayRespondAt
  may_more_at responses more None slot may = tt
  may_more_at responses more (Some connection) None may = tt
  may_more_at responses more (Some connection) (Some client) may = may_more responses more (connections.came connection.connection) (connections.sent connection.connection) client may

  responses_more : (responses more : List (Client × ℕ)) (there : List (Option (ClientConnection C))) (slots : List (Option Client)) → AreResponses connections responses there slots → AreResponses connections (responses ++ more) there slots
  unfolding AreResponses
  responses_more responses more [] slots are = tt
  responses_more responses more (one ∷ there) [] are = tt
  responses_more responses more (one ∷ there) (slot ∷ slots) are = (may_more_at responses more one slot are.0, responses_more responses more there slots are.1)

  -- one more client was answered
  pub responses_along : (responses responses' more : List (Client × ℕ)) (there : List (Option (ClientConnection C))) (slots : List (Option Client)) → responses' ≡ responses ++ more → AreResponses connections responses there slots → AreResponses connections responses' there slots
  responses_along responses responses' more there slots is are = subst (λ (s : List (Client × ℕ)). AreResponses connections s there slots) (sym is) (responses_more responses more there slots are)

-- ---- what a turn reads and writes

-- bytes came
pub received : (came sent came' sent' piece : List ℕ) (old new : Client) → came' ≡ came ++ piece → sent' ≡ sent → new.incoming.bytes ≡ old.incoming.bytes ++ piece
    → new.phase ≡ old.phase → new.since ≡ old.since → new.outgoing ≡ old.outgoing → IsReceiving came sent old came' sent' new
received came sent came' sent' piece old new came_is sent_is incoming phase since outgoing = record {
  phase = phase;
  since = since;
  outgoing = outgoing;
  piece = piece;
  came_more = came_is;
  incoming = incoming;
  sent_still = sent_is;
}

-- none came
pub received_none : (came sent came' sent' : List ℕ) (old new : Client) → came' ≡ came ++ [] → sent' ≡ sent → new.incoming.bytes ≡ old.incoming.bytes
    → new.phase ≡ old.phase → new.since ≡ old.since → new.outgoing ≡ old.outgoing → IsReceiving came sent old came' sent' new
received_none came sent came' sent' old new came_is sent_is incoming phase since outgoing =
    received came sent came' sent' [] old new came_is sent_is (incoming ∙ sym (append-nil old.incoming.bytes)) phase since outgoing

pub received_nothing : (came sent : List ℕ) (client : Client) → IsReceiving came sent client came sent client
received_nothing came sent client = received_none came sent came sent client client (sym (append-nil came)) refl refl refl refl refl

pub receiving_watched : (came sent came' sent' came'' sent'' : List ℕ) (old new : Client) → came'' ≡ came' → sent'' ≡ sent' → IsReceiving came sent old came' sent' new → IsReceiving came sent old came'' sent'' new
receiving_watched came sent came' sent' came'' sent'' old new came_is sent_is is = record {
  phase = is.phase;
  since = is.since;
  outgoing = is.outgoing;
  piece = is.piece;
  came_more = came_is ∙ is.came_more;
  incoming = is.incoming;
  sent_still = sent_is ∙ is.sent_still;
}

pub receiving_twice : (came sent came' sent' came'' sent'' : List ℕ) (one two three : Client) → IsReceiving came sent one came' sent' two → IsReceiving came' sent' two came'' sent'' three → IsReceiving came sent one came'' sent'' three
receiving_twice came sent came' sent' came'' sent'' one two three first second = record {
  phase = second.phase ∙ first.phase;
  since = second.since ∙ first.since;
  outgoing = second.outgoing ∙ first.outgoing;
  piece = first.piece ++ second.piece;
  came_more = second.came_more ∙ ap (λ (s : List ℕ). s ++ second.piece) first.came_more ∙ append_assoc came first.piece second.piece;
  incoming = second.incoming ∙ ap (λ (s : List ℕ). s ++ second.piece) first.incoming ∙ append_assoc one.incoming.bytes first.piece second.piece;
  sent_still = second.sent_still ∙ first.sent_still;
}

-- the client took the next bytes
pub given : (came sent came' sent' : List ℕ) (count : ℕ) (old new : Client) → came' ≡ came → sent' ≡ sent ++ take count (rest_of old.outgoing) → new.outgoing.done ≡ old.outgoing.done + count
    → new.outgoing.bytes ≡ old.outgoing.bytes → new.incoming ≡ old.incoming → new.phase ≡ old.phase → new.since ≡ old.since → IsGiving came sent old came' sent' new
given came sent came' sent' count old new came_is sent_is done bytes incoming phase since = record {
  phase = phase;
  since = since;
  incoming = incoming;
  bytes = bytes;
  count = count;
  done = done;
  sent_more = sent_is;
  came_still = came_is;
}

-- it took none
pub given_none : (came sent came' sent' : List ℕ) (client : Client) → came' ≡ came → sent' ≡ sent ++ [] → IsGiving came sent client came' sent' client
given_none came sent came' sent' client came_is sent_is = given came sent came' sent' 0 client client came_is sent_is (omega arith) refl refl refl refl

pub given_nothing : (came sent : List ℕ) (client : Client) → IsGiving came sent client came sent client
given_nothing came sent client = given_none came sent came sent client refl (sym (append-nil sent))

pub giving_twice : (came sent came' sent' came'' sent'' : List ℕ) (one two three : Client) → IsGiving came sent one came' sent' two → IsGiving came' sent' two came'' sent'' three → IsGiving came sent one came'' sent'' three
giving_twice came sent came' sent' came'' sent'' one two three first second = record {
  phase = second.phase ∙ first.phase;
  since = second.since ∙ first.since;
  incoming = second.incoming ∙ first.incoming;
  bytes = second.bytes ∙ first.bytes;
  count = first.count + second.count;
  done = omega (arith, first.done, second.done);
  sent_more = taken_twice one.outgoing.bytes sent sent' sent'' one.outgoing.done first.count two.outgoing.done second.count first.done first.sent_more
      (second.sent_more ∙ ap (λ (b : List ℕ). sent' ++ take second.count (drop two.outgoing.done b)) first.bytes);
  came_still = second.came_still ∙ first.came_still;
}

-- so unless the client has gone
pub giving_before : (turn : ClientTurn) (came sent came' sent' came'' sent'' : List ℕ) (one two three : Client) → IsGiving came sent one came' sent' two → IfHere turn (IsGiving came' sent' two came'' sent'' three) → IfHere turn (IsGiving came sent one came'' sent'' three)
giving_before Here came sent came' sent' came'' sent'' one two three first second = giving_twice came sent came' sent' came'' sent'' one two three first second
giving_before Gone came sent came' sent' came'' sent'' one two three first second = tt
