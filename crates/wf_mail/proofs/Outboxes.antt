-- An outbox stays one: over a message that is put in, and over bytes that are written out.
use Rattle.std.proofs.Common.{◌≡◌, ℕ, ◌+◌, ◌-◌, ◌≤◌, List, [], ◌∷◌, ◌++◌, length, take, drop, refl, sym, ap, subst, ◌∙◌, append_assoc, length-append, length-drop, length-take, arith}
use Rattle.std.proofs.lemmas.List.{map-append, take-append-drop}
use Rattle.wf_codec.specs.Message.{view, IsMessage}
use Rattle.wf_codec.specs.Encoding.{spelling}
use Rattle.wf_codec.specs.declared.message.Message as code
use Rattle.wf_mail.specs.Mail.{spelled, AreMessages}
use Rattle.wf_mail.specs.Outbox.{OutboxState, logged, waiting_in, before_end, state_of, IsOutbox, IsPut, IsAdvanced}
use Rattle.wf_mail.proofs.Spelled.{spelled_then, spelled_one, messages_then, before_is}

-- ---- a new one

pub new_is_outbox : (log : List (code.Message × ℕ)) (front queue : List ℕ) (limit : ℕ) → log ≡ [] → front ≡ [] → queue ≡ [] → IsOutbox (logged log) front 0 queue limit
unfolding spelled
new_is_outbox log front queue limit no_log no_front no_queue =
    let nothing : waiting_in front 0 queue ≡ [] = ap (λ f. waiting_in f 0 queue) no_front ∙ no_queue in
    subst (λ l. IsOutbox (logged l) front 0 queue limit) (sym no_log) (record {
      messages = tt;
      ends = ([], nothing);
      within = omega arith;
      in_turn = λ e. no_queue;
      bounded = omega (arith, ap length nothing);
    })

pub new_written : (log : List (code.Message × ℕ)) (front queue : List ℕ) → log ≡ [] → before_end (spelled (logged log)) (waiting_in front 0 queue) ≡ []
unfolding spelled
new_written log front queue no_log = ap (λ l. before_end (spelled (logged l)) (waiting_in front 0 queue)) no_log ∙ take_nothing _
  where
    take_nothing : (k : ℕ) → take {A = ℕ} k [] ≡ []
    take_nothing k = grind (arith, length-take)

module _ (log : List (code.Message × ℕ)) (front : List ℕ) (done : ℕ) (queue : List ℕ) (limit : ℕ) (is : IsOutbox (logged log) front done queue limit) where
  abbrev waiting : List ℕ
  waiting = waiting_in front done queue

  -- what was written out is what is before the bytes that wait
  pub written_is : before_end (spelled (logged log)) waiting ≡ is.ends.0
  written_is = before_is is.ends.0 waiting (spelled (logged log)) is.ends.1

  pub spells : before_end (spelled (logged log)) waiting ++ waiting ≡ spelled (logged log)
  spells = ap (λ written. written ++ waiting) written_is ∙ is.ends.1

  -- ---- bytes are written out

  module _ (count : ℕ) (front' : List ℕ) (done' : ℕ) (queue' : List ℕ) (left : waiting_in front' done' queue' ≡ drop count waiting) where
    written_on : (is.ends.0 ++ take count waiting) ++ waiting_in front' done' queue' ≡ spelled (logged log)
    written_on =
        append_assoc is.ends.0 (take count waiting) (waiting_in front' done' queue')
        ∙ ap (λ bytes. is.ends.0 ++ bytes) (ap (λ bytes. take count waiting ++ bytes) left ∙ take-append-drop count waiting) ∙ is.ends.1

    pub stays_outbox : done' ≤ length front' → (done' ≡ length front' → queue' ≡ []) → IsOutbox (logged log) front' done' queue' limit
    stays_outbox within in_turn = record {
      messages = is.messages;
      ends = (is.ends.0 ++ take count waiting, written_on);
      within = within;
      in_turn = in_turn;
      bounded = omega (arith, is.bounded, ap length left, length-drop count waiting);
    }

    advances : (spare spare' : ℕ) → IsAdvanced count (state_of log front done queue limit spare) (state_of log front' done' queue' limit spare')
    advances spare spare' = record {
      put = refl;
      written = before_is (is.ends.0 ++ take count waiting) (waiting_in front' done' queue') (spelled (logged log)) written_on
          ∙ ap (λ written. written ++ take count waiting) (sym written_is);
      waiting = left;
      limit = refl;
    }

    pub advanced : (spare spare' : ℕ) (before : OutboxState) → state_of log front done queue limit spare ≡ before → IsAdvanced count before (state_of log front' done' queue' limit spare')
    advanced spare spare' before e = subst (λ o. IsAdvanced count o (state_of log front' done' queue' limit spare')) e (advances spare spare')

  -- ---- a message is put in

  module _ (message : code.Message) (count : ℕ) (front' : List ℕ) (done' : ℕ) (queue' : List ℕ) (behind : waiting_in front' done' queue' ≡ waiting ++ spelling (view message)) where
    abbrev more : List (code.Message × ℕ)
    more = log ++ (message, count) ∷ []

    logged_more : logged more ≡ logged log ++ view message ∷ []
    logged_more = map-append (λ entry. view entry.0) log ((message, count) ∷ [])

    spelled_more : spelled (logged more) ≡ spelled (logged log) ++ spelling (view message)
    spelled_more = ap spelled logged_more ∙ spelled_then (logged log) (view message ∷ []) ∙ ap (λ bytes. spelled (logged log) ++ bytes) (spelled_one (view message))

    ends_more : is.ends.0 ++ waiting_in front' done' queue' ≡ spelled (logged more)
    ends_more =
        ap (λ bytes. is.ends.0 ++ bytes) behind ∙ sym (append_assoc is.ends.0 waiting (spelling (view message)))
        ∙ ap (λ bytes. bytes ++ spelling (view message)) is.ends.1 ∙ sym spelled_more

    puts_outbox : IsMessage (view message) → length waiting + length (spelling (view message)) ≤ limit → done' ≤ length front' → (done' ≡ length front' → queue' ≡ []) →
        IsOutbox (logged more) front' done' queue' limit
    puts_outbox is_message room within in_turn = record {
      messages = subst AreMessages (sym logged_more) (messages_then (logged log) (view message ∷ []) is.messages (is_message, tt));
      ends = (is.ends.0, ends_more);
      within = within;
      in_turn = in_turn;
      bounded = omega (arith, room, ap length behind, length-append waiting (spelling (view message)));
    }

    is_put : (spare spare' : ℕ) → length waiting + length (spelling (view message)) ≤ limit → IsPut (state_of log front done queue limit spare) (view message) (state_of more front' done' queue' limit spare')
    is_put spare spare' room = record {
      put = logged_more;
      written = before_is is.ends.0 (waiting_in front' done' queue') (spelled (logged more)) ends_more ∙ sym written_is;
      waiting = behind;
      limit = refl;
      room = room;
    }

    -- the log is this one
    pub puts_outbox_logged : (log' : List (code.Message × ℕ)) → log' ≡ more → IsMessage (view message) → length waiting + length (spelling (view message)) ≤ limit → done' ≤ length front' →
        (done' ≡ length front' → queue' ≡ []) → IsOutbox (logged log') front' done' queue' limit
    puts_outbox_logged log' e is_message room within in_turn =
        subst (λ l. IsOutbox (logged l) front' done' queue' limit) (sym e) (puts_outbox is_message room within in_turn)

    pub is_put_logged : (log' : List (code.Message × ℕ)) → log' ≡ more → (spare spare' : ℕ) (before : OutboxState) → state_of log front done queue limit spare ≡ before →
        length waiting + length (spelling (view message)) ≤ limit → IsPut before (view message) (state_of log' front' done' queue' limit spare')
    is_put_logged log' e spare spare' before was room =
        subst (λ l. IsPut before (view message) (state_of l front' done' queue' limit spare')) (sym e)
        (subst (λ o. IsPut o (view message) (state_of more front' done' queue' limit spare')) was (is_put spare spare' room))

-- the encoding waits behind what waited
pub waits_behind : (front : List ℕ) (done : ℕ) (queue queue' bytes front'' queue'' : List ℕ) (done'' : ℕ) → queue' ≡ queue ++ bytes → waiting_in front'' done'' queue'' ≡ waiting_in front done queue' →
    waiting_in front'' done'' queue'' ≡ waiting_in front done queue ++ bytes
waits_behind front done queue queue' bytes front'' queue'' done'' behind same =
    same ∙ ap (λ q. waiting_in front done q) behind ∙ sym (append_assoc (drop done front) queue bytes)

-- how many bytes wait
pub waiting_length : (front : List ℕ) (done : ℕ) (queue : List ℕ) → length (waiting_in front done queue) ≡ (length front - done) + length queue
waiting_length front done queue = omega (arith, length-append (drop done front) queue, length-drop done front)
