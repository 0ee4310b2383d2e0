-- An input that only sends messages, and a transition that stores its record.
use Rattle.std.proofs.Common.{◌≡◌, ℕ, true, false, List, map, append-nil, ◌++◌, Option, Some, None, option_map, Result, Ok, Err, IsSome, Vec, refl, sym, subst, ap, ◌∙◌, inl}
use Rattle.std.proofs.lemmas.Option.{none-some}
use Rattle.wf_codec.specs.Message as message
use Rattle.wf_codec.specs.declared.message.Message.{Message}
use Rattle.wf_def.specs.Definition.{Definition}
use Rattle.wf_model.specs.DurableState.{Record}
use Rattle.wf_model.specs.Message as model
use Rattle.wf_model.specs.Table.{Transition, only_sends, store}
use Rattle.wf_proposer.specs.Next.{Next}
use Rattle.wf_proposer.specs.Proposer.{Proposer, transition_of, volatile_of}
use Rattle.wf_journal.specs.Journal.{Journal, Follows, IsAdded, ReadsOneMore, ReadsSameOrOneMore}
use Rattle.wf_journal.specs.Record.{view}
use Rattle.wf_journal.specs.declared.record.Record as tape
use Rattle.wf_journal.specs.Encoding.{spelling}
use Rattle.wf_tape.specs.Tape.{IsUnchanged, IsExtended, HasRisen}
use Rattle.wf_node.specs.declared.fault.NodeFault.{NodeFault}
use Rattle.wf_node.specs.declared.fault.NodeFault.TheVariants.{Memory, Busy, SequenceFull, RoundsFull, Halted, TapeFailed, Nothing}
use Rattle.wf_node.specs.Act.{IsChange, IsStepReply}
use Rattle.wf_node.specs.Fault.{TakesMemory, ByEntry, ByMessages}
use Rattle.wf_node.specs.Parts.{Parts, stored_of}
use Rattle.wf_node.specs.TapeWrites.{bytes_of, keeping, IsTornAt, IsWritten, IsSpared, IsWriteBroken, IsStoredBy, IsWrite}
use Rattle.wf_tape.specs.Change.{inside}
use Rattle.wf_node.proofs.Fold.{stored_none, stored_by, torn_at, cut_at}
use Rattle.wf_tape.specs.declared.tape.Tape.{Ghosts as Tape}

-- No call was made: what could have been left at a moment from now on is what could be left now.
torn_stays : (entry : Option (Record Definition)) (images : List ℕ → Type 0) → IsTornAt entry images images
torn_stays entry images stored fits stands image left = inl (stands image left)

pub unchanged : (content : List ℕ) (images : List ℕ → Type 0) → IsUnchanged content content images images
unchanged content images = record { content = refl; kept = λ image is. is; no_other = λ image is. is }

module _ {T : Type 0} (tapes : Tape T) where
  -- nothing is written
  pub written_none : (entry : Option (Record Definition)) (journal : Journal T) → entry ≡ None → journal.halted ≡ false → IsWritten tapes entry journal journal
  written_none entry journal none running = record {
    running = running;
    grown = λ h. sym (ap (λ e. tapes.content journal.tape ++ bytes_of e) none ∙ append-nil (tapes.content journal.tape));
    stored = λ h. subst (λ e. IsStoredBy e (tapes.images journal.tape) (tapes.images journal.tape)) (sym none) (stored_none (tapes.images journal.tape));
    moments = λ h. torn_stays entry (inside tapes journal.tape journal.tape);
    still = λ sound. sound;
  }

  pub spared : (journal : Journal T) → journal.halted ≡ false → IsSpared tapes journal journal
  spared journal running = record { running = running; same = λ h. unchanged (tapes.content journal.tape) (tapes.images journal.tape); still = λ sound. sound }

  -- The transition stores nothing and leaves the volatile state unchanged: it only sends messages.
  pub reply_changes : {A : Type 0} (the_transition : Transition Definition) (journal : Journal T) (parts : Parts) (proposer : Proposer) (result : Result (Vec Message A) NodeFault) →
      journal.halted ≡ false → the_transition.entry ≡ None → the_transition.volatile ≡ volatile_of proposer → IsStepReply the_transition.messages result →
      IsChange tapes the_transition journal parts proposer result journal parts proposer
  unfolding store
  reply_changes the_transition journal parts proposer (Ok given) running entry volatile reply = (
    written_none the_transition.entry journal entry running,
    record {
      stored = ap (store (stored_of parts)) (sym entry);
      node = refl;
      nodes = refl;
      volatile = sym volatile;
      messages = reply;
    },
  )
  reply_changes the_transition journal parts proposer (Err Memory) running entry volatile reply =
      (spared journal running, record { parts = refl; proposer = refl }, ByMessages reply, λ h. torn_stays the_transition.entry (inside tapes journal.tape journal.tape))
  reply_changes the_transition journal parts proposer (Err TapeFailed) running entry volatile reply = absurd reply
  reply_changes the_transition journal parts proposer (Err Busy) running entry volatile reply = absurd reply
  reply_changes the_transition journal parts proposer (Err SequenceFull) running entry volatile reply = absurd reply
  reply_changes the_transition journal parts proposer (Err RoundsFull) running entry volatile reply = absurd reply
  reply_changes the_transition journal parts proposer (Err Nothing) running entry volatile reply = absurd reply
  reply_changes the_transition journal parts proposer (Err Halted) running entry volatile reply = absurd reply

  -- a transition that sends these messages
  pub sends_changes : {A : Type 0} (the_transition : Transition Definition) (messages : List (model.Message Definition)) (journal : Journal T) (parts : Parts) (proposer : Proposer) (result : Result (Vec Message A) NodeFault) →
      journal.halted ≡ false → the_transition ≡ only_sends (volatile_of proposer) messages → IsStepReply messages result →
      IsChange tapes the_transition journal parts proposer result journal parts proposer
  unfolding only_sends
  sends_changes the_transition messages journal parts proposer result running is reply =
      subst (λ r. IsChange tapes r journal parts proposer result journal parts proposer) (sym is)
      (reply_changes (only_sends (volatile_of proposer) messages) journal parts proposer result running refl refl reply)

  -- Allocation failure leaves the parts unchanged.
  pub memory_changes : {A : Type 0} (the_transition : Transition Definition) (journal : Journal T) (parts parts_after : Parts) (proposer : Proposer) (result : Result (Vec Message A) NodeFault) →
      result ≡ Err Memory → journal.halted ≡ false → parts_after ≡ parts → TakesMemory the_transition →
      IsChange tapes the_transition journal parts proposer result journal parts_after proposer
  memory_changes the_transition journal parts parts_after proposer result short running same takes =
      subst (λ r. IsChange tapes the_transition journal parts proposer r journal parts_after proposer) (sym short)
      (spared journal running, record { parts = same; proposer = refl }, takes, λ h. torn_stays the_transition.entry (inside tapes journal.tape journal.tape))

  -- A change by one transition is a change by an equal one.
  pub change_as : {A : Type 0} (given wanted : Transition Definition) (journal journal_after : Journal T) (parts parts_after : Parts) (proposer proposer_after : Proposer)
      (result : Result (Vec Message A) NodeFault) → given ≡ wanted →
      IsChange tapes given journal parts proposer result journal_after parts_after proposer_after →
      IsChange tapes wanted journal parts proposer result journal_after parts_after proposer_after
  change_as given wanted journal journal_after parts parts_after proposer proposer_after result is change =
      subst (λ r. IsChange tapes r journal parts proposer result journal_after parts_after proposer_after) is change

  -- A change from parts that are equal.
  pub change_from : {A : Type 0} (the_transition : Transition Definition) (journal journal_after : Journal T) (parts same parts_after : Parts) (proposer proposer_after : Proposer)
      (result : Result (Vec Message A) NodeFault) → same ≡ parts →
      IsChange tapes the_transition journal same proposer result journal_after parts_after proposer_after →
      IsChange tapes the_transition journal parts proposer result journal_after parts_after proposer_after
  change_from the_transition journal journal_after parts same parts_after proposer proposer_after result is change =
      subst (λ p. IsChange tapes the_transition journal p proposer result journal_after parts_after proposer_after) is change

  entry_taken : (entry : Option (Record Definition)) → (entry ≡ None → ⊥) → IsSome entry
  entry_taken None some = absurd (some refl)
  entry_taken (Some r) some = refl

  -- what broke the journal is the same whatever record it keeps
  broken_keeping : (entry : Option (Record Definition)) (journal journal_after : Journal T) → IsWriteBroken tapes entry journal journal_after →
      IsWriteBroken tapes entry journal (record journal_after { failed = entry })
  broken_keeping entry journal journal_after is = record {
    entry_is = is.entry_is;
    halted = is.halted;
    risen = is.risen;
    part = is.part;
    torn = is.torn;
    cut = is.cut;
    moments = is.moments;
    weak = is.weak;
  }

  -- If writing the record fails, the parts are unchanged, and the journal keeps the record if the
  -- tape failed.
  write_fails_keeping : (A B : Type 0) (the_transition : Transition Definition) (journal written : Journal T) (parts parts_after : Parts) (proposer : Proposer)
      (fault : NodeFault) → parts_after ≡ parts → IsWrite tapes {A = B} the_transition.entry journal (Err fault) written →
      IsChange tapes {A = A} the_transition journal parts proposer (Err fault) (keeping fault the_transition.entry written) parts_after proposer
  write_fails_keeping A B the_transition journal written parts parts_after proposer Memory same write =
      (write.0, record { parts = same; proposer = refl }, ByEntry (entry_taken the_transition.entry write.1), write.2)
  write_fails_keeping A B the_transition journal written parts parts_after proposer TapeFailed same write =
      (broken_keeping the_transition.entry journal written write, record { parts = same; proposer = refl }, refl)
  write_fails_keeping A B the_transition journal written parts parts_after proposer Busy same write = absurd write
  write_fails_keeping A B the_transition journal written parts parts_after proposer SequenceFull same write = absurd write
  write_fails_keeping A B the_transition journal written parts parts_after proposer RoundsFull same write = absurd write
  write_fails_keeping A B the_transition journal written parts parts_after proposer Nothing same write = absurd write
  write_fails_keeping A B the_transition journal written parts parts_after proposer Halted same write = absurd write

  pub write_fails : (A B : Type 0) (the_transition : Transition Definition) (journal written journal_after : Journal T) (parts parts_after : Parts) (proposer : Proposer)
      (fault : NodeFault) (entry : Option (Record Definition)) → parts_after ≡ parts → entry ≡ the_transition.entry → IsWrite tapes {A = B} entry journal (Err fault) written →
      journal_after ≡ keeping fault entry written →
      IsChange tapes {A = A} the_transition journal parts proposer (Err fault) journal_after parts_after proposer
  write_fails A B the_transition journal written journal_after parts parts_after proposer fault entry same is write kept =
      subst (λ (after : Journal T). IsChange tapes {A = A} the_transition journal parts proposer (Err fault) after parts_after proposer)
      (sym (kept ∙ ap (λ e. keeping fault e written) is))
      (write_fails_keeping A B the_transition journal written parts parts_after proposer fault same (subst (λ e. IsWrite tapes {A = B} e journal (Err fault) written) is write))

  -- One more record is on the tape, or it is there or not.
  pub written : (r : Record Definition) (journal journal_after : Journal T) → journal_after.halted ≡ false →
      (tapes.durable → IsAdded r (tapes.content journal.tape) (tapes.content journal_after.tape) (tapes.images journal_after.tape)) →
      (tapes.durable → Follows (ReadsOneMore r) (tapes.images journal.tape) (tapes.images journal_after.tape)) →
      (tapes.durable → Follows (ReadsSameOrOneMore r) (inside tapes journal.tape journal.tape) (inside tapes journal.tape journal_after.tape)) → (tapes.never_fails journal.tape → tapes.never_fails journal_after.tape) →
      IsWritten tapes (Some r) journal journal_after
  written r journal journal_after running added more each still = record {
    running = running;
    grown = λ h. let is = added h in is.content ∙ ap (λ bytes. tapes.content journal.tape ++ bytes) is.spells.spelled;
    stored = λ h. stored_by r (tapes.images journal.tape) (tapes.images journal_after.tape) (more h);
    moments = λ h. torn_at r (inside tapes journal.tape journal.tape) (inside tapes journal.tape journal_after.tape) (each h);
    still = still;
  }

  pub broken : (r : Record Definition) (journal journal_after : Journal T) → journal_after.halted ≡ true → HasRisen (tapes.failed journal.tape) (tapes.failed journal_after.tape) →
      (tapes.durable → IsExtended (tapes.content journal.tape) (spelling r) (tapes.content journal_after.tape)) →
      (tapes.durable → Follows (ReadsSameOrOneMore r) (tapes.images journal.tape) (tapes.images journal_after.tape)) →
      (tapes.durable → Follows (ReadsSameOrOneMore r) (inside tapes journal.tape journal.tape) (inside tapes journal.tape journal_after.tape)) → (tapes.never_fails journal.tape → ⊥) →
      IsWriteBroken tapes (Some r) journal journal_after
  broken r journal journal_after halted risen part either each weak = record {
    entry_is = refl;
    halted = halted;
    risen = risen;
    part = part;
    torn = λ h. torn_at r (tapes.images journal.tape) (tapes.images journal_after.tape) (either h);
    cut = λ h. cut_at r (tapes.images journal.tape) (tapes.images journal_after.tape) (either h);
    moments = λ h. torn_at r (inside tapes journal.tape journal.tape) (inside tapes journal.tape journal_after.tape) (each h);
    weak = weak;
  }

  pub spared_some : (r : Record Definition) (journal journal_after : Journal T) → journal_after.halted ≡ false →
      (tapes.durable → IsUnchanged (tapes.content journal.tape) (tapes.content journal_after.tape) (tapes.images journal.tape) (tapes.images journal_after.tape)) →
      (tapes.durable → Follows (ReadsSameOrOneMore r) (inside tapes journal.tape journal.tape) (inside tapes journal.tape journal_after.tape)) → (tapes.never_fails journal.tape → tapes.never_fails journal_after.tape) →
      IsSpared tapes journal journal_after × (Some r ≡ None → ⊥) × (tapes.durable → IsTornAt (Some r) (inside tapes journal.tape journal.tape) (inside tapes journal.tape journal_after.tape))
  spared_some r journal journal_after running same each still =
      (record { running = running; same = same; still = still }, λ e. none-some r (sym e), λ h. torn_at r (inside tapes journal.tape journal.tape) (inside tapes journal.tape journal_after.tape) (each h))

  -- the proposer's result is committed, and its record applied
  pub performed : {A : Type 0} (next : Next) (journal journal_after : Journal T) (parts made parts_after : Parts) (proposer proposer_after : Proposer) (entry : Option tape.Record) (messages : Vec Message A) →
      IsWritten tapes (option_map view next.entry) journal journal_after → made ≡ parts → entry ≡ next.entry →
      stored_of parts_after ≡ store (stored_of made) (option_map view entry) →
      volatile_of proposer_after ≡ (transition_of proposer next).volatile → proposer_after.node ≡ proposer.node → proposer_after.nodes ≡ proposer.nodes → messages.items ≡ next.messages →
      IsChange tapes (transition_of proposer next) journal parts proposer (Ok messages) journal_after parts_after proposer_after
  performed next journal journal_after parts made parts_after proposer proposer_after entry messages on_tape same given applied volatile node nodes sent = (
    on_tape,
    record {
      stored = applied ∙ (ap (λ p. store (stored_of p) (option_map view entry)) same ∙ ap (λ e. store (stored_of parts) (option_map view e)) given);
      node = node;
      nodes = nodes;
      volatile = volatile;
      messages = ap (map message.view) sent;
    },
  )
