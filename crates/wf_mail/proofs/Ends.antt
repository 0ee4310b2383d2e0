-- The two ends of a connection.
use Rattle.std.proofs.Common.{◌≡◌, ◌≢◌, ℕ, Bool, true, false, take, drop, List, [], ◌++◌, refl, sym, ap, subst, ◌∙◌, append_assoc, append-nil}
use Rattle.wf_mail.proofs.Streams.{all_sent_come, never_breaks, only_sent_come}
use Rattle.wf_mail.specs.Mail.{spelled, AreMessages, IsFirstPart}
use Rattle.wf_mail.specs.Outbox.{OutboxState}
use Rattle.wf_mail.specs.Receiver.{ReceiverState, Open, Closed, is_memory, came, taken, IsOpen, IsClosed}
use Rattle.wf_mail.proofs.Received.{memory_is, not_memory}
use Rattle.std.proofs.lemmas.List.{take-append-drop}
use Rattle.wf_mail.specs.Stream.{Reads}
use Rattle.wf_codec.specs.declared.fault.DecodeFault.{DecodeFault}
use Rattle.wf_codec.specs.declared.fault.DecodeFault.TheVariants.{Memory}

begins_through : {A : Type 0} (xs ys zs : List A) → IsFirstPart xs ys → IsFirstPart ys zs → IsFirstPart xs zs
begins_through xs ys zs (rest, e) (more, h) = (rest ++ more, sym (append_assoc xs rest more) ∙ subst (λ k. k ++ more ≡ zs) (sym e) h)

module _ (outbox : OutboxState) (receiver : ReceiverState) (are : AreMessages outbox.put) (spells : outbox.written ++ outbox.waiting ≡ spelled outbox.put)
    (reads : (rest : List ℕ) × Reads (taken receiver) (came receiver) rest) where
  pub only_sent : IsFirstPart (taken receiver) outbox.written → IsFirstPart (came receiver) outbox.put
  only_sent begins =
      only_sent_come outbox.put (came receiver) (taken receiver) reads.0
      (record { messages = are; begins = begins_through (taken receiver) outbox.written (spelled outbox.put) begins (outbox.waiting, spells) }) reads.1.splits

  pub all_sent : outbox.waiting ≡ [] → taken receiver ≡ outbox.written → came receiver ≡ outbox.put
  all_sent none_waits all =
      let whole : taken receiver ≡ spelled outbox.put = all ∙ sym (append-nil outbox.written) ∙ ap (λ bytes. outbox.written ++ bytes) (sym none_waits) ∙ spells in
      (all_sent_come outbox.put (came receiver) reads.0 are (subst (λ bytes. Reads bytes (came receiver) reads.0) whole reads.1)).0

-- ---- pieces of what waits

pub piece_begins : (chunk rest waiting piece : List ℕ) (count : ℕ) → piece ≡ take count chunk → chunk ++ rest ≡ waiting → piece ++ (drop count chunk ++ rest) ≡ waiting
piece_begins chunk rest waiting piece count front whole =
    sym (append_assoc piece (drop count chunk) rest) ∙ ap (λ bytes. (bytes ++ drop count chunk) ++ rest) front ∙ ap (λ bytes. bytes ++ rest) (take-append-drop count chunk) ∙ whole

-- an error that can only be allocation failure is
unless : (is : Bool) (fault : DecodeFault) → is_memory fault ≡ is → ((fault ≢ Memory) → ⊥) → fault ≡ Memory
unless true fault e never = memory_is fault e
unless false fault e never = absurd (never (not_memory fault e))

pub only_memory : (outbox : OutboxState) (receiver now : ReceiverState) (piece after : List ℕ) (fault : DecodeFault) → AreMessages outbox.put → outbox.written ++ outbox.waiting ≡ spelled outbox.put →
    IsOpen receiver → taken receiver ≡ outbox.written → piece ++ after ≡ outbox.waiting → IsClosed receiver piece fault now → fault ≡ Memory
only_memory outbox (Open messages rest) now piece after fault are spells is_open same next closed =
    unless (is_memory fault) fault refl (λ differs. never_breaks outbox.put ((spelled messages ++ rest) ++ piece) fault
    (record {
      messages = are;
      begins = (after, append_assoc (spelled messages ++ rest) piece after ∙ ap (λ bytes. (spelled messages ++ rest) ++ bytes) next ∙ ap (λ bytes. bytes ++ outbox.waiting) same ∙ spells);
    })
    (closed.1 differs))
only_memory outbox (Closed messages earlier) now piece after fault are spells is_open same next closed = absurd is_open
