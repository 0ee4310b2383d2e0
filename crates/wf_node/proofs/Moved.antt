-- A node that moves to another tape: its records stand there for what it has stored.
use Rattle.std.proofs.Common.{◌≡◌, ℕ, true, false, List, [], Some, refl, sym, subst, inl, inr}
use Rattle.wf_def.specs.Definition.{Definition}
use Rattle.wf_model.specs.Fits.{IsForNext, FoldsAreOpen, VotesArePromised}
use Rattle.wf_model.specs.DurableState.{DurableState, fold}
use Rattle.wf_proposer.specs.Proposer.{Proposer, volatile_of}
use Rattle.wf_journal.specs.Encoding.{spellings}
use Rattle.wf_journal.specs.Journal.{Journal, Holds, IsSettled, LeavesOldOrWritten}
use Rattle.wf_journal.specs.Records.{AreWritten, IsTapeOf}
use Rattle.wf_journal.specs.RecordTheorems.{whole_reads}
use Rattle.wf_tape.specs.declared.tape.Tape.{Ghosts as Tape}
use Rattle.wf_node.specs.declared.fault.NodeFault.{NodeFault}
use Rattle.wf_node.specs.declared.fault.NodeFault.TheVariants.{Halted}
use Rattle.wf_node.specs.Compaction.{short_records}
use Rattle.wf_node.specs.Images.{StandsFor, AllStandFor}
use Rattle.wf_node.specs.DurablePart as keeping
use Rattle.wf_node.specs.DurablePart.{DurablePart}
use Rattle.wf_node.specs.Node.{Node, IsSoundNode, view_of, stored_of}
use Rattle.wf_node.specs.OpenedNode.{IsRead}
use Rattle.wf_node.specs.Relocation.{LeavesOldOrStands, IsMoved, IsNotMoved, IsBegunWith, IsNotBegunWith}
use Rattle.wf_node.proofs.Shortened.{shortened_folds}

-- the records of what a settled tape stands for fold to it
pub folds_short : FoldsAreOpen Definition → VotesArePromised Definition → (stored : DurableState Definition) (content : List ℕ) (images : List ℕ → Type 0) → IsSettled content images →
    AllStandFor stored images → fold (short_records stored) ≡ Some stored
folds_short are_open are_promised stored content images settled stands = shortened_folds are_open are_promised stored content (stands content settled.1.only.is_image)

module _ (stored : DurableState Definition) (folds : fold (short_records stored) ≡ Some stored) where
  -- bytes that are these records stand for it
  written_stands : (image : List ℕ) → AreWritten image (short_records stored) → StandsFor stored image
  written_stands image are = record { records = short_records stored; reads = whole_reads image (short_records stored) are.are_records; folds = folds }

  held_stands : (content : List ℕ) (images : List ℕ → Type 0) → Holds content images (short_records stored) → AllStandFor stored images
  held_stands content images held image left = subst (λ (t : List ℕ). StandsFor stored t) (sym (held.only.no_other image left)) (written_stands content held.are_written)

  leaves_standing : (old new : List ℕ → Type 0) → LeavesOldOrWritten (short_records stored) old new → LeavesOldOrStands stored old new
  leaves_standing old new leaves image left = elim (leaves image left) [ inl was ↦ inl was | inr are ↦ inr (written_stands image are) ]

  -- so do the bytes that were written, on any tape
  found_written : (durable : Type 0) (content : List ℕ) (images : List ℕ → Type 0) → IsTapeOf (spellings (short_records stored)) (short_records stored) [] →
      (durable → Holds content images (short_records stored)) → IsRead durable content stored
  found_written durable content images written held = record {
    bytes = spellings (short_records stored);
    folds = record { records = short_records stored; rest = []; tape = written; folds = folds };
    same = λ h. sym (held h).are_written.spelled;
  }

module _ {T U : Type 0} (tapes : Tape U) (old : Journal T) (persistent : DurablePart) (proposer : Proposer) (running : old.halted ≡ false)
    (folds : fold (short_records (keeping.stored_of persistent)) ≡ Some (keeping.stored_of persistent)) (tape : U) where
  pub moved_keeps : (journal : Journal U) → persistent.id ≡ proposer.node → IsForNext (keeping.stored_of persistent) (volatile_of proposer).proposing → IsBegunWith tapes (short_records (keeping.stored_of persistent)) tape journal → IsSoundNode tapes journal persistent proposer
  moved_keeps journal same_node for_next begun = record {
    same_node = same_node;
    for_next = for_next;
    stands = λ h still. held_stands (keeping.stored_of persistent) folds (tapes.content journal.tape) (tapes.images journal.tape) (begun.held h);
  }

  pub moved_so : (journal : Journal U) → IsBegunWith tapes (short_records (keeping.stored_of persistent)) tape journal →
      IsMoved tapes (view_of old persistent.parts proposer) tape (view_of journal persistent.parts proposer)
  moved_so journal begun = record {
    ran = running;
    id = refl;
    n = refl;
    runs = begun.running;
    unfailed = begun.unfailed;
    stored = refl;
    volatile = refl;
    found = found_written (keeping.stored_of persistent) folds tapes.durable (tapes.content journal.tape) (tapes.images journal.tape) begun.written begun.held;
    held = begun.held;
    stands = λ h. held_stands (keeping.stored_of persistent) folds (tapes.content journal.tape) (tapes.images journal.tape) (begun.held h);
    moments = λ h. leaves_standing (keeping.stored_of persistent) folds (tapes.images tape) (tapes.left_since journal.tape (tapes.moment tape)) (begun.moments h);
    still = begun.still;
  }

  pub not_moved : (back : U) (fault : NodeFault) → IsNotBegunWith tapes (short_records (keeping.stored_of persistent)) tape back fault →
      IsNotMoved tapes (view_of old persistent.parts proposer) tape back fault
  not_moved back fault left = record {
    halted = λ stopped. absurd (cc (stopped, running));
    running = λ is. absurd (left.running is);
    refused = left.refused;
    images = λ h. leaves_standing (keeping.stored_of persistent) folds (tapes.images tape) (tapes.images back) (left.images h);
    moments = λ h. leaves_standing (keeping.stored_of persistent) folds (tapes.images tape) (tapes.left_since back (tapes.moment tape)) (left.moments h);
    same_tape = left.same_tape;
    failed = left.failed;
    still = left.still;
    sound = left.sound;
  }

-- a halted node leaves the tape as it is
pub halted_unmoved : {T U : Type 0} (tapes : Tape U) (old : Node T) (tape : U) → old.halted ≡ true → (tapes.durable → (image : List ℕ) → tapes.left_since tape (tapes.moment tape) image → tapes.images tape image) →
    IsNotMoved tapes old tape tape Halted
halted_unmoved tapes old tape stopped now = record {
  halted = λ _. refl;
  running = λ _. stopped;
  refused = refl;
  images = λ h image left. inl left;
  moments = λ h image left. inl (now h image left);
  same_tape = λ h is. record { content = refl; kept = λ image is_image. is_image; no_other = λ image is_image. is_image };
  failed = λ is. absurd (cc is);
  still = λ sound. sound;
  sound = λ sound is. absurd (cc is);
}
