-- The node after its journal was rewritten.
use Rattle.std.proofs.Common.{◌≡◌, false, List, Result, Ok, Err, IfErr, refl, sym, subst}
use Rattle.wf_def.specs.Definition.{Definition}
use Rattle.wf_model.specs.Fits.{FoldsAreOpen, VotesArePromised}
use Rattle.wf_model.specs.DurableState.{DurableState, Record}
use Rattle.wf_proposer.specs.Proposer.{Proposer}
use Rattle.wf_journal.specs.Journal.{Journal}
use Rattle.wf_node.specs.declared.fault.NodeFault.{NodeFault}
use Rattle.wf_node.specs.declared.fault.NodeFault.TheVariants.{Memory, Busy, SequenceFull, RoundsFull, Halted, TapeFailed, Nothing}
use Rattle.wf_node.specs.Images.{AllStandFor}
use Rattle.wf_node.specs.DurablePart as keeping
use Rattle.wf_node.specs.DurablePart.{DurablePart}
use Rattle.wf_node.specs.Node.{IsSoundNode, view_of}
use Rattle.wf_node.specs.Compaction.{IsShortening, short_records}
use Rattle.wf_node.specs.TapeWrites.{IsReplacement}
use Rattle.wf_node.proofs.Shortened.{stands_on}
use Rattle.wf_tape.specs.declared.tape.Tape.{Ghosts as Tape}

module _ {T : Type 0} (tapes : Tape T) where
  -- Whatever is returned, each image stands for the durable state.
  replacement_stands : {A : Type 0} (result : Result A NodeFault) (stored : DurableState Definition) (journal after : Journal T) → FoldsAreOpen Definition → VotesArePromised Definition →
      IsReplacement tapes (short_records stored) journal result after → tapes.durable → AllStandFor stored (tapes.images journal.tape) → AllStandFor stored (tapes.images after.tape)
  replacement_stands (Ok x) stored journal after are_open are_promised replaced h stands =
      stands_on are_open are_promised stored (tapes.images journal.tape) (tapes.images after.tape) (replaced.follows h) stands
  replacement_stands (Err Memory) stored journal after are_open are_promised spared h stands = λ image left. stands image ((spared.same h).no_other image left)
  replacement_stands (Err TapeFailed) stored journal after are_open are_promised half h stands =
      stands_on are_open are_promised stored (tapes.images journal.tape) (tapes.images after.tape) (half.follows h) stands
  replacement_stands (Err Busy) stored journal after are_open are_promised never h stands = absurd never
  replacement_stands (Err SequenceFull) stored journal after are_open are_promised never h stands = absurd never
  replacement_stands (Err RoundsFull) stored journal after are_open are_promised never h stands = absurd never
  replacement_stands (Err Halted) stored journal after are_open are_promised never h stands = absurd never
  replacement_stands (Err Nothing) stored journal after are_open are_promised never h stands = absurd never

  -- A tape that won't fail still won't, and doesn't.
  pub replacement_sturdy : {A : Type 0} (result : Result A NodeFault) (records : List (Record Definition)) (journal after : Journal T) →
      IsReplacement tapes records journal result after → tapes.never_fails journal.tape → tapes.never_fails after.tape × IfErr result (λ fault. fault ≡ TapeFailed → ⊥)
  replacement_sturdy (Ok x) records journal after replaced sound = (replaced.still sound, tt)
  replacement_sturdy (Err Memory) records journal after spared sound = (spared.still sound, λ e. absurd (cc e))
  replacement_sturdy (Err TapeFailed) records journal after half sound = absurd (half.weak sound)
  replacement_sturdy (Err Busy) records journal after never sound = absurd never
  replacement_sturdy (Err SequenceFull) records journal after never sound = absurd never
  replacement_sturdy (Err RoundsFull) records journal after never sound = absurd never
  replacement_sturdy (Err Halted) records journal after never sound = absurd never
  replacement_sturdy (Err Nothing) records journal after never sound = absurd never

  -- So the node's invariant holds.
  pub rewriting_keeps : {A : Type 0} (journal after : Journal T) (persistent persistent_after : DurablePart) (proposer proposer_after : Proposer) (result : Result A NodeFault) →
      FoldsAreOpen Definition → VotesArePromised Definition → IsSoundNode tapes journal persistent proposer → journal.halted ≡ false →
      IsReplacement tapes (short_records (keeping.stored_of persistent)) journal result after → persistent_after ≡ persistent → proposer_after ≡ proposer →
      IsSoundNode tapes after persistent_after proposer_after
  rewriting_keeps journal after persistent persistent_after proposer proposer_after result are_open are_promised node running replaced same_persistent same_proposer =
      subst (λ (p : Proposer). IsSoundNode tapes after persistent_after p) (sym same_proposer)
      (subst (λ (k : DurablePart). IsSoundNode tapes after k proposer) (sym same_persistent) (record {
        same_node = node.same_node;
        for_next = node.for_next;
        stands = λ h still. replacement_stands result (keeping.stored_of persistent) journal after are_open are_promised replaced h (node.stands h running);
      }))

  shortens_by : {A : Type 0} (journal after : Journal T) (persistent : DurablePart) (proposer : Proposer) (result : Result A NodeFault) →
      IsReplacement tapes (short_records (keeping.stored_of persistent)) journal result after → (tapes.durable → AllStandFor (keeping.stored_of persistent) (tapes.images after.tape)) →
      IsShortening tapes (view_of journal persistent.parts proposer) result (view_of after persistent.parts proposer)
  shortens_by journal after persistent proposer (Ok x) replaced stands = record {
    running = λ e. absurd (cc e);
    refused = refl;
    same = refl;
    done = replaced.running;
    held = replaced.held;
    stands = stands;
    still_running = λ e. absurd (cc e);
    same_tape = λ h e. absurd (cc e);
    failed = λ e. absurd (cc e);
    halts = λ e. absurd (cc e);
  }
  shortens_by journal after persistent proposer (Err Memory) spared stands = record {
    running = λ e. absurd (cc e);
    refused = refl;
    same = refl;
    done = tt;
    held = λ h. tt;
    stands = stands;
    still_running = λ e. spared.running;
    same_tape = λ h e. spared.same h;
    failed = λ e. absurd (cc e);
    halts = λ e. absurd (cc e);
  }
  shortens_by journal after persistent proposer (Err TapeFailed) half stands = record {
    running = λ e. absurd (cc e);
    refused = refl;
    same = refl;
    done = tt;
    held = λ h. tt;
    stands = stands;
    still_running = λ e. absurd (cc e);
    same_tape = λ h e. absurd (cc e);
    failed = λ e. half.risen;
    halts = λ e. half.halted;
  }
  shortens_by journal after persistent proposer (Err Busy) never stands = absurd never
  shortens_by journal after persistent proposer (Err SequenceFull) never stands = absurd never
  shortens_by journal after persistent proposer (Err RoundsFull) never stands = absurd never
  shortens_by journal after persistent proposer (Err Halted) never stands = absurd never
  shortens_by journal after persistent proposer (Err Nothing) never stands = absurd never

  pub shortens : {A : Type 0} (journal after : Journal T) (persistent persistent_after : DurablePart) (proposer proposer_after : Proposer) (result : Result A NodeFault) →
      FoldsAreOpen Definition → VotesArePromised Definition → IsSoundNode tapes journal persistent proposer → journal.halted ≡ false →
      IsReplacement tapes (short_records (keeping.stored_of persistent)) journal result after → persistent_after ≡ persistent → proposer_after ≡ proposer →
      IsShortening tapes (view_of journal persistent.parts proposer) result (view_of after persistent_after.parts proposer_after)
  shortens journal after persistent persistent_after proposer proposer_after result are_open are_promised node running replaced same_persistent same_proposer =
      subst (λ (p : Proposer). IsShortening tapes (view_of journal persistent.parts proposer) result (view_of after persistent_after.parts p)) (sym same_proposer)
      (subst (λ (k : DurablePart). IsShortening tapes (view_of journal persistent.parts proposer) result (view_of after k.parts proposer)) (sym same_persistent)
      (shortens_by journal after persistent proposer result replaced
      (λ h. replacement_stands result (keeping.stored_of persistent) journal after are_open are_promised replaced h (node.stands h running))))
