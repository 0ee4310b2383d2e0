-- The durable state of a tape that was read, and why a node doesn't open with it.
use Rattle.std.proofs.Common.{◌≡◌, ℕ, ◌≤◌, List, Some, drop, subst, ◌∙◌, inl, inr, arith}
use Rattle.std.proofs.lemmas.Bool.{cases_lt}
use Rattle.wf_def.specs.Definition.{Definition}
use Rattle.wf_model.specs.DurableState.{DurableState, Record, fold}
use Rattle.wf_journal.specs.Front.{HasRead}
use Rattle.wf_journal.specs.Journal.{AllReadAs, Follows, ReadsSame, IsWhereBad, IsNotBad, IsWhyFailed}
use Rattle.wf_tape.specs.Tape.{LeavesNoOther, IsUnchanged, HasRisen}
use Rattle.wf_journal.specs.declared.open_error.OpenFault.{OpenFault}
use Rattle.wf_journal.specs.declared.open_error.OpenFault.TheVariants.{TapeFailed, BadRecord, Memory}
use Rattle.wf_node.specs.Images.{AllStandFor}
use Rattle.wf_node.specs.OpenedNode.{IsFoldOf, IsRead, HasNoFold, IsWhyBad, IsWhyUnfolded}
use Rattle.wf_node.proofs.Folded.{none_where_unfit}

-- The tape's content was read: its records fold to the durable state.
pub fold_of : (bytes content : List ℕ) (records : List (Record Definition)) (n : ℕ) (stored : DurableState Definition) → HasRead bytes records n → bytes ≡ content → fold records ≡ Some stored →
    IsFoldOf stored content
fold_of bytes content records n stored read same folds =
    subst (λ (t : List ℕ). IsFoldOf stored t) same (record { records = records; rest = drop n bytes; tape = read.is_tape; folds = folds })

-- Whatever tape it is, these bytes were read.
pub read_of : (durable : Type 0) (bytes content : List ℕ) (records : List (Record Definition)) (n : ℕ) (stored : DurableState Definition) → HasRead bytes records n → (durable → bytes ≡ content) →
    fold records ≡ Some stored → IsRead durable content stored
read_of durable bytes content records n stored read same folds =
    record { bytes = bytes; folds = record { records = records; rest = drop n bytes; tape = read.is_tape; folds = folds }; same = same }

-- Images that read as records stand for the fold of these.
pub stands_all : (images : List ℕ → Type 0) (records : List (Record Definition)) (stored : DurableState Definition) → AllReadAs images records → fold records ≡ Some stored → AllStandFor stored images
stands_all images records stored reads folds image left = record { records = records; reads = reads image left; folds = folds }

-- ---- why it doesn't open

pub bad_read : (fault : OpenFault) (content : List ℕ) → IsWhereBad fault content → IsWhyBad fault content
bad_read TapeFailed content why = tt
bad_read (BadRecord index) content why = inl why
bad_read Memory content why = tt

pub bad_fold : (fault : OpenFault) (bytes content : List ℕ) (records : List (Record Definition)) (n : ℕ) → HasRead bytes records n → bytes ≡ content → IsWhyUnfolded records fault →
    IsWhyBad fault content
bad_fold TapeFailed bytes content records n read same why = tt
bad_fold (BadRecord index) bytes content records n read same why =
    inr (subst (λ (t : List ℕ). HasNoFold t index) same
    (record { records = records; reads = (drop n bytes, read.is_tape.reads); none = none_where_unfit records index why; unfit = why }))
bad_fold Memory bytes content records n read same why = tt

pub bad_settle : (fault : OpenFault) (content : List ℕ) → IsNotBad fault → IsWhyBad fault content
bad_settle TapeFailed content good = tt
bad_settle (BadRecord index) content good = absurd good
bad_settle Memory content good = tt

-- records that aren't folded are no failure of the tape
pub unfolded_soundly : (records : List (Record Definition)) (fault : OpenFault) → IsWhyUnfolded records fault → fault ≡ TapeFailed → ⊥
unfolded_soundly records TapeFailed why is = why
unfolded_soundly records (BadRecord index) why is = absurd (cc is)
unfolded_soundly records Memory why is = absurd (cc is)

-- ---- the tape was read first: what holds after it holds of the tape from before

pub same_before : (old new : List ℕ → Type 0) → LeavesNoOther old new → Follows ReadsSame old new
same_before old new no_other image left = (image, no_other image left, λ records reads. reads)

pub follows_before : (old mid new : List ℕ → Type 0) → LeavesNoOther old mid → Follows ReadsSame mid new → Follows ReadsSame old new
follows_before old mid new no_other follows image left = let earlier = follows image left in (earlier.0, no_other earlier.0 earlier.1, earlier.2)

pub unchanged_before : (a b c : List ℕ) (old mid new : List ℕ → Type 0) → IsUnchanged a b old mid → IsUnchanged b c mid new → IsUnchanged a c old new
unchanged_before a b c old mid new first second = record {
  content = second.content ∙ first.content;
  kept = λ image is. second.kept image (first.kept image is);
  no_other = λ image is. first.no_other image (second.no_other image is);
}

risen_before : (before mid now : ℕ) → before ≤ mid → mid ≤ now → HasRisen mid now → HasRisen before now
risen_before before mid now first second risen =
    elim risen [
      | inl rose ↦ inl (omega arith)
      | inr last ↦ elim (cases_lt before mid) [ inl rose ↦ inl (omega arith) | inr same ↦ inr (omega arith) ]
    ]

pub why_failed_before : (fault : OpenFault) (before mid now : ℕ) → before ≤ mid → mid ≤ now → IsWhyFailed fault mid now → IsWhyFailed fault before now
why_failed_before TapeFailed before mid now first second why = risen_before before mid now first second why
why_failed_before (BadRecord index) before mid now first second why = tt
why_failed_before Memory before mid now first second why = tt
