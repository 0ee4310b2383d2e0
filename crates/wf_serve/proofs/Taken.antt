-- Tapes are taken one after the other, and the node that has published most is kept.
use Rattle.std.proofs.Common.{◌≡◌, ◌≢◌, ◌∙◌, ℕ, suc, List, [], ◌∷◌, ap, inl, inr, refl, subst, sym}
use Rattle.std.specs.Prelude.{Option, Some, None, Result, Ok, Err, IfErr, IfOk, IfSome}
use Rattle.wf_def.specs.Definition.{Definition}
use Rattle.wf_folder.specs.Admission.{IsAdmissionFault}
use Rattle.wf_folder.specs.declared.admission.StartRejection.{StartRejection}
use Rattle.wf_journal.specs.declared.open_error.OpenFault.{OpenFault}
use Rattle.wf_journal.specs.declared.open_error.OpenFault.TheVariants as open_faults
use Rattle.wf_model.specs.DurableState.{DurableState}
use Rattle.wf_node.specs.Node.{stored_of}
use Rattle.wf_node.specs.OpenedNode.{IsFoldOf, IsWhyBad}
use Rattle.wf_serve.proofs.Checked.{all_agree, have_next}
use Rattle.wf_serve.specs.Difference.{DifferAt}
use Rattle.wf_serve.specs.LongestTape.{AreTaken, AreTakenOr, HasTakenTapes, IsKeptOrNext, IsNextLongest, IsOfTape, IsOneOfTwo, HasFoundCause, IsWhyDifferent, IsWhyNoNode, IsWhyNotNext, IsWhyUnlike, cause_of}
use Rattle.wf_serve.specs.StartCause.{IsStartCause, start_cause}
use Rattle.wf_serve.specs.TapesTaken.{AreFolds, AreSoundOr, HasTape, IsTapeCause, NumberedTape}
use Rattle.wf_serve.specs.declared.check.Longest.{Longest}
use Rattle.wf_serve.specs.declared.event.Cause.{Cause}
use Rattle.wf_serve.specs.declared.event.Cause.TheVariants as causes
use Rattle.wf_serve.specs.declared.survey.Survey.{Survey}
use Rattle.wf_serve.specs.declared.tape_check.TapeCheck.{TapeCheck}

-- ---- why there is no next one

no_node_of : (number : ℕ) (bytes : List ℕ) (fault : OpenFault) → IsWhyBad fault bytes → fault ≢ open_faults.TapeFailed → IsWhyNoNode number bytes (cause_of number fault)
no_node_of number bytes (open_faults.BadRecord offset) bad sound = (refl, bad)
no_node_of number bytes open_faults.TapeFailed bad sound = absurd (sound refl)
no_node_of number bytes open_faults.Memory bad sound = tt

pub no_node : (number : ℕ) (bytes : List ℕ) (fault : OpenFault) (cause : Cause) → cause ≡ cause_of number fault → IsWhyBad fault bytes → fault ≢ open_faults.TapeFailed → IsWhyNoNode number bytes cause
no_node number bytes fault cause is bad sound = subst (λ (c : Cause). IsWhyNoNode number bytes c) (sym is) (no_node_of number bytes fault bad sound)

pub no_node_next : (number : ℕ) (bytes : List ℕ) (longest : Option Longest) (cause : Cause) → IsWhyNoNode number bytes cause → IsWhyNotNext number bytes longest cause
no_node_next number bytes longest cause why = inl why

pub different : (tape other s slot : ℕ) (one another : List Definition) (first second : DurableState Definition) → s ≡ slot → one ≡ first.history → another ≡ second.history → DifferAt one another slot →
    IsWhyDifferent tape other first second (causes.TapesDiffer s tape other)
different tape other s slot one another first second at is_one is_other differ =
    let here : DifferAt one another s = subst (λ (n : ℕ). DifferAt one another n) (sym at) differ in
    (refl, refl, subst (λ (h : List Definition). DifferAt first.history h s) is_other (subst (λ (h : List Definition). DifferAt h another s) is_one here))

pub next_unlike : (result : Result Longest Cause) (number : ℕ) (bytes : List ℕ) (before : Option Longest) (longest : Longest) (state : DurableState Definition) → before ≡ Some longest → IsFoldOf state bytes →
    IfErr result (IsWhyDifferent longest.number number (stored_of longest.node) state) → IfErr result (IsWhyNotNext number bytes before)
next_unlike (Ok longer) number bytes before longest state there folds why = tt
next_unlike (Err cause) number bytes before longest state there folds why =
    subst (λ (b : Option Longest). IsWhyNotNext number bytes b cause) (sym there) (inr (state, folds, why))

-- ---- whose tape the kept one's is

pub first_kept : (number : ℕ) (bytes : List ℕ) (longest : Option Longest) (longer : Longest) → longer.number ≡ number → IsFoldOf (stored_of longer.node) bytes → IsKeptOrNext number bytes longest longer
first_kept number bytes longest longer at folds = inr (at, folds)

pub is_first : (first second : Longest) → IsOneOfTwo first second first
is_first first second = inl refl

pub is_second : (first second : Longest) → IsOneOfTwo first second second
is_second first second = inr refl

one_kept : (number : ℕ) (bytes : List ℕ) (before : Option Longest) (longest next longer : Longest) → before ≡ Some longest → next.number ≡ number → IsFoldOf (stored_of next.node) bytes →
    IsOneOfTwo longest next longer → IsKeptOrNext number bytes before longer
one_kept number bytes before longest next longer there at folds one = elim one [
  | inl first ↦ inl (there ∙ ap (λ (l : Longest). Some l) (sym first))
  | inr second ↦ inr (ap (λ (l : Longest). l.number) second ∙ at, subst (λ (l : Longest). IsFoldOf (stored_of l.node) bytes) (sym second) folds)
]

pub next_kept : (result : Result Longest Cause) (number : ℕ) (bytes : List ℕ) (before : Option Longest) (longest next : Longest) → before ≡ Some longest → next.number ≡ number →
    IsFoldOf (stored_of next.node) bytes → IfOk result (IsOneOfTwo longest next) → IfOk result (IsKeptOrNext number bytes before)
next_kept (Ok longer) number bytes before longest next there at folds one = one_kept number bytes before longest next longer there at folds one
next_kept (Err cause) number bytes before longest next there at folds one = tt

-- ---- a tape that was there is there still

has_still : (tapes : List NumberedTape) (tape : NumberedTape) (number : ℕ) (bytes : List ℕ) → HasTape tapes number bytes → HasTape (tape ∷ tapes) number bytes
has_still tapes tape number bytes (i, at) = (suc i, at)

caused_still : (tapes : List NumberedTape) (tape : NumberedTape) (cause : Cause) → IsTapeCause tapes cause → IsTapeCause (tape ∷ tapes) cause
caused_still tapes tape (causes.TapeBad number offset) (bytes, has, why) = (bytes, has_still tapes tape number bytes has, why)
caused_still tapes tape (causes.TapesDiffer s one other) (bytes, more, has, also, differ) =
    (bytes, more, has_still tapes tape one bytes has, has_still tapes tape other more also, differ)
caused_still tapes tape _ why = absurd why

-- ---- one more is taken

pub none_taken : AreTaken [] None
unfolding AreFolds
none_taken = record { states = []; folds = tt; have = refl; kept = tt }

more_folds : (states : List (DurableState Definition)) (tapes : List NumberedTape) (state : DurableState Definition) (number : ℕ) (bytes : List ℕ) → IsFoldOf state bytes → AreFolds states tapes →
    AreFolds (state ∷ states) ((number, bytes) ∷ tapes)
unfolding AreFolds
more_folds states tapes state number bytes folds more = (folds, more)

of_tape : (tapes : List NumberedTape) (number : ℕ) (bytes : List ℕ) (longest : Option Longest) (longer : Longest) → IfSome longest (IsOfTape tapes) → IsKeptOrNext number bytes longest longer →
    IsOfTape ((number, bytes) ∷ tapes) longer
of_tape tapes number bytes longest longer kept one = elim one [
  | inl same ↦
      let was : IsOfTape tapes longer = subst (λ (l : Option Longest). IfSome l (IsOfTape tapes)) same kept in
      record { bytes = was.bytes; has = has_still tapes (number, bytes) longer.number was.bytes was.has; folds = was.folds }
  | inr next ↦ record {
    bytes = bytes;
    has = subst (λ (n : ℕ). HasTape ((number, bytes) ∷ tapes) n bytes) (sym next.0) (0, refl);
    folds = next.1;
  }
]

pub taken : (tapes : List NumberedTape) (number : ℕ) (bytes : List ℕ) (longest : Option Longest) (longer : Longest) → AreTaken tapes longest → IsNextLongest bytes longest longer →
    IsKeptOrNext number bytes longest longer → AreTaken ((number, bytes) ∷ tapes) (Some longer)
taken tapes number bytes longest longer were next kept = record {
  states = next.state ∷ were.states;
  folds = more_folds were.states tapes next.state number bytes next.folds were.folds;
  have = have_next were.states longest next.state longer were.have next.is;
  kept = of_tape tapes number bytes longest longer were.kept kept;
}

-- ---- or why it isn't

bad_taken : (tapes : List NumberedTape) (number : ℕ) (bytes : List ℕ) (cause : Cause) → cause ≢ causes.Memory → IsWhyNoNode number bytes cause → IsTapeCause ((number, bytes) ∷ tapes) cause
bad_taken tapes number bytes (causes.TapeBad tape offset) other (at, why) =
    (bytes, subst (λ (n : ℕ). HasTape ((number, bytes) ∷ tapes) n bytes) (sym at) (0, refl), why)
bad_taken tapes number bytes causes.Memory other why = absurd (other refl)
bad_taken tapes number bytes _ other why = absurd why

unlike_taken : (tapes : List NumberedTape) (number : ℕ) (bytes : List ℕ) (longest : Longest) (state : DurableState Definition) (cause : Cause) → IsOfTape tapes longest → IsFoldOf state bytes →
    IsWhyDifferent longest.number number (stored_of longest.node) state cause → IsTapeCause ((number, bytes) ∷ tapes) cause
unlike_taken tapes number bytes longest state (causes.TapesDiffer s tape other) kept folds (one, another, differ) = (
  kept.bytes,
  bytes,
  subst (λ (n : ℕ). HasTape ((number, bytes) ∷ tapes) n kept.bytes) (sym one) (has_still tapes (number, bytes) longest.number kept.bytes kept.has),
  subst (λ (n : ℕ). HasTape ((number, bytes) ∷ tapes) n bytes) (sym another) (0, refl),
  record { first = stored_of longest.node; first_folds = kept.folds; second = state; second_folds = folds; differ = differ },
)
unlike_taken tapes number bytes longest state _ kept folds why = absurd why

different_taken : (tapes : List NumberedTape) (number : ℕ) (bytes : List ℕ) (longest : Option Longest) (cause : Cause) → AreTaken tapes longest → IsWhyUnlike number bytes longest cause →
    IsTapeCause ((number, bytes) ∷ tapes) cause
different_taken tapes number bytes None cause were why = absurd why
different_taken tapes number bytes (Some longest) cause were (state, folds, why) = unlike_taken tapes number bytes longest state cause were.kept folds why

pub taken_with_cause : (tapes : List NumberedTape) (number : ℕ) (bytes : List ℕ) (longest : Option Longest) (cause : Cause) → cause ≢ causes.Memory → AreTaken tapes longest →
    IsWhyNotNext number bytes longest cause → IsTapeCause ((number, bytes) ∷ tapes) cause
taken_with_cause tapes number bytes longest cause other were why = elim why [
  | inl bad ↦ bad_taken tapes number bytes cause other bad
  | inr unlike ↦ different_taken tapes number bytes longest cause were unlike
]

pub rejected_taken : {E : Type 0} (result : Result TapeCheck E) (tapes : List NumberedTape) (number : ℕ) (bytes : List ℕ) (longest : Option Longest) (cause : Cause) → IfOk result (HasFoundCause cause) →
    AreTaken tapes longest → IsWhyNotNext number bytes longest cause → IfOk result (HasTakenTapes ((number, bytes) ∷ tapes))
rejected_taken (Ok check) tapes number bytes longest cause rejected were why =
    subst (λ (c : Option Cause). AreTakenOr ((number, bytes) ∷ tapes) check.longest c) (sym rejected.0) (taken_with_cause tapes number bytes longest cause rejected.1 were why)
rejected_taken (Err error) tapes number bytes longest cause rejected were why = tt

-- what was a cause is one still
pub taken_still : (tapes : List NumberedTape) (number : ℕ) (bytes : List ℕ) (longest : Option Longest) (found : Option Cause) (cause : Cause) → found ≡ Some cause → AreTakenOr tapes longest found →
    IsTapeCause ((number, bytes) ∷ tapes) cause
taken_still tapes number bytes longest found cause is taken =
    caused_still tapes (number, bytes) cause (subst (λ (c : Option Cause). AreTakenOr tapes longest c) is taken)

-- ---- what was taken

pub sound_or : (tapes : List NumberedTape) (longest : Option Longest) (cause : Option Cause) → AreTakenOr tapes longest cause → AreSoundOr tapes cause
sound_or tapes longest None were = record { states = were.states; folds = were.folds; agree = all_agree were.states longest were.have }
sound_or tapes longest (Some cause) why = why

-- ---- a rejected start

pub start_caused : (survey : Survey) (nodes : ℕ) (why : StartRejection) (cause : Cause) → IsAdmissionFault nodes survey.found survey.tapes why → cause ≡ start_cause why → IsStartCause survey cause
start_caused survey nodes why cause rejected is = (nodes, why, rejected, is)
