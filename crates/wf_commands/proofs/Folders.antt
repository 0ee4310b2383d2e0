-- The listings of a folder's tapes.
use Rattle.std.proofs.Common.{◌≡◌, ◌∙◌, ◌+◌, ◌≤◌, ◌++◌, ℕ, suc, Bool, true, false, List, [], ◌∷◌, take, ap, arith, refl, subst, sym}
use Rattle.std.proofs.lemmas.List.{append_assoc}
use Rattle.std.specs.Io.KnownBytes.{Appends}
use Rattle.std.specs.Prelude.{Option, Result, Ok, Err, IfOk, Some, if◌then◌else◌, length, slice_index_or}
use Rattle.wf_folder.specs.Admission.{is_there}
use Rattle.wf_folder.specs.declared.admission.Start.TheVariants as starts
use Rattle.wf_folder.specs.declared.farm_file.FarmFile.{FarmFile}
use Rattle.wf_folder.specs.declared.node_admission.NodeRejection.{NodeRejection}
use Rattle.wf_folder.specs.declared.node_file.NodeFile.{NodeFile}
use Rattle.wf_folder.specs.declared.presence.Presence.{Presence}
use Rattle.wf_folder.specs.declared.presence.Presence.TheVariants.{Absent}
use Rattle.wf_listing.specs.Listing.{IsListing}
use Rattle.wf_listing.specs.TapeBytes.{most_tape_bytes}
use Rattle.wf_listing.specs.declared.fault.TapeReadFault.{TapeReadFault}
use Rattle.wf_stream.specs.KnownTheorems.{keeps_same}
use Rattle.wf_serve.specs.LongestTape.{HasTakenTapes}
use Rattle.wf_serve.specs.TapesTaken.{AreSoundOr, NumberedTape}
use Rattle.wf_serve.specs.declared.event.Cause.{Cause}
use Rattle.wf_serve.specs.declared.survey.Survey.{Survey}
use Rattle.wf_serve.specs.declared.tape_check.TapeCheck.{TapeCheck}
use Rattle.wf_store.specs.Call.{Call, read}
use Rattle.wf_store.specs.declared.file_name.FileName.TheVariants.{NodeTape}
use Rattle.wf_commands.specs.Folder.{AreListed, AreTakenUpTo, HasListingAppended, HasTakenNext, HasLastLine, IsFolderListed, IsFolderListing, IsListedAndTaken, IsNamedAndTaken, IsNamedListing, IsNextTape, IsNextTaken, HasRejection, tape_line}
use Rattle.wf_commands.specs.FolderEnd.{IsOwnerRead, IsStateOf, is_own, own_tapes, new_line, node_line, own_line, rejection_line, taken_over_line}
use Rattle.wf_commands.specs.declared.fault.RunFault.{RunFault}
use Rattle.wf_commands.specs.declared.fault.RunFault.TheVariants as faults
use Rattle.wf_commands.specs.declared.folder_state.FolderState.{FolderState}
use Rattle.wf_commands.specs.declared.folder_state.FolderState.TheVariants as states

abbrev failed : RunFault → Result (Unit {0}) RunFault
failed fault = Err fault

-- ---- the tapes so far

module _ (tapes : List Presence) (owner : Option NodeFile) (calls : List Call) where
  -- before the first
  pub no_tapes : (check : TapeCheck) (text : List ℕ) → HasTakenTapes [] check → text ≡ [] → AreTakenUpTo tapes 0 owner check calls calls text
  unfolding AreListed own_tapes
  no_tapes check text none empty = record { listed = []; are_listed = (refl, empty, refl); taken = none }

  next_listed : (number : ℕ) (before after : List NumberedTape) (middle later : List Call) (front text : List ℕ) → AreListed tapes number before calls middle front →
      IsNextTape number (is_there (slice_index_or tapes number Absent)) before after middle later front text → AreListed tapes (suc number) after calls later text
  unfolding AreListed
  next_listed number before after middle later front text listed next = (before, front, middle, listed, next)

  up_to_next : (number : ℕ) (listed : List NumberedTape) (later : List Call) (text : List ℕ) → AreListed tapes (suc number) listed calls later text → AreListed tapes (number + 1) listed calls later text
  up_to_next number listed later text are =
      let same : suc number ≡ number + 1 = omega arith in
      subst (λ (n : ℕ). AreListed tapes n listed calls later text) same are

  more_listed : (number : ℕ) (before after : List NumberedTape) (there : Bool) (middle later : List Call) (front text : List ℕ) → is_there (slice_index_or tapes number Absent) ≡ there →
      AreListed tapes number before calls middle front → IsNextTape number there before after middle later front text → AreListed tapes (number + 1) after calls later text
  more_listed number before after there middle later front text is listed next =
      up_to_next number after later text (next_listed number before after middle later front text listed (subst (λ (b : Bool). IsNextTape number b before after middle later front text) (sym is) next))

  -- one more that is there, and one that isn't
  pub one_more : (number : ℕ) (there : Bool) (check after : TapeCheck) (middle later : List Call) (old new : List ℕ) → is_there (slice_index_or tapes number Absent) ≡ there →
      AreTakenUpTo tapes number owner check calls middle old → IsNextTaken number there owner check after middle later old new → AreTakenUpTo tapes (number + 1) owner after calls later new
  one_more number true check after middle later old new is have next = record {
    listed = (number, next.bytes) ∷ have.listed;
    are_listed = more_listed number have.listed ((number, next.bytes) ∷ have.listed) true middle later old new is have.are_listed (next.bytes, next.listed, refl);
    taken = next.taken have.listed have.taken;
  }
  one_more number false check after middle later old new is have (same, unchanged, unread) = record {
    listed = have.listed;
    are_listed = more_listed number have.listed have.listed false middle later old new is have.are_listed (same, refl, unread);
    taken = subst (λ (c : TapeCheck). HasTakenTapes (own_tapes owner have.listed) c) (sym unchanged) have.taken;
  }

-- by whether it is there
pub next_there : (result : Result TapeCheck TapeReadFault) (number : ℕ) (there : Bool) (owner : Option NodeFile) (check : TapeCheck) (calls later : List Call) (old new : List ℕ) → there ≡ true →
    IfOk result (λ after. IsListedAndTaken number owner check after calls later old new) → IfOk result (λ after. IsNextTaken number there owner check after calls later old new)
next_there result number there owner check calls later old new is more =
    subst (λ (b : Bool). IfOk result (λ after. IsNextTaken number b owner check after calls later old new)) (sym is) more

pub next_absent : (number : ℕ) (there : Bool) (owner : Option NodeFile) (check : TapeCheck) (calls : List Call) (text : List ℕ) → there ≡ false →
    IsNextTaken number there owner check check calls calls text text
next_absent number there owner check calls text is = subst (λ (b : Bool). IsNextTaken number b owner check check calls calls text text) (sym is) (refl, refl, refl)

-- ---- the check of those that have to be sound

own_first : (owner : Option NodeFile) (number : ℕ) (bytes : List ℕ) (tapes : List NumberedTape) → is_own owner number ≡ true →
    own_tapes owner ((number, bytes) ∷ tapes) ≡ (number, bytes) ∷ own_tapes owner tapes
unfolding own_tapes
own_first owner number bytes tapes own = ap (λ (b : Bool). if b then (number, bytes) ∷ own_tapes owner tapes else own_tapes owner tapes) own

other_first : (owner : Option NodeFile) (number : ℕ) (bytes : List ℕ) (tapes : List NumberedTape) → is_own owner number ≡ false →
    own_tapes owner ((number, bytes) ∷ tapes) ≡ own_tapes owner tapes
unfolding own_tapes
other_first owner number bytes tapes other = ap (λ (b : Bool). if b then (number, bytes) ∷ own_tapes owner tapes else own_tapes owner tapes) other

pub own_taken : {E : Type 0} (owner : Option NodeFile) (number : ℕ) (bytes : List ℕ) (check : TapeCheck) (result : Result TapeCheck E) → is_own owner number ≡ true →
    ((tapes : List NumberedTape) → HasTakenTapes tapes check → IfOk result (HasTakenTapes ((number, bytes) ∷ tapes))) → IfOk result (HasTakenNext owner number bytes check)
own_taken owner number bytes check (Ok after) own takes =
    λ tapes taken. subst (λ (t : List NumberedTape). HasTakenTapes t after) (sym (own_first owner number bytes tapes own)) (takes (own_tapes owner tapes) taken)
own_taken owner number bytes check (Err error) own takes = tt

pub other_taken : (owner : Option NodeFile) (number : ℕ) (bytes : List ℕ) (check : TapeCheck) → is_own owner number ≡ false → HasTakenNext owner number bytes check check
other_taken owner number bytes check other = λ tapes taken. subst (λ (t : List NumberedTape). HasTakenTapes t check) (sym (other_first owner number bytes tapes other)) taken

-- the listing of bytes was appended, then also after the tape's name, then with the file's content
pub listed : (bytes listing old new : List ℕ) → IsListing bytes listing → new ≡ old ++ listing → HasListingAppended bytes old new
listed bytes listing old new is appended = record { listing = listing; listed = is; is = appended }

pub named : (bytes : List ℕ) (number : ℕ) (old middle new : List ℕ) → middle ≡ old ++ tape_line number → HasListingAppended bytes middle new → IsNamedListing bytes number old new
named bytes number old middle new line more = record {
  listing = more.listing;
  listed = more.listed;
  is = more.is ∙ ap (λ front. front ++ more.listing) line ∙ append_assoc old (tape_line number) more.listing;
}

pub named_and_taken : (bytes : List ℕ) (number : ℕ) (owner : Option NodeFile) (check after : TapeCheck) (old new : List ℕ) → IsNamedListing bytes number old new →
    HasTakenNext owner number bytes check after → IsNamedAndTaken bytes number owner check after old new
named_and_taken bytes number owner check after old new named taken = record { named = named; taken = taken }

pub appended : (bytes : List ℕ) (number : ℕ) (owner : Option NodeFile) (check after : TapeCheck) (calls later : List Call) (old new : List ℕ) → later ≡ read (NodeTape number) (Some bytes) ∷ calls →
    length bytes ≤ most_tape_bytes → IsNamedAndTaken bytes number owner check after old new → IsListedAndTaken number owner check after calls later old new
appended bytes number owner check after calls later old new call short more = record {
  bytes = bytes;
  listed = record { call = call; short = short; named = more.named };
  taken = more.taken;
}

-- ---- the last line

module _ (old new : List ℕ) where
  pub new_ended : (nodes : ℕ) → new ≡ old ++ new_line → HasLastLine (states.Farm nodes starts.New) old new
  new_ended nodes is = record { last = new_line; ends = refl; is = is }

  pub taken_over_ended : (nodes : ℕ) → new ≡ old ++ taken_over_line nodes → HasLastLine (states.Farm nodes starts.TakenOver) old new
  taken_over_ended nodes is = record { last = taken_over_line nodes; ends = refl; is = is }

  pub own_ended : (nodes : ℕ) (file : FarmFile) → new ≡ old ++ own_line nodes file.beginning → HasLastLine (states.Farm nodes (starts.Own file)) old new
  own_ended nodes file is = record { last = own_line nodes file.beginning; ends = refl; is = is }

  pub node_ended : (file : NodeFile) → new ≡ old ++ node_line file.node → HasLastLine (states.Node file) old new
  node_ended file is = record { last = node_line file.node; ends = refl; is = is }

  pub rejected : (why : List ℕ) → new ≡ old ++ rejection_line why → HasRejection old new
  rejected why is = record { why = why; is = is }

  pub cause_ended : (cause : Cause) → HasRejection old new → HasLastLine (states.Rejected cause) old new
  cause_ended cause more = record { last = rejection_line more.why; ends = (more.why, refl); is = more.is }

  pub rejection_ended : (rejection : NodeRejection) → HasRejection old new → HasLastLine (states.NodeRejected rejection) old new
  rejection_ended rejection more = record { last = rejection_line more.why; ends = (more.why, refl); is = more.is }

-- with it the listing is whole
pub whole : (survey : Survey) (owner : Option NodeFile) (check : TapeCheck) (cause : Option Cause) (calls middle later : List Call) (front new : List ℕ) (state : FolderState) →
    IsOwnerRead owner calls middle → AreTakenUpTo survey.tapes (length survey.tapes) owner check middle later front →
    ((tapes : List NumberedTape) → HasTakenTapes tapes check → AreSoundOr tapes cause) → ((tapes : List NumberedTape) → AreSoundOr tapes cause → IsStateOf survey owner tapes state) →
    HasLastLine state front new → IsFolderListing survey calls later new
whole survey owner check cause calls middle later front new state is_owner have finds state_of more = record {
  owner = owner;
  middle = middle;
  is_owner = is_owner;
  listed = have.listed;
  front = front;
  are_listed = have.are_listed;
  state = state;
  is_state = state_of (own_tapes owner have.listed) (finds (own_tapes owner have.listed) have.taken);
  last = more.last;
  ends = more.ends;
  is = more.is;
}

-- ---- what is written of it

pub folder_whole : (survey : Survey) (calls later : List Call) (text : List ℕ) (old new : Option (List ℕ)) (result : Unit {0}) → IsFolderListing survey calls later text →
    Appends old new text → IsFolderListed survey calls later old new (Ok result)
folder_whole survey calls later text old new result listing appends = (text, listing, appends)

pub folder_in_part : (survey : Survey) (calls later : List Call) (text : List ℕ) (count : ℕ) (old new : Option (List ℕ)) → IsFolderListing survey calls later text →
    Appends old new (take count text) → IsFolderListed survey calls later old new (failed faults.Write)
folder_in_part survey calls later text count old new listing appends = (text, listing, (count, appends))

pub folder_unread : (survey : Survey) (calls later : List Call) (old : Option (List ℕ)) (fault : TapeReadFault) → IsFolderListed survey calls later old old (failed (faults.Tape fault))
folder_unread survey calls later old fault = (tt, keeps_same old)
