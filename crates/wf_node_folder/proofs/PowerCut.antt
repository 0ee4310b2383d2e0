-- What a power cut leaves of a folder.
use Rattle.std.proofs.Common.{arith, ◌≡◌, ◌⊎◌, ◌∙◌, ◌<◌, ℕ, zero, suc, Bool, true, false, List, [], ◌∷◌, ◌++◌, ap, inl, inr, refl, subst, sym, nat_eq}
use Rattle.std.proofs.lemmas.Bool.{eq-eqb, false≢true}
use Rattle.std.proofs.lemmas.List.{append_cancel_right}
use Rattle.std.specs.Prelude.{⊤, Option, Some, None, if◌then◌else◌, length, replicate}
use Rattle.wf_def.specs.Definition.{Definition}
use Rattle.wf_folder.specs.FarmFile.{IsNumberOfNodes}
use Rattle.wf_folder.specs.NodeFile.{IsNodeFile, IsTextOf, node_text}
use Rattle.wf_folder.specs.declared.node_file.NodeFile.{NodeFile}
use Rattle.wf_line.specs.declared.node_line.InitLine.{InitLine}
use Rattle.wf_line.specs.declared.node_line.NodeLine.{NodeLine}
use Rattle.wf_model.specs.DurableState.{DurableState}
use Rattle.wf_node_folder.specs.Cleared.{HasReadFarmFile, IsUnwritten, nothing_heard, without_suspension}
use Rattle.wf_node_folder.specs.Folder.{IsHeardIn}
use Rattle.wf_node.specs.Images.{StandsFor}
use Rattle.wf_node.specs.Node.{stored_of}
use Rattle.wf_node_folder.specs.Held.{HasHeld, HoldsAll}
use Rattle.wf_node_folder.specs.Joined.{AreJoinedSoundly, IsJoinedSoundly, IsPutSoundly, MayBePut, MayBePutAt}
use Rattle.wf_node_folder.specs.Made.{IsFirstFile, IsFirstTape, IsHalfFilled, first_joining, made_empty, with_joins, with_tape}
use Rattle.wf_node_folder.specs.PowerCut.{AreSoundCalls, ClearsAreSound, CutsAreReadBack, FilesAreWhole, InitsAreSound, InitsAreWhole, IsMadeWhole, IsSoundCall, IsSoundGiven, NodesAreSound, StartsAgain, StartsAreSound, StopsAreSound}
use Rattle.wf_node_folder.specs.ReplacementFiles.{IsJoinsIn, IsReplacedIn}
use Rattle.wf_node_folder.specs.Sound.{IsJoinsText, IsSoundText}
use Rattle.wf_node_folder.specs.Start.{IsCompared, IsCountedOn, IsLeftOpened, IsStartAdmitted, IsStartCutShort, IsTapeOpened, IsTapeTouched, IsUncounted, IsUnopened}
use Rattle.wf_store.specs.Texts.{is_tape}
use Rattle.wf_peer.specs.PeerProgressText.{ArePeerProgress}
use Rattle.wf_peer.specs.declared.heard.Heard.{Heard as HeardOfNode}
use Rattle.wf_power_cuts.proofs.DiskLemmas.{one_file}
use Rattle.wf_power_cuts.specs.Cut.{CouldLeave, WasGiven, IsCutAfter, IsLeftIn, MayLeaveNow, OfFile, is_file}
use Rattle.wf_rejoin.specs.JoinStep.{stepped}
use Rattle.wf_rejoin.specs.JoiningText.{IsJoins, IsStage, joins_text}
use Rattle.wf_rejoin.specs.Lines.{AreAll}
use Rattle.wf_rejoin.specs.declared.joining.Joining.{Joining}
use Rattle.wf_rejoin.specs.declared.joining.Stage.TheVariants.{Unasked}
use Rattle.wf_rejoin.specs.declared.replacement.Replacement.{Replacement}
use Rattle.wf_store.specs.Call.{Call, OnlyReads, changes, drawn, is_change, locked, replaced, unreplaced}
use Rattle.wf_store.specs.declared.call_kind.CallKind.{CallKind}
use Rattle.wf_store.specs.declared.call_kind.CallKind.TheVariants as kinds
use Rattle.wf_store.specs.declared.file_name.FileName.{FileName}
use Rattle.wf_store.specs.declared.file_name.FileName.TheVariants.{Farm, Heard, Joins, NodeTape, Replaced, ReplicaTape}
use Rattle.wf_tape.specs.declared.tape.Tape.{Ghosts as Tape}

-- ---- one call

-- what there may be of a file
abbrev IsLeft : FileName → List ℕ → Type 0
IsLeft file image = (image ≡ []) ⊎ IsSoundText file image

pub tape_beside : (named file : FileName) → is_tape named ≡ true → is_tape file ≡ false → named ≡ file → ⊥
tape_beside named file tape none same = false≢true (sym none ∙ ap is_tape (sym same) ∙ tape)

-- what is left is of this file, by what was put there, or was there before
pub by_file : (is : Bool) (on other : Type 0) → OfFile is on other → ((is ≡ true) × on) ⊎ other
by_file true on other left = inl (refl, left)
by_file false on other left = inr left

given_sound : (named file : FileName) (bytes : Option (List ℕ)) (image : List ℕ) → named ≡ file → is_tape file ≡ false → IsSoundGiven named bytes → WasGiven bytes image → IsLeft file image
given_sound named file None image same none given was = inl was
given_sound named file (Some text) image same none given was = inr (subst (IsSoundText file) (sym was) (subst (λ (f : FileName). IsSoundText f text) same given))

module _ (file : FileName) (none : is_tape file ≡ false) (before : List ℕ → Type 0) (sound : (image : List ℕ) → before image → IsLeft file image) where
  -- a file was put in the place of another, or may have been
  put_sound : (named : FileName) (bytes : Option (List ℕ)) (image : List ℕ) → IsSoundGiven named bytes → OfFile (is_file named file) (before image ⊎ WasGiven bytes image) (before image)
      → IsLeft file image
  put_sound named bytes image given left = elim (by_file (is_file named file) (before image ⊎ WasGiven bytes image) (before image) left) [
    | inl (is, inl was) ↦ sound image was
    | inl (is, inr put) ↦ given_sound named file bytes image (one_file named file is) none given put
    | inr was ↦ sound image was
  ]

  -- it was
  put_whole : (named : FileName) (bytes : Option (List ℕ)) (image : List ℕ) → IsSoundGiven named bytes → OfFile (is_file named file) (WasGiven bytes image) (before image) → IsLeft file image
  put_whole named bytes image given left = elim (by_file (is_file named file) (WasGiven bytes image) (before image) left) [
    | inl (is, put) ↦ given_sound named file bytes image (one_file named file is) none given put
    | inr was ↦ sound image was
  ]

  -- a tape was opened
  opened_sound : (named : FileName) (image : List ℕ) → is_tape named ≡ true → OfFile (is_file named file) ⊤ (before image) → IsLeft file image
  opened_sound named image tape left = elim (by_file (is_file named file) ⊤ (before image) left) [
    | inl (is, any) ↦ absurd (tape_beside named file tape none (one_file named file is))
    | inr was ↦ sound image was
  ]

  left_in : (kind : CallKind) (bytes : Option (List ℕ)) (image : List ℕ) → IsSoundCall kind bytes → IsLeftIn kind bytes file before image → IsLeft file image
  left_in (kinds.Replaces named) bytes image call left = put_sound named bytes image call left
  left_in (kinds.FailsAt named) bytes image call left = put_sound named bytes image call left
  left_in (kinds.Opens named) bytes image call left = opened_sound named image call left
  left_in (kinds.OpensExisting named) bytes image call left = opened_sound named image call left
  left_in kinds.Makes bytes image call left = sound image left
  left_in kinds.Locks bytes image call left = sound image left
  left_in (kinds.Compares same) bytes image call left = sound image left
  left_in (kinds.Counts count) bytes image call left = sound image left
  left_in (kinds.Draws bits) bytes image call left = sound image left
  left_in (kinds.Sees named there) bytes image call left = sound image left
  left_in (kinds.Measures named length) bytes image call left = sound image left
  left_in (kinds.Reads named) bytes image call left = sound image left
  left_in kinds.Fails bytes image call left = sound image left

  left_by : (kind : CallKind) (bytes : Option (List ℕ)) (image : List ℕ) → IsSoundCall kind bytes → IsCutAfter kind bytes file before image → IsLeft file image
  left_by (kinds.Replaces named) bytes image call left = put_whole named bytes image call left
  left_by (kinds.FailsAt named) bytes image call left = put_sound named bytes image call left
  left_by (kinds.Opens named) bytes image call left = opened_sound named image call left
  left_by (kinds.OpensExisting named) bytes image call left = opened_sound named image call left
  left_by kinds.Makes bytes image call left = sound image left
  left_by kinds.Locks bytes image call left = sound image left
  left_by (kinds.Compares same) bytes image call left = sound image left
  left_by (kinds.Counts count) bytes image call left = sound image left
  left_by (kinds.Draws bits) bytes image call left = sound image left
  left_by (kinds.Sees named there) bytes image call left = sound image left
  left_by (kinds.Measures named length) bytes image call left = sound image left
  left_by (kinds.Reads named) bytes image call left = sound image left
  left_by kinds.Fails bytes image call left = sound image left

-- ---- all calls

may_leave : (file : FileName) → is_tape file ≡ false → (calls : List Call) → AreSoundCalls calls → (image : List ℕ) → MayLeaveNow calls file image → IsLeft file image
unfolding MayLeaveNow
may_leave file none [] are image left = inl left
may_leave file none (call ∷ earlier) are image left = left_by file none (MayLeaveNow earlier file) (may_leave file none earlier are.1) call.kind call.bytes image are.0 left

pub files_are_whole : FilesAreWhole
unfolding CouldLeave
files_are_whole [] are images left file none = inl (left file)
files_are_whole (call ∷ earlier) are images left file none = elim left [
  | inl here ↦ left_in file none (MayLeaveNow earlier file) (may_leave file none earlier are.1) call.kind call.bytes (images file) are.0 (here file)
  | inr before ↦ files_are_whole earlier are.1 images before file none
]

-- ---- what the next start reads

farm_back : (image : List ℕ) → IsLeft Farm image → (image ≡ []) ⊎ ((file : NodeFile) × IsNodeFile file × IsTextOf image file)
farm_back image (inl none) = inl none
farm_back image (inr text) = inr (text.0, text.1, inl text.2)

heard_back : (image : List ℕ) → IsLeft Heard image → (image ≡ []) ⊎ ((known : List (Option HeardOfNode)) × IsHeardIn (Some image) known)
heard_back image (inl none) = inl none
heard_back image (inr text) = inr (text.0, (text.1, text.2, inl text.3))

replaced_back : (image : List ℕ) → IsLeft Replaced image → (image ≡ []) ⊎ ((known : List (Option Replacement)) × IsReplacedIn (Some image) known)
replaced_back image (inl none) = inl none
replaced_back image (inr text) = inr (text.0, (text.1, text.2, text.3))

joins_back : (image : List ℕ) → IsLeft Joins image → (joining : Option Joining) × IsJoinsIn (Some image) joining
joins_back image (inl none) = (None, none)
joins_back image (inr (inl empty)) = (None, empty)
joins_back image (inr (inr text)) = (Some text.0, (text.1, text.2))

pub cuts_are_read_back : CutsAreReadBack
cuts_are_read_back calls are images left = record {
  farm = farm_back (images Farm) (files_are_whole calls are images left Farm refl);
  heard = heard_back (images Heard) (files_are_whole calls are images left Heard refl);
  replaced = replaced_back (images Replaced) (files_are_whole calls are images left Replaced refl);
  joins = joins_back (images Joins) (files_are_whole calls are images left Joins refl);
}

-- ---- a node that is served

-- an empty text, or that of a step more, is one of the file `joins`
joins_sound : (text : List ℕ) (calls : List Call) → MayBePut text calls → IsJoinsText text
joins_sound text calls (inl emptied) = inl emptied.0
joins_sound text calls (inr told) = inr (stepped told.step told.joining, told.joins, told.is)

text_sound : (file : FileName) (text : List ℕ) (calls : List Call) → MayBePutAt file text calls → IsSoundText file text
text_sound Farm text calls may = (may.file, may.sound, may.is)
text_sound Heard text calls may = may
text_sound Joins text calls may = joins_sound text calls may
text_sound Replaced text calls may = may
text_sound (NodeTape node) text calls may = tt
text_sound ReplicaTape text calls may = tt

put_soundly : (file : FileName) (bytes : Option (List ℕ)) (calls : List Call) → IsPutSoundly file bytes calls → IsSoundGiven file bytes
put_soundly file bytes calls put = subst (IsSoundGiven file) (sym put.is) (text_sound file put.text calls put.may)

is_sound_call : (kind : CallKind) (bytes : Option (List ℕ)) (calls : List Call) → IsJoinedSoundly kind bytes calls → IsSoundCall kind bytes
is_sound_call (kinds.Replaces file) bytes calls sound = put_soundly file bytes calls sound
is_sound_call (kinds.FailsAt file) bytes calls sound = put_soundly file bytes calls sound
is_sound_call (kinds.Opens file) bytes calls sound = sound
is_sound_call (kinds.OpensExisting file) bytes calls again = again.tape
is_sound_call kinds.Makes bytes calls sound = tt
is_sound_call kinds.Locks bytes calls sound = tt
is_sound_call (kinds.Compares same) bytes calls sound = tt
is_sound_call (kinds.Counts count) bytes calls sound = tt
is_sound_call (kinds.Draws bits) bytes calls sound = tt
is_sound_call (kinds.Sees file there) bytes calls sound = tt
is_sound_call (kinds.Measures file length) bytes calls sound = tt
is_sound_call (kinds.Reads file) bytes calls sound = tt
is_sound_call kinds.Fails bytes calls sound = tt

later_calls : (later begun : List Call) → AreJoinedSoundly later begun → AreSoundCalls begun → AreSoundCalls (later ++ begun)
later_calls [] begun sound are = are
later_calls (call ∷ later) begun sound are = (is_sound_call call.kind call.bytes (later ++ begun) sound.0, later_calls later begun sound.1 are)

pub nodes_are_sound : NodesAreSound
nodes_are_sound begun calls stays are = subst AreSoundCalls (sym stays.after.is) (later_calls stays.after.later begun stays.joined are)

-- ---- a start

admitted_sound : (line : NodeLine) (file : NodeFile) (old calls : List Call) → AreSoundCalls old → IsStartAdmitted line file old calls → AreSoundCalls calls
admitted_sound line file old calls are is = subst AreSoundCalls (sym is.calls) (tt, (tt, subst AreSoundCalls (sym is.is_file.looked.calls) (tt, (tt, are))))

counted_sound : (file written : NodeFile) (heard : List (Option HeardOfNode)) (old calls : List Call) → AreSoundCalls old → IsNodeFile written → IsCountedOn file written heard old calls
    → AreSoundCalls calls
counted_sound file written heard old calls are sound is = subst AreSoundCalls (sym is.is_counted.calls)
    ((written, sound, refl), (tt, (tt, subst AreSoundCalls (sym is.is_on_tape.calls) (refl, subst AreSoundCalls (sym is.is_on_tape.is_compared.calls) (tt, are)))))

pub starts_are_sound : StartsAreSound
starts_are_sound line file written heard old calls are sound is =
    counted_sound file written heard is.admitted calls (admitted_sound line file (locked ∷ old) is.admitted (tt, are) is.is_admitted) sound is.is_counted

-- ---- a start that ends with an error

-- a call that changes nothing
quiet_call : (kind : CallKind) (bytes : Option (List ℕ)) → is_change kind ≡ false → IsSoundCall kind bytes
quiet_call (kinds.Replaces file) bytes quiet = absurd (false≢true (sym quiet))
quiet_call (kinds.FailsAt file) bytes quiet = absurd (false≢true (sym quiet))
quiet_call (kinds.Opens file) bytes quiet = absurd (false≢true (sym quiet))
quiet_call (kinds.OpensExisting file) bytes quiet = absurd (false≢true (sym quiet))
quiet_call kinds.Makes bytes quiet = tt
quiet_call kinds.Locks bytes quiet = tt
quiet_call (kinds.Compares same) bytes quiet = tt
quiet_call (kinds.Counts count) bytes quiet = tt
quiet_call (kinds.Draws bits) bytes quiet = tt
quiet_call (kinds.Sees file there) bytes quiet = tt
quiet_call (kinds.Measures file length) bytes quiet = tt
quiet_call (kinds.Reads file) bytes quiet = tt
quiet_call kinds.Fails bytes quiet = tt

pub none_of : (call : Call) (rest : List Call) (b : Bool) → (if b then call ∷ rest else rest) ≡ [] → (b ≡ false) × (rest ≡ [])
none_of call rest true is = absurd cc
none_of call rest false is = (refl, is)

quiet_calls : (later old : List Call) → changes later ≡ [] → AreSoundCalls old → AreSoundCalls (later ++ old)
quiet_calls [] old none are = are
quiet_calls (call ∷ later) old none are =
    let first = none_of call (changes later) (is_change call.kind) none in
    (quiet_call call.kind call.bytes first.0, quiet_calls later old first.1 are)

changes_by : (call : Call) (later old : List Call) (b : Bool) → changes (later ++ old) ≡ changes later ++ changes old
    → (if b then call ∷ changes (later ++ old) else changes (later ++ old)) ≡ (if b then call ∷ changes later else changes later) ++ changes old
changes_by call later old true both = ap (λ (calls : List Call). call ∷ calls) both
changes_by call later old false both = both

changes_both : (later old : List Call) → changes (later ++ old) ≡ changes later ++ changes old
changes_both [] old = refl
changes_both (call ∷ later) old = changes_by call later old (is_change call.kind) (changes_both later old)

pub none_changes : (old calls : List Call) (reads : OnlyReads old calls) → changes reads.after.later ≡ []
none_changes old calls reads =
    let later = reads.after.later in
    append_cancel_right (changes later) [] (changes old) (sym (changes_both later old) ∙ ap changes (sym reads.after.is) ∙ reads.unchanged)

reads_are_sound : (old calls : List Call) → AreSoundCalls old → OnlyReads old calls → AreSoundCalls calls
reads_are_sound old calls are reads = subst AreSoundCalls (sym reads.after.is) (quiet_calls reads.after.later old (none_changes old calls reads) are)

compared_sound : (file : NodeFile) (old calls : List Call) → AreSoundCalls old → IsCompared file old calls → AreSoundCalls calls
compared_sound file old calls are is = subst AreSoundCalls (sym is.calls) (tt, are)

tape_opened_sound : (file : NodeFile) (old calls : List Call) → AreSoundCalls old → IsTapeOpened file old calls → AreSoundCalls calls
tape_opened_sound file old calls are is = subst AreSoundCalls (sym is.calls) (refl, compared_sound file old is.compared are is.is_compared)

uncounted_sound : (file : NodeFile) (old calls : List Call) → AreSoundCalls old → IsUncounted file old calls → AreSoundCalls calls
uncounted_sound file old calls are is = subst AreSoundCalls (sym is.calls) ((is.tried, is.sound, refl), (tt, are))

touched_sound : (file : NodeFile) (old calls : List Call) → AreSoundCalls old → IsTapeTouched file old calls → AreSoundCalls calls
touched_sound file old calls are is = elim is.2 [
  | inl opened_is ↦ subst AreSoundCalls (sym opened_is) (refl, compared_sound file old is.0 are is.1)
  | inr failed_is ↦ subst AreSoundCalls (sym failed_is) (refl, compared_sound file old is.0 are is.1)
]

unopened_sound : (file : NodeFile) (old calls : List Call) → AreSoundCalls old → IsUnopened file old calls → AreSoundCalls calls
unopened_sound file old calls are left = elim left [
  | inl reads ↦ reads_are_sound old calls are reads
  | inr touched ↦ touched_sound file old calls are touched
]

left_opened_sound : (file : NodeFile) (old calls : List Call) → AreSoundCalls old → IsLeftOpened file old calls → AreSoundCalls calls
left_opened_sound file old calls are is =
    let opened_are : AreSoundCalls is.on_tape = tape_opened_sound file old is.on_tape are is.is_on_tape in
    elim is.later [
      | inl reads ↦ reads_are_sound is.on_tape calls opened_are reads
      | inr uncounted ↦ uncounted_sound file (drawn uncounted.0 ∷ is.on_tape) calls (tt, opened_are) uncounted.1
    ]

cut_short_sound : (line : NodeLine) (old calls : List Call) → AreSoundCalls old → IsStartCutShort line old calls → AreSoundCalls calls
cut_short_sound line old calls are is =
    let admitted_are : AreSoundCalls is.admitted = admitted_sound line is.file old is.admitted are is.is_admitted in
    elim is.left [
      | inl unopened ↦ unopened_sound is.file is.admitted calls admitted_are unopened
      | inr opened_is ↦ left_opened_sound is.file is.admitted calls admitted_are opened_is
    ]

pub stops_are_sound : StopsAreSound
stops_are_sound line old calls are (inl reads) = reads_are_sound old calls are reads
stops_are_sound line old calls are (inr (inl short)) = cut_short_sound line (locked ∷ old) calls (tt, are) short
stops_are_sound line old calls are (inr (inr unserved)) = starts_are_sound line unserved.file unserved.written unserved.heard old calls are unserved.sound unserved.is_start

-- what a power cut leaves of its tape
held_by : (file : NodeFile) (stored : DurableState Definition) (image : List ℕ) → StandsFor stored image → HoldsAll file.known stored → HasHeld file image
held_by file stored image stands holds = record { stored = stored; stands = stands; holds = holds }

pub starts_again : {T : Type 0} (tapes : Tape T) → StartsAgain tapes
starts_again tapes file ready old new is durable image left =
    let stored : DurableState Definition = stored_of ready.process.actor.node in
    let stands : StandsFor stored image = is.is_started.opened.stands durable image left in
    let raised : HoldsAll ready.file.known stored = subst (λ (f : NodeFile). HoldsAll f.known stored) (sym is.is_raised.value) is.is_raised.is_known.held in
    (held_by file stored image stands is.is_started.holds, held_by ready.file stored image stands raised)

-- ---- `clear`

nothing_is_progress : (n : ℕ) → ArePeerProgress (replicate n None)
unfolding ArePeerProgress
nothing_is_progress zero = tt
nothing_is_progress (suc n) = (tt, nothing_is_progress n)

nothing_given : IsSoundGiven Heard (Some nothing_heard)
nothing_given = (replicate 64 None, refl, nothing_is_progress 64, refl)

cleared_file : (file : NodeFile) → IsNodeFile file → IsNodeFile (without_suspension file)
cleared_file file is = record { nodes = is.nodes; node = is.node; starts = is.starts; reached = is.reached; suspended = tt; farm = is.farm; bytes = is.bytes; size = is.size }

cleared_given : (file : NodeFile) → IsNodeFile file → IsSoundGiven Farm (Some (node_text (without_suspension file)))
cleared_given file is = (without_suspension file, cleared_file file is, refl)

found_sound : (file : NodeFile) (old found : List Call) → AreSoundCalls old → HasReadFarmFile file (locked ∷ old) found → AreSoundCalls found
found_sound file old found are is = subst AreSoundCalls (sym is.calls) (tt, (tt, are))

unwritten_sound : (file : NodeFile) (found calls : List Call) → IsNodeFile file → AreSoundCalls found → IsUnwritten file found calls → AreSoundCalls calls
unwritten_sound file found calls is are left = elim left [
  | inl same ↦ subst AreSoundCalls (sym same) are
  | inr (inl tried) ↦ subst AreSoundCalls (sym tried) (nothing_given, are)
  | inr (inr (inl alone)) ↦ subst AreSoundCalls (sym alone) (nothing_given, are)
  | inr (inr (inr both)) ↦ subst AreSoundCalls (sym both) (cleared_given file is, (nothing_given, are))
]

pub clears_are_sound : ClearsAreSound
clears_are_sound old calls are (inl is) =
    subst AreSoundCalls (sym is.written) (cleared_given is.file is.is_found.sound, (nothing_given, found_sound is.file old is.found are is.is_found))
clears_are_sound old calls are (inr is) = unwritten_sound is.file is.found calls is.is_found.sound (found_sound is.file old is.found are is.is_found) is.unwritten

-- ---- `init`

module _ (line : InitLine) (tape mark : List ℕ) where
  -- the calls before the file is written
  abbrev taped : List Call
  taped = with_tape line tape mark (made_empty [])

  abbrev joined : List Call
  joined = with_joins line mark taped

  taped_calls : AreSoundCalls taped
  taped_calls = (tt, (tt, (tt, (tt, (tt, tt)))))

  -- before it is written there is none
  none_taped : (image : List ℕ) → MayLeaveNow taped Farm image → image ≡ []
  unfolding MayLeaveNow
  none_taped image left = left

  none_joined : (is : Bool) (text image : List ℕ) → MayLeaveNow (if is then replaced Joins text ∷ taped else taped) Farm image → image ≡ []
  unfolding MayLeaveNow
  none_joined true text image left = left
  none_joined false text image left = left

  -- and there was none
  was_none_begun : (images : FileName → List ℕ) → CouldLeave (drawn mark ∷ made_empty []) images → images Farm ≡ []
  unfolding CouldLeave MayLeaveNow
  was_none_begun images (inl here) = here Farm
  was_none_begun images (inr (inl here)) = here Farm
  was_none_begun images (inr (inr (inl here))) = here Farm
  was_none_begun images (inr (inr (inr (inl here)))) = here Farm
  was_none_begun images (inr (inr (inr (inr first)))) = first Farm

  was_none_taped : (images : FileName → List ℕ) → CouldLeave taped images → images Farm ≡ []
  unfolding CouldLeave MayLeaveNow
  was_none_taped images (inl here) = here Farm
  was_none_taped images (inr before) = was_none_begun images before

  was_none_joined : (is : Bool) (text : List ℕ) (images : FileName → List ℕ) → CouldLeave (if is then replaced Joins text ∷ taped else taped) images → images Farm ≡ []
  unfolding CouldLeave MayLeaveNow
  was_none_joined true text images (inl here) = here Farm
  was_none_joined true text images (inr before) = was_none_taped images before
  was_none_joined false text images left = was_none_taped images left

  -- by then the tape is there, and the file `joins` of a folder that joins
  own_tape : (is : Bool) (image : List ℕ) (other : Type 0) → is ≡ true → OfFile is (image ≡ tape) other → image ≡ tape
  own_tape true image other same left = left
  own_tape false image other same left = absurd (false≢true same)

  tape_taped : (image : List ℕ) → MayLeaveNow taped (NodeTape line.id) image → image ≡ tape
  unfolding MayLeaveNow
  tape_taped image left = own_tape (nat_eq line.id line.id) image (image ≡ []) (eq-eqb line.id line.id refl) left

  tape_joined : (is : Bool) (text image : List ℕ) → MayLeaveNow (if is then replaced Joins text ∷ taped else taped) (NodeTape line.id) image → image ≡ tape
  unfolding MayLeaveNow
  tape_joined true text image left = tape_taped image left
  tape_joined false text image left = tape_taped image left

  joins_joined : (is : Bool) (text image : List ℕ) → is ≡ true → MayLeaveNow (if is then replaced Joins text ∷ taped else taped) Joins image → image ≡ text
  unfolding MayLeaveNow
  joins_joined true text image joins left = left
  joins_joined false text image joins left = absurd (false≢true joins)

  -- while the file is written there is none, or all is there
  farm_written : (file : NodeFile) → IsFirstFile line file → file.mark ≡ mark → IsFirstTape line tape → (images : FileName → List ℕ)
      → ((f : FileName) → IsLeftIn (kinds.Replaces Farm) (Some (node_text file)) f (MayLeaveNow joined f) (images f)) → (images Farm ≡ []) ⊎ IsMadeWhole line images
  farm_written file first marked begins images here = elim (here Farm) [
    | inl was ↦ inl (none_joined line.replaces (joins_text (first_joining line mark)) (images Farm) was)
    | inr is ↦ inr (record {
      file = file;
      is_first = first;
      farm = is;
      tape = subst (IsFirstTape line) (sym (tape_joined line.replaces (joins_text (first_joining line mark)) (images (NodeTape line.id)) (here (NodeTape line.id)))) begins;
      joins = λ joins. joins_joined line.replaces (joins_text (first_joining line mark)) (images Joins) joins (here Joins) ∙ ap (λ (m : List ℕ). joins_text (first_joining line m)) (sym marked);
    })
  ]

  -- whole, and each beginning of it
  whole_calls : (file : NodeFile) → IsFirstFile line file → file.mark ≡ mark → IsFirstTape line tape → (images : FileName → List ℕ) → CouldLeave (replaced Farm (node_text file) ∷ joined) images
      → (images Farm ≡ []) ⊎ IsMadeWhole line images
  unfolding CouldLeave
  whole_calls file first marked begins images (inl here) = farm_written file first marked begins images here
  whole_calls file first marked begins images (inr before) = inl (was_none_joined line.replaces (joins_text (first_joining line mark)) images before)

  tried_calls : (file : NodeFile) → IsFirstFile line file → file.mark ≡ mark → IsFirstTape line tape → (images : FileName → List ℕ) → CouldLeave (unreplaced Farm (node_text file) ∷ joined) images
      → (images Farm ≡ []) ⊎ IsMadeWhole line images
  unfolding CouldLeave
  tried_calls file first marked begins images (inl here) = farm_written file first marked begins images here
  tried_calls file first marked begins images (inr before) = inl (was_none_joined line.replaces (joins_text (first_joining line mark)) images before)

  no_tape_calls : (images : FileName → List ℕ) → CouldLeave (unreplaced (NodeTape line.id) tape ∷ drawn mark ∷ made_empty []) images → images Farm ≡ []
  unfolding CouldLeave MayLeaveNow
  no_tape_calls images (inl here) = here Farm
  no_tape_calls images (inr before) = was_none_begun images before

  no_joins_calls : (text : List ℕ) (images : FileName → List ℕ) → CouldLeave (unreplaced Joins text ∷ taped) images → images Farm ≡ []
  unfolding CouldLeave MayLeaveNow
  no_joins_calls text images (inl here) = here Farm
  no_joins_calls text images (inr before) = was_none_taped images before

half_whole : (line : InitLine) (tape : List ℕ) (calls : List Call) → IsFirstTape line tape → IsHalfFilled line tape (made_empty []) calls → (images : FileName → List ℕ) → CouldLeave calls images
    → (images Farm ≡ []) ⊎ IsMadeWhole line images
half_whole line tape calls begins half images left = elim half.calls [
  | inl is ↦ inl (no_tape_calls line tape half.mark images (subst (λ (c : List Call). CouldLeave c images) is left))
  | inr (inl is) ↦ inl (was_none_taped line tape half.mark images (subst (λ (c : List Call). CouldLeave c images) is left))
  | inr (inr (inl tried)) ↦ inl (no_joins_calls line tape half.mark (joins_text (first_joining line half.mark)) images (subst (λ (c : List Call). CouldLeave c images) tried.1 left))
  | inr (inr (inr tried)) ↦ elim tried.calls [
    | inl is ↦ inl (was_none_joined line tape half.mark line.replaces (joins_text (first_joining line half.mark)) images (subst (λ (c : List Call). CouldLeave c images) is left))
    | inr is ↦ tried_calls line tape half.mark tried.file tried.is_first tried.marked begins images (subst (λ (c : List Call). CouldLeave c images) is left)
  ]
]

pub inits_are_whole : InitsAreWhole
inits_are_whole line calls (inl has) images left =
    whole_calls line has.tape has.filled.file.mark has.filled.file has.filled.is_first refl has.begins images (subst (λ (c : List Call). CouldLeave c images) has.filled.calls left)
inits_are_whole line calls (inr half) images left = half_whole line half.tape calls half.begins half.half images left

-- ---- the calls of `init` are sound

no_stages : (n : ℕ) → AreAll IsStage (replicate n Unasked)
unfolding AreAll
no_stages zero = tt
no_stages (suc n) = (tt, no_stages n)

-- what a folder that joins is told first, by the file `farm` that it gets
first_joins : (line : InitLine) (file : NodeFile) → IsFirstFile line file → IsJoins (first_joining line file.mark)
first_joins line file first = record {
  joins = record {
    of_farm = subst IsNumberOfNodes first.nodes first.is.nodes;
    member = subst (λ (n : ℕ). n < line.nodes) first.node (subst (λ (n : ℕ). file.node < n) first.nodes first.is.node);
    stages = refl;
  };
  replacement = record { fits = omega arith; bytes = first.is.bytes; size = first.is.size };
  each = no_stages 64;
}

module _ (line : InitLine) (tape mark : List ℕ) where
  farm_given : (file : NodeFile) → IsFirstFile line file → IsSoundGiven Farm (Some (node_text file))
  farm_given file first = (file, first.is, refl)

  joins_given : IsJoins (first_joining line mark) → IsSoundGiven Joins (Some (joins_text (first_joining line mark)))
  joins_given is = inr (first_joining line mark, is, refl)

  with_sound : (is : Bool) → IsJoins (first_joining line mark) → AreSoundCalls (if is then replaced Joins (joins_text (first_joining line mark)) ∷ taped line tape mark else taped line tape mark)
  with_sound true joins = (joins_given joins, taped_calls line tape mark)
  with_sound false joins = taped_calls line tape mark

  joined_sound : (file : NodeFile) → IsFirstFile line file → file.mark ≡ mark → AreSoundCalls (joined line tape mark)
  joined_sound file first marked = with_sound line.replaces (subst (λ (m : List ℕ). IsJoins (first_joining line m)) marked (first_joins line file first))

half_sound : (line : InitLine) (tape : List ℕ) (calls : List Call) → IsHalfFilled line tape (made_empty []) calls → AreSoundCalls calls
half_sound line tape calls half = elim half.calls [
  | inl is ↦ subst AreSoundCalls (sym is) (tt, (tt, (tt, (tt, (tt, tt)))))
  | inr (inl is) ↦ subst AreSoundCalls (sym is) (taped_calls line tape half.mark)
  | inr (inr (inl tried)) ↦ subst AreSoundCalls (sym tried.1) (joins_given line tape half.mark tried.0, taped_calls line tape half.mark)
  | inr (inr (inr tried)) ↦ elim tried.calls [
    | inl is ↦ subst AreSoundCalls (sym is) (joined_sound line tape half.mark tried.file tried.is_first tried.marked)
    | inr is ↦ subst AreSoundCalls (sym is) (farm_given line tape half.mark tried.file tried.is_first, joined_sound line tape half.mark tried.file tried.is_first tried.marked)
  ]
]

pub inits_are_sound : InitsAreSound
inits_are_sound line calls (inl has) = subst AreSoundCalls (sym has.filled.calls)
    (farm_given line has.tape has.filled.file.mark has.filled.file has.filled.is_first, joined_sound line has.tape has.filled.file.mark has.filled.file has.filled.is_first refl)
inits_are_sound line calls (inr half) = half_sound line half.tape calls half.half
