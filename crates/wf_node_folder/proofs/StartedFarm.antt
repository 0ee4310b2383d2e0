-- A start leaves a file `farm` that says no less than the one before.
use Rattle.std.proofs.Common.{◌≡◌, ◌⊎◌, ◌∙◌, ◌≤◌, inl, inr, ℕ, true, false, List, [], ◌∷◌, ◌++◌, ap, arith, refl, subst, sym}
use Rattle.std.proofs.lemmas.Bool.{false≢true}
use Rattle.std.proofs.lemmas.List.{append_assoc, append_cancel_right}
use Rattle.std.specs.Prelude.{⊤, Option, Some, None}
use Rattle.wf_folder.proofs.Ends.{not_both}
use Rattle.wf_folder.specs.NodeAdmission.{IsNodeStart, IsSoundFind}
use Rattle.wf_folder.specs.NodeFile.{IsNodeFile, IsTextOf, node_text}
use Rattle.wf_folder.specs.Reach.{IsReachNoLess}
use Rattle.wf_folder.specs.declared.node_admission.NodeFound.{NodeFound}
use Rattle.wf_folder.specs.declared.node_admission.NodeFound.TheVariants as finds
use Rattle.wf_folder.specs.declared.node_file.NodeFile.{NodeFile}
use Rattle.wf_folder.specs.declared.presence.Presence.{Presence}
use Rattle.wf_line.specs.declared.node_line.NodeLine.{NodeLine}
use Rattle.wf_node_folder.proofs.FarmPut.{one_text}
use Rattle.wf_node_folder.proofs.PowerCut.{by_file, none_changes, none_of, tape_beside}
use Rattle.wf_node_folder.specs.FarmPut.{published_in}
use Rattle.wf_node_folder.specs.Folder.{IsFoundIn}
use Rattle.wf_node_folder.specs.PowerCut.{CutsSayNoLess, ReadsWhatIsLeft, SaysNoLess, StartsKeepFarm}
use Rattle.wf_node_folder.specs.Start.{IsCompared, IsLeftOpened, IsLeftUncounted, IsNotServed, IsStartAdmitted, IsStartCutShort, IsTapeOpened, IsTapeTouched, IsUncounted, IsUnserved}
use Rattle.wf_power_cuts.proofs.DiskLemmas.{one_file}
use Rattle.wf_power_cuts.specs.Cut.{IsCutAfter, MayLeaveNow, OfFile, WasGiven, is_file}
use Rattle.wf_store.specs.Call.{Call, IsAfter, OnlyReads, changes, drawn, failed_at, is_change, locked, opened, read, replaced, seen, unreplaced}
use Rattle.wf_store.specs.Texts.{is_tape}
use Rattle.wf_store.specs.declared.call_kind.CallKind.{CallKind}
use Rattle.wf_store.specs.declared.call_kind.CallKind.TheVariants as kinds
use Rattle.wf_store.specs.declared.file_name.FileName.{FileName}
use Rattle.wf_store.specs.declared.file_name.FileName.TheVariants.{Farm, Heard, Joins, NodeTape, Replaced}

-- ---- what a start found

-- bytes that are the text of a file, and read as one
same_published : (bytes : List ℕ) (a b : NodeFile) → IsNodeFile a → IsNodeFile b → bytes ≡ node_text a → IsTextOf bytes b → published_in a ≡ published_in b
same_published bytes a b of_a of_b is (inl now) = one_text a b (Some bytes) of_a of_b (ap Some is) (ap Some now)
same_published bytes a b of_a of_b is (inr (old, text)) = absurd (not_both bytes _ _ is text)

-- the file that a start found counts one start less, and says the same
found_published : (found : NodeFound) (tape : Presence) (nodes : ℕ) (file said : NodeFile) (bytes : List ℕ) → IsNodeStart nodes found tape file → IsSoundFind found → IsFoundIn (Some bytes) found → IsNodeFile said
    → bytes ≡ node_text said → published_in said ≡ published_in file
found_published finds.Nothing tape nodes file said bytes start sound is of_said text = absurd start
found_published (finds.File f) tape nodes file said bytes start sound is of_said text = same_published bytes said f of_said sound text is ∙ sym (ap published_in start.counted)
found_published (finds.Bad fault) tape nodes file said bytes start sound is of_said text = absurd start

pub says_found : (found : NodeFound) (tape : Presence) (nodes published : ℕ) (file : NodeFile) (bytes : List ℕ) → IsNodeStart nodes found tape file → IsSoundFind found → IsFoundIn (Some bytes) found
    → SaysNoLess published bytes → published ≤ published_in file
says_found found tape nodes published file bytes start sound is says = omega (arith, says.no_less, found_published found tape nodes file says.file bytes start sound is says.sound says.is)

-- no start is admitted where no file was found
bytes_found : (found : NodeFound) (tape : Presence) (nodes : ℕ) (file : NodeFile) (bytes : Option (List ℕ)) → IsNodeStart nodes found tape file → IsFoundIn bytes found → (some : List ℕ) × (bytes ≡ Some some)
bytes_found finds.Nothing tape nodes file bytes start is = absurd start
bytes_found (finds.File f) tape nodes file None start is = absurd is
bytes_found (finds.File f) tape nodes file (Some bytes) start is = (bytes, refl)
bytes_found (finds.Bad fault) tape nodes file bytes start is = absurd start

-- ---- calls that leave no less

module _ (published : ℕ) where
  -- what it puts at `farm` says no less, and what it opens is a tape
  abbrev IsHarmless : CallKind → Option (List ℕ) → Type 0
  IsHarmless (kinds.Replaces named) bytes = is_file named Farm ≡ true → (image : List ℕ) → WasGiven bytes image → SaysNoLess published image
  IsHarmless (kinds.FailsAt named) bytes = is_file named Farm ≡ true → (image : List ℕ) → WasGiven bytes image → SaysNoLess published image
  IsHarmless (kinds.Opens named) bytes = is_tape named ≡ true
  IsHarmless (kinds.OpensExisting named) bytes = is_tape named ≡ true
  IsHarmless kind bytes = ⊤

  abbrev AreHarmless : List Call → Type 0
  AreHarmless [] = ⊤
  AreHarmless (call ∷ earlier) = IsHarmless call.kind call.bytes × AreHarmless earlier

  module _ (before : List ℕ → Type 0) (image : List ℕ) (says : before image → SaysNoLess published image) where
    opened_harmless : (named : FileName) → is_tape named ≡ true → OfFile (is_file named Farm) ⊤ (before image) → SaysNoLess published image
    opened_harmless named tape left = elim (by_file (is_file named Farm) ⊤ (before image) left) [
      | inl (is, any) ↦ absurd (tape_beside named Farm tape refl (one_file named Farm is))
      | inr was ↦ says was
    ]

    cut_harmless : (kind : CallKind) (bytes : Option (List ℕ)) → IsHarmless kind bytes → IsCutAfter kind bytes Farm before image → SaysNoLess published image
    cut_harmless (kinds.Replaces named) bytes puts left = elim (by_file (is_file named Farm) (WasGiven bytes image) (before image) left) [
      | inl (is, given) ↦ puts is image given
      | inr was ↦ says was
    ]
    cut_harmless (kinds.FailsAt named) bytes puts left = elim (by_file (is_file named Farm) (before image ⊎ WasGiven bytes image) (before image) left) [
      | inl (is, inl was) ↦ says was
      | inl (is, inr given) ↦ puts is image given
      | inr was ↦ says was
    ]
    cut_harmless (kinds.Opens named) bytes tape left = opened_harmless named tape left
    cut_harmless (kinds.OpensExisting named) bytes tape left = opened_harmless named tape left
    cut_harmless kinds.Makes bytes none left = says left
    cut_harmless kinds.Locks bytes none left = says left
    cut_harmless (kinds.Compares same) bytes none left = says left
    cut_harmless (kinds.Counts count) bytes none left = says left
    cut_harmless (kinds.Draws bits) bytes none left = says left
    cut_harmless (kinds.Sees file there) bytes none left = says left
    cut_harmless (kinds.Measures file length) bytes none left = says left
    cut_harmless (kinds.Reads file) bytes none left = says left
    cut_harmless kinds.Fails bytes none left = says left

  -- after all of them
  still_says : (later old : List Call) → AreHarmless later → CutsSayNoLess published old → CutsSayNoLess published (later ++ old)
  unfolding MayLeaveNow
  still_says [] old are says image left = says image left
  still_says (call ∷ later) old are says image left = cut_harmless (MayLeaveNow (later ++ old) Farm) image (still_says later old are.1 says image) call.kind call.bytes are.0 left

  earlier_harmless : (later earlier : List Call) → AreHarmless (later ++ earlier) → AreHarmless earlier
  earlier_harmless [] earlier are = are
  earlier_harmless (call ∷ later) earlier are = earlier_harmless later earlier are.1

  both_harmless : (later earlier : List Call) → AreHarmless later → AreHarmless earlier → AreHarmless (later ++ earlier)
  both_harmless [] earlier of_later are = are
  both_harmless (call ∷ later) earlier of_later are = (of_later.0, both_harmless later earlier of_later.1 are)

  quiet_harmless : (kind : CallKind) (bytes : Option (List ℕ)) → is_change kind ≡ false → IsHarmless kind bytes
  quiet_harmless (kinds.Replaces file) bytes quiet = absurd (false≢true (sym quiet))
  quiet_harmless (kinds.FailsAt file) bytes quiet = absurd (false≢true (sym quiet))
  quiet_harmless (kinds.Opens file) bytes quiet = absurd (false≢true (sym quiet))
  quiet_harmless (kinds.OpensExisting file) bytes quiet = absurd (false≢true (sym quiet))
  quiet_harmless kinds.Makes bytes quiet = tt
  quiet_harmless kinds.Locks bytes quiet = tt
  quiet_harmless (kinds.Compares same) bytes quiet = tt
  quiet_harmless (kinds.Counts count) bytes quiet = tt
  quiet_harmless (kinds.Draws bits) bytes quiet = tt
  quiet_harmless (kinds.Sees file there) bytes quiet = tt
  quiet_harmless (kinds.Measures file length) bytes quiet = tt
  quiet_harmless (kinds.Reads file) bytes quiet = tt
  quiet_harmless kinds.Fails bytes quiet = tt

  quiet_all : (later : List Call) → changes later ≡ [] → AreHarmless later
  quiet_all [] none = tt
  quiet_all (call ∷ later) none =
      let first = none_of call (changes later) (is_change call.kind) none in
      (quiet_harmless call.kind call.bytes first.0, quiet_all later first.1)

  -- ---- calls after others

  record GoOn (old new : List Call) : Type 0 where
    later : List Call
    is : new ≡ later ++ old
    are : AreHarmless later

  one_more : (old mid new : List Call) (call : Call) → GoOn old mid → new ≡ call ∷ mid → IsHarmless call.kind call.bytes → GoOn old new
  one_more old mid new call on is harmless = record { later = call ∷ on.later; is = is ∙ ap (λ (calls : List Call). call ∷ calls) on.is; are = (harmless, on.are) }

  only_more : (old mid new : List Call) → GoOn old mid → OnlyReads mid new → GoOn old new
  only_more old mid new on reads = record {
    later = reads.after.later ++ on.later;
    is = reads.after.is ∙ ap (λ (calls : List Call). reads.after.later ++ calls) on.is ∙ sym (append_assoc reads.after.later on.later old);
    are = both_harmless reads.after.later on.later (quiet_all reads.after.later (none_changes mid new reads)) on.are;
  }

  none_more : (old : List Call) → GoOn old old
  none_more old = record { later = []; is = refl; are = tt }

  -- ---- a start, once it has read the file `farm`

  put_no_less : (file written : NodeFile) → IsNodeFile written → published ≤ published_in file → IsReachNoLess file.known.reach written.known.reach → (image : List ℕ) → WasGiven (Some (node_text written)) image
      → SaysNoLess published image
  put_no_less file written sound below no_less image given = record { file = written; sound = sound; is = given; no_less = omega (arith, below, no_less.up_to) }

  module _ (file : NodeFile) (below : published ≤ published_in file) (base : List Call) where
    on_compared : (old new : List Call) → GoOn base old → IsCompared file old new → GoOn base new
    on_compared old new on is = one_more base old new (read (NodeTape file.node) (Some is.content)) on is.calls tt

    on_opened : (old new : List Call) → GoOn base old → IsTapeOpened file old new → GoOn base new
    on_opened old new on is = one_more base is.compared new (opened (NodeTape file.node)) (on_compared old is.compared on is.is_compared) is.calls refl

    on_touched : (old new : List Call) → GoOn base old → IsTapeTouched file old new → GoOn base new
    on_touched old new on is = elim is.2 [
      | inl opened_is ↦ one_more base is.0 new (opened (NodeTape file.node)) (on_compared old is.0 on is.1) opened_is refl
      | inr failed_is ↦ one_more base is.0 new (failed_at (NodeTape file.node)) (on_compared old is.0 on is.1) failed_is (λ same. absurd (false≢true same))
    ]

    on_uncounted : (old new : List Call) → GoOn base old → IsUncounted file old new → GoOn base new
    on_uncounted old new on is =
        one_more base (read Heard is.bytes ∷ old) new (unreplaced Farm (node_text is.tried)) (one_more base old (read Heard is.bytes ∷ old) (read Heard is.bytes) on refl tt) is.calls
        (λ same. put_no_less file is.tried is.sound below is.no_less)

    on_left_opened : (old new : List Call) → GoOn base old → IsLeftOpened file old new → GoOn base new
    on_left_opened old new on is =
        let there = on_opened old is.on_tape on is.is_on_tape in
        elim is.later [
          | inl reads ↦ only_more base is.on_tape new there reads
          | inr uncounted ↦ on_uncounted (drawn uncounted.0 ∷ is.on_tape) new (one_more base is.on_tape (drawn uncounted.0 ∷ is.on_tape) (drawn uncounted.0) there refl tt) uncounted.1
        ]

    on_left : (old new : List Call) → GoOn base old → IsLeftUncounted file old new → GoOn base new
    on_left old new on (inl (inl reads)) = only_more base old new on reads
    on_left old new on (inl (inr touched)) = on_touched old new on touched
    on_left old new on (inr opened_is) = on_left_opened old new on opened_is

  -- the calls of one that was admitted, from the one on that read the file `farm`
  on_admitted : (line : NodeLine) (file : NodeFile) (old new : List Call) (is : IsStartAdmitted line file old new) → GoOn (read Farm is.is_file.looked.bytes ∷ old) new
  on_admitted line file old new is =
      let looked = is.is_file.looked in
      let base = read Farm looked.bytes ∷ old in
      let there = one_more base base is.looked_at (seen (NodeTape _) is.is_file.tape) (none_more base) looked.calls tt in
      let replaced_read = one_more base is.looked_at (read Replaced is.replaced_bytes ∷ is.looked_at) (read Replaced is.replaced_bytes) there refl tt in
      one_more base (read Replaced is.replaced_bytes ∷ is.looked_at) new (read Joins is.joins_bytes) replaced_read is.calls tt

  on_cut_short : (line : NodeLine) (old new : List Call) (is : IsStartCutShort line old new) → published ≤ published_in is.file → GoOn (read Farm is.is_admitted.is_file.looked.bytes ∷ old) new
  on_cut_short line old new is below = on_left is.file below _ is.admitted new (on_admitted line is.file old is.admitted is.is_admitted) is.left

  on_unserved : (line : NodeLine) (old new : List Call) (is : IsUnserved line old new) → published ≤ published_in is.file → GoOn (read Farm is.is_start.is_admitted.is_file.looked.bytes ∷ old) new
  on_unserved line old new is below =
      let start = is.is_start in
      let counted = start.is_counted in
      let base = read Farm start.is_admitted.is_file.looked.bytes ∷ old in
      let on_tape = on_opened is.file below base start.admitted counted.on_tape (on_admitted line is.file old start.admitted start.is_admitted) counted.is_on_tape in
      let drawn_on = one_more base counted.on_tape (drawn counted.life ∷ counted.on_tape) (drawn counted.life) on_tape refl tt in
      let heard_on = one_more base (drawn counted.life ∷ counted.on_tape) (read Heard counted.is_counted.bytes ∷ drawn counted.life ∷ counted.on_tape) (read Heard counted.is_counted.bytes) drawn_on refl tt in
      one_more base (read Heard counted.is_counted.bytes ∷ drawn counted.life ∷ counted.on_tape) new (replaced Farm (node_text is.written)) heard_on counted.is_counted.calls
      (λ same. put_no_less is.file is.written is.sound below is.no_less)

-- ---- the whole start

after_by : (published : ℕ) (old new : List Call) → GoOn published old new → IsAfter old new
after_by published old new on = record { later = on.later; is = on.is }

-- what it read may have been left there, so the file that it found says no less
below_found : (line : NodeLine) (file : NodeFile) (old admitted new : List Call) (published : ℕ) (is : IsStartAdmitted line file (locked ∷ old) admitted)
    → IsAfter (read Farm is.is_file.looked.bytes ∷ locked ∷ old) new → ReadsWhatIsLeft old new → CutsSayNoLess published old → published ≤ published_in file
unfolding MayLeaveNow
below_found line file old admitted new published is after reads says =
    let is_file = is.is_file in
    let looked = is_file.looked in
    let some = bytes_found is_file.found is_file.tape _ file looked.bytes is_file.start looked.is in
    let after_some = subst (λ (bytes : Option (List ℕ)). IsAfter (read Farm bytes ∷ locked ∷ old) new) some.1 after in
    let left : MayLeaveNow old Farm some.0 = reads (locked ∷ old) some.0 (record { later = locked ∷ []; is = refl }) after_some in
    says_found is_file.found is_file.tape _ published file some.0 is_file.start looked.sound (subst (λ (bytes : Option (List ℕ)). IsFoundIn bytes is_file.found) some.1 looked.is) (says some.0 left)

-- with the two calls before
from_lock : (published : ℕ) (bytes : Option (List ℕ)) (old new : List Call) → GoOn published (read Farm bytes ∷ locked ∷ old) new → GoOn published old new
from_lock published bytes old new on = record {
  later = on.later ++ read Farm bytes ∷ (locked ∷ []);
  is = on.is ∙ sym (append_assoc on.later (read Farm bytes ∷ (locked ∷ [])) old);
  are = both_harmless published on.later (read Farm bytes ∷ (locked ∷ [])) on.are (tt, (tt, tt));
}

zero_below : (n : ℕ) → 0 ≤ n
zero_below n = omega arith

start_goes_on : (line : NodeLine) (old new : List Call) (published : ℕ) → IsNotServed line old new → ReadsWhatIsLeft old new → CutsSayNoLess published old → GoOn published old new
start_goes_on line old new published (inl only) reads says = only_more published old old new (none_more published old) only
start_goes_on line old new published (inr (inl short)) reads says =
    let after = after_by 0 _ new (on_cut_short 0 line (locked ∷ old) new short (zero_below (published_in short.file))) in
    from_lock published _ old new (on_cut_short published line (locked ∷ old) new short (below_found line short.file old short.admitted new published short.is_admitted after reads says))
start_goes_on line old new published (inr (inr unserved)) reads says =
    let after = after_by 0 _ new (on_unserved 0 line (locked ∷ old) new unserved (zero_below (published_in unserved.file))) in
    let start = unserved.is_start in
    from_lock published _ old new (on_unserved published line (locked ∷ old) new unserved (below_found line unserved.file old start.admitted new published start.is_admitted after reads says))

pub starts_keep_farm : StartsKeepFarm
starts_keep_farm line old calls new before rest start reads published says =
    let on = start_goes_on line old new published start reads says in
    let whole : on.later ≡ rest.later ++ before.later =
    append_cancel_right on.later (rest.later ++ before.later) old
    (sym on.is ∙ rest.is ∙ ap (λ (cs : List Call). rest.later ++ cs) before.is ∙ sym (append_assoc rest.later before.later old)) in
    let are : AreHarmless published before.later = earlier_harmless published rest.later before.later (subst (AreHarmless published) whole on.are) in
    subst (CutsSayNoLess published) (sym before.is) (still_says published before.later old are says)
