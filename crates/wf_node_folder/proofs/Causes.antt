-- Why a call of the folder of a node that runs fails.
use Rattle.std.proofs.Common.{◌≡◌, ◌⊎◌, ◌∙◌, inl, inr, ℕ, false, List, [], ◌∷◌, ap, refl, subst, sym}
use Rattle.std.proofs.lemmas.Option.{same_Some}
use Rattle.std.specs.Prelude.{IsSome, Option, Some, None, Result, Ok, Err, IfErr, IfOk, IfSome, OnErr}
use Rattle.std.specs.declared.io.ErrorKind.{ErrorKind}
use Rattle.std.specs.declared.io.ErrorKind.TheVariants.{InvalidData}
use Rattle.wf_folder.specs.Admission.{is_there}
use Rattle.wf_folder.specs.NodeFile.{node_text}
use Rattle.wf_folder.specs.declared.node_file.NodeFile.{NodeFile}
use Rattle.wf_folder.specs.declared.presence.Presence.{Presence}
use Rattle.wf_folder.specs.declared.presence.Presence.TheVariants as presences
use Rattle.wf_membership.specs.declared.folder_error.FolderError.{FolderError}
use Rattle.wf_membership.specs.declared.folder_error.FolderError.TheVariants as errors
use Rattle.wf_node_folder.specs.Cause.{IsOwn, IsOwnFound, IsWhyNotJoined, IsWhyTapeUnopened, ShowsJoining, uncounted_of, why_of}
use Rattle.wf_rejoin.specs.Joining.{MayVote}
use Rattle.wf_rejoin.specs.JoiningText.{IsJoins, joins_text}
use Rattle.wf_rejoin.specs.declared.joining.Joining.{Joining}
use Rattle.wf_store.specs.Call.{Call, IsAfter, OnlyReads, compared, failed, read, seen, unreplaced}
use Rattle.wf_store.specs.CallTheorems.{after_none}
use Rattle.wf_store.specs.Fault.{IsNoFolder, IsWhyUnopened, IsWhyUnread, IsWhyUnwritten}
use Rattle.wf_store.specs.declared.call_kind.CallKind.{CallKind}
use Rattle.wf_store.specs.declared.call_kind.CallKind.TheVariants as kinds
use Rattle.wf_store.specs.declared.fault.FolderFault.{FolderFault}
use Rattle.wf_store.specs.declared.fault.FolderFault.TheVariants as faults
use Rattle.wf_store.specs.declared.file_name.FileName.{FileName}
use Rattle.wf_store.specs.declared.file_name.FileName.TheVariants.{Farm, Joins, NodeTape}
use Rattle.wf_voter.proofs.Cause.{caused_later, ends_later}
use Rattle.wf_voter.specs.Cause.{EndsWith, IsFailing, IsFailingAt, IsCausedBy, IsWhyHalted, IsWhyJoining, IsWhyUntold, IsWhyFarmUnwritten, ShowsNoJoining, ShowsNoVote, ShowsOtherFarm}
use Rattle.wf_voter.specs.declared.reopening.NotReopened.{NotReopened}
use Rattle.wf_voter.specs.declared.reopening.NotReopened.TheVariants as whys

-- ---- one call

module _ (old new : List Call) where
  ends_with : {Is : Call → Type 0} (call : Call) → new ≡ call ∷ old → Is call → EndsWith Is old new
  ends_with call is such = record { last = call; earlier = old; after = after_none old; calls = is; is = such }

  pub after_reading : OnlyReads old new → IsAfter old new
  after_reading reads = reads.after

  -- whether the folder is the one that is locked was looked at
  pub other_folder : new ≡ compared false ∷ old → IsCausedBy errors.Other old new
  other_folder is = ends_with (compared false) is refl

  pub no_folder : (fault : FolderFault) → new ≡ failed ∷ old → IsNoFolder fault → IsCausedBy (errors.Store fault) old new
  no_folder (faults.NoFolder kind) is cause = ends_with failed is refl
  no_folder fault is cause = absurd cause

  -- a file wasn't read
  pub unread : (file : FileName) (fault : FolderFault) → new ≡ failed ∷ old → IsWhyUnread file fault → IsCausedBy (errors.Store fault) old new
  unread file (faults.Unread named kind) is cause = ends_with failed is refl
  unread file faults.Memory is cause = tt
  unread file fault is cause = absurd cause

  pub read_caused : {A : Type 0} (file : FileName) (result : Result A FolderFault) → OnErr result (new ≡ failed ∷ old) → IfErr result (IsWhyUnread file)
      → IfErr result (λ fault. IsCausedBy (errors.Store fault) old new)
  read_caused file (Ok found) is cause = tt
  read_caused file (Err fault) is cause = unread file fault is cause

  -- a tape wasn't opened
  tape_unopened : (file : FileName) (fault : FolderFault) → new ≡ failed ∷ old → IsWhyUnopened file fault → IsCausedBy (errors.Store fault) old new
  tape_unopened file (faults.Unopened named) is cause = ends_with failed is refl
  tape_unopened file faults.Memory is cause = tt
  tape_unopened file fault is cause = absurd cause

  -- a file wasn't put in the place of another
  pub file_unwritten : (file : FileName) (text : List ℕ) (fault : FolderFault) → new ≡ unreplaced file text ∷ old → IsWhyUnwritten file fault → IsCausedBy (errors.Store fault) old new
  file_unwritten file text (faults.Unwritten named kind) is cause = ends_with (unreplaced file text) is (inr (sym cause))
  file_unwritten file text faults.Memory is cause = tt
  file_unwritten file text fault is cause = absurd cause

  -- there is no tape
  pub no_tape : (node : ℕ) (presence : Presence) → new ≡ seen (NodeTape node) presence ∷ old → is_there presence ≡ false → EndsWith (λ call. call ≡ seen (NodeTape node) presences.Absent) old new
  no_tape node presences.Absent is absent = ends_with (seen (NodeTape node) presences.Absent) is refl
  no_tape node presence is absent = absurd cc

-- ---- a tape is opened again

tape_by : (error : FolderError) (node : ℕ) (old new : List Call) → IsCausedBy error old new → IsWhyTapeUnopened (why_of error) node old new
tape_by (errors.Store faults.Memory) node old new is = tt
tape_by error node old new is = is

pub tape_why : (error : FolderError) (why : NotReopened) (node : ℕ) (old new : List Call) → why ≡ why_of error → IsCausedBy error old new → IsWhyTapeUnopened why node old new
tape_why error why node old new same is = subst (λ (w : NotReopened). IsWhyTapeUnopened w node old new) (sym same) (tape_by error node old new is)

pub tape_then : (fault : FolderFault) (why : NotReopened) (file : FileName) (node : ℕ) (old mid new : List Call) → why ≡ why_of (errors.Store fault) → IsAfter old mid → new ≡ failed ∷ mid → IsWhyUnopened file fault
    → IsWhyTapeUnopened why node old new
tape_then fault why file node old mid new same after is cause =
    tape_why (errors.Store fault) why node old new same (caused_later old mid new after (errors.Store fault) (tape_unopened mid new file fault is cause))

halted_of : (error : FolderError) (starts : ℕ) (file : NodeFile) (attempted : Option NodeFile) (old new : List Call) → IsCausedBy error old new
    → IsWhyHalted (why_of error) starts file attempted old new
halted_of (errors.Store faults.Memory) starts file attempted old new is = tt
halted_of error starts file attempted old new is = is

pub halted_why : (error : FolderError) (why : NotReopened) (starts : ℕ) (file : NodeFile) (attempted : Option NodeFile) (old new : List Call) → why ≡ why_of error → IsCausedBy error old new
    → IsWhyHalted why starts file attempted old new
halted_why error why starts file attempted old new same is = subst (λ (w : NotReopened). IsWhyHalted w starts file attempted old new) (sym same) (halted_of error starts file attempted old new is)

module _ (starts : ℕ) (file : NodeFile) (attempted : Option NodeFile) (old mid new : List Call) (after : IsAfter old mid) where
  by_tape : (why : NotReopened) → IsWhyTapeUnopened why file.node mid new → IsWhyHalted why starts file attempted old new
  by_tape (whys.Folder error) is = caused_later old mid new after error is
  by_tape whys.NoTape is = ends_later old mid new after is
  by_tape whys.Memory is = tt
  by_tape why is = absurd is

  pub halted_by_tape : {A : Type 0} (result : Result A NotReopened) → IfErr result (λ why. IsWhyTapeUnopened why file.node mid new)
      → IfErr result (λ why. IsWhyHalted why starts file attempted old new)
  halted_by_tape (Ok tape) is = tt
  halted_by_tape (Err why) is = by_tape why is

-- a start isn't counted
failed_at : (file : FileName) (kind : CallKind) → IsFailingAt file kind → IsFailing kind
failed_at file (kinds.FailsAt named) is = tt
failed_at file kind is = absurd is

has_failed : (file : FileName) (call : Call) → (call ≡ failed) ⊎ IsFailingAt file call.kind → IsFailing call.kind
has_failed file call (inl is) = subst (λ (c : Call). IsFailing c.kind) (sym is) tt
has_failed file call (inr is) = failed_at file call.kind is

not_counted : (error : FolderError) (starts : ℕ) (file : NodeFile) (attempted : Option NodeFile) (old new : List Call) → IsWhyFarmUnwritten error file attempted old new
    → IsWhyHalted (uncounted_of error) starts file attempted old new
not_counted (errors.Store (faults.Unwritten named kind)) starts file attempted old new (inl is) =
    inl (record { last = is.last; earlier = is.earlier; after = is.after; calls = is.calls; is = has_failed named is.last is.is })
not_counted (errors.Store (faults.Unwritten named kind)) starts file attempted old new (inr is) = inr (is.1, is.2)
not_counted (errors.Store faults.Memory) starts file attempted old new is = tt
not_counted error starts file attempted old new is = is

pub not_counted_why : (error : FolderError) (why : NotReopened) (starts : ℕ) (file : NodeFile) (attempted : Option NodeFile) (old new : List Call) → why ≡ uncounted_of error
    → IsWhyFarmUnwritten error file attempted old new → IsWhyHalted why starts file attempted old new
not_counted_why error why starts file attempted old new same is = subst (λ (w : NotReopened). IsWhyHalted w starts file attempted old new) (sym same) (not_counted error starts file attempted old new is)

-- ---- the file `farm`

-- the one that was read is one of its process's
module _ (file : NodeFile) (attempted : Option NodeFile) (old new : List Call) where
  pub own_found : (there : NodeFile) (text : List ℕ) → new ≡ read Farm (Some text) ∷ old → IsOwn there file attempted → text ≡ node_text there → IsOwnFound (Some there) file attempted old new
  own_found there text is own same = (own, is ∙ ap (λ (t : List ℕ). read Farm (Some t) ∷ old) same)

  -- or neither, or there is none
  other_farm : (bytes : Option (List ℕ)) → new ≡ read Farm bytes ∷ old → ¬ (bytes ≡ Some (node_text file)) → ((tried : NodeFile) → attempted ≡ Some tried → ¬ (bytes ≡ Some (node_text tried)))
      → IsOwnFound None file attempted old new
  other_farm bytes is last tried = ends_with old new (read Farm bytes) is (record { bytes = bytes; is = refl; not_last = last; not_attempted = tried })

  pub no_farm : new ≡ read Farm None ∷ old → IsOwnFound None file attempted old new
  no_farm is = other_farm None is (λ same. absurd cc) (λ tried it same. absurd cc)

  pub neither : (text : List ℕ) → new ≡ read Farm (Some text) ∷ old → ¬ (text ≡ node_text file) → ((tried : NodeFile) → attempted ≡ Some tried → ¬ (text ≡ node_text tried)) → IsOwnFound None file attempted old new
  neither text is last tried = other_farm (Some text) is (λ same. last (same_Some text (node_text file) same)) (λ it same together. tried it same (same_Some text (node_text it) together))

-- ---- the file `joins`

module _ (old new : List Call) where
  pub by_read : (error : FolderError) → IsCausedBy error old new → IsWhyUntold error old new
  by_read (errors.Store (faults.Unread named kind)) is = inl is
  by_read error is = is

  -- what was read of it is the text of no folder that joins
  pub bad_text : {A : Type 0} (bytes : List ℕ) (result : Result A FolderError) → new ≡ read Joins (Some bytes) ∷ old
      → IfErr result (λ error. (error ≡ errors.Store (faults.Unread Joins InvalidData)) × ((joining : Joining) → IsJoins joining → ¬ (bytes ≡ joins_text joining)))
      → IfErr result (λ error. IsWhyUntold error old new)
  bad_text bytes (Ok found) is bad = tt
  bad_text bytes (Err error) is bad = subst (λ (e : FolderError). IsWhyUntold e old new) (sym bad.0) (inr (
    refl,
    refl,
    ends_with old new (read Joins (Some bytes)) is (record {
      bytes = Some bytes;
      is = refl;
      none = λ joining joins same. bad.1 joining joins (same_Some bytes (joins_text joining) same);
    }),
  ))

  -- it is that of one
  pub joining_shown : (bytes : List ℕ) (result : Result (Option Joining) FolderError) → new ≡ read Joins (Some bytes) ∷ old
      → IfOk result (λ found. IfSome found (λ joining. (other : Joining) → IsJoins other → bytes ≡ joins_text other → other ≡ joining))
      → IfOk result (λ found. IfSome found (λ joining. EndsWith (ShowsJoining joining) old new))
  joining_shown bytes (Ok None) is only = tt
  joining_shown bytes (Ok (Some joining)) is only = ends_with old new (read Joins (Some bytes)) is (record { bytes = bytes; is = refl; only = only })
  joining_shown bytes (Err error) is only = tt

  -- there is none, or an empty one
  pub none_there : new ≡ read Joins None ∷ old → EndsWith ShowsNoJoining old new
  none_there is = ends_with old new (read Joins None) is (record { bytes = None; is = refl; none = λ joining joins same. absurd cc })

  pub none_shown : (bytes : List ℕ) (result : Result (Option Joining) FolderError) → new ≡ read Joins (Some bytes) ∷ old → IfOk result (λ found. found ≡ None → bytes ≡ [])
      → IfOk result (λ found. found ≡ None → EndsWith ShowsNoJoining old new)
  none_shown bytes (Ok found) is empty = λ none. ends_with old new (read Joins (Some bytes)) is (record { bytes = Some bytes; is = refl; none = λ joining joins same. not_joins joining (sym (empty none) ∙ same_Some bytes (joins_text joining) same) }) where
    not_joins : (joining : Joining) → ¬ ([] ≡ joins_text joining)
    not_joins joining same = absurd cc
  none_shown bytes (Err error) is empty = tt

-- it isn't told a step
module _ (old mid new : List Call) (after : IsAfter old mid) where
  by_call : (error : FolderError) → IsCausedBy error mid new → IsWhyUntold error old new
  by_call error is = by_read old new error (caused_later old mid new after error is)

  pub untold_call : {A : Type 0} (result : Result A FolderError) → IfErr result (λ error. IsCausedBy error mid new) → IfErr result (λ error. IsWhyUntold error old new)
  untold_call (Ok done) is = tt
  untold_call (Err error) is = by_call error is

  untold_by : (error : FolderError) → IsWhyUntold error mid new → IsWhyUntold error old new
  untold_by (errors.Store (faults.Unread named kind)) (inl is) = inl (ends_later old mid new after is)
  untold_by (errors.Store (faults.Unread named kind)) (inr is) = inr (is.0, is.1, ends_later old mid new after is.2)
  untold_by errors.Other is = caused_later old mid new after errors.Other is
  untold_by (errors.Store fault) is = caused_later old mid new after (errors.Store fault) is

  pub untold_later : {A : Type 0} (result : Result A FolderError) → IfErr result (λ error. IsWhyUntold error mid new) → IfErr result (λ error. IsWhyUntold error old new)
  untold_later (Ok done) is = tt
  untold_later (Err error) is = untold_by error is

  -- a call came before
  pub caused_then : {A : Type 0} (result : Result A FolderError) → IfErr result (λ error. IsCausedBy error mid new) → IfErr result (λ error. IsCausedBy error old new)
  caused_then (Ok done) is = tt
  caused_then (Err error) is = caused_later old mid new after error is

-- ---- the folder goes on joining

module _ (published : ℕ) (old new : List Call) where
  not_joined_call : (error : FolderError) → IsCausedBy error old new → IsWhyNotJoined error published old new
  not_joined_call (errors.Store (faults.Unread named kind)) is = inl is
  not_joined_call error is = is

  no_vote : (call : Call) → ShowsNoJoining call → ShowsNoVote published call
  no_vote call is = record { bytes = is.bytes; is = is.is; none = λ joining joins same. absurd (is.none joining joins same) }

  -- by what its file `joins` says it doesn't join
  pub not_joined_untold : (error : FolderError) → IsWhyUntold error old new → IsWhyNotJoined error published old new
  not_joined_untold (errors.Store (faults.Unread named kind)) (inl is) = inl is
  not_joined_untold (errors.Store (faults.Unread named kind)) (inr is) =
      inr (is.0, is.1, record { last = is.2.last; earlier = is.2.earlier; after = is.2.after; calls = is.2.calls; is = no_vote is.2.last is.2.is })
  not_joined_untold errors.Other is = is
  not_joined_untold (errors.Store fault) is = is

  may_not : (joining : Joining) (call : Call) → ¬ MayVote joining published → ShowsJoining joining call → ShowsNoVote published call
  may_not joining call may is = record {
    bytes = Some is.bytes;
    is = is.is;
    none = λ other joins same votes. may (subst (λ (j : Joining). MayVote j published) (is.only other joins (same_Some is.bytes (joins_text other) same)) votes);
  }

  -- by it, it may not vote
  pub not_joined_early : (joining : Joining) (error : FolderError) → error ≡ errors.Store (faults.Unread Joins InvalidData) → ¬ MayVote joining published → EndsWith (ShowsJoining joining) old new
      → IsWhyNotJoined error published old new
  not_joined_early joining error same may ends = subst (λ (e : FolderError). IsWhyNotJoined e published old new) (sym same)
      (inr (refl, refl, record { last = ends.last; earlier = ends.earlier; after = ends.after; calls = ends.calls; is = may_not joining ends.last may ends.is }))

pub not_joined_then : {A : Type 0} (published : ℕ) (old mid new : List Call) (result : Result A FolderError) → IsAfter old mid → IfErr result (λ error. IsCausedBy error mid new)
    → IfErr result (λ error. IsWhyNotJoined error published old new)
not_joined_then published old mid new (Ok done) after is = tt
not_joined_then published old mid new (Err error) after is = not_joined_call published old new error (caused_later old mid new after error is)

-- it isn't told a step where there is none that it joins
pub untold_none : (error : FolderError) (old new : List Call) → error ≡ errors.Store (faults.Unread Joins InvalidData) → EndsWith ShowsNoJoining old new → IsWhyUntold error old new
untold_none error old new same ends = subst (λ (e : FolderError). IsWhyUntold e old new) (sym same) (inr (refl, refl, ends))

-- ---- what the process wrote

module _ (file : NodeFile) (attempted : Option NodeFile) where
  module _ (old new : List Call) where
    pub unwritten_call : (error : FolderError) → IsCausedBy error old new → IsWhyFarmUnwritten error file attempted old new
    unwritten_call (errors.Store (faults.Unwritten named kind)) is = inl is
    unwritten_call error is = is

    -- the file that is there can't be read
    pub unwritten_unread : (named : FileName) (kind : ErrorKind) (error : FolderError) → error ≡ errors.Store (faults.Unwritten Farm kind)
        → IsCausedBy (errors.Store (faults.Unread named kind)) old new → IsWhyFarmUnwritten error file attempted old new
    unwritten_unread named kind error same is = subst (λ (e : FolderError). IsWhyFarmUnwritten e file attempted old new) (sym same)
        (inl (record { last = is.last; earlier = is.earlier; after = is.after; calls = is.calls; is = inl is.is }))

    -- it is none of the process's
    pub unwritten_other : (error : FolderError) → error ≡ errors.Store (faults.Unwritten Farm InvalidData) → EndsWith (ShowsOtherFarm file attempted) old new → IsWhyFarmUnwritten error file attempted old new
    unwritten_other error same is = subst (λ (e : FolderError). IsWhyFarmUnwritten e file attempted old new) (sym same) (inr (refl, refl, is))

    pub joining_call : (error : FolderError) → IsCausedBy error old new → IsWhyJoining error file attempted old new
    joining_call (errors.Store (faults.Unwritten named kind)) is = inl is
    joining_call (errors.Store (faults.Unread named kind)) is = inl is
    joining_call error is = is

  module _ (old mid new : List Call) (after : IsAfter old mid) where
    pub unwritten_later : (error : FolderError) → IsWhyFarmUnwritten error file attempted mid new → IsWhyFarmUnwritten error file attempted old new
    unwritten_later (errors.Store (faults.Unwritten named kind)) (inl is) = inl (ends_later old mid new after is)
    unwritten_later (errors.Store (faults.Unwritten named kind)) (inr is) = inr (is.0, is.1, ends_later old mid new after is.2)
    unwritten_later errors.Other is = caused_later old mid new after errors.Other is
    unwritten_later (errors.Store fault) is = caused_later old mid new after (errors.Store fault) is

    pub unwritten_then : (error : FolderError) → IsCausedBy error mid new → IsWhyFarmUnwritten error file attempted old new
    unwritten_then error is = unwritten_call old new error (caused_later old mid new after error is)

    pub halted_then : (error : FolderError) (why : NotReopened) (starts : ℕ) → why ≡ why_of error → IsCausedBy error mid new → IsWhyHalted why starts file attempted old new
    halted_then error why starts same is = subst (λ (w : NotReopened). IsWhyHalted w starts file attempted old new) (sym same) (halted_of error starts file attempted old new (caused_later old mid new after error is))

    pub other_then : EndsWith (ShowsOtherFarm file attempted) mid new → EndsWith (ShowsOtherFarm file attempted) old new
    other_then is = ends_later old mid new after is

    -- the folder goes on joining
    pub joining_then : (error : FolderError) → IsCausedBy error mid new → IsWhyJoining error file attempted old new
    joining_then error is = joining_call old new error (caused_later old mid new after error is)

    pub joining_beside : (error : FolderError) → error ≡ errors.Store (faults.Unwritten Farm InvalidData) → IsSome attempted ⊎ EndsWith (ShowsOtherFarm file attempted) mid new
        → IsWhyJoining error file attempted old new
    joining_beside error same (inl is) = subst (λ (e : FolderError). IsWhyJoining e file attempted old new) (sym same) (inr (refl, refl, inl is))
    joining_beside error same (inr is) = subst (λ (e : FolderError). IsWhyJoining e file attempted old new) (sym same) (inr (refl, refl, inr (ends_later old mid new after is)))

    joining_by : (error : FolderError) → IsWhyNotJoined error file.known.reach.published mid new → IsWhyJoining error file attempted old new
    joining_by (errors.Store (faults.Unread named kind)) (inl is) = inl (ends_later old mid new after is)
    joining_by (errors.Store (faults.Unread named kind)) (inr is) = inr (is.0, is.1, ends_later old mid new after is.2)
    joining_by (errors.Store (faults.Unwritten named kind)) is = inl (ends_later old mid new after is)
    joining_by errors.Other is = caused_later old mid new after errors.Other is
    joining_by (errors.Store fault) is = caused_later old mid new after (errors.Store fault) is

    pub joining_later : {A : Type 0} (published : ℕ) (result : Result A FolderError) → published ≡ file.known.reach.published → IfErr result (λ error. IsWhyNotJoined error published mid new)
        → IfErr result (λ error. IsWhyJoining error file attempted old new)
    joining_later published (Ok done) same is = tt
    joining_later published (Err error) same is = joining_by error (subst (λ (p : ℕ). IsWhyNotJoined error p mid new) same is)

pub after_same : (old new : List Call) → new ≡ old → IsAfter old new
after_same old new is = record { later = []; is = is }
