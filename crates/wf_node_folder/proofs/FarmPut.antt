-- What a process puts in the place of the file `farm` says no less of its node than before.
use Rattle.std.proofs.Common.{◌≡◌, ◌⊎◌, ◌∙◌, ◌≤◌, inl, inr, ℕ, suc, List, [], ◌∷◌, ◌++◌, Bool, not, ap, refl, subst, sym, arith}
use Rattle.std.proofs.Math.Logic.{∥∥₁_map}
use Rattle.std.proofs.lemmas.List.{append_cancel_left}
use Rattle.std.proofs.lemmas.Option.{same_Some}
use Rattle.std.specs.Prelude.{if◌then◌else◌, false, true, codes, Contains, Option, option_to_list, Some, None, Result, Ok, Err, IfOk, IfSome, OnErr, OnOk, Vec, is_some}
use Rattle.std.specs.declared.alloc.Global.{Global}
use Rattle.wf_folder.proofs.Lines.{after_numbers}
use Rattle.wf_folder.proofs.WordLemmas.{both_reaches}
use Rattle.wf_folder.specs.NodeFile.{IsNodeFile, kind_node_line, known_then, node_first_line, node_text}
use Rattle.wf_folder.specs.declared.node_file.NodeFile.{NodeFile}
use Rattle.wf_folder.specs.declared.presence.Presence.{Presence}
use Rattle.wf_folder.specs.declared.reach.Reach.{Reach}
use Rattle.wf_folder.specs.declared.suspension.Suspension.{Suspension}
use Rattle.wf_node_folder.specs.FarmPut.{HasPut, IsOwnFarm, IsPublishedPut, IsPutBetween, NothingPut, WasPut, farm_by, farm_in, farm_found, farms_put, latest_of, published_in, farms_put_by}
use Rattle.wf_node_folder.specs.Cause.{IsOwn}
use Rattle.wf_node_folder.specs.Folder.{AreFiles, IsFileOrNone}
use Rattle.wf_node_folder.specs.Joined.{MayBePutAt}
use Rattle.wf_store.specs.Call.{Call, bytes_of, compared, failed, opened_existing, read, replaced, seen, unreplaced}
use Rattle.wf_store.specs.Texts.{is_farm}
use Rattle.wf_store.specs.declared.call_kind.CallKind.{CallKind}
use Rattle.wf_store.specs.declared.call_kind.CallKind.TheVariants as kinds
use Rattle.wf_store.specs.declared.fault.FolderFault.{FolderFault}
use Rattle.wf_store.specs.declared.file_name.FileName.{FileName}
use Rattle.wf_store.specs.declared.file_name.FileName.TheVariants.{Farm}

-- ---- a text is that of one reach

same_reach : (a b : NodeFile) → IsNodeFile a → IsNodeFile b → node_text a ≡ node_text b → a.known.reach ≡ b.known.reach
unfolding known_then
same_reach a b of_a of_b e =
    let fields = append_cancel_left kind_node_line _ _ (append_cancel_left node_first_line _ _ e) in
    let known = after_numbers a.node b.node a.nodes b.nodes a.starts b.starts _ _ fields in
    (both_reaches a.known.reach b.known.reach _ _ of_a.reached.of_reach of_b.reached.of_reach (append_cancel_left (codes "\nknown") _ _ known)).0

pub one_text : (a b : NodeFile) (text : Option (List ℕ)) → IsNodeFile a → IsNodeFile b → text ≡ Some (node_text a) → text ≡ Some (node_text b) → published_in a ≡ published_in b
one_text a b text of_a of_b is_a is_b = ap (λ (r : Reach). r.published) (same_reach a b of_a of_b (same_Some (node_text a) (node_text b) (sym is_a ∙ is_b)))

one_put : (a b : NodeFile) (calls : List Call) → HasPut a calls → HasPut b calls → published_in a ≡ published_in b
one_put a b calls of_a of_b = one_text a b (farm_in calls) of_a.sound of_b.sound of_a.text of_b.text

-- ---- calls that put nothing there

module _ (old new : List Call) where
  pub farm_comparing : (result : Result Bool FolderFault) → IfOk result (λ same. new ≡ compared same ∷ old) → OnErr result (new ≡ failed ∷ old) → NothingPut old new
  farm_comparing (Ok same) done wrong = (ap farm_in done, ap farms_put done)
  farm_comparing (Err fault) done wrong = (ap farm_in wrong, ap farms_put wrong)

  pub farm_reading : (file : FileName) (result : Result (Option (Vec ℕ Global)) FolderFault) → IfOk result (λ found. new ≡ read file (bytes_of found) ∷ old) → OnErr result (new ≡ failed ∷ old) → NothingPut old new
  farm_reading file (Ok found) done wrong = (ap farm_in done, ap farms_put done)
  farm_reading file (Err fault) done wrong = (ap farm_in wrong, ap farms_put wrong)

  pub farm_seeing : (file : FileName) (result : Result Presence FolderFault) → IfOk result (λ there. new ≡ seen file there ∷ old) → OnErr result (new ≡ failed ∷ old) → NothingPut old new
  farm_seeing file (Ok there) done wrong = (ap farm_in done, ap farms_put done)
  farm_seeing file (Err fault) done wrong = (ap farm_in wrong, ap farms_put wrong)

  pub farm_opening : {A : Type 0} (file : FileName) (result : Result A FolderFault) → OnOk result (new ≡ opened_existing file ∷ old) → OnErr result (new ≡ failed ∷ old) → NothingPut old new
  farm_opening file (Ok tape) done wrong = (ap farm_in done, ap farms_put done)
  farm_opening file (Err fault) done wrong = (ap farm_in wrong, ap farms_put wrong)

  -- a file was replaced; then the folder was looked at
  module _ (file : FileName) (text : List ℕ) (mid : List Call) (put : mid ≡ replaced file text ∷ old) (stay : NothingPut mid new) where
    pub farm_now : is_farm file ≡ true → farm_in new ≡ Some text
    farm_now is = stay.0 ∙ ap farm_in put ∙ ap (λ (b : Bool). if b then Some text else farm_in old) is

    pub farm_tried : is_farm file ≡ true → farms_put new ≡ text ∷ farms_put old
    farm_tried is = stay.1 ∙ ap farms_put put ∙ ap (λ (b : Bool). if b then text ∷ farms_put old else farms_put old) is

    pub farm_beside : is_farm file ≡ false → NothingPut old new
    farm_beside is = (
      stay.0 ∙ ap farm_in put ∙ ap (λ (b : Bool). if b then Some text else farm_in old) is,
      stay.1 ∙ ap farms_put put ∙ ap (λ (b : Bool). if b then text ∷ farms_put old else farms_put old) is,
    )

    farm_then : (b : Bool) → is_farm file ≡ b → (farm_in new ≡ farm_in old) ⊎ (farm_in new ≡ Some text)
    farm_then true is = inr (farm_now is)
    farm_then false is = inl (farm_beside is).0

    pub farm_or_not : (farm_in new ≡ farm_in old) ⊎ (farm_in new ≡ Some text)
    farm_or_not = farm_then (is_farm file) refl

  -- it was to be
  module _ (file : FileName) (text : List ℕ) (wrong : new ≡ unreplaced file text ∷ old) where
    pub farm_beside_not : is_farm file ≡ false → NothingPut old new
    farm_beside_not is = (ap farm_in wrong, ap farms_put wrong ∙ ap (λ (b : Bool). if b then text ∷ farms_put old else farms_put old) is)

    pub farm_not : (farm_in new ≡ farm_in old) ⊎ (farm_in new ≡ Some text)
    farm_not = inl (ap farm_in wrong)

    pub farm_tried_not : is_farm file ≡ true → farms_put new ≡ text ∷ farms_put old
    farm_tried_not is = ap farms_put wrong ∙ ap (λ (b : Bool). if b then text ∷ farms_put old else farms_put old) is

-- ---- a text that was put there

first_put : (text : List ℕ) (others : List (List ℕ)) → Contains (text ∷ others) text
first_put text others = (0, omega arith, refl)

earlier_put : (first text : List ℕ) (others : List (List ℕ)) → Contains others text → Contains (first ∷ others) text
earlier_put first text others is = (suc is.0, omega (arith, is.1), is.2)

module _ (text : List ℕ) (calls : List Call) (before : farm_in calls ≡ Some text → Contains (farms_put calls) text) where
  by_replaced : (b : Bool) (bytes : Option (List ℕ)) → (if b then bytes else farm_in calls) ≡ Some text → Contains (if b then option_to_list bytes ++ farms_put calls else farms_put calls) text
  by_replaced true None is = absurd cc
  by_replaced true (Some put) is = subst (λ (t : List ℕ). Contains (t ∷ farms_put calls) text) (sym (same_Some put text is)) (first_put text (farms_put calls))
  by_replaced false bytes is = before is

  by_unreplaced : (b : Bool) (bytes : Option (List ℕ)) → farm_in calls ≡ Some text → Contains (if b then option_to_list bytes ++ farms_put calls else farms_put calls) text
  by_unreplaced true None is = before is
  by_unreplaced true (Some put) is = earlier_put put text (farms_put calls) (before is)
  by_unreplaced false bytes is = before is

  put_last : (kind : CallKind) (bytes : Option (List ℕ)) → farm_by kind bytes (farm_in calls) ≡ Some text → Contains (farms_put_by kind bytes (farms_put calls)) text
  put_last (kinds.Replaces file) bytes is = by_replaced (is_farm file) bytes is
  put_last (kinds.FailsAt file) bytes is = by_unreplaced (is_farm file) bytes is
  put_last (kinds.Opens file) bytes is = before is
  put_last (kinds.OpensExisting file) bytes is = before is
  put_last kinds.Makes bytes is = before is
  put_last kinds.Locks bytes is = before is
  put_last (kinds.Compares same) bytes is = before is
  put_last (kinds.Counts count) bytes is = before is
  put_last (kinds.Draws bits) bytes is = before is
  put_last (kinds.Sees file there) bytes is = before is
  put_last (kinds.Measures file length) bytes is = before is
  put_last (kinds.Reads file) bytes is = before is
  put_last kinds.Fails bytes is = before is

put_of : (text : List ℕ) (calls : List Call) → farm_in calls ≡ Some text → Contains (farms_put calls) text
put_of text [] is = absurd cc
put_of text (call ∷ calls) is = put_last text calls (put_of text calls) call.kind call.bytes is

was_put_still : (text : List ℕ) (old new : List Call) → farms_put new ≡ farms_put old → WasPut text old → WasPut text new
was_put_still text old new same was = subst (λ (texts : List (List ℕ)). ∥ Contains texts text ∥₁) (sym same) was

was_put_before : (text next : List ℕ) (old new : List Call) → farms_put new ≡ next ∷ farms_put old → WasPut text old → WasPut text new
was_put_before text next old new more was = subst (λ (texts : List (List ℕ)). ∥ Contains texts text ∥₁) (sym more) (∥∥₁_map was (earlier_put next text (farms_put old)))

was_put_now : (text next : List ℕ) (old new : List Call) → next ≡ text → farms_put new ≡ next ∷ farms_put old → WasPut text new
was_put_now text next old new same more = subst (λ (texts : List (List ℕ)). ∥ Contains texts text ∥₁) (sym (more ∙ ap (λ (t : List ℕ). t ∷ farms_put old) same)) ∣ first_put text (farms_put old) ∣₁

-- ---- what was read of it

own_read : (text : List ℕ) (old new : List Call) → new ≡ read Farm (Some text) ∷ old → WasPut text new → IsOwnFarm new
own_read text old new is was = record { text = text; read = ap farm_found is; own = was }

pub own_seeing : (file : FileName) (there : Presence) (old new : List Call) → new ≡ seen file there ∷ old → IsOwnFarm old → IsOwnFarm new
own_seeing file there old new is own = record { text = own.text; read = ap farm_found is ∙ own.read; own = was_put_still own.text old new (ap farms_put is) own.own }

-- ---- what its process takes to be there

has_still : (put : NodeFile) (old new : List Call) → farm_in new ≡ farm_in old → HasPut put new → HasPut put old
has_still put old new same has = record { sound = has.sound; text = sym same ∙ has.text }

pub published_still : (published : ℕ) (old new : List Call) → NothingPut old new → IsPublishedPut published old → IsPublishedPut published new
published_still published old new same is put has = is put (has_still put old new same.0 has)

pub put_still : (file : NodeFile) (attempted : Option NodeFile) (old new : List Call) → NothingPut old new → IsPutBetween file attempted old → IsPutBetween file attempted new
put_still file attempted old new same between = record {
  most = λ put has. between.most put (has_still put old new same.0 has);
  least = λ none put has. between.least none put (has_still put old new same.0 has);
  later = between.later;
  was_put = was_put_still (node_text file) old new same.1 between.was_put;
  was_tried = λ tried is. was_put_still (node_text tried) old new same.1 (between.was_tried tried is);
}

-- after a start, or once it was written
pub put_first : (file : NodeFile) (calls : List Call) → HasPut file calls → IsPutBetween file None calls
put_first file calls has = record {
  most = λ put other. omega (arith, one_put put file calls other has);
  least = λ none put other. omega (arith, one_put file put calls has other);
  later = omega arith;
  was_put = ∣ put_of (node_text file) calls has.text ∣₁;
  was_tried = λ tried is. absurd cc;
}

pub put_now : (next : NodeFile) (text : List ℕ) (new : List Call) → IsNodeFile next → text ≡ node_text next → farm_in new ≡ Some text → IsPutBetween next None new
put_now next text new sound is now = put_first next new (record { sound = sound; text = now ∙ ap Some is })

-- it may be put there
pub may_be_raised : (file next : NodeFile) (attempted : Option NodeFile) (text : List ℕ) (calls : List Call) → IsPutBetween file attempted calls → IsNodeFile next → text ≡ node_text next
    → published_in (latest_of file attempted) ≤ published_in next → MayBePutAt Farm text calls
may_be_raised file next attempted text calls between sound is no_less = record { file = next; sound = sound; is = is; no_less = λ put has. omega (arith, between.most put has, no_less) }

-- it was to be put in the place of the file that is there: either may be there since
pub put_tried : (file there next : NodeFile) (attempted : Option NodeFile) (text : List ℕ) (old new : List Call) → IsPutBetween file attempted old → IsNodeFile next → text ≡ node_text next
    → published_in there ≤ published_in (latest_of file attempted) → WasPut (node_text there) old → published_in (latest_of file attempted) ≤ published_in next
    → (farm_in new ≡ farm_in old) ⊎ (farm_in new ≡ Some text) → farms_put new ≡ text ∷ farms_put old → IsPutBetween there (Some next) new
put_tried file there next attempted text old new between sound is below was no_less either more = record {
  most = most either;
  least = λ none. absurd cc;
  later = omega (arith, below, no_less);
  was_put = was_put_before (node_text there) text old new more was;
  was_tried = λ tried same. was_put_now (node_text tried) text old new (is ∙ ap (λ (f : NodeFile). node_text f) (same_Some next tried same)) more;
} where
  most : (farm_in new ≡ farm_in old) ⊎ (farm_in new ≡ Some text) → (put : NodeFile) → HasPut put new → published_in put ≤ published_in next
  most (inl same) put has = omega (arith, between.most put (has_still put old new same has), no_less)
  most (inr now) put has = omega (arith, one_put put next new has (record { sound = sound; text = now ∙ ap Some is }))

-- by what was found it is the last one
pub put_at_least : (published : ℕ) (file : NodeFile) (attempted : Option NodeFile) (calls : List Call) → IsPutBetween file attempted calls → attempted ≡ None → published ≤ published_in file
    → IsPublishedPut published calls
put_at_least published file attempted calls between none less put has = omega (arith, less, between.least none put has)

-- it is one that its process put there, or tried to
module _ (there file : NodeFile) (attempted : Option NodeFile) (calls : List Call) (between : IsPutBetween file attempted calls) where
  pub was_there : IsOwn there file attempted → WasPut (node_text there) calls
  was_there (inl is) = subst (λ (f : NodeFile). WasPut (node_text f) calls) (sym is) between.was_put
  was_there (inr is) = between.was_tried there is

  pub no_more_there : IsOwn there file attempted → published_in there ≤ published_in (latest_of file attempted)
  no_more_there (inl is) = omega (arith, between.later, ap (λ (f : NodeFile). published_in f) is)
  no_more_there (inr is) = omega (arith, ap (λ (o : Option NodeFile). published_in (latest_of file o)) is)

  pub own_there : (old : List Call) → calls ≡ read Farm (Some (node_text there)) ∷ old → IsOwn there file attempted → IsOwnFarm calls
  own_there old is own = own_read (node_text there) old calls is (was_there own)

pub put_there : (file : NodeFile) (attempted : Option NodeFile) (calls : List Call) (text : List ℕ) (result : Result (Option NodeFile) FolderFault) → IsPutBetween file attempted calls
    → IfOk result (λ found. IfSome found (λ there. IsOwn there file attempted × (text ≡ node_text there))) → IfOk result (λ found. IfSome found (λ there. WasPut (node_text there) calls))
put_there file attempted calls text (Ok None) between is = tt
put_there file attempted calls text (Ok (Some there)) between is = was_there there file attempted calls between is.0
put_there file attempted calls text (Err fault) between is = tt

pub is_file_there : (there file : NodeFile) (attempted : Option NodeFile) → AreFiles file attempted → IsOwn there file attempted → IsNodeFile there
is_file_there there file attempted files (inl is) = subst IsNodeFile (sym is) files.last
is_file_there there file attempted files (inr is) = subst IsFileOrNone is files.later

pub none_attempted : (attempted : Option NodeFile) (is : Bool) → is_some attempted ≡ not is → is ≡ true → attempted ≡ None
none_attempted None is same so = refl
none_attempted (Some there) is same so = absurd cc

pub last_there : (there file : NodeFile) (attempted : Option NodeFile) → attempted ≡ None → IsOwn there file attempted → there ≡ file
last_there there file attempted none (inl is) = is
last_there there file attempted none (inr is) = absurd cc

-- ---- what says no less

pub suspended_no_less : (latest next : NodeFile) (suspension : Suspension) → next ≡ record latest { suspension = Some suspension } → published_in latest ≤ published_in next
suspended_no_less latest next suspension is = omega (arith, ap (λ (f : NodeFile). published_in f) is)
