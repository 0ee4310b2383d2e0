-- What a process put in the place of the file `farm`: how far it says that its node is, and whether
-- what is read of it is that.
use Rattle.std.specs.Prelude.{◌≡◌, ◌≤◌, ℕ, List, [], ◌∷◌, ◌++◌, Contains, Option, Some, None, option_to_list, if◌then◌else◌}
use Rattle.wf_folder.specs.NodeFile.{IsNodeFile, node_text}
use Rattle.wf_folder.specs.declared.node_file.NodeFile.{NodeFile}
use Rattle.wf_store.specs.Call.{Call}
use Rattle.wf_store.specs.Texts.{is_farm}
use Rattle.wf_store.specs.declared.call_kind.CallKind.{CallKind}
use Rattle.wf_store.specs.declared.call_kind.CallKind.TheVariants as kinds

-- the last sequence that its node is known to have published
abbrev pub published_in : NodeFile → ℕ
published_in file = file.known.reach.published

-- What was put in the place of the file `farm` last, by a call that succeeded. What was read of it
-- doesn't count: that may be another folder's.
abbrev pub farm_by : CallKind → (bytes earlier : Option (List ℕ)) → Option (List ℕ)
farm_by (kinds.Replaces file) bytes earlier = if is_farm file then bytes else earlier
farm_by kind bytes earlier = earlier

abbrev pub farm_in : List Call → Option (List ℕ)
farm_in [] = None
farm_in (call ∷ earlier) = farm_by call.kind call.bytes (farm_in earlier)

-- It is the text of this file.
pub record HasPut (file : NodeFile) (calls : List Call) : Type 0 where
  pub sound : IsNodeFile file
  pub text : farm_in calls ≡ Some (node_text file)

-- it says no less than that this was published
abbrev pub IsPublishedPut : ℕ → List Call → Type 0
IsPublishedPut published calls = (put : NodeFile) → HasPut put calls → published ≤ published_in put

-- The text is that of a file that says no less than the one that was put there last.
pub record IsRaise (text : List ℕ) (calls : List Call) : Type 0 where
  pub file : NodeFile
  pub sound : IsNodeFile file
  pub is : text ≡ node_text file
  pub no_less : (put : NodeFile) → HasPut put calls → published_in put ≤ published_in file

-- ---- what is read of it

-- the texts that were put there, or that a call that failed may have put there
abbrev pub farms_put_by : CallKind → (bytes : Option (List ℕ)) → (earlier : List (List ℕ)) → List (List ℕ)
farms_put_by (kinds.Replaces file) bytes earlier = if is_farm file then option_to_list bytes ++ earlier else earlier
farms_put_by (kinds.FailsAt file) bytes earlier = if is_farm file then option_to_list bytes ++ earlier else earlier
farms_put_by kind bytes earlier = earlier

abbrev pub farms_put : List Call → List (List ℕ)
farms_put [] = []
farms_put (call ∷ earlier) = farms_put_by call.kind call.bytes (farms_put earlier)

-- its process put this text there, or tried to
abbrev pub WasPut : List ℕ → List Call → Type 0
WasPut text calls = ∥ Contains (farms_put calls) text ∥₁

-- what was read of it last, if no file was written or opened since
abbrev pub farm_found_by : CallKind → (bytes earlier : Option (List ℕ)) → Option (List ℕ)
farm_found_by (kinds.Reads file) bytes earlier = if is_farm file then bytes else earlier
farm_found_by (kinds.Opens file) bytes earlier = None
farm_found_by (kinds.OpensExisting file) bytes earlier = None
farm_found_by (kinds.Replaces file) bytes earlier = None
farm_found_by (kinds.FailsAt file) bytes earlier = None
farm_found_by kind bytes earlier = earlier

abbrev pub farm_found : List Call → Option (List ℕ)
farm_found [] = None
farm_found (call ∷ earlier) = farm_found_by call.kind call.bytes (farm_found earlier)

-- It was read, and its text is one that its process put there, or tried to.
pub record IsOwnFarm (calls : List Call) : Type 0 where
  pub text : List ℕ
  pub read : farm_found calls ≡ Some text
  pub own : WasPut text calls

-- ---- while a node is served

-- calls put nothing there
abbrev pub NothingPut : (old new : List Call) → Type 0
NothingPut old new = (farm_in new ≡ farm_in old) × (farms_put new ≡ farms_put old)

-- the file that says most: the later one, whose writing failed, if there is one
abbrev pub latest_of : NodeFile → Option NodeFile → NodeFile
latest_of file None = file
latest_of file (Some later) = later

-- What was put there last says no more than the latest file, and no less than this one if no later
-- writing failed; and a later one says no less. Both were put there, or tried to be.
pub record IsPutBetween (file : NodeFile) (attempted : Option NodeFile) (calls : List Call) : Type 0 where
  pub most : (put : NodeFile) → HasPut put calls → published_in put ≤ published_in (latest_of file attempted)
  pub least : attempted ≡ None → IsPublishedPut (published_in file) calls
  pub later : published_in file ≤ published_in (latest_of file attempted)
  pub was_put : WasPut (node_text file) calls
  pub was_tried : (tried : NodeFile) → attempted ≡ Some tried → WasPut (node_text tried) calls
