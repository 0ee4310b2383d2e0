-- What a power cut leaves of the file `farm` of a node that is served.
use Rattle.std.proofs.Common.{◌≡◌, ◌⊎◌, ◌∙◌, ◌≤◌, inl, inr, ℕ, true, List, [], ◌∷◌, ◌++◌, ap, refl, subst, sym, arith}
use Rattle.std.specs.Prelude.{⊤, Option, Some}
use Rattle.wf_folder.specs.NodeFile.{IsNodeFile, node_text}
use Rattle.wf_folder.specs.declared.node_file.NodeFile.{NodeFile}
use Rattle.wf_node_folder.proofs.FarmPut.{one_text}
use Rattle.wf_node_folder.proofs.PowerCut.{by_file, tape_beside}
use Rattle.wf_node_folder.specs.FarmPut.{IsRaise, farm_by, farm_in, published_in}
use Rattle.wf_node_folder.specs.Joined.{AreJoinedSoundly, IsJoinedSoundly, IsPutSoundly}
use Rattle.wf_node_folder.specs.PowerCut.{CutsKeepFarm}
use Rattle.wf_power_cuts.proofs.DiskLemmas.{one_file}
use Rattle.wf_power_cuts.specs.Cut.{IsCutAfter, MayLeaveNow, OfFile, WasGiven, is_file}
use Rattle.wf_store.specs.Call.{Call, replaced}
use Rattle.wf_store.specs.Texts.{is_tape}
use Rattle.wf_store.specs.declared.call_kind.CallKind.{CallKind}
use Rattle.wf_store.specs.declared.call_kind.CallKind.TheVariants as kinds
use Rattle.wf_store.specs.declared.file_name.FileName.{FileName}
use Rattle.wf_store.specs.declared.file_name.FileName.TheVariants.{Farm, Heard, Joins, NodeTape, Replaced, ReplicaTape}

-- an image is the text of a file that says no less than the one whose text this is
record IsNoLess (image : List ℕ) (text : Option (List ℕ)) : Type 0 where
  file : NodeFile
  sound : IsNodeFile file
  is : image ≡ node_text file
  no_less : (put : NodeFile) → IsNodeFile put → text ≡ Some (node_text put) → published_in put ≤ published_in file

by_raise : (image : List ℕ) (calls : List Call) → IsRaise image calls → IsNoLess image (farm_in calls)
by_raise image calls raise = record { file = raise.file; sound = raise.sound; is = raise.is; no_less = λ put sound is. raise.no_less put (record { sound = sound; text = is }) }

raise_by : (image : List ℕ) (calls : List Call) → IsNoLess image (farm_in calls) → IsRaise image calls
raise_by image calls less = record { file = less.file; sound = less.sound; is = less.is; no_less = λ put has. less.no_less put has.sound has.text }

-- a text that was put there alone is there
put_alone : (file : NodeFile) (image : List ℕ) (text : Option (List ℕ)) → IsNodeFile file → image ≡ node_text file → text ≡ Some (node_text file) → IsNoLess image text
put_alone file image text sound is put = record { file = file; sound = sound; is = is; no_less = λ other of_other same. omega (arith, one_text other file text of_other sound same put) }

given_text : (bytes : Option (List ℕ)) (text image : List ℕ) → bytes ≡ Some text → WasGiven bytes image → image ≡ text
given_text bytes text image is was = subst (λ (b : Option (List ℕ)). WasGiven b image) is was

-- after a call, by what could be left before
module _ (calls : List Call) (image : List ℕ) (before : List ℕ → Type 0) (raise : before image → IsNoLess image (farm_in calls)) where
  replaced_farm : (bytes : Option (List ℕ)) → IsPutSoundly Farm bytes calls → WasGiven bytes image → IsNoLess image bytes
  replaced_farm bytes put was =
      put_alone put.may.file image bytes put.may.sound (given_text bytes put.text image put.is was ∙ put.may.is) (put.is ∙ ap (λ (t : List ℕ). Some t) put.may.is)

  tried_farm : (bytes : Option (List ℕ)) → IsPutSoundly Farm bytes calls → before image ⊎ WasGiven bytes image → IsNoLess image (farm_in calls)
  tried_farm bytes put (inl was) = raise was
  tried_farm bytes put (inr given) = by_raise image calls (subst (λ (t : List ℕ). IsRaise t calls) (sym (given_text bytes put.text image put.is given)) put.may)

  opened_tape : (named : FileName) → is_tape named ≡ true → OfFile (is_file named Farm) ⊤ (before image) → IsNoLess image (farm_in calls)
  opened_tape named tape left = elim (by_file (is_file named Farm) ⊤ (before image) left) [
    | inl (is, any) ↦ absurd (tape_beside named Farm tape refl (one_file named Farm is))
    | inr was ↦ raise was
  ]

  kept_by : (kind : CallKind) (bytes : Option (List ℕ)) → IsJoinedSoundly kind bytes calls → IsCutAfter kind bytes Farm before image → IsNoLess image (farm_by kind bytes (farm_in calls))
  kept_by (kinds.Replaces Farm) bytes put left = replaced_farm bytes put left
  kept_by (kinds.Replaces Heard) bytes put left = raise left
  kept_by (kinds.Replaces Joins) bytes put left = raise left
  kept_by (kinds.Replaces Replaced) bytes put left = raise left
  kept_by (kinds.Replaces (NodeTape node)) bytes put left = raise left
  kept_by (kinds.Replaces ReplicaTape) bytes put left = raise left
  kept_by (kinds.FailsAt Farm) bytes put left = tried_farm bytes put left
  kept_by (kinds.FailsAt Heard) bytes put left = raise left
  kept_by (kinds.FailsAt Joins) bytes put left = raise left
  kept_by (kinds.FailsAt Replaced) bytes put left = raise left
  kept_by (kinds.FailsAt (NodeTape node)) bytes put left = raise left
  kept_by (kinds.FailsAt ReplicaTape) bytes put left = raise left
  kept_by (kinds.Opens named) bytes tape left = opened_tape named tape left
  kept_by (kinds.OpensExisting named) bytes again left = opened_tape named again.tape left
  kept_by kinds.Makes bytes none left = raise left
  kept_by kinds.Locks bytes none left = raise left
  kept_by (kinds.Compares same) bytes none left = raise left
  kept_by (kinds.Counts count) bytes none left = raise left
  kept_by (kinds.Draws bits) bytes none left = raise left
  kept_by (kinds.Sees file there) bytes none left = raise left
  kept_by (kinds.Measures file length) bytes none left = raise left
  kept_by (kinds.Reads file) bytes none left = raise left
  kept_by kinds.Fails bytes none left = raise left

-- after all of them
kept_so : (written : NodeFile) (older later : List Call) → IsNodeFile written → AreJoinedSoundly later (replaced Farm (node_text written) ∷ older) → (image : List ℕ)
    → MayLeaveNow (later ++ replaced Farm (node_text written) ∷ older) Farm image → IsNoLess image (farm_in (later ++ replaced Farm (node_text written) ∷ older))
unfolding MayLeaveNow
kept_so written older [] sound are image left = put_alone written image (Some (node_text written)) sound left refl
kept_so written older (call ∷ later) sound are image left =
    let calls = later ++ replaced Farm (node_text written) ∷ older in
    kept_by calls image (MayLeaveNow calls Farm) (kept_so written older later sound are.1 image) call.kind call.bytes are.0 left

pub cuts_keep_farm : CutsKeepFarm
cuts_keep_farm written older calls sound stays image left =
    let begun = replaced Farm (node_text written) ∷ older in
    let after = stays.after in
    subst (λ (cs : List Call). IsRaise image cs) (sym after.is)
    (raise_by image (after.later ++ begun) (kept_so written older after.later sound stays.joined image (subst (λ (cs : List Call). MayLeaveNow cs Farm image) after.is left)))
