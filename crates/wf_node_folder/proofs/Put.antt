-- What was to be written to the folder of a node that runs is there.
use Rattle.std.proofs.Common.{◌≡◌, ◌⊎◌, ◌∙◌, ◌≤◌, inl, inr, ℕ, List, ap, subst, sym}
use Rattle.std.specs.Prelude.{OnErr, OnOk, Result, Ok, Err, Some}
use Rattle.wf_folder.specs.NodeFile.{node_text}
use Rattle.wf_folder.specs.Reach.{IsNoLower, IsNoLowerVote, IsReachNoLess}
use Rattle.wf_folder.specs.declared.node_file.NodeFile.{NodeFile}
use Rattle.wf_folder.specs.declared.reach.Reach.{Reach}
use Rattle.wf_folder.specs.declared.suspension.Suspension.{Suspension}
use Rattle.wf_store.specs.Call.{Call}
use Rattle.wf_store.specs.Texts.{IsTextPut, MayBeIn, TextsStay, is_farm, is_replaced, text_in}
use Rattle.wf_store.specs.declared.file_name.FileName.TheVariants.{Farm, Replaced}
use Rattle.wf_voter.specs.Folder.{HasFarmText}

-- ---- the file `replaced`

module _ (old mid new : List Call) (text got : List ℕ) where
  pub replaced_put : {E : Type 0} (result : Result (Unit {0}) E) → text ≡ got → OnOk result (IsTextPut Replaced text mid new) → OnOk result (text_in is_replaced new ≡ Some got)
  replaced_put (Ok done) is put = put is_replaced ∙ ap Some is
  replaced_put (Err fault) is put = tt

  pub replaced_or_not : {E : Type 0} (result : Result (Unit {0}) E) → text ≡ got → TextsStay old mid → OnErr result (MayBeIn Replaced text mid new)
      → OnErr result ((text_in is_replaced new ≡ text_in is_replaced old) ⊎ (text_in is_replaced new ≡ Some got))
  replaced_or_not (Ok done) is stay may = tt
  replaced_or_not (Err fault) is stay may = elim (may is_replaced) [
    | inl was ↦ inl (was ∙ stay is_replaced)
    | inr put ↦ inr (put ∙ ap Some is)
  ]

pub not_replaced : (old new : List Call) (put : Type 0) → TextsStay old new → (text_in is_replaced new ≡ text_in is_replaced old) ⊎ put
not_replaced old new put stay = inl (stay is_replaced)

-- ---- the file `farm`

pub farm_put : (mid new : List Call) (text : List ℕ) (next : NodeFile) → text ≡ node_text next → IsTextPut Farm text mid new → HasFarmText next new
farm_put mid new text next is put = put is_farm ∙ ap Some is

pub no_less : (known claimed : Reach) → known.round ≤ claimed.round → IsNoLower known.promise claimed.promise → IsNoLowerVote known.vote claimed.vote → known.published ≤ claimed.published
    → IsReachNoLess known claimed
no_less known claimed tried promised voted up_to = record { tried = tried; promised = promised; voted = voted; up_to = up_to }

pub reach_written : {E : Type 0} (result : Result (Unit {0}) E) (reach : Reach) (next file : NodeFile) → OnOk result (file ≡ next) → IsReachNoLess reach next.known.reach → OnOk result (IsReachNoLess reach file.known.reach)
reach_written (Ok done) reach next file same no_less = subst (λ (f : NodeFile). IsReachNoLess reach f.known.reach) (sym same) no_less
reach_written (Err fault) reach next file same no_less = tt

pub written_now : {E : Type 0} (result : Result (Unit {0}) E) (written same : Type 0) → OnOk result written → OnOk result (written ⊎ same)
written_now (Ok done) written same is = inl is
written_now (Err fault) written same is = tt

pub suspended_by : {E : Type 0} (result : Result (Unit {0}) E) (latest next file : NodeFile) (suspension : Suspension) → OnOk result (file ≡ next) → next ≡ record latest { suspension = Some suspension }
    → OnOk result (file.suspension ≡ Some suspension)
suspended_by (Ok done) latest next file suspension same is = ap (λ (f : NodeFile). f.suspension) (same ∙ is)
suspended_by (Err fault) latest next file suspension same is = tt
