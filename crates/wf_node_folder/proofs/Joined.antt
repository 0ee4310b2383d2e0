-- What may be put in the place of the file `joins`.
use Rattle.std.proofs.Common.{◌≡◌, ◌⊎◌, ◌∙◌, inl, inr, ℕ, List, [], ◌∷◌, ap, refl, subst}
use Rattle.std.specs.Prelude.{Option, Some, None}
use Rattle.wf_folder.specs.NodeFile.{node_text}
use Rattle.wf_folder.specs.declared.node_file.NodeFile.{NodeFile}
use Rattle.wf_node_folder.specs.FarmPut.{IsPublishedPut}
use Rattle.wf_node_folder.specs.Joined.{MayBePutAt, SaysJoining, SaysPublished}
use Rattle.wf_rejoin.specs.JoinStep.{StepCounts, stepped}
use Rattle.wf_rejoin.specs.Joining.{MayVote}
use Rattle.wf_rejoin.specs.JoiningText.{IsJoins, joins_text}
use Rattle.wf_rejoin.specs.declared.join_step.JoinStep.{JoinStep}
use Rattle.wf_rejoin.specs.declared.joining.Joining.{Joining}
use Rattle.wf_store.specs.Call.{Call, read}
use Rattle.wf_store.specs.Texts.{IsTextPut, is_farm, is_joins, text_in}
use Rattle.wf_store.specs.declared.file_name.FileName.TheVariants.{Farm, Joins}
use Rattle.wf_voter.specs.Folder.{IsTold, JoinsNoMore}

-- ---- what was read

module _ (old new : List Call) where
  pub says_there : (there : NodeFile) → new ≡ read Farm (Some (node_text there)) ∷ old → SaysPublished there.known.reach.published new
  says_there there is = record { bytes = node_text there; text = ap (text_in is_farm) is; file = there; is_file = inl refl; same = refl }

  -- the file `joins` was read
  module _ (bytes : Option (List ℕ)) (is : new ≡ read Joins bytes ∷ old) where
    pub farm_beside : (published : ℕ) → SaysPublished published old → SaysPublished published new
    farm_beside published says = record { bytes = says.bytes; text = ap (text_in is_farm) is ∙ says.text; file = says.file; is_file = says.is_file; same = says.same }

  pub joining_said : (bytes : List ℕ) (joining : Joining) → new ≡ read Joins (Some bytes) ∷ old → IsJoins joining → bytes ≡ joins_text joining → SaysJoining joining new
  joining_said bytes joining is joins text = record { joins = joins; text = ap (text_in is_joins) is ∙ ap Some text }

  -- there is none, or an empty one
  pub none_joins : (bytes : Option (List ℕ)) → new ≡ read Joins bytes ∷ old → (bytes ≡ None) ⊎ (bytes ≡ Some []) → JoinsNoMore new
  none_joins bytes is (inl none) = inl (ap (text_in is_joins) is ∙ none)
  none_joins bytes is (inr empty) = inr (ap (text_in is_joins) is ∙ empty)

  -- ---- what was written

  pub emptied : (text : List ℕ) → text ≡ [] → IsTextPut Joins text old new → JoinsNoMore new
  emptied text empty put = inr (put is_joins ∙ ap Some empty)

  pub told_so : (joining : Joining) (step : JoinStep) (text : List ℕ) (next : Joining) → SaysJoining joining old → StepCounts step joining → next ≡ stepped step joining → text ≡ joins_text next
      → IsTextPut Joins text old new → IsTold step new
  told_so joining step text next says counts same is put = record { before = joining; joins = says.joins; says = inl (counts, put is_joins ∙ ap Some (is ∙ ap joins_text same)) }

pub told_before : (calls : List Call) (joining : Joining) (step : JoinStep) → SaysJoining joining calls → ¬ StepCounts step joining → IsTold step calls
told_before calls joining step says isnt = record { before = joining; joins = says.joins; says = inr (isnt, says.text) }

-- ---- what may be written

module _ (calls : List Call) (joining : Joining) (says : SaysJoining joining calls) (text : List ℕ) where
  pub may_be_emptied : (published : ℕ) → SaysPublished published calls → IsPublishedPut published calls → MayVote joining published → text ≡ [] → MayBePutAt Joins text calls
  may_be_emptied published farm put may empty = inl (empty, record { joining = joining; says = says; published = published; farm = farm; put = put; may_vote = may })

  pub may_be_told : (step : JoinStep) (next : Joining) → StepCounts step joining → next ≡ stepped step joining → IsJoins next → text ≡ joins_text next → MayBePutAt Joins text calls
  may_be_told step next counts same joins is =
      inr (record { joining = joining; says = says; step = step; counts = counts; joins = subst IsJoins same joins; is = is ∙ ap joins_text same })
