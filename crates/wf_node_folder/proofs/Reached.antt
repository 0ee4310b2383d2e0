-- What a node has stored, and its digests.
use Rattle.std.proofs.Common.{◌≡◌, ◌≤◌, ◌<◌, ◌∙◌, ℕ, Bool, true, false, List, length, refl, sym, ap, subst}
use Rattle.std.specs.Prelude.{Option, Some, None, nat_le, if◌then◌else◌}
use Rattle.wf_def.specs.Definition.{Definition}
use Rattle.std.proofs.lemmas.Bool.{leb-false, leb-true}
use Rattle.wf_digest.specs.Digest.{digest_at}
use Rattle.wf_folder.specs.NodeAdmission.{IsTapeAdmitted, IsTapeRejection}
use Rattle.wf_folder.specs.declared.node_admission.NodeRejection.{NodeRejection}
use Rattle.wf_folder.specs.declared.reach.Known.{Known}
use Rattle.wf_folder.specs.declared.reach.Reach.{Reach}
use Rattle.wf_voter.specs.Reach.{IsReachOf}
use Rattle.wf_model.specs.DurableState.{DurableState}
use Rattle.wf_node.specs.Node.{Node, stored_of}
use Rattle.wf_node_folder.proofs.Raised.{raised_held}
use Rattle.wf_node_folder.specs.Held.{HasReached, HoldsAll, HoldsLess, IsKnownOf, digest_up_to}

pub reached : {T : Type 0} (node : Node T) (reach : Reach) → IsReachOf node reach → HasReached (stored_of node) reach
reached node reach is = record { tried = is.tried; promised = is.promised; voted = is.voted; up_to = is.published_up_to }

-- the digest that was found at a sequence is that of the history
pub found_digest : (history : List Definition) (seq : ℕ) (found : Option (List ℕ)) → (seq ≤ length history → found ≡ Some (digest_at history seq)) → (length history < seq → found ≡ None)
    → found ≡ digest_up_to history seq
found_digest history seq found within above = by_order (nat_le seq (length history)) refl
  where
    by_order : (b : Bool) → nat_le seq (length history) ≡ b → found ≡ digest_up_to history seq
    by_order true is = within (leb-true seq (length history) is) ∙ ap (λ (t : Bool). if t then Some (digest_at history seq) else None) (sym is)
    by_order false is = above (leb-false seq (length history) is) ∙ ap (λ (t : Bool). if t then Some (digest_at history seq) else None) (sym is)

module _ (known : Known) (stored : DurableState Definition) (reach : Reach) (digest : Option (List ℕ)) (has : HasReached stored reach) (is : digest ≡ digest_up_to stored.history known.reach.published) where
  pub holds_all : IsTapeAdmitted known reach digest → HoldsAll known stored
  holds_all admitted = record { reach = reach; is_reach = has; admitted = subst (λ (d : Option (List ℕ)). IsTapeAdmitted known reach d) is admitted }

  pub holds_less : (why : NodeRejection) → IsTapeRejection known reach digest why → HoldsLess known stored why
  holds_less why rejected = record { reach = reach; is_reach = has; rejected = subst (λ (d : Option (List ℕ)). IsTapeRejection known reach d why) is rejected }

pub known_of : (before : Known) (stored : DurableState Definition) (reach : Reach) (last : List ℕ) (digest : Option (List ℕ)) → HasReached stored reach
    → last ≡ digest_at stored.history (length stored.history) → digest ≡ digest_up_to stored.history before.reach.published → IsTapeAdmitted before reach digest
    → IsKnownOf before stored (record { reach = reach; digest = last })
known_of before stored reach last digest has is_last is admitted = record {
  is_reach = has;
  is_digest = is_last;
  held = raised_held before stored reach last has is_last (subst (λ (d : Option (List ℕ)). IsTapeAdmitted before reach d) is admitted);
}
