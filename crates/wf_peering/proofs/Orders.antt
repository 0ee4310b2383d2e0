-- What was to be written to the folder is there.
use Rattle.std.proofs.Common.{◌≡◌, List, subst, sym}
use Rattle.std.specs.Prelude.{OnOk, Option, Result, Ok, Err, Some}
use Rattle.wf_folder.specs.Reach.{IsReachNoLess}
use Rattle.wf_folder.specs.declared.node_file.NodeFile.{NodeFile}
use Rattle.wf_folder.specs.declared.reach.Reach.{Reach}
use Rattle.wf_peer_connections.specs.declared.order.Order.{Order}
use Rattle.wf_peer_connections.specs.declared.order.Order.TheVariants as orders
use Rattle.wf_node.specs.Node.{Node}
use Rattle.wf_peering.specs.Orders.{IsOrderKept, IsReachKept}
use Rattle.wf_rejoin.specs.ReplacementsText.{replaced_text}
use Rattle.wf_rejoin.specs.declared.join_step.JoinStep.{JoinStep}
use Rattle.wf_rejoin.specs.declared.replacement.Replacement.{Replacement}
use Rattle.wf_store.specs.Call.{Call}
use Rattle.wf_store.specs.Texts.{is_replaced, text_in}
use Rattle.wf_voter.specs.Folder.{IsTold, JoinsNoMore}
use Rattle.wf_voter.specs.Reach.{IsReachOf}

module _ {E : Type 0} (order : Order) (calls : List Call) where
  pub note_kept : (latest : List (Option Replacement)) (result : Result (Unit {0}) E) → order ≡ orders.Note latest → OnOk result (text_in is_replaced calls ≡ Some (replaced_text latest))
      → OnOk result (IsOrderKept order calls)
  note_kept latest (Ok done) is kept = subst (λ (o : Order). IsOrderKept o calls) (sym is) kept
  note_kept latest (Err fault) is kept = tt

  pub step_kept : (step : JoinStep) (result : Result (Unit {0}) E) → order ≡ orders.Join step → OnOk result (IsTold step calls) → OnOk result (IsOrderKept order calls)
  step_kept step (Ok done) is kept = subst (λ (o : Order). IsOrderKept o calls) (sym is) kept
  step_kept step (Err fault) is kept = tt

  pub end_kept : (result : Result (Unit {0}) E) → order ≡ orders.Joined → OnOk result (JoinsNoMore calls) → OnOk result (IsOrderKept order calls)
  end_kept (Ok done) is kept = subst (λ (o : Order). IsOrderKept o calls) (sym is) kept
  end_kept (Err fault) is kept = tt

pub reach_kept : {T E : Type 0} (node : Node T) (reach : Reach) (file : NodeFile) (result : Result (Unit {0}) E) → IsReachOf node reach → OnOk result (IsReachNoLess reach file.known.reach)
    → OnOk result (IsReachKept node file)
reach_kept node reach file (Ok done) is kept = record { reach = reach; is_reach = is; kept = kept }
reach_kept node reach file (Err fault) is kept = tt
