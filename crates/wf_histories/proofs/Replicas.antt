-- Replicas of the farm answer from beginnings of its one history.
use Rattle.std.proofs.Common.{◌≡◌, ◌∙◌, ℕ, List, ◌++◌, length, drop, refl, sym, ap, subst}
use Rattle.std.proofs.Math.Logic.{∥∥₁_elim, ∥∥₁_map}
use Rattle.std.proofs.Props.{props}
use Rattle.std.proofs.lemmas.List.{drop_at}
use Rattle.wf_actor.specs.Farm.{Step}
use Rattle.wf_execution.specs.Execution.{Execution, Item}
use Rattle.wf_execution.specs.Replica.{IsListOfFarm, OfNode as HeldList, OneServed, ServedAnswer, ServedMapAnswer}
use Rattle.wf_def.specs.Definition.{Definition}
use Rattle.wf_replica.specs.Follower.{received_by}
use Rattle.wf_replica.specs.Theorems.{LearnedAreServed, NeverGoesBack}
use Rattle.wf_replica_command.specs.ReplicaLoop.{follower_of}
use Rattle.wf_safety.specs.Theorems.{IsBeginning}
use Rattle.wf_tape.specs.declared.tape.Tape.{Ghosts as Tape}
use Rattle.wf_histories.specs.Nodes.{NodeProcess}
use Rattle.wf_histories.specs.Replicas.{IsList, ListsAgree, OfNode, OfReplica, ReplicasAgree}
use Rattle.wf_histories.specs.Theorems.{AreFarm}
use Rattle.wf_histories.proofs.Agreement.{held}

module _ {N R : Type 0} (tapes : Tape N) (shelves : Tape R) (n : ℕ) (before : ℕ → Execution N) (earlier : List Item) (folders : ℕ → List (NodeProcess tapes)) (steps : List Step)
    (are : AreFarm tapes n before earlier folders steps) where
  served : LearnedAreServed N → (list : List Definition) → IsList tapes shelves n before earlier folders steps are list → ∥ IsListOfFarm n are.executions list ∥₁
  served theorem list (OfNode other node ever same) = ∣ HeldList list node (held tapes n before earlier folders steps are node ever) same ∣₁
  served theorem list (OfReplica other replica moment reported same) =
      ∥∥₁_map reported (λ told. subst (λ (l : List Definition). IsListOfFarm n are.executions l) (sym same) (theorem n are.executions (received_by (follower_of replica.event_loop)) told moment))

  begins : (list history : List Definition) → ∥ IsBeginning list history ∥₁ → IsBeginning list history
  begins list history is =
      let set : IsProp (list ++ drop (length list) history ≡ history) = hlevel props in (
        drop (length list) history,
        ∥∥₁_elim is set (λ first.
            ap (λ (h : List Definition). list ++ drop (length list) h) (sym first.1) ∙ ap (λ (rest : List Definition). list ++ rest) (drop_at list first.0 (length list) refl) ∙ first.1),
      )

  pub lists_agree : LearnedAreServed N → OneServed tapes → ServedAnswer tapes → ServedMapAnswer tapes → NeverGoesBack → ListsAgree tapes shelves n before earlier folders steps are
  lists_agree theorem one answers maps stays =
      let has = one n are.executions _ are.farm in
      record {
        history = has.history;
        each = λ list is. begins list has.history (∥∥₁_map (served theorem list is) (has.each list));
        answer = λ list other is also s query answer another at_list at_other first second.
            let set : IsProp (another ≡ answer) = hlevel props in
            ∥∥₁_elim (served theorem list is) set (λ one. ∥∥₁_elim (served theorem other also) set (λ two.
            answers n are.executions _ are.farm list other one two s query answer another at_list at_other first second));
        map = λ list other is also s t m query answer another asks asks_too at_list at_other first second.
            let set : IsProp (another ≡ answer) = hlevel props in
            ∥∥₁_elim (served theorem list is) set (λ one. ∥∥₁_elim (served theorem other also) set (λ two.
            maps n are.executions _ are.farm list other one two s t m query answer another asks asks_too at_list at_other first second));
        grow = λ replica moment later order. stays (received_by (follower_of replica.event_loop)) moment later order;
      }

pub replicas_agree : {N R : Type 0} (tapes : Tape N) (shelves : Tape R) → LearnedAreServed N → OneServed tapes → ServedAnswer tapes → ServedMapAnswer tapes → NeverGoesBack → ReplicasAgree tapes shelves
replicas_agree tapes shelves theorem one answers maps stays = λ n before earlier folders steps are. lists_agree tapes shelves n before earlier folders steps are theorem one answers maps stays
