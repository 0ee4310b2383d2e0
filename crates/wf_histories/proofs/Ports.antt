-- Readers' ports of the farm reply by its lists.
use Rattle.std.proofs.Common.{◌∙◌, ℕ, ◌<◌, List, [], ◌∷◌, ◌++◌, refl, sym, ap, subst, inl, inr, append_assoc}
use Rattle.std.proofs.Math.Logic.{∥∥₁_elim, ∥∥₁_map, ∥∥₁_map₂, ∥∥₁_prop}
use Rattle.wf_actor.specs.Farm.{Step}
use Rattle.wf_actor.specs.declared.process.Process.{Process}
use Rattle.wf_client.specs.ResponseBuffer.{rest_of}
use Rattle.wf_def.specs.Definition.{Definition}
use Rattle.wf_execution.specs.Execution.{Execution, Item}
use Rattle.wf_execution.specs.Replica.{IsListOfFarm, OfNode as HeldList}
use Rattle.wf_node_command.specs.Readers.{AreRepliedEarlier, IsRepliedEarlier}
use Rattle.wf_model.specs.Chosen.{IsIn}
use Rattle.wf_readers_port.specs.Exchanges.{AreExchangesOf, Exchange, HasExchange, questions_of}
use Rattle.wf_replica.specs.Follower.{list_of}
use Rattle.wf_replica.specs.Theorems.{BeginningsAreServed, LearnedAreServed}
use Rattle.wf_replica_command.specs.Readers.{AreRepliedByBeginnings, IsRepliedByBeginning}
use Rattle.wf_replica_command.specs.ReplicaLoop.{follower_of}
use Rattle.wf_sockets.specs.declared.connection.Connection.{Ghosts as Connection}
use Rattle.wf_tape.specs.declared.tape.Tape.{Ghosts as Tape}
use Rattle.wf_voter.proofs.Continuation.{earlier_twice}
use Rattle.wf_voter.proofs.Earlier.{its_own}
use Rattle.wf_voter.specs.Continuation.{IsEarlier}
use Rattle.wf_histories.proofs.Agreement.{held}
use Rattle.wf_histories.proofs.Answers.{was_ever}
use Rattle.wf_histories.proofs.Killed.{by_then, whole_is_within}
use Rattle.wf_histories.proofs.Told.{begun_served, list_served}
use Rattle.wf_histories.specs.Killed.{IsWithinActs}
use Rattle.wf_histories.specs.Nodes.{NodeProcess}
use Rattle.wf_histories.specs.Theorems.{AreFarm}
use Rattle.wf_histories.specs.Told.{AreRepliedByFarm, IsRepliedByFarm, NodesReplyByFarm, PortsTell, ReplicasReplyByFarm, WholeNodesReplyByFarm}

-- ---- some exchanges of all

module _ {T : Type 0} (n : ℕ) (executions : ℕ → Execution T) where
  picked : (all : List Exchange) (exchange : Exchange) → AreRepliedByFarm n executions all → HasExchange all exchange → IsRepliedByFarm n executions exchange
  unfolding AreRepliedByFarm HasExchange
  picked [] exchange are has = absurd has
  picked (one ∷ all) exchange are (inl same) = subst (λ (e : Exchange). IsRepliedByFarm n executions e) same are.0
  picked (one ∷ all) exchange are (inr has) = picked all exchange are.1 has

  some_replied : (all exchanges : List Exchange) → AreRepliedByFarm n executions all → AreExchangesOf all exchanges → ∥ AreRepliedByFarm n executions exchanges ∥₁
  unfolding AreRepliedByFarm AreExchangesOf
  some_replied all [] are of = ∣ tt ∣₁
  some_replied all (exchange ∷ exchanges) are of = ∥∥₁_map₂ of.0 (some_replied all exchanges are of.1) (λ has rest. (picked all exchange are has, rest))

-- ---- a node

module _ {N : Type 0} (tapes : Tape N) (n : ℕ) (before : ℕ → Execution N) (earlier : List Item) (folders : ℕ → List (NodeProcess tapes)) (steps : List Step) (are : AreFarm tapes n before earlier folders steps)
    (i : ℕ) (p : NodeProcess tapes) (past : Process N tapes) (member : i < n) (is_in : IsIn p (folders i)) (is : IsEarlier tapes past p.has.on.voter.process) (within : IsWithinActs tapes p past) where
  by_node : (exchange : Exchange) → IsRepliedEarlier tapes past exchange → ∥ IsRepliedByFarm n are.executions exchange ∥₁
  by_node exchange replied = ∥∥₁_map replied.lived.life (λ life. record {
    source = replied.past.actor.node.parts.history;
    served = HeldList replied.past.actor.node.parts.history replied.past.actor.node (held tapes n before earlier folders steps are replied.past.actor.node
        (was_ever tapes n before folders i p member is_in replied.past.actor.node
        (by_then tapes p replied.past.actor.node life.values.earlier replied.past past life.values.now (earlier_twice tapes replied.past past p.has.on.voter.process replied.earlier is) is replied.earlier within))) refl;
    replied = replied.replied;
  })

  all_by_node : (exchanges : List Exchange) → AreRepliedEarlier tapes past exchanges → ∥ AreRepliedByFarm n are.executions exchanges ∥₁
  unfolding AreRepliedByFarm AreRepliedEarlier
  all_by_node [] replied = ∣ tt ∣₁
  all_by_node (exchange ∷ exchanges) replied = ∥∥₁_map₂ (by_node exchange replied.0) (all_by_node exchanges replied.1) (λ one rest. (one, rest))

pub nodes_reply : {N : Type 0} (tapes : Tape N) → NodesReplyByFarm tapes
nodes_reply tapes = λ n before earlier folders steps are i p past member is_in is within exchanges replied.
    ∥∥₁_elim replied ∥∥₁_prop (all_by_node tapes n before earlier folders steps are i p past member is_in is within exchanges)

pub whole_nodes_reply : {N : Type 0} (tapes : Tape N) → WholeNodesReplyByFarm tapes
whole_nodes_reply tapes = λ n before earlier folders steps are i p member is_in whole.
    let now = p.has.on.voter.process in
    nodes_reply tapes n before earlier folders steps are i p now member is_in (its_own tapes now) (whole_is_within tapes p whole) p.has.on.exchanges p.has.on.replied

-- ---- a replica

module _ {N R : Type 0} (shelves : Tape R) (learned_served : LearnedAreServed N) (beginning : BeginningsAreServed N) (n : ℕ) (executions : ℕ → Execution N) (list : List Definition) (of_farm : IsListOfFarm n executions list) where
  by_list : (exchange : Exchange) → IsRepliedByBeginning list exchange → IsRepliedByFarm n executions exchange
  by_list exchange replied = record { source = replied.earlier; served = begun_served shelves learned_served beginning n executions replied.earlier list replied.begins of_farm; replied = replied.replied }

  all_by_list : (exchanges : List Exchange) → AreRepliedByBeginnings list exchanges → AreRepliedByFarm n executions exchanges
  unfolding AreRepliedByFarm AreRepliedByBeginnings
  all_by_list [] replied = tt
  all_by_list (exchange ∷ exchanges) replied = (by_list exchange replied.0, all_by_list exchanges replied.1)

pub replicas_reply : {N R : Type 0} (shelves : Tape R) → LearnedAreServed N → BeginningsAreServed N → ReplicasReplyByFarm N shelves
replicas_reply shelves learned_served beginning = λ n executions served reported.
    ∥∥₁_elim reported ∥∥₁_prop (λ told. ∥∥₁_map served.replied (λ replied.
    all_by_list shelves learned_served beginning n executions (list_of (follower_of served.event_loop)) (list_served shelves learned_served beginning n executions served told) served.event_loop.exchanges replied))

-- ---- at the other end

pub ports_tell : {C : Type 0} (N : Type 0) (connections : Connection C) → PortsTell N connections
ports_tell N connections = λ n executions all reader conversation is by_farm came asked.
    ∥∥₁_elim by_farm ∥∥₁_prop (λ replied. ∥∥₁_map (some_replied n executions all reader.exchanges.items replied is.logged) (λ by. record {
      exchanges = reader.exchanges.items;
      by_farm = by;
      came = (came.0 ++ rest_of reader.reply, sym (append_assoc conversation.came came.0 (rest_of reader.reply)) ∙ ap (λ (s : List ℕ). s ++ rest_of reader.reply) came.1 ∙ is.replied);
      asked = (reader.question.items ++ asked.0, sym (append_assoc (questions_of reader.exchanges.items) reader.question.items asked.0) ∙ ap (λ (s : List ℕ). s ++ asked.0) (sym is.asked) ∙ asked.1);
    }))
