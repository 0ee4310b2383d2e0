-- A node's list of published maps only grows, whatever the node does.
use Rattle.std.proofs.Common.{◌≡◌, ◌∙◌, ℕ, nat_lt, Bool, true, false, List, [], ◌∷◌, ◌++◌, Option, Some, None, Vec, refl, sym, ap, subst, append-nil, append_assoc}
use Rattle.std.specs.Prelude.{Result, Ok, Err}
use Rattle.wf_ballot.specs.Ballot.{Ballot}
use Rattle.wf_codec.specs.declared.message.Message.{Message}
use Rattle.wf_def.specs.Definition.{Definition}
use Rattle.wf_model.specs.DurableState.{DurableState, Record, Tried, Promised, Accepted, Published, published, with_record}
use Rattle.wf_model.specs.Table.{Input, Transition, store}
use Rattle.wf_node.specs.Node.{Node, stored_of}
use Rattle.wf_node.specs.Step.{IsTransition, IsSameNode, IsStep}
use Rattle.wf_node.specs.declared.fault.NodeFault.{NodeFault}
use Rattle.wf_tape.specs.declared.tape.Tape.{Ghosts as Tape}

-- the new list is the old one, followed by more or nothing
pub record IsGrown (old new : List Definition) : Type 0 where
  pub more : List Definition
  pub is : old ++ more ≡ new

pub grown_itself : (xs : List Definition) → IsGrown xs xs
grown_itself xs = record { more = []; is = append-nil xs }

pub grown_twice : (xs ys zs : List Definition) → IsGrown xs ys → IsGrown ys zs → IsGrown xs zs
grown_twice xs ys zs first second = record {
  more = first.more ++ second.more;
  is = sym (append_assoc xs first.more second.more) ∙ ap (λ (k : List Definition). k ++ second.more) first.is ∙ second.is;
}

-- ---- a record

module _ (stored : DurableState Definition) where
  accepted_grown : (s : ℕ) (b : Ballot) (d : Definition) (is_open : Bool) → nat_lt (published stored) s ≡ is_open → IsGrown stored.history (with_record stored (Accepted s b d)).history
  unfolding with_record
  accepted_grown s b d true e = rw e (grown_itself stored.history)
  accepted_grown s b d false e = rw e (grown_itself stored.history)

  record_grown : (r : Record Definition) → IsGrown stored.history (with_record stored r).history
  unfolding with_record
  record_grown (Tried r) = grown_itself stored.history
  record_grown (Promised s b) = grown_itself stored.history
  record_grown (Accepted s b d) = accepted_grown s b d (nat_lt (published stored) s) refl
  record_grown (Published s d) = record { more = d ∷ []; is = refl }

  pub store_grown : (entry : Option (Record Definition)) → IsGrown stored.history (store stored entry).history
  unfolding store
  store_grown None = grown_itself stored.history
  store_grown (Some r) = record_grown r

-- ---- a node

module _ {T : Type 0} (before after : Node T) where
  pub transition_grown : (transition : Transition Definition) (sent : List Message) → IsTransition before transition sent after → IsGrown before.parts.history after.parts.history
  transition_grown transition sent is = subst (λ (s : DurableState Definition). IsGrown before.parts.history s.history) (sym is.stored) (store_grown (stored_of before) transition.entry)

  -- a node that is unchanged except for its tape
  pub same_grown : IsSameNode before after → IsGrown before.parts.history after.parts.history
  same_grown same = subst (IsGrown before.parts.history) (sym (ap (λ (n : Node T). n.parts.history) same)) (grown_itself before.parts.history)

  module _ {A : Type 0} (tapes : Tape T) (input : Input Definition) where
    pub step_grown : (result : Result (Vec Message A) NodeFault) → IsStep tapes before input result after → IsGrown before.parts.history after.parts.history
    step_grown (Ok outputs) step = transition_grown _ outputs.items step.done
    step_grown (Err why) step = same_grown step.same
