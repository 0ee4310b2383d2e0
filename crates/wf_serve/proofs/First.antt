-- What the first connection published is published after all of them.
use Rattle.std.proofs.Common.{◌≡◌, ◌++◌, ◌%◌, ℕ, zero, suc, List, [], ◌∷◌, length, slice_get, Some, sym, ap, subst, ◌∙◌, inl, inr, arith}
use Rattle.std.proofs.lemmas.Option.{same_Some, slice_get_cases, slice_get_within}
use Rattle.wf_def.specs.Definition.{Definition}
use Rattle.wf_model.specs.DurableState.{definition_at}
use Rattle.wf_model.specs.Table.{Retry}
use Rattle.wf_catch_up.specs.CatchUp.{CatchUpIsReachable, LevelRests}
use Rattle.wf_delivery.specs.Delivery.{EachGrows, KeepTurn, StandInTurn}
use Rattle.wf_delivery.specs.DeliveryTheorems.{keeps_turn_itself, keeps_turn_twice}
use Rattle.wf_delivery.specs.Reachability.{AreFresh}
use Rattle.wf_delivery.specs.Publication.{AllPublish, PublishedOnAll}
use Rattle.wf_node.specs.Growth.{IsGrown}
use Rattle.wf_node.specs.Node.{Node}
use Rattle.wf_serve.specs.Connections.{HaveCome, IsConnectionAnswered, MayBeAnswered}
use Rattle.wf_serve.specs.First.{FirstIsPublished, IfAccepted}
use Rattle.wf_serve.specs.Publication.{HavePublishedTheMap}
use Rattle.wf_serve.specs.ConnectionEffect.{IsRetried}
use Rattle.wf_serve.proofs.Reachable.{asked_turn, moved_reaches}
use Rattle.wf_serve.proofs.Published.{accepted_is_published}
use Rattle.wf_tape.specs.declared.tape.Tape.{Ghosts as Tape}

-- ---- what is published stays

grown_first : (old new : List Definition) (d : Definition) → old ≡ d ∷ [] → IsGrown old new → definition_at new 1 ≡ Some d
unfolding definition_at
grown_first old new d is grown = ap (λ ds. slice_get ds 0) (sym grown.is ∙ ap (λ ds. ds ++ grown.more) is)

module _ {T : Type 0} (first after : List (Node T)) (keeps : KeepTurn first after) (d : Definition) (published : AllPublish first d) where
  still_at : (i : ℕ) (next : Node T) → slice_get after i ≡ Some next → (node : Node T) → slice_get first i ≡ Some node → definition_at next.parts.history 1 ≡ Some d
  unfolding AllPublish EachGrows
  still_at i next there node at =
      let grown = keeps.lists i node at in
      let it : grown.0 ≡ next = same_Some grown.0 next (sym grown.1 ∙ there) in
      subst (λ (n : Node T). definition_at n.parts.history 1 ≡ Some d) it (grown_first node.parts.history grown.0.parts.history d (published i node at).0 grown.2)

  still_published : (i : ℕ) (next : Node T) → slice_get after i ≡ Some next → definition_at next.parts.history 1 ≡ Some d
  still_published i next there = elim (slice_get_cases first i).1 [
    | inl at ↦ still_at i next there at.0 at.2
    | inr past ↦ absurd (omega (arith, past.0, slice_get_within after i next there, keeps.as_many))
  ]

-- ---- connections

module _ {T : Type 0} (tapes : Tape T) (catches : CatchUpIsReachable tapes) where
  retry_keeps : (node_index : ℕ) (arrived after : List (Node T)) → StandInTurn arrived → IsRetried tapes node_index arrived after → KeepTurn arrived after
  retry_keeps node_index arrived after turns (inl anew) = asked_turn tapes node_index Retry tt arrived after turns anew.anew
  retry_keeps node_index arrived after turns (inr rests) = subst (KeepTurn arrived) (sym rests.1) (keeps_turn_itself arrived)

  answer_keeps : (node_index : ℕ) (nodes after : List (Node T)) → StandInTurn nodes → IsConnectionAnswered tapes node_index nodes after → KeepTurn nodes after
  answer_keeps node_index nodes after turns answered =
      let c = answered.connection in
      let reachable = moved_reaches tapes nodes node_index c.request.before c.request.after c.request.changed.was turns c.outputs c.request.moves in
      let served : KeepTurn nodes c.served = subst (KeepTurn nodes) (sym c.request.changed.is) reachable.turn in
      let arrived : KeepTurn nodes c.arrived = keeps_turn_twice nodes c.served c.arrived served c.receiving.delivered.turn in
      let retried : KeepTurn nodes c.retried = keeps_turn_twice nodes c.arrived c.retried arrived (retry_keeps node_index c.arrived c.retried (arrived.in_turn turns) c.retry) in
      keeps_turn_twice nodes c.retried after retried (catches c.retried after c.catch_up.lost (retried.in_turn turns) c.catch_up.caught).turn

  connection_keeps : (node_index : ℕ) (nodes after : List (Node T)) → StandInTurn nodes → MayBeAnswered tapes node_index nodes after → KeepTurn nodes after
  connection_keeps node_index nodes after turns (inl answered) = answer_keeps node_index nodes after turns answered
  connection_keeps node_index nodes after turns (inr same) = subst (KeepTurn nodes) (sym same) (keeps_turn_itself nodes)

  -- The first connection, and what the others keep.
  record IsFirst (count : ℕ) (nodes after : List (Node T)) : Type 0 where
    first : List (Node T)
    answer : MayBeAnswered tapes (0 % count) nodes first
    keeps : KeepTurn first after

  first_of : (count later : ℕ) (nodes after : List (Node T)) → StandInTurn nodes → HaveCome tapes count (suc later) nodes after → IsFirst count nodes after
  unfolding HaveCome
  first_of count zero nodes after turns come = record {
    first = after;
    answer = subst (λ ns. MayBeAnswered tapes (0 % count) ns after) come.1 come.2;
    keeps = keeps_turn_itself after;
  }
  first_of count (suc later) nodes after turns come =
      let so_far = first_of count later nodes come.0 turns come.1 in
      let middle_turns = so_far.keeps.in_turn ((connection_keeps (0 % count) nodes so_far.first turns so_far.answer).in_turn turns) in
      record {
        first = so_far.first;
        answer = so_far.answer;
        keeps = keeps_turn_twice so_far.first come.0 after so_far.keeps (connection_keeps (suc later % count) come.0 after middle_turns come.2);
      }

  module _ (rests : LevelRests tapes) (theorem : PublishedOnAll tapes) (nodes first after : List (Node T)) (long : length nodes ≡ 3) (turns : StandInTurn nodes) (fresh : AreFresh nodes) (keeps : KeepTurn first after) where
    if_accepted : (answer : MayBeAnswered tapes 0 nodes first) → IfAccepted tapes answer after
    if_accepted (inl answered) = λ accepted lost stopped none.
        let done : HavePublishedTheMap answered.input first =
        accepted_is_published tapes rests theorem 0 answered.input answered.written answered.written_after nodes first answered.outcome long turns fresh answered.connection accepted lost stopped none in
        record { request = done.request; received = done.received; map = done.map; is_map = done.is_map; published = still_published first after keeps done.map done.published }
    if_accepted (inr same) = tt

pub first_is_published : {T : Type 0} (tapes : Tape T) → CatchUpIsReachable tapes → LevelRests tapes → PublishedOnAll tapes → FirstIsPublished tapes
first_is_published tapes catches rests theorem = λ later nodes nodes_after long turns fresh come.
    let found = first_of tapes catches (length nodes) later nodes nodes_after turns come in
    let answer = subst (λ n. MayBeAnswered tapes (0 % n) nodes found.first) long found.answer in
    (found.first, answer, if_accepted tapes catches rests theorem nodes found.first nodes_after long turns fresh found.keeps answer)
