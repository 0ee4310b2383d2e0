-- What was served, connection by connection, is steps of the nodes; each connection begins at one
-- of their moments.
use Rattle.std.proofs.Common.{◌≡◌, ◌⊎◌, ℕ, zero, suc, ◌<◌, List, [], ◌∷◌, ◌++◌, length, slice_get, slice_set, Some, Result, Ok, Err, Vec, refl, sym, ap, subst, ◌∙◌, inl, inr, arith, length-set}
use Rattle.std.proofs.lemmas.Option.{slice_get_within}
use Rattle.std.specs.declared.alloc.Global.{Global}
use Rattle.wf_codec.specs.declared.message.Message.{Message}
use Rattle.wf_edge.specs.RequestEffect.{MovesOnce, Stays, Proposes}
use Rattle.wf_delivery.specs.Outcome.{StepIsAnswered}
use Rattle.wf_delivery.specs.IndexTheorems.{set_same}
use Rattle.wf_model.specs.Chosen.{IsIn}
use Rattle.wf_model.specs.declared.action.Action.TheVariants as action
use Rattle.wf_node.specs.Node.{Node}
use Rattle.wf_serve.specs.Connections.{HaveCome, IfReported, MayBeAnswered}
use Rattle.wf_serve.specs.ConnectionEffect.{AreArrived, HaveCaughtUp, IsRetried}
use Rattle.wf_serve.specs.declared.fault.ServeFault.{ServeFault}
use Rattle.wf_tape.specs.declared.tape.Tape.{Ghosts as Tape}
use Rattle.wf_runs.specs.Session.{SessionStep, after_steps, moments_from, stepped}
use Rattle.wf_runs.specs.ServedSteps.{BeganWith, IfBegan, ServingIsSteps}
use Rattle.wf_runs.proofs.Steps.{Walk, reported, walk_none, walk_both, none_among, handed_walk, catch_up_walk, Asked, asked_step}

-- ---- the nodes at the start, and at the end, of steps are at one of their moments

module _ {T : Type 0} where
  at_start : (nodes : List (Node T)) (steps : List (SessionStep T)) → IsIn nodes (moments_from nodes steps)
  unfolding moments_from
  at_start nodes [] = inl refl
  at_start nodes (step ∷ steps) = inl refl

  in_front : (then nodes : List (Node T)) (steps more : List (SessionStep T)) → IsIn then (moments_from nodes steps) → IsIn then (moments_from nodes (steps ++ more))
  unfolding moments_from
  in_front then nodes [] more (inl same) = subst (λ ns. IsIn ns (moments_from nodes more)) (sym same) (at_start nodes more)
  in_front then nodes [] more (inr none) = absurd none
  in_front then nodes (step ∷ steps) more (inl same) = inl same
  in_front then nodes (step ∷ steps) more (inr later) = inr (in_front then (stepped nodes step) steps more later)

  in_back : (then nodes : List (Node T)) (steps more : List (SessionStep T)) → IsIn then (moments_from (after_steps nodes steps) more) → IsIn then (moments_from nodes (steps ++ more))
  unfolding moments_from after_steps
  in_back then nodes [] more is = is
  in_back then nodes (step ∷ steps) more is = inr (in_back then (stepped nodes step) steps more is)

-- ---- one connection

module _ {T : Type 0} (tapes : Tape T) (theorem : StepIsAnswered tapes) where
  moved : (nodes : List (Node T)) (i : ℕ) (before after : Node T) (outputs : Vec Message Global) → slice_get nodes i ≡ Some before → MovesOnce tapes before outputs after → Asked tapes nodes (slice_set nodes i after) outputs.items
  moved nodes i before after outputs at (Stays is) = record {
    walk = walk_none tapes [] nodes (slice_set nodes i after) (ap (slice_set nodes i) is.same ∙ set_same nodes i before at);
    among = λ m there. absurd (subst (IsIn m) is.quiet there);
  }
  moved nodes i before after outputs at (Proposes d result answer hands) = asked_step tapes theorem nodes i before after (action.Propose d) result outputs at tt answer hands

  arrived : (nodes after : List (Node T)) (outputs : Vec Message Global) → 0 < length nodes → AreArrived tapes nodes outputs after → Walk tapes outputs.items nodes after
  arrived nodes after outputs some are =
      let out = are.handed some in
      handed_walk tapes nodes outputs.items out.come are.lost after out.sent out.handed

  some_nodes : (nodes : List (Node T)) (i : ℕ) (node : Node T) → slice_get nodes i ≡ Some node → 0 < length nodes
  some_nodes nodes i node at = omega (arith, slice_get_within nodes i node at)

  asked_arrived : (nodes middle after : List (Node T)) (outputs : Vec Message Global) → 0 < length middle → Asked tapes nodes middle outputs.items → AreArrived tapes middle outputs after → Walk tapes [] nodes after
  asked_arrived nodes middle after outputs some asked are = walk_both tapes [] outputs.items nodes middle after asked.walk asked.among (arrived middle after outputs some are)

  served : (node_index : ℕ) (nodes served_nodes after : List (Node T)) (outputs : Vec Message Global) (before next : Node T) → slice_get nodes node_index ≡ Some before → served_nodes ≡ slice_set nodes node_index next →
      Asked tapes nodes (slice_set nodes node_index next) outputs.items → AreArrived tapes served_nodes outputs after → Walk tapes [] nodes after
  served node_index nodes served_nodes after outputs before next was is asked are =
      let long : 0 < length (slice_set nodes node_index next) = omega (arith, length-set nodes node_index next, some_nodes nodes node_index before was) in
      asked_arrived nodes (slice_set nodes node_index next) after outputs long asked (subst (λ ns. AreArrived tapes ns outputs after) is are)

  retried : (node_index : ℕ) (nodes after : List (Node T)) → IsRetried tapes node_index nodes after → Walk tapes [] nodes after
  retried node_index nodes after (inl begun) =
      let anew = begun.anew in
      let at = anew.step in
      served node_index nodes anew.asked after anew.outputs at.before at.after at.changed.was at.changed.is
      (asked_step tapes theorem nodes node_index at.before at.after action.Retry at.asked.answer anew.outputs at.changed.was tt at.asked.answers at.asked.hands) anew.arrived
  retried node_index nodes after (inr rests) = walk_none tapes [] nodes after rests.1

  caught_up : (nodes after : List (Node T)) → HaveCaughtUp tapes nodes after → Walk tapes [] nodes after
  caught_up nodes after up = catch_up_walk tapes up.caught.asked nodes after up.lost up.caught.have_asked

  then_walk : (nodes middle after : List (Node T)) → Walk tapes [] nodes middle → Walk tapes [] middle after → Walk tapes [] nodes after
  then_walk nodes middle after first second = walk_both tapes [] [] nodes middle after first (none_among tapes (reported [] first)) second

  connection_walk : (node_index : ℕ) (nodes after : List (Node T)) → MayBeAnswered tapes node_index nodes after → Walk tapes [] nodes after
  connection_walk node_index nodes after (inl answered) =
      let c = answered.connection in
      let r = c.request in
      then_walk nodes c.retried after
      (then_walk nodes c.arrived c.retried
      (served node_index nodes c.served c.arrived c.outputs r.before r.after r.changed.was r.changed.is (moved nodes node_index r.before r.after c.outputs r.changed.was r.moves) c.receiving)
      (retried node_index c.arrived c.retried c.retry))
      (caught_up c.retried after c.catch_up)
  connection_walk node_index nodes after (inr same) = walk_none tapes [] nodes after same

  -- ---- all of them

  -- a walk at whose moments the connections began
  record Course (nodes after : List (Node T)) (Began : List (Node T) → Type 0) : Type 0 where
    walk : Walk tapes [] nodes after
    meets : (then : List (Node T)) → Began then → IsIn then (moments_from nodes walk.steps)

  one_more : (nodes middle after : List (Node T)) (Began : List (Node T) → Type 0) → Course nodes middle Began → Walk tapes [] middle after → Course nodes after (λ then. (middle ≡ then) ⊎ Began then)
  unfolding then_walk walk_both
  one_more nodes middle after Began course more = record {
    walk = then_walk nodes middle after course.walk more;
    meets = λ then began. elim began [
      | inl same ↦ in_back then nodes course.walk.steps more.steps
          (subst (λ ns. IsIn then (moments_from ns more.steps)) (sym course.walk.come) (subst (λ ns. IsIn ns (moments_from middle more.steps)) same (at_start middle more.steps)))
      | inr earlier ↦ in_front then nodes course.walk.steps more.steps (course.meets then earlier)
    ];
  }

  all_come : (count connections : ℕ) (nodes after : List (Node T)) (come : HaveCome tapes count connections nodes after) → Course nodes after (BeganWith tapes count connections nodes after come)
  unfolding HaveCome BeganWith
  all_come count zero nodes after come = record { walk = walk_none tapes [] nodes after come; meets = λ then none. absurd none }
  all_come count (suc connection) nodes after come =
      one_more nodes come.0 after (BeganWith tapes count connection nodes come.0 come.1) (all_come count connection nodes come.0 come.1) (connection_walk _ come.0 after come.2)

  if_reported : (requests : ℕ) (nodes : List (Node T)) (reported_it : Result (Unit {0}) ServeFault) (after : List (Node T)) (come : IfReported tapes requests nodes reported_it after) →
      Course nodes after (IfBegan tapes requests nodes reported_it after come)
  if_reported requests nodes (Ok done) after come = all_come (length nodes) requests nodes after come
  if_reported requests nodes (Err why) after come = record { walk = walk_none tapes [] nodes after come; meets = λ then none. absurd none }

  pub serving_is_steps : ServingIsSteps tapes
  unfolding then_walk walk_both
  serving_is_steps = λ requests nodes reported_it after serving.
      let up = caught_up nodes serving.caught serving.catch_up in
      let course = if_reported requests serving.caught reported_it after serving.come in
      let walk = then_walk nodes serving.caught after up course.walk in (
        walk.steps,
        record {
          reachable = record { taken = walk.taken; come = walk.come };
          connections = λ then began. in_back then nodes up.steps course.walk.steps
              (subst (λ ns. IsIn then (moments_from ns course.walk.steps)) (sym up.come) (course.meets then began));
        },
      )
