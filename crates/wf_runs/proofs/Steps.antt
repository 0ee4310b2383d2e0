-- What was served is steps of the nodes: deliveries, a question and its answer, a publish, a
-- restart of a proposal.
use Rattle.std.proofs.Common.{◌≡◌, ℕ, zero, suc, Bool, true, false, List, [], ◌∷◌, ◌++◌, slice_get, slice_set, Some, Result, Ok, Err, Vec, refl, sym, ap, subst, ◌∙◌, inl, inr, append-nil, append_assoc}
use Rattle.std.proofs.lemmas.Option.{none-some, same_Some}
use Rattle.std.specs.declared.alloc.Global.{Global}
use Rattle.wf_execution.specs.Run.{Act, Input, IsAct}
use Rattle.wf_execution.specs.Execution.{IsOneOf}
use Rattle.wf_codec.specs.declared.message.Message.{Message}
use Rattle.wf_edge.specs.StepResult.{IsStepResult}
use Rattle.wf_edge.specs.RequestEffect.{HandsOut}
use Rattle.wf_catch_up.specs.CatchUp.{IsDeliveryTaken, HasReceived, IsOneQuestion, HaveAsked, Rests, Asks}
use Rattle.wf_delivery.specs.declared.progress.PumpProgress.{PumpProgress}
use Rattle.wf_delivery.specs.Delivery.{IsHanded, AreHanded, First, Next}
use Rattle.wf_delivery.specs.Reachability.{outputs_by}
use Rattle.wf_delivery.specs.Outcome.{is_lost, StepIsAnswered}
use Rattle.wf_delivery.specs.IndexTheorems.{set_same, set_there}
use Rattle.wf_model.specs.Chosen.{IsIn}
use Rattle.wf_model.specs.declared.action.Action.TheVariants as action
use Rattle.wf_node.specs.Input.{view}
use Rattle.wf_node.specs.Node.{Node}
use Rattle.wf_node.specs.declared.fault.NodeFault.{NodeFault}
use Rattle.wf_tape.specs.declared.tape.Tape.{Ghosts as Tape}
use Rattle.wf_runs.specs.Session.{SessionStep, stepped, after_steps, returned, IsStepTaken, AreStepsTaken}
use Rattle.wf_runs.proofs.Turns.{AreAmong, in_first, in_second, among_more, arrived_among}

-- ---- walks: some steps lead from the nodes to others, and messages that are delivered are these,
-- or were returned

pub record Walk {T : Type 0} (tapes : Tape T) (sent : List Message) (nodes after : List (Node T)) : Type 0 where
  pub steps : List (SessionStep T)
  pub taken : AreStepsTaken tapes sent nodes steps
  pub come : after_steps nodes steps ≡ after

-- the messages by its end
abbrev pub reported : {T : Type 0} {tapes : Tape T} {nodes after : List (Node T)} (sent : List Message) → Walk tapes sent nodes after → List Message
reported sent walk = sent ++ returned walk.steps

module _ {T : Type 0} (tapes : Tape T) where
  pub after_both : (nodes : List (Node T)) (steps more : List (SessionStep T)) → after_steps nodes (steps ++ more) ≡ after_steps (after_steps nodes steps) more
  unfolding after_steps
  after_both nodes [] more = refl
  after_both nodes (step ∷ steps) more = after_both (stepped nodes step) steps more

  pub returned_both : (steps more : List (SessionStep T)) → returned (steps ++ more) ≡ returned steps ++ returned more
  unfolding returned
  returned_both [] more = refl
  returned_both (step ∷ steps) more = ap (λ ms. step.act.outputs ++ ms) (returned_both steps more) ∙ sym (append_assoc step.act.outputs (returned steps) (returned more))

  pub taken_both : (sent : List Message) (nodes : List (Node T)) (steps more : List (SessionStep T)) → AreStepsTaken tapes sent nodes steps → AreStepsTaken tapes (sent ++ returned steps) (after_steps nodes steps) more →
      AreStepsTaken tapes sent nodes (steps ++ more)
  unfolding after_steps returned
  taken_both sent nodes [] more taken later = subst (λ ms. AreStepsTaken tapes ms nodes more) (append-nil sent) later
  taken_both sent nodes (step ∷ steps) more taken later = (
    taken.0,
    taken_both (sent ++ step.act.outputs) (stepped nodes step) steps more taken.1
        (subst (λ ms. AreStepsTaken tapes ms (after_steps (stepped nodes step) steps) more) (sym (append_assoc sent step.act.outputs (returned steps))) later),
  )

  pub taken_among : (sent more : List Message) (nodes : List (Node T)) (steps : List (SessionStep T)) → AreAmong sent more → AreStepsTaken tapes sent nodes steps → AreStepsTaken tapes more nodes steps
  taken_among sent more nodes [] are taken = tt
  taken_among sent more nodes (step ∷ steps) are taken =
      let one = taken.0 in (
        record { before = one.before; at = one.at; is = one.is; arrived = arrived_among sent more are step.act.input one.arrived },
        taken_among (sent ++ step.act.outputs) (more ++ step.act.outputs) (stepped nodes step) steps (among_more sent more step.act.outputs are) taken.1,
      )

  pub walk_none : (sent : List Message) (nodes after : List (Node T)) → after ≡ nodes → Walk tapes sent nodes after
  unfolding after_steps
  walk_none sent nodes after same = record { steps = []; taken = tt; come = sym same }

  -- one walk after another, of whose messages only these are known
  unfoldable pub walk_both : (sent more : List Message) (nodes middle after : List (Node T)) (walk : Walk tapes sent nodes middle) → AreAmong more (reported sent walk) → Walk tapes more middle after → Walk tapes sent nodes after
  walk_both sent more nodes middle after walk are later = record {
    steps = walk.steps ++ later.steps;
    taken = taken_both sent nodes walk.steps later.steps walk.taken
        (subst (λ ns. AreStepsTaken tapes (reported sent walk) ns later.steps) (sym walk.come) (taken_among more (reported sent walk) middle later.steps are later.taken));
    come = after_both nodes walk.steps later.steps ∙ ap (λ ns. after_steps ns later.steps) walk.come ∙ later.come;
  }

  pub none_among : (sent : List Message) → AreAmong [] sent
  none_among sent = λ m is. absurd is

  -- ---- one step

  one_taken : (sent : List Message) (nodes : List (Node T)) (step : SessionStep T) → IsStepTaken tapes sent nodes step → Walk tapes sent nodes (stepped nodes step)
  unfolding after_steps
  one_taken sent nodes step is = record { steps = step ∷ []; taken = (is, tt); come = refl }

  pub one_act : (sent : List Message) (nodes : List (Node T)) (i : ℕ) (before : Node T) (act : Act T) → slice_get nodes i ≡ Some before → IsAct tapes before act → IsOneOf sent act.input →
      Walk tapes sent nodes (slice_set nodes i act.after)
  one_act sent nodes i before act at is arrived = one_taken sent nodes (record { node_index = i; act = act }) (record { before = before; at = at; is = is; arrived = arrived })

  returned_one : (step : SessionStep T) → returned (step ∷ []) ≡ step.act.outputs
  unfolding returned
  returned_one step = append-nil step.act.outputs

  -- ---- deliveries to all nodes

  record Handed (sent : List Message) (nodes after : List (Node T)) (outputs : List Message) : Type 0 where
    walk : Walk tapes sent nodes after
    outputs_are : reported sent walk ≡ outputs

  returned_none : returned {T = T} [] ≡ []
  unfolding returned
  returned_none = refl

  none_handed : (nodes : List (Node T)) (sent : List Message) → Handed sent nodes nodes sent
  unfolding walk_none
  none_handed nodes sent = record { walk = walk_none sent nodes nodes refl; outputs_are = ap (λ ms. sent ++ ms) returned_none ∙ append-nil sent }

  in_at : (m : Message) (sent : List Message) (k : ℕ) → slice_get sent k ≡ Some m → IsIn m sent
  in_at m [] k at = absurd (none-some m at)
  in_at m (first ∷ sent) zero at = inl (sym (same_Some first m at))
  in_at m (first ∷ sent) (suc k) at = inr (in_at m sent k at)

  after_one : (nodes : List (Node T)) (step : SessionStep T) → after_steps nodes (step ∷ []) ≡ stepped nodes step
  unfolding after_steps
  after_one nodes step = refl

  one_handed : (i k : ℕ) (lost : Bool) (sent : List Message) (nodes middle after : List (Node T)) (outputs more : List Message) → Handed sent nodes middle outputs → IsHanded tapes i k lost middle outputs after more → Handed sent nodes after more
  one_handed i k lost sent nodes middle after outputs more before one =
      let step : SessionStep T = record { node_index = i; act = record { input = action.Deliver one.handed; outputs = one.outputs; after = one.after } } in
      let is : IsStepTaken tapes outputs middle step = record { before = one.node; at = one.at; is = record { lost = lost; takes = one.takes }; arrived = in_at one.handed outputs k one.there } in
      let walk = before.walk in
      record {
        walk = record {
          steps = walk.steps ++ step ∷ [];
          taken = taken_both sent nodes walk.steps (step ∷ []) walk.taken
              (subst (λ ns. AreStepsTaken tapes (reported sent walk) ns (step ∷ [])) (sym walk.come) (subst (λ ms. IsStepTaken tapes ms middle step) (sym before.outputs_are) is, tt));
          come = after_both nodes walk.steps (step ∷ []) ∙ ap (λ ns. after_steps ns (step ∷ [])) walk.come ∙ after_one middle step ∙ sym one.nodes_are;
        };
        outputs_are = ap (λ ms. sent ++ ms) (returned_both walk.steps (step ∷ []) ∙ ap (λ ms. returned walk.steps ++ ms) (returned_one step))
            ∙ sym (append_assoc sent (returned walk.steps) one.outputs) ∙ ap (λ ms. ms ++ one.outputs) before.outputs_are ∙ sym one.sent_are;
      }

  all_handed : (nodes : List (Node T)) (messages : List Message) (p : PumpProgress) (lost : ℕ) (after : List (Node T)) (sent : List Message) → AreHanded tapes nodes messages p lost after sent → Handed messages nodes after sent
  all_handed nodes messages p lost after sent First = none_handed nodes messages
  all_handed nodes messages p lost after sent (Next q count loses middle last outputs more before one) =
      one_handed q.some q.whole loses messages nodes middle last outputs more (all_handed nodes messages q count middle outputs before) one

  pub handed_walk : (nodes : List (Node T)) (messages : List Message) (p : PumpProgress) (lost : ℕ) (after : List (Node T)) (sent : List Message) → AreHanded tapes nodes messages p lost after sent → Walk tapes messages nodes after
  handed_walk nodes messages p lost after sent are = (all_handed nodes messages p lost after sent are).walk

  -- ---- a question and its answer

  set_twice : {A : Type 0} (xs : List A) (i : ℕ) (x y : A) → slice_set (slice_set xs i x) i y ≡ slice_set xs i y
  set_twice [] i x y = refl
  set_twice (z ∷ xs) zero x y = refl
  set_twice (z ∷ xs) (suc i) x y = ap (λ zs. z ∷ zs) (set_twice xs i x y)

  arrived_one : (sent : List Message) (nodes : List (Node T)) (i : ℕ) (before after : Node T) (m : Message) (loses : Bool) → slice_get nodes i ≡ Some before → IsIn m sent → IsDeliveryTaken tapes loses m before after →
      Walk tapes sent nodes (slice_set nodes i after)
  arrived_one sent nodes i before after m loses at is_in took =
      one_act sent nodes i before (record { input = action.Deliver m; outputs = took.outputs; after = after }) at (record { lost = loses; takes = took.takes }) is_in

  -- the messages are delivered to one node, one after the other
  arrived_walk : (sent messages : List Message) (nodes : List (Node T)) (i : ℕ) (before after : Node T) (lost : Bool) → slice_get nodes i ≡ Some before → AreAmong messages sent → HasReceived tapes messages lost before after →
      Walk tapes sent nodes (slice_set nodes i after)
  unfolding HasReceived
  arrived_walk sent [] nodes i before after lost at are arrived = walk_none sent nodes (slice_set nodes i after) (ap (slice_set nodes i) arrived.1 ∙ set_same nodes i before at)
  arrived_walk sent (m ∷ messages) nodes i before after lost at are (inl loses) = arrived_one sent nodes i before after m true at (are m (inl refl)) loses.1
  arrived_walk sent (m ∷ messages) nodes i before after lost at are (inr arrived) =
      let middle = slice_set nodes i arrived.0 in
      let first = arrived_one sent nodes i before arrived.0 m false at (are m (inl refl)) arrived.1 in
      let rest = arrived_walk sent messages middle i arrived.0 after lost (set_there nodes i arrived.0 before at) (λ k is. are k (inr is)) arrived.2 in
      subst (Walk tapes sent nodes) (set_twice nodes i arrived.0 after)
      (walk_both sent sent nodes middle (slice_set middle i after) first (λ k is. in_first k sent (returned first.steps) is) rest)

  both_come : (nodes : List (Node T)) (asks answers : SessionStep T) → stepped nodes asks ≡ nodes → stepped nodes answers ≡ nodes → after_steps nodes (asks ∷ (answers ∷ [])) ≡ nodes
  unfolding after_steps
  both_come nodes asks answers same still = ap (λ ns. stepped ns answers) same ∙ still

  answer_reported : (asks answers : SessionStep T) (answer : List Message) → answers.act.outputs ≡ answer → (m : Message) → IsIn m answer → IsIn m (returned (asks ∷ (answers ∷ [])))
  unfolding returned
  answer_reported asks answers answer same m is = in_second m asks.act.outputs (answers.act.outputs ++ []) (in_first m answers.act.outputs [] (subst (IsIn m) (sym same) is))

  question_walk : (asked requester : ℕ) (nodes after : List (Node T)) (lost : Bool) → IsOneQuestion tapes asked requester nodes lost after → Walk tapes [] nodes after
  question_walk asked requester nodes after lost q =
      let asks : SessionStep T = record { node_index = requester; act = record { input = action.CatchUp; outputs = q.question ∷ []; after = q.before } } in
      let answers : SessionStep T = record { node_index = asked; act = record { input = action.Deliver q.question; outputs = q.answer; after = q.other } } in
      let first : IsStepTaken tapes [] nodes asks = record { before = q.before; at = q.requester_at; is = record { lost = false; takes = q.asks }; arrived = tt } in
      let same : stepped nodes asks ≡ nodes = set_same nodes requester q.before q.requester_at in
      let second : IsStepTaken tapes (q.question ∷ []) nodes answers =
      record { before = q.other; at = q.asked_at; is = record { lost = q.unanswered; takes = q.answers }; arrived = inl refl } in
      let still : stepped nodes answers ≡ nodes = set_same nodes asked q.other q.asked_at in
      let both : Walk tapes [] nodes nodes = record {
        steps = asks ∷ (answers ∷ []);
        taken = (first, (subst (λ ns. IsStepTaken tapes (q.question ∷ []) ns answers) (sym same) second, tt));
        come = both_come nodes asks answers same still;
      } in
      let rest = arrived_walk q.answer q.answer nodes requester q.before q.after q.unheard q.requester_at (λ m is. is) q.receives in
      subst (Walk tapes [] nodes) (sym q.nodes_are)
      (walk_both [] q.answer nodes nodes (slice_set nodes requester q.after) both (λ m is. answer_reported asks answers q.answer refl m is) rest)

  asked_walk : (asked : ℕ) (nodes after : List (Node T)) (lost : Bool) → HaveAsked tapes asked nodes lost after → Walk tapes [] nodes after
  asked_walk asked nodes after lost Rests = walk_none [] nodes nodes refl
  asked_walk asked nodes after lost (Asks requester missed loses middle last before one) =
      let first = asked_walk asked nodes middle missed before in
      walk_both [] [] nodes middle last first (none_among (reported [] first)) (question_walk asked requester middle last loses one)

  pub catch_up_walk : (asked : ℕ) (nodes after : List (Node T)) (lost : Bool) → HaveAsked tapes asked nodes lost after → Walk tapes [] nodes after
  catch_up_walk asked nodes after lost are = asked_walk asked nodes after lost are

  -- ---- a node is asked for a step

  -- a walk whose returned messages have these among them
  pub record Asked (nodes after : List (Node T)) (outputs : List Message) : Type 0 where
    pub walk : Walk tapes [] nodes after
    pub among : AreAmong outputs (reported [] walk)

  hands_outputs : (result : Result (Vec Message Global) NodeFault) (sent : Vec Message Global) → HandsOut result sent → sent.items ≡ outputs_by result
  hands_outputs (Ok messages) sent hands = ap (λ (v : Vec Message Global). v.items) hands
  hands_outputs (Err why) sent hands = hands

  pub asked_step : StepIsAnswered tapes → (nodes : List (Node T)) (i : ℕ) (before after : Node T) (input : Input) (result : Result (Vec Message Global) NodeFault) (sent : Vec Message Global) →
      slice_get nodes i ≡ Some before → IsOneOf [] input → IsStepResult tapes (view input) before result after → HandsOut result sent → Asked nodes (slice_set nodes i after) sent.items
  unfolding one_act one_taken
  asked_step theorem nodes i before after input result sent at own answer hands =
      let act : Act T = record { input = input; outputs = outputs_by result; after = after } in
      record {
        walk = one_act [] nodes i before act at (record { lost = is_lost result; takes = theorem before after (view input) result answer.refused answer.steps }) own;
        among = λ m is. subst (IsIn m) (sym (returned_one (record { node_index = i; act = act }))) (subst (IsIn m) (hands_outputs result sent hands) is);
      }
