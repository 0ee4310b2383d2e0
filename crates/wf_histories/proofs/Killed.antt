-- What a process had answered while the acts that it made were made, it answered by a value that
-- its node had.
use Rattle.std.proofs.Common.{◌≡◌, ◌∙◌, ℕ, zero, suc, ◌<◌, ◌≤◌, List, [], ◌∷◌, ◌++◌, length, take, slice_get, Some, refl, sym, ap, subst, inl, inr, arith, append-nil, append_assoc, length-append}
use Rattle.std.proofs.Math.Logic.{∥∥₁_elim, ∥∥₁_map, ∥∥₁_map₂, ∥∥₁_prop}
use Rattle.std.proofs.Props.{props}
use Rattle.std.proofs.lemmas.Option.{none-some, same_Some}
use Rattle.wf_actor.specs.declared.actor.Actor.{Actor}
use Rattle.wf_actor.specs.declared.process.Process.{Process}
use Rattle.wf_execution.specs.Execution.{Execution, values_after, values_in}
use Rattle.wf_execution.specs.Run.{Act, Run}
use Rattle.wf_mail.specs.Mail.{IsFirstPart}
use Rattle.wf_model.specs.Chosen.{IsIn}
use Rattle.wf_node.specs.Node.{Node}
use Rattle.wf_tape.specs.declared.tape.Tape.{Ghosts as Tape}
use Rattle.wf_voter.specs.Answer.{AreAllLater, AreEarlier}
use Rattle.wf_voter.specs.Continuation.{AreRunsFrom, IsEarlier, IsLater}
use Rattle.wf_voter.specs.declared.voter.Voter.{Voter}
use Rattle.wf_voter.proofs.Earlier.{its_own}
use Rattle.wf_histories.specs.Advance.{run_in}
use Rattle.wf_histories.specs.Answers.{HasMadeAll}
use Rattle.wf_histories.specs.Killed.{AnswersByThenAreOfNodes, ClientsGetEqually, EarlierAnswersAreOfNodes, InLastRun, InRunOver, IsWithinActs, WasAnsweredByThen, WholeIsWithinActs}
use Rattle.wf_histories.specs.Nodes.{NodeProcess, made_by}
use Rattle.wf_histories.specs.Runs.{LifeOf, LivesOf, made_of, values_made, values_over}
use Rattle.wf_histories.specs.Theorems.{GetEqually, IsEver, NodesAgree, WasSent}
use Rattle.wf_histories.proofs.Answers.{in_left, in_right, logged_then, one_of, take_whole, was_ever}
use Rattle.wf_histories.proofs.Executions.{first_or}

module _ {T : Type 0} (tapes : Tape T) where
  -- ---- the values of the first acts

  values_first : (node : Node T) (acts more : List (Act T)) → IsIn node (values_after acts) → IsIn node (values_after (acts ++ more))
  unfolding values_after
  values_first node [] more is = absurd is
  values_first node (act ∷ acts) more (inl same) = inl same
  values_first node (act ∷ acts) more (inr is) = inr (values_first node acts more is)

  values_part : (node : Node T) (run whole : Run T) → run.first ≡ whole.first → IsFirstPart run.acts whole.acts → IsIn node (values_in run) → IsIn node (values_in whole)
  values_part node run whole same part (inl is) = inl (is ∙ same)
  values_part node run whole same part (inr is) = inr (subst (λ (acts : List (Act T)). IsIn node (values_after acts)) part.1 (values_first node run.acts part.0 is))

  -- a run begins with the node that its log begins with, at whatever moment
  same_begin : (past now : Actor T tapes) → IsLater tapes past now → (life : LifeOf tapes past) (whole : LifeOf tapes now) → life.run.first ≡ whole.run.first
  same_begin past now later life whole =
      ap (λ (log : List (Node T × ℕ)). first_or whole.run.first log)
      (ap (λ (log : List (Node T × ℕ)). log ++ later.stood.0) (sym life.values.first) ∙ later.stood.1 ∙ whole.values.first)

  -- ---- in a run that was over

  in_run_over : (node : Node T) (first : List (Node T × ℕ)) (actor : Actor T tapes) → actor.stood.items ≡ first ++ (node, 0) ∷ [] → (ended since : List (Actor T tapes × ℕ)) (now : Actor T tapes)
      → AreRunsFrom tapes actor since now → (lives : LivesOf tapes (ended ++ since) now) (over made : ℕ) → length ended < length (made_of tapes (ended ++ since) now lives over made).over
      → IsIn node (values_made (made_of tapes (ended ++ since) now lives over made))
  unfolding made_of values_over
  in_run_over node first actor last [] [] now are lives over made less = absurd (omega (arith, less))
  in_run_over node first actor last [] (run ∷ since) now are lives zero made less = absurd (omega (arith, less))
  in_run_over node first actor last [] (run ∷ since) now are lives (suc over) made less =
      let later = made_of tapes since now lives.1 over made in
      in_left node (values_in lives.0.run ++ values_over later.over) (values_in later.last.run)
      (in_left node (values_in lives.0.run) (values_over later.over)
      (logged_then tapes node first actor.stood.items run.0.stood.items lives.0.run last are.0.stood.0 are.0.stood.1 lives.0.values.each))
  in_run_over node first actor last (run ∷ ended) since now are lives zero made less = absurd (omega (arith, less))
  in_run_over node first actor last (run ∷ ended) since now are lives (suc over) made less =
      let later = made_of tapes (ended ++ since) now lives.1 over made in
      subst (λ (nodes : List (Node T)). IsIn node nodes) (sym (append_assoc (values_in lives.0.run) (values_over later.over) (values_in later.last.run)))
      (in_right node (values_in lives.0.run) (values_made later) (in_run_over node first actor last ended since now are lives.1 over made (omega (arith, less))))

  -- ---- in the last run

  in_last_run : (node : Node T) (past : Actor T tapes) (life : LifeOf tapes past) → IsIn node (values_in life.run) → (ended since : List (Actor T tapes × ℕ)) (now : Actor T tapes) → AreRunsFrom tapes past since now
      → (lives : LivesOf tapes (ended ++ since) now) (over made : ℕ) → length ended ≡ length (made_of tapes (ended ++ since) now lives over made).over
      → IsFirstPart life.run.acts (made_of tapes (ended ++ since) now lives over made).last.run.acts → IsIn node (values_made (made_of tapes (ended ++ since) now lives over made))
  unfolding made_of values_over
  in_last_run node past life is [] [] now are lives over made same part =
      values_part node life.run (record { first = lives.run.first; acts = take made lives.run.acts }) (same_begin past now are life lives) part is
  in_last_run node past life is [] (run ∷ since) now are lives zero made same part =
      values_part node life.run (record { first = lives.0.run.first; acts = take made lives.0.run.acts }) (same_begin past run.0 are.0 life lives.0) part is
  in_last_run node past life is [] (run ∷ since) now are lives (suc over) made same part = absurd (omega (arith, same))
  in_last_run node past life is (run ∷ ended) since now are lives zero made same part = absurd (omega (arith, same))
  in_last_run node past life is (run ∷ ended) since now are lives (suc over) made same part =
      let later = made_of tapes (ended ++ since) now lives.1 over made in
      subst (λ (nodes : List (Node T)). IsIn node nodes) (sym (append_assoc (values_in lives.0.run) (values_over later.over) (values_in later.last.run)))
      (in_right node (values_in lives.0.run) (values_made later) (in_last_run node past life is ended since now are lives.1 over made (omega (arith, same)) part))

  -- ---- of one process

  module _ (p : NodeProcess tapes) where
    abbrev process : Process T tapes
    process = p.has.on.voter.process

    over_made : (node : Node T) (first : List (Node T × ℕ)) (past : Process T tapes) → past.actor.stood.items ≡ first ++ (node, 0) ∷ [] → IsEarlier tapes past process
        → length past.ended.items < length (made_by tapes p).over → IsIn node (values_made (made_by tapes p))
    over_made node first past last is =
        subst (λ (all : List (Actor T tapes × ℕ)). (lives : LivesOf tapes all process.actor) → length past.ended.items < length (made_of tapes all process.actor lives p.over p.made).over →
        IsIn node (values_made (made_of tapes all process.actor lives p.over p.made))) (sym is.ended)
        (λ lives less. in_run_over node first past.actor last past.ended.items is.since process.actor is.runs lives p.over p.made less) p.lives

    last_made : (node : Node T) (past : Process T tapes) (life : LifeOf tapes past.actor) → IsIn node (values_in life.run) → IsEarlier tapes past process
        → length past.ended.items ≡ length (made_by tapes p).over → IsFirstPart life.run.acts (made_by tapes p).last.run.acts → IsIn node (values_made (made_by tapes p))
    last_made node past life there is =
        subst (λ (all : List (Actor T tapes × ℕ)). (lives : LivesOf tapes all process.actor) → length past.ended.items ≡ length (made_of tapes all process.actor lives p.over p.made).over →
        IsFirstPart life.run.acts (made_of tapes all process.actor lives p.over p.made).last.run.acts → IsIn node (values_made (made_of tapes all process.actor lives p.over p.made))) (sym is.ended)
        (λ lives same part. in_last_run node past.actor life there past.ended.items is.since process.actor is.runs lives p.over p.made same part) p.lives

    -- a client that was answered in the last run, when the process was in that
    in_same_run : (node : Node T) (first : List (Node T × ℕ)) (client past : Process T tapes) → client.actor.stood.items ≡ first ++ (node, 0) ∷ [] → (since : List (Actor T tapes × ℕ))
        → past.ended.items ≡ client.ended.items ++ since → AreRunsFrom tapes client.actor since past.actor → IsEarlier tapes client process → IsEarlier tapes past process
        → length past.ended.items ≡ length (made_by tapes p).over → (life : LifeOf tapes past.actor) → IsFirstPart life.run.acts (made_by tapes p).last.run.acts → IsIn node (values_made (made_by tapes p))
    in_same_run node first client past last [] ended are is also same life part =
        last_made node past life (logged_then tapes node first client.actor.stood.items past.actor.stood.items life.run last are.stood.0 are.stood.1 life.values.each) also same part
    in_same_run node first client past last (run ∷ since) ended are is also same life part =
        over_made node first client last is (omega (arith, ap length ended, length-append client.ended.items (run ∷ since), same))

    -- one that was answered by a moment within the acts that were made
    pub by_then : (node : Node T) (first : List (Node T × ℕ)) (client past : Process T tapes) → client.actor.stood.items ≡ first ++ (node, 0) ∷ [] → IsEarlier tapes client process → IsEarlier tapes past process
        → IsEarlier tapes client past → IsWithinActs tapes p past → IsIn node (values_made (made_by tapes p))
    by_then node first client past last is also earlier (InRunOver less) =
        over_made node first client last is (omega (arith, ap length earlier.ended, length-append client.ended.items earlier.since, less))
    by_then node first client past last is also earlier (InLastRun same life part) =
        in_same_run node first client past last earlier.since earlier.ended earlier.runs is also same life part

    -- ---- one that made all its acts

    all_over : (ended : List (Actor T tapes × ℕ)) (now : Actor T tapes) (lives : LivesOf tapes ended now) (made : ℕ) → length ended ≡ length (made_of tapes ended now lives (length ended) made).over
    unfolding made_of
    all_over [] now lives made = refl
    all_over (run ∷ ended) now lives made = ap suc (all_over ended now lives.1 made)

    -- the life of the run that it is in
    abbrev life_now : (ended : List (Actor T tapes × ℕ)) (now : Actor T tapes) → LivesOf tapes ended now → LifeOf tapes now
    life_now [] now lives = lives
    life_now (run ∷ ended) now lives = life_now ended now lives.1

    all_acts : (ended : List (Actor T tapes × ℕ)) (now : Actor T tapes) (lives : LivesOf tapes ended now) (made : ℕ) → length (run_in tapes ended now lives (length ended)).run.acts ≤ made
        → IsFirstPart (life_now ended now lives).run.acts (made_of tapes ended now lives (length ended) made).last.run.acts
    unfolding made_of run_in
    all_acts [] now lives made all = ([], append-nil lives.run.acts ∙ sym (take_whole made lives.run.acts all))
    all_acts (run ∷ ended) now lives made all = all_acts ended now lives.1 made all

    whole : HasMadeAll tapes p → IsWithinActs tapes p process
    whole has =
        let ended = process.ended.items in
        let now = process.actor in
        let all = subst (λ over. length (run_in tapes ended now p.lives over).run.acts ≤ p.made) has.over has.made in
        InLastRun
        (subst (λ over. length ended ≡ length (made_of tapes ended now p.lives over p.made).over) (sym has.over) (all_over ended now p.lives p.made))
        (life_now ended now p.lives)
        (subst (λ over. IsFirstPart (life_now ended now p.lives).run.acts (made_of tapes ended now p.lives over p.made).last.run.acts) (sym has.over) (all_acts ended now p.lives p.made all))

  pub whole_is_within : WholeIsWithinActs tapes
  whole_is_within p has = whole p has

  -- ---- the theorems

  pub answers_by_then : AnswersByThenAreOfNodes tapes
  answers_by_then = λ n before folders i p past member is_in is within place count voter at earlier.
      ∥∥₁_elim (∥∥₁_map₂ p.has.on.answered p.has.on.answering (λ are all.
      one_of tapes p.has.on.befores p.has.on.clients p.has.on.afters p.has.on.voter.process are all place count voter at)) ∥∥₁_prop (λ had.
      ∥∥₁_map had.lived.life (λ life.
      was_ever tapes n before folders i p member is_in voter.process.actor.node
      (by_then p voter.process.actor.node life.values.earlier voter.process past life.values.now had.earlier is earlier within)))

  -- ---- clients in their order

  one_later : (past : Process T tapes) (befores : List (Voter T tapes × ℕ)) → AreAllLater tapes past befores → (place count : ℕ) (voter : Voter T tapes) → slice_get befores place ≡ Some (voter, count)
      → IsEarlier tapes past voter.process
  unfolding AreAllLater
  one_later past [] are place count voter at = absurd (none-some (voter, count) at)
  one_later past (before ∷ befores) are zero count voter at =
      subst (λ (v : Voter T tapes). IsEarlier tapes past v.process) (ap (λ (entry : Voter T tapes × ℕ). entry.0) (same_Some before (voter, count) at)) are.0
  one_later past (before ∷ befores) are (suc place) count voter at = one_later past befores are.1 place count voter at

  in_order : (befores : List (Voter T tapes × ℕ)) (now : Process T tapes) → AreEarlier tapes befores now → (place last count last_count : ℕ) (voter later : Voter T tapes) → place ≤ last
      → slice_get befores place ≡ Some (voter, count) → slice_get befores last ≡ Some (later, last_count) → IsEarlier tapes voter.process later.process
  unfolding AreEarlier
  in_order [] now are place last count last_count voter later order at at_last = absurd (none-some (voter, count) at)
  in_order (before ∷ befores) now are zero zero count last_count voter later order at at_last =
      subst (λ (v : Voter T tapes). IsEarlier tapes voter.process v.process)
      (ap (λ (entry : Voter T tapes × ℕ). entry.0) (sym (same_Some before (voter, count) at) ∙ same_Some before (later, last_count) at_last)) (its_own tapes voter.process)
  in_order (before ∷ befores) now are zero (suc last) count last_count voter later order at at_last =
      subst (λ (v : Voter T tapes). IsEarlier tapes v.process later.process) (ap (λ (entry : Voter T tapes × ℕ). entry.0) (same_Some before (voter, count) at))
      (one_later before.0.process befores are.1 last last_count later at_last)
  in_order (before ∷ befores) now are (suc place) zero count last_count voter later order at at_last = absurd (omega (arith, order))
  in_order (before ∷ befores) now are (suc place) (suc last) count last_count voter later order at at_last =
      in_order befores now are.2 place last count last_count voter later (omega (arith, order)) at at_last

  at_end : (befores : List (Voter T tapes × ℕ)) (now : Process T tapes) → AreEarlier tapes befores now → (place count : ℕ) (voter : Voter T tapes) → slice_get befores place ≡ Some (voter, count)
      → IsEarlier tapes voter.process now
  unfolding AreEarlier
  at_end [] now are place count voter at = absurd (none-some (voter, count) at)
  at_end (before ∷ befores) now are zero count voter at =
      subst (λ (v : Voter T tapes). IsEarlier tapes v.process now) (ap (λ (entry : Voter T tapes × ℕ). entry.0) (same_Some before (voter, count) at)) are.0
  at_end (before ∷ befores) now are (suc place) count voter at = at_end befores now are.2 place count voter at

  pub earlier_answers : EarlierAnswersAreOfNodes tapes
  earlier_answers = λ n before folders i p member is_in last last_count later at_last within place count voter order at.
      let now = p.has.on.voter.process in
      ∥∥₁_elim p.has.on.answering ∥∥₁_prop (λ all.
      answers_by_then n before folders i p later.process member is_in (at_end p.has.on.befores now all last last_count later at_last) within place count voter at
      (in_order p.has.on.befores now all place last count last_count voter later order at at_last))

  -- ---- equal bytes

  -- a client that was answered by its own moment, if that is within the acts
  client_ever : (n : ℕ) (before : ℕ → Execution T) (folders : ℕ → List (NodeProcess tapes)) (came response : List ℕ) (client : WasAnsweredByThen tapes n folders came response) →
      ∥ IsEver tapes n before folders client.voter.process.actor.node ∥₁
  client_ever n before folders came response client =
      earlier_answers n before folders client.number client.process client.member client.is_in client.place client.count client.voter client.at client.within client.place client.count client.voter
      (omega arith) client.at

  was_sent : (n : ℕ) (before : ℕ → Execution T) (folders : ℕ → List (NodeProcess tapes)) (came response : List ℕ) (client : WasAnsweredByThen tapes n folders came response) →
      IsEver tapes n before folders client.voter.process.actor.node → WasSent tapes n before folders came response
  was_sent n before folders came response client ever =
      record { process = client.voter.process; after = client.after; status = client.status; count = client.written; answer = client.answer; answers = client.answers; ever = ever }

  pub get_equally : NodesAgree tapes → ClientsGetEqually tapes
  unfolding GetEqually was_sent
  get_equally theorem n before earlier folders steps farm are came query response another one two asks alike =
      let get = (theorem n before earlier folders steps farm are).get in
      let set : IsProp (another ≡ response) = hlevel props in
      ∥∥₁_elim (client_ever n before folders came response one) set (λ ever.
      ∥∥₁_elim (client_ever n before folders came another two) set (λ other_ever.
      get came query response another (was_sent n before folders came response one ever) (was_sent n before folders came another two other_ever) asks alike))
