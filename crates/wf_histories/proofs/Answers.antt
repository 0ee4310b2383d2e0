-- The value of its node by which a process answered a client is one of those that it had.
use Rattle.std.proofs.Common.{◌≡◌, ◌⊎◌, ◌∙◌, ℕ, zero, suc, ◌<◌, ◌≤◌, List, [], ◌∷◌, ◌++◌, length, take, slice_get, Some, refl, sym, ap, subst, inl, inr, arith, append_assoc}
use Rattle.std.proofs.Math.Logic.{∥∥₁_elim, ∥∥₁_map, ∥∥₁_map₂, ∥∥₁_prop}
use Rattle.std.proofs.lemmas.Option.{none-some, same_Some}
use Rattle.wf_actor.specs.Life.{AreAmongValues}
use Rattle.wf_actor.specs.declared.actor.Actor.{Actor}
use Rattle.wf_actor.specs.declared.process.Process.{Process}
use Rattle.wf_execution.specs.Execution.{Execution, values, values_after, values_in}
use Rattle.wf_execution.specs.Run.{Act, Run}
use Rattle.wf_client.specs.Client.{Client}
use Rattle.wf_model.specs.Chosen.{IsIn}
use Rattle.wf_node.specs.Node.{Node}
use Rattle.wf_tape.specs.declared.tape.Tape.{Ghosts as Tape}
use Rattle.wf_voter.specs.Answer.{AreAnswered, AreEarlier}
use Rattle.wf_voter.specs.Continuation.{AreRunsFrom, IsEarlier}
use Rattle.wf_voter.specs.Lived.{HasLived}
use Rattle.wf_voter.specs.declared.voter.Voter.{Voter}
use Rattle.wf_histories.specs.Advance.{run_in}
use Rattle.wf_histories.specs.Answers.{AnswersAreOfNodes, HasMadeAll}
use Rattle.wf_histories.specs.Nodes.{NodeProcess, made_by, values_ever, values_on}
use Rattle.wf_histories.specs.Runs.{LivesOf, made_of, values_made, values_over}
use Rattle.wf_histories.specs.Theorems.{IsEver}

-- ---- what is in a list

module _ {A : Type 0} where
  pub in_left : (x : A) (xs ys : List A) → IsIn x xs → IsIn x (xs ++ ys)
  in_left x [] ys is = absurd is
  in_left x (y ∷ xs) ys (inl same) = inl same
  in_left x (y ∷ xs) ys (inr is) = inr (in_left x xs ys is)

  pub in_right : (x : A) (xs ys : List A) → IsIn x ys → IsIn x (xs ++ ys)
  in_right x [] ys is = is
  in_right x (y ∷ xs) ys is = inr (in_right x xs ys is)

  pub record IsAt (x : A) (xs : List A) : Type 0 where
    pub place : ℕ
    pub at : slice_get xs place ≡ Some x

  at_place : (x : A) (xs : List A) → IsIn x xs → IsAt x xs
  at_place x [] is = absurd is
  at_place x (y ∷ xs) (inl same) = record { place = 0; at = ap Some (sym same) }
  at_place x (y ∷ xs) (inr is) = let later = at_place x xs is in record { place = suc later.place; at = later.at }

  pub take_whole : (n : ℕ) (xs : List A) → length xs ≤ n → take n xs ≡ xs
  take_whole zero [] short = refl
  take_whole zero (x ∷ xs) short = absurd (omega (arith, short))
  take_whole (suc n) [] short = refl
  take_whole (suc n) (x ∷ xs) short = ap (λ ys. x ∷ ys) (take_whole n xs (omega (arith, short)))

module _ {T : Type 0} (tapes : Tape T) where
  -- ---- the values of runs

  -- the node was this in one of these runs
  abbrev WasInRuns : Node T → (ended : List (Actor T tapes × ℕ)) (now : Actor T tapes) → LivesOf tapes ended now → Type 0
  WasInRuns node [] now lives = IsIn node (values_in lives.run)
  WasInRuns node (run ∷ ended) now lives = IsIn node (values_in lives.0.run) ⊎ WasInRuns node ended now lives.1

  whole_values : (node : Node T) (ended : List (Actor T tapes × ℕ)) (now : Actor T tapes) (lives : LivesOf tapes ended now) (made : ℕ)
      → length (run_in tapes ended now lives (length ended)).run.acts ≤ made → WasInRuns node ended now lives → IsIn node (values_made (made_of tapes ended now lives (length ended) made))
  unfolding made_of run_in values_over
  whole_values node [] now lives made all is = subst (λ (acts : List (Act T)). IsIn node (lives.run.first ∷ values_after acts)) (sym (take_whole made lives.run.acts all)) is
  whole_values node (run ∷ ended) now lives made all (inl is) =
      let later = made_of tapes ended now lives.1 (length ended) made in
      in_left node (values_in lives.0.run ++ values_over later.over) (values_in later.last.run) (in_left node (values_in lives.0.run) (values_over later.over) is)
  whole_values node (run ∷ ended) now lives made all (inr is) =
      let later = made_of tapes ended now lives.1 (length ended) made in
      subst (λ (nodes : List (Node T)). IsIn node nodes) (sym (append_assoc (values_in lives.0.run) (values_over later.over) (values_in later.last.run)))
      (in_right node (values_in lives.0.run) (values_made later) (whole_values node ended now lives.1 made all is))

  -- ---- an earlier moment

  among_at : (node : Node T) (values : List (Node T)) (first rest : List (Node T × ℕ)) → AreAmongValues ((first ++ (node, 0) ∷ []) ++ rest) values → IsIn node values
  among_at node values [] rest are = are.0
  among_at node values (entry ∷ first) rest are = among_at node values first rest are.1

  -- the log of a run has the node as it was at an earlier moment
  pub logged_then : (node : Node T) (first before now : List (Node T × ℕ)) (run : Run T) → before ≡ first ++ (node, 0) ∷ [] → (rest : List (Node T × ℕ)) → before ++ rest ≡ now
      → AreAmongValues now (values_in run) → IsIn node (values_in run)
  logged_then node first before now run last rest same are =
      among_at node (values_in run) first rest
      (subst (λ (log : List (Node T × ℕ)). AreAmongValues log (values_in run)) (sym same ∙ ap (λ (log : List (Node T × ℕ)). log ++ rest) last) are)

  in_later_runs : (node : Node T) (first : List (Node T × ℕ)) (actor : Actor T tapes) → actor.stood.items ≡ first ++ (node, 0) ∷ [] → (since : List (Actor T tapes × ℕ)) (now : Actor T tapes)
      → AreRunsFrom tapes actor since now → (lives : LivesOf tapes since now) → WasInRuns node since now lives
  in_later_runs node first actor last [] now are lives = logged_then node first actor.stood.items now.stood.items lives.run last are.stood.0 are.stood.1 lives.values.each
  in_later_runs node first actor last (run ∷ since) now are lives = inl (logged_then node first actor.stood.items run.0.stood.items lives.0.run last are.0.stood.0 are.0.stood.1 lives.0.values.each)

  behind_runs : (node : Node T) (ended since : List (Actor T tapes × ℕ)) (now : Actor T tapes) → ((lives : LivesOf tapes since now) → WasInRuns node since now lives)
      → (lives : LivesOf tapes (ended ++ since) now) → WasInRuns node (ended ++ since) now lives
  behind_runs node [] since now was lives = was lives
  behind_runs node (run ∷ ended) since now was lives = inr (behind_runs node ended since now was lives.1)

  was_earlier : (node : Node T) (first : List (Node T × ℕ)) (past now : Process T tapes) → past.actor.stood.items ≡ first ++ (node, 0) ∷ [] → IsEarlier tapes past now
      → (lives : LivesOf tapes now.ended.items now.actor) → WasInRuns node now.ended.items now.actor lives
  was_earlier node first past now last is =
      subst (λ (all : List (Actor T tapes × ℕ)). (lives : LivesOf tapes all now.actor) → WasInRuns node all now.actor lives) (sym is.ended)
      (behind_runs node past.ended.items is.since now.actor (in_later_runs node first past.actor last is.since now.actor is.runs))

  -- ---- one client of many

  -- It had lived, and was this process as it was earlier.
  pub record HadLived (past now : Process T tapes) : Type 0 where
    pub lived : HasLived tapes past
    pub earlier : IsEarlier tapes past now

  pub one_of : (befores : List (Voter T tapes × ℕ)) (clients : List (Client × ℕ)) (afters : List (Voter T tapes × ℕ)) (now : Process T tapes) → AreAnswered tapes befores clients afters → AreEarlier tapes befores now
      → (place count : ℕ) (voter : Voter T tapes) → slice_get befores place ≡ Some (voter, count) → HadLived voter.process now
  unfolding AreAnswered AreEarlier
  one_of [] clients afters now are earlier place count voter at = absurd (none-some (voter, count) at)
  one_of (before ∷ befores) [] afters now are earlier place count voter at = absurd are
  one_of (before ∷ befores) (client ∷ clients) [] now are earlier place count voter at = absurd are
  one_of (before ∷ befores) (client ∷ clients) (after ∷ afters) now are earlier zero count voter at =
      subst (λ (v : Voter T tapes). HadLived v.process now) (ap (λ (entry : Voter T tapes × ℕ). entry.0) (same_Some before (voter, count) at)) (record { lived = are.0.lived; earlier = earlier.0 })
  one_of (before ∷ befores) (client ∷ clients) (after ∷ afters) now are earlier (suc place) count voter at = one_of befores clients afters now are.1 earlier.2 place count voter at

  -- ---- the theorem

  its_values : (p : NodeProcess tapes) (processes : List (NodeProcess tapes)) (node : Node T) → IsIn p processes → IsIn node (values_made (made_by tapes p)) → IsIn node (values_on tapes processes)
  unfolding values_on
  its_values p [] node is_in is = absurd is_in
  its_values p (q ∷ processes) node (inl same) is =
      in_left node (values_made (made_by tapes q)) (values_on tapes processes) (subst (λ (r : NodeProcess tapes). IsIn node (values_made (made_by tapes r))) same is)
  its_values p (q ∷ processes) node (inr later) is = in_right node (values_made (made_by tapes q)) (values_on tapes processes) (its_values p processes node later is)

  was_made : (p : NodeProcess tapes) → HasMadeAll tapes p → (node : Node T) → WasInRuns node p.has.on.voter.process.ended.items p.has.on.voter.process.actor p.lives → IsIn node (values_made (made_by tapes p))
  was_made p whole node was =
      let process = p.has.on.voter.process in
      subst (λ over. IsIn node (values_made (made_of tapes process.ended.items process.actor p.lives over p.made))) (sym whole.over)
      (whole_values node process.ended.items process.actor p.lives p.made
      (subst (λ over. length (run_in tapes process.ended.items process.actor p.lives over).run.acts ≤ p.made) whole.over whole.made) was)

  pub was_ever : (n : ℕ) (before : ℕ → Execution T) (folders : ℕ → List (NodeProcess tapes)) (i : ℕ) (p : NodeProcess tapes) → i < n → IsIn p (folders i) → (node : Node T) → IsIn node (values_made (made_by tapes p))
      → IsEver tapes n before folders node
  was_ever n before folders i p member is_in node made =
      let found = at_place node (values_ever tapes before folders i) (in_right node (values (before i)) (values_on tapes (folders i)) (its_values p (folders i) node is_in made)) in
      record { number = i; moment = found.place; is = record { member = member; at = found.at } }

  pub answers_of_nodes : AnswersAreOfNodes tapes
  answers_of_nodes = λ n before folders i p member is_in whole place count voter at.
      ∥∥₁_elim (∥∥₁_map₂ p.has.on.answered p.has.on.answering (λ are earlier.
      one_of p.has.on.befores p.has.on.clients p.has.on.afters p.has.on.voter.process are earlier place count voter at)) ∥∥₁_prop (λ had.
      ∥∥₁_map had.lived.life (λ life.
      was_ever n before folders i p member is_in voter.process.actor.node
      (was_made p whole voter.process.actor.node (was_earlier voter.process.actor.node life.values.earlier voter.process p.has.on.voter.process life.values.now had.earlier p.lives))))
