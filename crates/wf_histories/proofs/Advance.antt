-- One thing more that happens leads from processes of a farm to processes of a farm.
use Rattle.std.proofs.Common.{◌≡◌, ◌≢◌, ℕ, zero, suc, ◌<◌, List, [], ◌∷◌, ◌++◌, length, take, slice_get, Some, refl, sym, ap, subst, ◌∙◌, inl, inr, arith, append-nil, append_assoc, eq-eqb, ne_eqb}
use Rattle.std.proofs.lemmas.Bool.{cases_eq}
use Rattle.std.proofs.lemmas.Option.{none-some, same_Some}
use Rattle.wf_actor.specs.Farm.{AreMembers, Step, items, steps_by, steps_of}
use Rattle.wf_actor.specs.Life.{AreOwnReceived}
use Rattle.wf_actor.specs.declared.actor.Actor.{Actor}
use Rattle.wf_actor.specs.declared.actor.Origin.{Origin}
use Rattle.wf_execution.specs.Execution.{Execution}
use Rattle.wf_execution.specs.Continuation.{left}
use Rattle.wf_execution.specs.Run.{Act, Between, RunEnd, Failed, Within, given_to}
use Rattle.wf_execution.specs.Theorems.{outputs_in}
use Rattle.wf_codec.specs.declared.message.Message.{Message}
use Rattle.wf_tape.specs.declared.tape.Tape.{Ghosts as Tape}
use Rattle.wf_histories.specs.Advance.{ActAdvances, IsInFirstRun, NothingAdvances, ReadsAfter, RunAdvances, StartAdvances, in_next_run, last_cut, one_act_more, run_in, with_folder}
use Rattle.wf_histories.specs.Carried.{ArePeersSent, AreSentBefore}
use Rattle.wf_histories.specs.Nodes.{AreNodeProcesses, AreOnFolder, HasEndedBefore, NodeProcess, cut_before, cut_step, made_by, steps_on}
use Rattle.wf_histories.specs.Runs.{LivesOf, made_of, steps_made, steps_over}

-- ---- steps at the end

-- each is a step of process i
abbrev pub AreStepsOf : ℕ → List Step → Type 0
AreStepsOf i [] = Unit {0}
AreStepsOf i (step ∷ steps) = (step.process ≡ i) × AreStepsOf i steps

pub own_all : (i : ℕ) (steps : List Step) → AreStepsOf i steps → steps_of i steps ≡ steps
unfolding steps_of
own_all i [] are = refl
own_all i (step ∷ steps) are = rw (eq-eqb step.process i are.0) (ap (λ rest. step ∷ rest) (own_all i steps are.1))

pub own_none : (i j : ℕ) (steps : List Step) → j ≢ i → AreStepsOf i steps → steps_of j steps ≡ []
unfolding steps_of
own_none i j [] differs are = refl
own_none i j (step ∷ steps) differs are = rw (ne_eqb step.process j (λ same. differs (sym same ∙ are.0))) (own_none i j steps differs are.1)

pub steps_both : (j : ℕ) (steps more : List Step) → steps_of j (steps ++ more) ≡ steps_of j steps ++ steps_of j more
unfolding steps_of
steps_both j [] more = refl
steps_both j (step ∷ steps) more = elim (cases_eq step.process j) [
  | inl own ↦ rw (eq-eqb step.process j own) (ap (λ rest. step ∷ rest) (steps_both j steps more))
  | inr other ↦ rw (ne_eqb step.process j other) (steps_both j steps more)
]

members_both : (n i : ℕ) (steps more : List Step) → i < n → AreMembers n steps → AreStepsOf i more → AreMembers n (steps ++ more)
unfolding AreMembers
members_both n i [] [] less are own = tt
members_both n i [] (step ∷ more) less are own = (subst (λ k. k < n) (sym own.0) less, members_both n i [] more less tt own.1)
members_both n i (step ∷ steps) more less are own = (are.0, members_both n i steps more less are.1 own)

pub sent_both : (sent : List Message) (steps more : List Step) → AreSentBefore sent steps → AreSentBefore (sent ++ outputs_in (items steps)) more → AreSentBefore sent (steps ++ more)
unfolding AreSentBefore outputs_in
sent_both sent [] more are later = subst (λ ms. AreSentBefore ms more) (append-nil sent) later
sent_both sent (step ∷ steps) more are later =
    (are.0, sent_both (sent ++ step.outputs) steps more are.1 (subst (λ ms. AreSentBefore ms more) (sym (append_assoc sent step.outputs (outputs_in (items steps)))) later))

module _ {T : Type 0} (tapes : Tape T) where
  pub nothing_advances : NothingAdvances tapes
  unfolding AreMembers AreSentBefore steps_of steps_on
  nothing_advances n = record { ended = λ i less. refl; on_folders = λ i less. tt; members = tt; in_order = λ i less. refl; connected = tt }

  -- ---- the processes of one node go on

  module _ (folders : ℕ → List (NodeProcess tapes)) (i : ℕ) (processes : List (NodeProcess tapes)) where
    own_folder : (j : ℕ) → j ≡ i → with_folder tapes folders i processes j ≡ processes
    unfolding with_folder
    own_folder j same = rw (eq-eqb j i same) refl

    other_folder : (j : ℕ) → j ≢ i → with_folder tapes folders i processes j ≡ folders j
    unfolding with_folder
    other_folder j differs = rw (ne_eqb j i differs) refl

    -- what holds of the new ones at i, and of the old ones elsewhere
    at_each : (P : ℕ → List (NodeProcess tapes) → Type 0) (j : ℕ) → P i processes → (j ≢ i → P j (folders j)) → P j (with_folder tapes folders i processes j)
    at_each P j here elsewhere = elim (cases_eq j i) [
      | inl same ↦ subst (P j) (sym (own_folder j same)) (subst (λ k. P k processes) (sym same) here)
      | inr differs ↦ subst (P j) (sym (other_folder j differs)) (elsewhere differs)
    ]

  advances : (n i : ℕ) (before : ℕ → Execution T) (sent : List Message) (folders : ℕ → List (NodeProcess tapes)) (steps more : List Step) (processes : List (NodeProcess tapes)) →
      AreNodeProcesses tapes n before sent folders steps → i < n → AreOnFolder tapes n i (left (before i)) processes → steps_on tapes i processes ≡ steps_on tapes i (folders i) ++ more → AreStepsOf i more →
      AreSentBefore (sent ++ outputs_in (items steps)) more → AreNodeProcesses tapes n before sent (with_folder tapes folders i processes) (steps ++ more)
  advances n i before sent folders steps more processes are less on_folder grown own connected = record {
    ended = are.ended;
    on_folders = λ j member. at_each folders i processes (λ k ps. AreOnFolder tapes n k (left (before k)) ps) j on_folder (λ differs. are.on_folders j member);
    members = members_both n i steps more less are.members own;
    in_order = λ j member. at_each folders i processes (λ k ps. steps_of k (steps ++ more) ≡ steps_on tapes k ps) j
        (steps_both i steps more ∙ ap (λ xs. xs ++ steps_of i more) (are.in_order i less) ∙ ap (λ xs. steps_on tapes i (folders i) ++ xs) (own_all i more own) ∙ sym grown)
        (λ differs. steps_both j steps more ∙ ap (λ xs. steps_of j steps ++ xs) (own_none i j more differs own) ∙ append-nil (steps_of j steps) ∙ are.in_order j member);
    connected = sent_both sent steps more are.connected connected;
  }

  -- ---- a start

  none_made : (i : ℕ) (ended : List (Actor T tapes × ℕ)) (now : Actor T tapes) (lives : LivesOf tapes ended now) → steps_made i (made_of tapes ended now lives 0 0) ≡ []
  unfolding made_of steps_over steps_by
  none_made i [] now lives = refl
  none_made i (run ∷ ended) now lives = refl

  pub begun_steps : (i : ℕ) (p : NodeProcess tapes) → p.over ≡ 0 → p.made ≡ 0 → steps_made i (made_by tapes p) ≡ []
  begun_steps i p first none =
      let ended = p.has.on.voter.process.ended.items in
      let now = p.has.on.voter.process.actor in
      ap (λ (over : ℕ). steps_made i (made_of tapes ended now p.lives over p.made)) first
      ∙ ap (λ (made : ℕ). steps_made i (made_of tapes ended now p.lives 0 made)) none
      ∙ none_made i ended now p.lives

  pub begun_on : (n i : ℕ) (bytes : List ℕ) (processes : List (NodeProcess tapes)) (p : NodeProcess tapes) → AreOnFolder tapes n i bytes processes → IsInFirstRun tapes n i bytes processes p
      → AreOnFolder tapes n i bytes (processes ++ p ∷ [])
  unfolding ReadsAfter
  begun_on n i bytes [] p are begun = (begun.is, begun.reads, tt, tt)
  begun_on n i bytes (last ∷ []) p are begun = (are.0, are.1, begun.reads.0, (begun.is, begun.reads.1, tt, tt))
  begun_on n i bytes (first ∷ (next ∷ later)) p are begun =
      (are.0, are.1, are.2, begun_on n i first.left (next ∷ later) p are.3 (record { is = begun.is; first = begun.first; none = begun.none; reads = begun.reads }))

  steps_begun : (i : ℕ) (processes : List (NodeProcess tapes)) (p : NodeProcess tapes) → p.over ≡ 0 → p.made ≡ 0 → steps_on tapes i (processes ++ p ∷ []) ≡ steps_on tapes i processes ++ last_cut tapes i processes
  unfolding steps_on last_cut
  steps_begun i [] p first none = ap (λ xs. xs ++ []) (begun_steps i p first none)
  steps_begun i (last ∷ []) p first none =
      ap (λ xs. steps_made i (made_by tapes last) ++ (cut_step i last.end last.cut_from ++ xs)) (ap (λ xs. xs ++ []) (begun_steps i p first none))
      ∙ ap (λ xs. steps_made i (made_by tapes last) ++ xs) (append-nil (cut_step i last.end last.cut_from))
      ∙ ap (λ xs. xs ++ cut_step i last.end last.cut_from) (sym (append-nil (steps_made i (made_by tapes last))))
  steps_begun i (one ∷ (next ∷ later)) p first none =
      ap (λ xs. steps_made i (made_by tapes one) ++ (cut_step i one.end one.cut_from ++ xs)) (steps_begun i (next ∷ later) p first none)
      ∙ ap (λ xs. steps_made i (made_by tapes one) ++ xs) (sym (append_assoc (cut_step i one.end one.cut_from) (steps_on tapes i (next ∷ later)) (last_cut tapes i (next ∷ later))))
      ∙ sym (append_assoc (steps_made i (made_by tapes one)) (cut_step i one.end one.cut_from ++ steps_on tapes i (next ∷ later)) (last_cut tapes i (next ∷ later)))

  own_cut : (i : ℕ) (end : RunEnd) (origin : Origin) → AreStepsOf i (cut_step i end origin)
  own_cut i Between origin = tt
  own_cut i (Within input) origin = (refl, tt)
  own_cut i (Failed input) origin = tt

  own_last : (i : ℕ) (processes : List (NodeProcess tapes)) → AreStepsOf i (last_cut tapes i processes)
  unfolding last_cut
  own_last i [] = tt
  own_last i (last ∷ []) = own_cut i last.end last.cut_from
  own_last i (first ∷ (next ∷ later)) = own_last i (next ∷ later)

  pub start_advances : StartAdvances tapes
  start_advances n i before sent folders steps p are less begun connected =
      advances n i before sent folders steps (last_cut tapes i (folders i)) (folders i ++ p ∷ []) are less (begun_on n i (left (before i)) (folders i) p (are.on_folders i less) begun)
      (steps_begun i (folders i) p begun.first begun.none) (own_last i (folders i)) connected

  -- ---- an act

  by_one_more : (i k : ℕ) (acts : List (Act T)) (origins : List Origin) (act : Act T) (origin : Origin) → slice_get acts k ≡ Some act → slice_get origins k ≡ Some origin
      → steps_by i (take (suc k) acts) (take (suc k) origins) ≡ steps_by i (take k acts) (take k origins) ++ record { process = i; takes = act.input; origin = origin; outputs = act.outputs } ∷ []
  unfolding steps_by
  by_one_more i k [] origins act origin at from = absurd (none-some act at)
  by_one_more i k (first ∷ acts) [] act origin at from = absurd (none-some origin from)
  by_one_more i zero (first ∷ acts) (own ∷ origins) act origin at from =
      let same : first ≡ act = same_Some first act at in
      let same_origin : own ≡ origin = same_Some own origin from in
      ap (λ (a : Act T). record { process = i; takes = a.input; origin = own; outputs = a.outputs } ∷ []) same
      ∙ ap (λ (o : Origin). record { process = i; takes = act.input; origin = o; outputs = act.outputs } ∷ []) same_origin
  by_one_more i (suc k) (first ∷ acts) (own ∷ origins) act origin at from =
      ap (λ rest. record { process = i; takes = first.input; origin = own; outputs = first.outputs } ∷ rest) (by_one_more i k acts origins act origin at from)

  pub made_one_more : (i : ℕ) (ended : List (Actor T tapes × ℕ)) (now : Actor T tapes) (lives : LivesOf tapes ended now) (over made : ℕ) (act : Act T) (origin : Origin)
      → slice_get (run_in tapes ended now lives over).run.acts made ≡ Some act → slice_get (run_in tapes ended now lives over).origins made ≡ Some origin
      → steps_made i (made_of tapes ended now lives over (suc made)) ≡ steps_made i (made_of tapes ended now lives over made) ++ record { process = i; takes = act.input; origin = origin; outputs = act.outputs } ∷ []
  unfolding made_of run_in steps_over
  made_one_more i [] now lives over made act origin at from = by_one_more i made lives.run.acts lives.origins act origin at from
  made_one_more i (run ∷ ended) now lives zero made act origin at from = by_one_more i made lives.0.run.acts lives.0.origins act origin at from
  made_one_more i (run ∷ ended) now lives (suc over) made act origin at from =
      let first = steps_by i lives.0.run.acts lives.0.origins in
      let old = made_of tapes ended now lives.1 over made in
      let new = made_of tapes ended now lives.1 over (suc made) in
      append_assoc first (steps_over i new.over) (steps_by i new.last.run.acts new.last.origins)
      ∙ ap (λ xs. first ++ xs) (made_one_more i ended now lives.1 over made act origin at from)
      ∙ sym (append_assoc first (steps_made i old) (record { process = i; takes = act.input; origin = origin; outputs = act.outputs } ∷ []))
      ∙ ap (λ xs. xs ++ record { process = i; takes = act.input; origin = origin; outputs = act.outputs } ∷ []) (sym (append_assoc first (steps_over i old.over) (steps_by i old.last.run.acts old.last.origins)))

  cut_one_more : (i : ℕ) (earlier : List (NodeProcess tapes)) (p q : NodeProcess tapes) (end : RunEnd) (origin : Origin) → cut_before tapes i (earlier ++ q ∷ []) end origin ≡ cut_before tapes i (earlier ++ p ∷ []) end origin
  cut_one_more i [] p q end origin = refl
  cut_one_more i (first ∷ earlier) p q end origin = refl

  ended_one_more : (earlier : List (NodeProcess tapes)) (p q first : NodeProcess tapes) → HasEndedBefore tapes (earlier ++ p ∷ []) first → HasEndedBefore tapes (earlier ++ q ∷ []) first
  ended_one_more [] p q first ended = ended
  ended_one_more (next ∷ earlier) p q first ended = ended

  -- the last process is as far as this now
  abbrev at : NodeProcess tapes → (over made : ℕ) → NodeProcess tapes
  at p over made = record { line = p.line; old = p.old; new = p.new; has = p.has; lives = p.lives; come = p.come; over = over; made = made; end = p.end; cut_from = p.cut_from; left = p.left }

  pub on_further : (n i : ℕ) (bytes : List ℕ) (earlier : List (NodeProcess tapes)) (p : NodeProcess tapes) (over made : ℕ) → AreOnFolder tapes n i bytes (earlier ++ p ∷ [])
      → AreOnFolder tapes n i bytes (earlier ++ at p over made ∷ [])
  on_further n i bytes [] p over made are = (record { number = are.0.number; among = are.0.among }, are.1, tt, tt)
  on_further n i bytes (first ∷ earlier) p over made are =
      (are.0, are.1, ended_one_more earlier p (at p over made) first are.2, on_further n i first.left earlier p over made are.3)

  steps_further : (i : ℕ) (earlier : List (NodeProcess tapes)) (p : NodeProcess tapes) (over made : ℕ) (more : List Step) → steps_made i (made_by tapes (at p over made)) ≡ steps_made i (made_by tapes p) ++ more
      → steps_on tapes i (earlier ++ at p over made ∷ []) ≡ steps_on tapes i (earlier ++ p ∷ []) ++ more
  unfolding steps_on
  steps_further i [] p over made more grown =
      append-nil (steps_made i (made_by tapes (at p over made))) ∙ grown ∙ ap (λ xs. xs ++ more) (sym (append-nil (steps_made i (made_by tapes p))))
  steps_further i (first ∷ earlier) p over made more grown =
      let own = steps_made i (made_by tapes first) in
      let cut = cut_before tapes i (earlier ++ p ∷ []) first.end first.cut_from in
      ap (λ xs. own ++ (xs ++ steps_on tapes i (earlier ++ at p over made ∷ []))) (cut_one_more i earlier p (at p over made) first.end first.cut_from)
      ∙ ap (λ xs. own ++ (cut ++ xs)) (steps_further i earlier p over made more grown)
      ∙ ap (λ xs. own ++ xs) (sym (append_assoc cut (steps_on tapes i (earlier ++ p ∷ [])) more))
      ∙ sym (append_assoc own (cut ++ steps_on tapes i (earlier ++ p ∷ [])) more)

  pub one_sent : (sent : List Message) (step : Step) → ArePeersSent sent step.origin (given_to step.takes) → AreSentBefore sent (step ∷ [])
  unfolding AreSentBefore
  one_sent sent step connected = (connected, tt)

  pub act_advances : ActAdvances tapes
  act_advances n i before sent folders steps earlier p act origin are less same is connected =
      let step : Step = record { process = i; takes = act.input; origin = origin; outputs = act.outputs } in
      let grown = made_one_more i p.has.on.voter.process.ended.items p.has.on.voter.process.actor p.lives p.over p.made act origin is.act_at is.origin_at in
      advances n i before sent folders steps (step ∷ []) (earlier ++ one_act_more tapes p ∷ []) are less
      (on_further n i (left (before i)) earlier p p.over (suc p.made) (subst (λ (ps : List (NodeProcess tapes)). AreOnFolder tapes n i (left (before i)) ps) same (are.on_folders i less)))
      (steps_further i earlier p p.over (suc p.made) (step ∷ []) grown ∙ ap (λ (ps : List (NodeProcess tapes)). steps_on tapes i ps ++ step ∷ []) (sym same)) (refl, tt)
      (one_sent (sent ++ outputs_in (items steps)) step connected)

  -- ---- another run

  -- all acts
  by_all : (i : ℕ) (emitted : List Message) (acts : List (Act T)) (origins : List Origin) → AreOwnReceived emitted acts origins
      → steps_by i (take (length acts) acts) (take (length acts) origins) ≡ steps_by i acts origins
  unfolding steps_by AreOwnReceived
  by_all i emitted [] origins received = refl
  by_all i emitted (act ∷ acts) [] received = absurd received
  by_all i emitted (act ∷ acts) (origin ∷ origins) received =
      ap (λ rest. record { process = i; takes = act.input; origin = origin; outputs = act.outputs } ∷ rest) (by_all i (emitted ++ act.outputs) acts origins received.1)

  pub made_next_run : (i : ℕ) (ended : List (Actor T tapes × ℕ)) (now : Actor T tapes) (lives : LivesOf tapes ended now) (over made : ℕ) → made ≡ length (run_in tapes ended now lives over).run.acts → over < length ended
      → steps_made i (made_of tapes ended now lives (suc over) 0) ≡ steps_made i (made_of tapes ended now lives over made)
  unfolding made_of run_in steps_over
  made_next_run i [] now lives over made all another = absurd (omega (arith, another))
  made_next_run i (run ∷ ended) now lives zero made all another =
      let acts = lives.0.run.acts in
      let origins = lives.0.origins in
      let next = made_of tapes ended now lives.1 0 0 in
      append_assoc (steps_by i acts origins) (steps_over i next.over) (steps_by i next.last.run.acts next.last.origins)
      ∙ ap (λ xs. steps_by i acts origins ++ xs) (none_made i ended now lives.1)
      ∙ append-nil (steps_by i acts origins)
      ∙ sym (by_all i [] acts origins lives.0.received)
      ∙ ap (λ (k : ℕ). steps_by i (take k acts) (take k origins)) (sym all)
  made_next_run i (run ∷ ended) now lives (suc over) made all another =
      let first = steps_by i lives.0.run.acts lives.0.origins in
      let old = made_of tapes ended now lives.1 over made in
      let new = made_of tapes ended now lives.1 (suc over) 0 in
      append_assoc first (steps_over i new.over) (steps_by i new.last.run.acts new.last.origins)
      ∙ ap (λ xs. first ++ xs) (made_next_run i ended now lives.1 over made all (omega (arith, another)))
      ∙ sym (append_assoc first (steps_over i old.over) (steps_by i old.last.run.acts old.last.origins))

  pub run_advances : RunAdvances tapes
  unfolding AreSentBefore
  run_advances n i before sent folders steps earlier p are less same is =
      let grown = made_next_run i p.has.on.voter.process.ended.items p.has.on.voter.process.actor p.lives p.over p.made is.all is.another ∙ sym (append-nil (steps_made i (made_by tapes p))) in
      subst (λ (all : List Step). AreNodeProcesses tapes n before sent (with_folder tapes folders i (earlier ++ in_next_run tapes p ∷ [])) all) (append-nil steps)
      (advances n i before sent folders steps [] (earlier ++ in_next_run tapes p ∷ []) are less
      (on_further n i (left (before i)) earlier p (suc p.over) 0 (subst (λ (ps : List (NodeProcess tapes)). AreOnFolder tapes n i (left (before i)) ps) same (are.on_folders i less)))
      (steps_further i earlier p (suc p.over) 0 [] grown ∙ ap (λ (ps : List (NodeProcess tapes)). steps_on tapes i ps ++ []) (sym same)) tt tt)
