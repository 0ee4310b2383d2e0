-- Processes of nodes, of which some folders joined in the place of lost ones, are a timeline.
use Rattle.std.proofs.Common.{◌≡◌, ℕ, zero, suc, Bool, true, false, List, [], ◌∷◌, ◌++◌, refl, sym, ap, subst, ◌∙◌, inl, inr, append-nil, append_assoc}
use Rattle.std.proofs.lemmas.Bool.{both_ways}
use Rattle.std.specs.Prelude.{if◌then◌else◌}
use Rattle.wf_actor.specs.Farm.{AreOwn, RunsAreOwn, Step, steps_by}
use Rattle.wf_actor.specs.Life.{AreOwnReceived}
use Rattle.wf_actor.specs.declared.actor.Actor.{Actor}
use Rattle.wf_actor.specs.declared.actor.Origin.{Origin}
use Rattle.wf_execution.specs.Execution.{values_after, values_in}
use Rattle.wf_execution.specs.CrashImages.{ComparisonLeaves}
use Rattle.wf_execution.specs.Run.{Act, AreDone, Failed, FailedAt, HasLeft, IsOpenedFrom, IsRun, Run, last, last_of}
use Rattle.wf_execution.specs.Run.{Input as ActInput}
use Rattle.wf_codec.specs.declared.message.Message.{Message}
use Rattle.wf_def.specs.Definition.{Definition}
use Rattle.wf_delivery.specs.NodeInput.{Fails, Halts, Rejects, Takes}
use Rattle.wf_delivery.specs.NodeInput as giving
use Rattle.wf_journal.specs.Records.{AreReadOneWay}
use Rattle.wf_model.specs.Table.{Input}
use Rattle.wf_node.specs.Input.{view}
use Rattle.wf_node.specs.Node.{Node}
use Rattle.wf_node.specs.Reopening.{HasStoredAs}
use Rattle.wf_replacement.specs.Timeline.{Down, Ends, ProcessState, Up}
use Rattle.wf_tape.specs.declared.tape.Tape.{Ghosts as Tape}
use Rattle.wf_voter.specs.Continuation.{AreRunsFrom}
use Rattle.wf_histories.specs.Carried.{AreStepsCome}
use Rattle.wf_histories.specs.Events.{Lifetime, TracedEvent, bytes_at_first, end_before, events_by, events_in, events_in_run, events_later, events_made, events_made_by, events_on, failed_input, stepless, steps_in}
use Rattle.wf_histories.specs.Lifetimes.{AreOnLater, values_later, values_lived}
use Rattle.wf_histories.specs.Nodes.{AreOnFolder, NodeProcess, bytes_read, cut_before, cut_step, made_by, steps_on, values_on}
use Rattle.wf_histories.specs.Runs.{LivesOf, TracedRun, first_acts, made_of, steps_made, steps_over, traced_by, values_made, values_over}
use Rattle.wf_histories.proofs.Acts.{received_first}
use Rattle.wf_histories.proofs.Executions.{is_cut_run, is_run, opened_next, same_id, same_n}
use Rattle.wf_histories.proofs.Carried.{come_both}
use Rattle.wf_histories.proofs.Folders.{all_runs, come_on, opened_as, own_on}
use Rattle.wf_histories.proofs.Left.{left_before, opened_empty}
use Rattle.wf_histories.proofs.Timeline.{AllMayHappen, IsThere, acted, happen_both, state_both, state_by, steps_in_both, values_both, values_by}

module _ {T : Type 0} where
  -- ---- the steps and the values of a run's events

  steps_by_events : (i : ℕ) (acts : List (Act T)) (origins : List Origin) → steps_in (events_by i acts origins) ≡ steps_by i acts origins
  unfolding steps_in events_by steps_by
  steps_by_events i [] origins = refl
  steps_by_events i (act ∷ acts) [] = refl
  steps_by_events i (act ∷ acts) (origin ∷ origins) = ap (λ rest. record { process = i; takes = act.input; origin = origin; outputs = act.outputs } ∷ rest) (steps_by_events i acts origins)

  steps_in_run : (i : ℕ) (traced : TracedRun T) → steps_in (events_in_run i traced) ≡ steps_by i traced.run.acts traced.origins
  unfolding steps_in
  steps_in_run i traced = steps_by_events i traced.run.acts traced.origins

  values_by_events : (i : ℕ) (emitted : List Message) (acts : List (Act T)) (origins : List Origin) → AreOwnReceived emitted acts origins → values_by (events_by i acts origins) ≡ values_after acts
  unfolding values_by events_by values_after AreOwnReceived
  values_by_events i emitted [] origins received = refl
  values_by_events i emitted (act ∷ acts) [] received = absurd received
  values_by_events i emitted (act ∷ acts) (origin ∷ origins) received = ap (λ rest. act.after ∷ rest) (values_by_events i (emitted ++ act.outputs) acts origins received.1)

  values_in_run : (i : ℕ) (traced : TracedRun T) → AreOwnReceived [] traced.run.acts traced.origins → values_by (events_in_run i traced) ≡ traced.run.first ∷ values_after traced.run.acts
  unfolding values_by
  values_in_run i traced received = ap (λ rest. traced.run.first ∷ rest) (values_by_events i [] traced.run.acts traced.origins received)

-- ---- what steps hear

-- They hear only their own messages, and what came on connections from their peers.
pub record AreHeard (steps : List Step) : Type 0 where
  pub own : AreOwn [] steps
  pub come : AreStepsCome steps

both_heard : RunsAreOwn → (first more : List Step) → AreHeard first → AreHeard more → AreHeard (first ++ more)
both_heard together first more heard also = record { own = together [] first more heard.own also.own; come = come_both first more heard.come also.come }

module _ {T : Type 0} (tapes : Tape T) where
  -- ---- the step within which a tape failed

  takes_halted : (lost : Bool) (input : Input Definition) (before after : Node T) (outputs : List Message) → Takes tapes lost input before after outputs → before.halted ≡ true → after.halted ≡ true
  takes_halted true input before after outputs takes halted = absurd (both_ways before.halted takes.runs halted)
  takes_halted false input before after outputs (Halts is same quiet) halted = ap (λ (node : Node T). node.halted) same ∙ halted
  takes_halted false input before after outputs (Rejects why runs refused same quiet) halted = absurd (both_ways before.halted runs halted)
  takes_halted false input before after outputs (giving.Steps runs none transition grown) halted = absurd (both_ways before.halted runs halted)
  takes_halted false input before after outputs (Fails runs none is same failed part torn quiet) halted = absurd (both_ways before.halted runs halted)

  none_fails : (node : Node T) (acts : List (Act T)) (input : ActInput) → AreDone tapes node acts → node.halted ≡ true → FailedAt node acts input → ⊥
  none_fails node [] input done halted failed = failed
  none_fails node (act ∷ acts) input done halted (inl here) = both_ways node.halted here.0 halted
  none_fails node (act ∷ acts) input done halted (inr later) =
      none_fails act.after acts input done.1 (takes_halted done.0.lost (view act.input) node act.after act.outputs done.0.takes halted) later

  fails_by : (b : Bool) (act : Act T) (acts : List (Act T)) (input : ActInput) → act.after.halted ≡ b → AreDone tapes act.after acts → FailedAt act.after acts input → failed_input acts ≡ input
      → (if b then act.input else failed_input acts) ≡ input
  fails_by true act acts input halted done failed same = absurd (none_fails act.after acts input done halted failed)
  fails_by false act acts input halted done failed same = same

  fails_in : (node : Node T) (acts : List (Act T)) (input : ActInput) → AreDone tapes node acts → FailedAt node acts input → failed_input acts ≡ input
  unfolding failed_input
  fails_in node [] input done failed = absurd failed
  fails_in node (act ∷ acts) input done (inl here) = rw here.1 here.2
  fails_in node (act ∷ acts) input done (inr later) = fails_by act.after.halted act acts input refl done.1 later (fails_in act.after acts input done.1 later)

  -- so what such a run left, it left so
  left_failed : (run : Run T) (input : ActInput) (bytes : List ℕ) → AreDone tapes run.first run.acts → HasLeft run (Failed input) bytes → HasLeft run (Failed (failed_input run.acts)) bytes
  left_failed run input bytes done left = subst (λ (i : ActInput). HasLeft run (Failed i) bytes) (sym (fails_in run.first run.acts input done left.0)) left

  module _ (n i : ℕ) where
    -- ---- a run

    acts_happen : (run : Run T) (acts : List (Act T)) (origins : List Origin) → AreDone tapes (last run) acts → AllMayHappen tapes n (Up run) (events_by i acts origins)
    unfolding events_by
    acts_happen run [] origins done = tt
    acts_happen run (act ∷ acts) [] done = tt
    acts_happen run (act ∷ acts) (origin ∷ origins) done = (
      done.0,
      acts_happen (record { first = run.first; acts = run.acts ++ act ∷ [] }) acts origins (subst (λ (node : Node T). AreDone tapes node acts) (sym (acted run act)) done.1),
    )

    acts_made : (run : Run T) (emitted : List Message) (acts : List (Act T)) (origins : List Origin) → AreOwnReceived emitted acts origins →
        state_by (Up run) (events_by i acts origins) ≡ Up (record { first = run.first; acts = run.acts ++ acts })
    unfolding events_by AreOwnReceived
    acts_made run emitted [] origins received = ap (λ (acts : List (Act T)). Up (record { first = run.first; acts = acts })) (sym (append-nil run.acts))
    acts_made run emitted (act ∷ acts) [] received = absurd received
    acts_made run emitted (act ∷ acts) (origin ∷ origins) received =
        acts_made (record { first = run.first; acts = run.acts ++ act ∷ [] }) (emitted ++ act.outputs) acts origins received.1
        ∙ ap (λ (all : List (Act T)). Up (record { first = run.first; acts = all })) (append_assoc run.acts (act ∷ []) acts)

    -- These events may happen to a process, which runs after them: so far, this run of it.
    record LeadTo (bytes : List ℕ) (traced : List (TracedEvent T)) (run : Run T) : Type 0 where
      happen : AllMayHappen tapes n (Down bytes) traced
      state : state_by (Down bytes) traced ≡ Up run

    run_leads : (bytes : List ℕ) (traced : TracedRun T) → IsRun tapes n i bytes traced.run → AreOwnReceived [] traced.run.acts traced.origins → LeadTo bytes (events_in_run i traced) traced.run
    unfolding last_of
    run_leads bytes traced is received =
        let begun : Run T = record { first = traced.run.first; acts = [] } in
        record { happen = (is.opened, acts_happen begun traced.run.acts traced.origins is.done); state = acts_made begun [] traced.run.acts traced.origins received }

    -- with more, from its end on
    leads_on : (bytes : List ℕ) (first : List (TracedEvent T)) (run : Run T) (more : List (TracedEvent T)) → LeadTo bytes first run → AllMayHappen tapes n (Up run) more → AllMayHappen tapes n (Down bytes) (first ++ more)
    leads_on bytes first run more leads happen =
        happen_both tapes n (Down bytes) first more leads.happen (subst (λ (state : ProcessState T). AllMayHappen tapes n state more) (sym leads.state) happen)

    state_on : (bytes : List ℕ) (first : List (TracedEvent T)) (run : Run T) (more : List (TracedEvent T)) → LeadTo bytes first run → state_by (Down bytes) (first ++ more) ≡ state_by (Up run) more
    state_on bytes first run more leads = state_both (Down bytes) first more ∙ ap (λ (state : ProcessState T). state_by state more) leads.state

    -- ---- a process

    process_leads : ComparisonLeaves tapes → (bytes : List ℕ) (actor : Actor T tapes) (ended : List (Actor T tapes × ℕ)) (now : Actor T tapes) → IsOpenedFrom n i bytes actor.node →
        actor.stood.items ≡ (actor.node, 0) ∷ [] → AreRunsFrom tapes actor ended now → (lives : LivesOf tapes ended now) (over made : ℕ) →
        LeadTo bytes (events_made tapes i ended now lives over made) (made_of tapes ended now lives over made).last.run
    unfolding events_made made_of
    process_leads compares bytes actor [] now opened stood are lives over made =
        run_leads bytes (first_acts made (traced_by tapes now lives)) (is_cut_run tapes n i actor now stood are lives bytes opened made)
        (received_first made [] lives.run.acts lives.origins lives.received)
    process_leads compares bytes actor (run ∷ ended) now opened stood are lives zero made =
        run_leads bytes (first_acts made (traced_by tapes run.0 lives.0)) (is_cut_run tapes n i actor run.0 stood are.0 lives.0 bytes opened made)
        (received_first made [] lives.0.run.acts lives.0.origins lives.0.received)
    process_leads compares bytes actor (run ∷ ended) now opened stood are lives (suc over) made =
        let follower = are.1 in
        let follows = are.2 in
        let whole = is_run tapes n i actor run.0 stood are.0 lives.0 bytes opened in
        let id : follower.node.id ≡ i = follows.number ∙ same_id tapes n i actor run.0 stood are.0 lives.0 opened.id in
        let among : follower.node.n ≡ n = follows.among ∙ same_n tapes n i actor run.0 stood are.0 lives.0 opened.among in
        let from = bytes_at_first tapes ended now lives.1 in
        let opened_again = opened_next tapes n i follower ended now follows.stood are.3 lives.1 id among in
        let halts : (last lives.0.run).halted ≡ true = ap (λ (node : Node T). node.halted) lives.0.now ∙ follows.halted in
        let compared : HasStoredAs (last lives.0.run) follower.node = subst (λ (node : Node T). HasStoredAs node follower.node) (sym lives.0.now) follows.stored in
        let left = compares n i bytes from lives.0.run follower.node whole halts opened_again compared in
        let first = events_in_run i (traced_by tapes run.0 lives.0) in
        let end = stepless (Ends i (Failed (failed_input lives.0.run.acts)) from) in
        let rest = events_made tapes i ended now lives.1 over made in
        let leads = run_leads bytes (traced_by tapes run.0 lives.0) whole lives.0.received in
        let later = process_leads compares from follower ended now opened_again follows.stood are.3 lives.1 over made in
        record {
          happen = leads_on bytes first lives.0.run (end ∷ rest) leads (left_failed lives.0.run left.input from lives.0.done left.leaves, later.happen);
          state = state_on bytes first lives.0.run (end ∷ rest) leads ∙ later.state;
        }

    node_leads : ComparisonLeaves tapes → (bytes : List ℕ) (p : NodeProcess tapes) → IsOpenedFrom n i bytes p.has.started.actor.node → LeadTo bytes (events_made_by tapes i p) (made_by tapes p).last.run
    node_leads compares bytes p opened =
        process_leads compares bytes p.has.started.actor p.has.on.voter.process.ended.items p.has.on.voter.process.actor opened p.has.is_started.begun.stood (all_runs tapes n i p) p.lives p.over p.made

    -- ---- on a folder

    -- These events may happen to a process, which isn't lost after them.
    record HappenOn (state : ProcessState T) (traced : List (TracedEvent T)) : Type 0 where
      happen : AllMayHappen tapes n state traced
      there : IsThere (state_by state traced)

    folder_happens : ComparisonLeaves tapes → (bytes : List ℕ) (p : NodeProcess tapes) (later : List (NodeProcess tapes)) (left : List ℕ) → AreOnFolder tapes n i left (p ∷ later) →
        IsOpenedFrom n i bytes p.has.started.actor.node → HappenOn (Down bytes) (events_on tapes i (p ∷ later))
    unfolding events_on
    folder_happens compares bytes p [] left are opened =
        let first = events_made_by tapes i p in
        let leads = node_leads compares bytes p opened in
        record {
          happen = leads_on bytes first (made_by tapes p).last.run [] leads tt;
          there = subst (λ (state : ProcessState T). IsThere state) (sym (state_on bytes first (made_by tapes p).last.run [] leads)) tt;
        }
    folder_happens compares bytes p (next ∷ later) left are opened =
        let first = events_made_by tapes i p in
        let run = (made_by tapes p).last.run in
        let more = end_before tapes i (next ∷ later) p ++ events_on tapes i (next ∷ later) in
        let leads = node_leads compares bytes p opened in
        let rest = folder_happens compares (bytes_read tapes next) next later p.left are.3 (opened_as tapes n i next are.3.0) in
        record {
          happen = leads_on bytes first run more leads (left_before p.left (bytes_read tapes next) are.3.1 run p.end are.2.0, rest.happen);
          there = subst (λ (state : ProcessState T). IsThere state) (sym (state_on bytes first run more leads)) rest.there;
        }

    first_happens : ComparisonLeaves tapes → AreReadOneWay → (processes : List (NodeProcess tapes)) → AreOnFolder tapes n i [] processes → HappenOn (Down []) (events_on tapes i processes)
    unfolding events_on
    first_happens compares one_way [] are = record { happen = tt; there = tt }
    first_happens compares one_way (p ∷ later) are =
        folder_happens compares [] p later [] are (opened_empty one_way n i (bytes_read tapes p) p.has.started.actor.node are.1 (opened_as tapes n i p are.0))

    -- ---- on one folder after the other

    later_happen : ComparisonLeaves tapes → (state : ProcessState T) → IsThere state → (later : List (NodeProcess tapes × List (NodeProcess tapes))) → AreOnLater tapes n i later →
        AllMayHappen tapes n state (events_later tapes i later)
    unfolding events_later
    later_happen compares state there [] are = tt
    later_happen compares state there (folder ∷ later) are =
        let bytes = bytes_read tapes folder.0 in
        let on = folder_happens compares bytes folder.0 folder.1 bytes are.0 (opened_as tapes n i folder.0 are.0.0) in
        let own = events_on tapes i (folder.0 ∷ folder.1) in
        (there, (tt, happen_both tapes n (Down bytes) own (events_later tapes i later) on.happen (later_happen compares (state_by (Down bytes) own) on.there later are.1)))

    pub life_happens : ComparisonLeaves tapes → AreReadOneWay → (life : Lifetime tapes) → AreOnFolder tapes n i [] life.first → AreOnLater tapes n i life.later → AllMayHappen tapes n (Down []) (events_in tapes i life)
    life_happens compares one_way life first later =
        let own = events_on tapes i life.first in
        let on = first_happens compares one_way life.first first in
        happen_both tapes n (Down []) own (events_later tapes i life.later) on.happen (later_happen compares (state_by (Down []) own) on.there life.later later)

    -- ---- its steps

    process_steps : (ended : List (Actor T tapes × ℕ)) (now : Actor T tapes) (lives : LivesOf tapes ended now) (over made : ℕ) → steps_in (events_made tapes i ended now lives over made) ≡ steps_made i (made_of tapes ended now lives over made)
    unfolding events_made made_of steps_over steps_in
    process_steps [] now lives over made = steps_in_run i (first_acts made (traced_by tapes now lives))
    process_steps (run ∷ ended) now lives zero made = steps_in_run i (first_acts made (traced_by tapes run.0 lives.0))
    process_steps (run ∷ ended) now lives (suc over) made =
        let traced = traced_by tapes run.0 lives.0 in
        let own = steps_by i traced.run.acts traced.origins in
        let next = made_of tapes ended now lives.1 over made in
        let rest = events_made tapes i ended now lives.1 over made in
        let end = stepless (Ends i (Failed (failed_input lives.0.run.acts)) (bytes_at_first tapes ended now lives.1)) in
        steps_in_both (events_in_run i traced) (end ∷ rest)
        ∙ ap (λ steps. steps ++ steps_in rest) (steps_in_run i traced)
        ∙ ap (λ steps. own ++ steps) (process_steps ended now lives.1 over made)
        ∙ sym (append_assoc own (steps_over i next.over) (steps_by i next.last.run.acts next.last.origins))

    end_steps : (p : NodeProcess tapes) (later : List (NodeProcess tapes)) → steps_in (end_before tapes i later p) ≡ cut_before tapes i later p.end p.cut_from
    unfolding steps_in
    end_steps p [] = refl
    end_steps p (next ∷ later) = append-nil (cut_step i p.end p.cut_from)

    folder_steps : (processes : List (NodeProcess tapes)) → steps_in (events_on tapes i processes) ≡ steps_on tapes i processes
    unfolding steps_in events_on steps_on
    folder_steps [] = refl
    folder_steps (p ∷ later) =
        let own = events_made_by tapes i p in
        let end = end_before tapes i later p in
        let process = p.has.on.voter.process in
        steps_in_both own (end ++ events_on tapes i later)
        ∙ ap (λ steps. steps ++ steps_in (end ++ events_on tapes i later)) (process_steps process.ended.items process.actor p.lives p.over p.made)
        ∙ ap (λ steps. steps_made i (made_by tapes p) ++ steps)
        (steps_in_both end (events_on tapes i later)
        ∙ ap (λ steps. steps ++ steps_in (events_on tapes i later)) (end_steps p later)
        ∙ ap (λ steps. cut_before tapes i later p.end p.cut_from ++ steps) (folder_steps later))

    folder_heard : RunsAreOwn → (left : List ℕ) (processes : List (NodeProcess tapes)) → AreOnFolder tapes n i left processes → AreHeard (steps_in (events_on tapes i processes))
    folder_heard together left processes are =
        subst (λ (steps : List Step). AreHeard steps) (sym (folder_steps processes))
        (record { own = own_on tapes n i together left processes are; come = come_on tapes n i left processes are })

    later_heard : RunsAreOwn → (later : List (NodeProcess tapes × List (NodeProcess tapes))) → AreOnLater tapes n i later → AreHeard (steps_in (events_later tapes i later))
    unfolding events_later steps_in AreOwn AreStepsCome
    later_heard together [] are = record { own = tt; come = tt }
    later_heard together (folder ∷ later) are =
        let own = events_on tapes i (folder.0 ∷ folder.1) in
        subst (λ (steps : List Step). AreHeard steps) (sym (steps_in_both own (events_later tapes i later)))
        (both_heard together (steps_in own) (steps_in (events_later tapes i later)) (folder_heard together (bytes_read tapes folder.0) (folder.0 ∷ folder.1) are.0) (later_heard together later are.1))

    pub life_heard : RunsAreOwn → (life : Lifetime tapes) → AreOnFolder tapes n i [] life.first → AreOnLater tapes n i life.later → AreHeard (steps_in (events_in tapes i life))
    life_heard together life first later =
        let own = events_on tapes i life.first in
        subst (λ (steps : List Step). AreHeard steps) (sym (steps_in_both own (events_later tapes i life.later)))
        (both_heard together (steps_in own) (steps_in (events_later tapes i life.later)) (folder_heard together [] life.first first) (later_heard together life.later later))

    -- ---- its values

    process_values : (ended : List (Actor T tapes × ℕ)) (now : Actor T tapes) (lives : LivesOf tapes ended now) (over made : ℕ) → values_by (events_made tapes i ended now lives over made) ≡ values_made (made_of tapes ended now lives over made)
    unfolding events_made made_of values_over values_by
    process_values [] now lives over made = values_in_run i (first_acts made (traced_by tapes now lives)) (received_first made [] lives.run.acts lives.origins lives.received)
    process_values (run ∷ ended) now lives zero made = values_in_run i (first_acts made (traced_by tapes run.0 lives.0)) (received_first made [] lives.0.run.acts lives.0.origins lives.0.received)
    process_values (run ∷ ended) now lives (suc over) made =
        let traced = traced_by tapes run.0 lives.0 in
        let own = values_in traced.run in
        let next = made_of tapes ended now lives.1 over made in
        let rest = events_made tapes i ended now lives.1 over made in
        let end = stepless (Ends i (Failed (failed_input lives.0.run.acts)) (bytes_at_first tapes ended now lives.1)) in
        values_both (events_in_run i traced) (end ∷ rest)
        ∙ ap (λ values. values ++ values_by rest) (values_in_run i traced lives.0.received)
        ∙ ap (λ values. own ++ values) (process_values ended now lives.1 over made)
        ∙ sym (append_assoc own (values_over next.over) (values_in next.last.run))

    end_values : (p : NodeProcess tapes) (later : List (NodeProcess tapes)) → values_by (end_before tapes i later p) ≡ []
    unfolding values_by
    end_values p [] = refl
    end_values p (next ∷ later) = refl

    folder_values : (processes : List (NodeProcess tapes)) → values_by (events_on tapes i processes) ≡ values_on tapes processes
    unfolding values_by events_on values_on
    folder_values [] = refl
    folder_values (p ∷ later) =
        let own = events_made_by tapes i p in
        let end = end_before tapes i later p in
        let process = p.has.on.voter.process in
        values_both own (end ++ events_on tapes i later)
        ∙ ap (λ values. values ++ values_by (end ++ events_on tapes i later)) (process_values process.ended.items process.actor p.lives p.over p.made)
        ∙ ap (λ values. values_made (made_by tapes p) ++ values)
        (values_both end (events_on tapes i later) ∙ ap (λ values. values ++ values_by (events_on tapes i later)) (end_values p later) ∙ folder_values later)

    later_values : (later : List (NodeProcess tapes × List (NodeProcess tapes))) → values_by (events_later tapes i later) ≡ values_later tapes later
    unfolding values_by events_later values_later
    later_values [] = refl
    later_values (folder ∷ later) =
        let own = events_on tapes i (folder.0 ∷ folder.1) in
        values_both own (events_later tapes i later)
        ∙ ap (λ values. values ++ values_by (events_later tapes i later)) (folder_values (folder.0 ∷ folder.1))
        ∙ ap (λ values. values_on tapes (folder.0 ∷ folder.1) ++ values) (later_values later)

    pub life_values : (life : Lifetime tapes) → values_by (events_in tapes i life) ≡ values_lived tapes life
    life_values life =
        values_both (events_on tapes i life.first) (events_later tapes i life.later)
        ∙ ap (λ values. values ++ values_by (events_later tapes i life.later)) (folder_values life.first)
        ∙ ap (λ values. values_on tapes life.first ++ values) (later_values life.later)
