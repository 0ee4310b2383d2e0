-- Three processes are a farm, whatever is delivered, and when one starts again.
use Rattle.std.proofs.Common.{◌≡◌, ℕ, zero, suc, ◌<◌, Bool, false, List, [], ◌∷◌, ◌++◌, length, slice_get, slice_set, Option, Some, None, Ok, Vec, refl, sym, ap, subst, ◌∙◌, inl, inr, append-nil, append_assoc, length-set}
use Rattle.std.specs.declared.alloc.Global.{Global}
use Rattle.std.proofs.lemmas.Bool.{both_ways, cases_eq}
use Rattle.std.proofs.lemmas.Option.{none-some, same_Some, slice_get_within}
use Rattle.wf_codec.specs.Message as message
use Rattle.wf_codec.specs.declared.message.Message.{Message}
use Rattle.wf_def.specs.Definition.{Definition}
use Rattle.wf_model.specs.Chosen.{IsIn}
use Rattle.wf_model.specs.DurableState.{DurableState}
use Rattle.wf_model.specs.VolatileState as volatile
use Rattle.wf_model.specs.VolatileState.{at_start}
use Rattle.wf_model.specs.Table as table
use Rattle.wf_model.specs.declared.action.Action.TheVariants as action
use Rattle.wf_journal.specs.Records.{AreReadOneWay, IsReadAsNone}
use Rattle.wf_node.specs.Images.{StandsFor}
use Rattle.wf_node.specs.Node.{Node, stored_of, volatile_of}
use Rattle.wf_node.specs.Step.{IsStep}
use Rattle.wf_delivery.specs.declared.progress.PumpProgress.{PumpProgress}
use Rattle.wf_delivery.specs.Delivery.{IsHanded, AreHanded, First, Next, StandAmong, StandInTurn}
use Rattle.wf_delivery.specs.Reachability.{AreFresh}
use Rattle.wf_delivery.specs.Outcome.{StepIsAnswered}
use Rattle.wf_delivery.specs.IndexTheorems.{get_set_same, get_set_other}
use Rattle.wf_delivery.specs.Delivery.{NoneHalted}
use Rattle.wf_delivery.specs.Publication.{AllPublish, PublishedOnAll, Rests}
use Rattle.wf_tape.specs.declared.tape.Tape.{Ghosts as Tape}
use Rattle.wf_execution.specs.Run.{Act, Run, last_of, last, Between, IsAct, IsOpenedFrom}
use Rattle.wf_execution.specs.RunTheorems.{last_more}
use Rattle.wf_execution.specs.Execution.{Ended, Execution, AreRuns, Item, items_of, items_by, items_in, IsOneOf, IsFarm}
use Rattle.wf_execution.specs.Theorems.{outputs_in}
use Rattle.wf_execution.specs.Continuation.{with_execution, left_by, left}
use Rattle.wf_execution.specs.Processes.{IsNow, AreRunning, AreOpenedEmpty, ThreeProcesses}
use Rattle.wf_execution.proofs.Executions.{stand_for_nothing, stand_once}
use Rattle.wf_execution.proofs.Continuation.{own_execution, other_execution, start_goes_on, step_goes_on, end_goes_on}

-- ---- all of them have started

module _ {T : Type 0} (tapes : Tape T) where
  first_run : Node T → Run T
  first_run node = record { first = node; acts = [] }

  now_of : Option (Node T) → Option (Run T)
  now_of None = None
  now_of (Some node) = Some (first_run node)

  opened_runs : (n i : ℕ) (there : Option (Node T)) → ((node : Node T) → there ≡ Some node → IsOpenedFrom n i [] node) → AreRuns tapes n i [] [] (now_of there)
  unfolding now_of first_run
  opened_runs n i None opened = tt
  opened_runs n i (Some node) opened = record { opened = opened node refl; done = tt }

  no_items : (i : ℕ) (there : Option (Node T)) → items_of i [] ≡ items_in i [] (now_of there)
  unfolding now_of first_run items_of items_in items_by
  no_items i None = refl
  no_items i (Some node) = refl

  now_is : (node : Node T) (there : Option (Node T)) → there ≡ Some node → IsNow (record { ended = []; now = now_of there }) node
  unfolding now_of first_run last_of
  now_is node None at = absurd (none-some node at)
  now_is node (Some first) at = record { run = first_run first; goes_on = refl; at = same_Some first node at }

  no_outputs : outputs_in [] ≡ []
  unfolding outputs_in
  no_outputs = refl

  pub all_started : (nodes : List (Node T)) → AreOpenedEmpty nodes → AreRunning tapes (length nodes) nodes []
  all_started nodes opened = record {
    executions = λ i. record { ended = []; now = now_of (slice_get nodes i) };
    items = [];
    farm = record {
      each = λ i less. opened_runs (length nodes) i (slice_get nodes i) (λ node at. opened i node at);
      own = λ i less. no_items i (slice_get nodes i);
      in_turn = tt;
    };
    outputs = no_outputs;
    as_many = refl;
    now = λ i node at. now_is node (slice_get nodes i) at;
  }

-- ---- one of them takes a step

outputs_more : (items : List Item) (item : Item) → outputs_in (items ++ item ∷ []) ≡ outputs_in items ++ item.outputs
unfolding outputs_in
outputs_more [] item = append-nil item.outputs
outputs_more (first ∷ items) item = ap (λ ms. first.outputs ++ ms) (outputs_more items item) ∙ sym (append_assoc first.outputs (outputs_in items) item.outputs)

last_first : {T : Type 0} (node : Node T) → last (record { first = node; acts = [] }) ≡ node
unfolding last_of
last_first node = refl

module _ {T : Type 0} (tapes : Tape T) (n : ℕ) (nodes : List (Node T)) (sent : List Message) (are : AreRunning tapes n nodes sent) (i : ℕ) (node : Node T) (at : slice_get nodes i ≡ Some node) where
  is_member : i < n
  is_member = subst (λ k. i < k) are.as_many (slice_get_within nodes i node at)

  abbrev was : IsNow (are.executions i) node
  was = are.now i node at

  -- what holds of the node that was set, and of each other one
  at_node : (executions : ℕ → Execution T) (execution : Execution T) (after : Node T) → IsNow execution after → (j : ℕ) (x : Node T) → slice_get (slice_set nodes i after) j ≡ Some x →
      ((j ≡ i → ⊥) → slice_get nodes j ≡ Some x → IsNow (executions j) x) → IsNow (with_execution executions i execution j) x
  at_node executions execution after is j x there elsewhere = elim (cases_eq j i) [
    | inl same ↦
        let it : after ≡ x = get_set_same nodes i after node x at (subst (λ k. slice_get (slice_set nodes i after) k ≡ Some x) same there) in
        subst (λ (c : Execution T). IsNow c x) (sym (own_execution executions i execution j same)) (subst (IsNow execution) it is)
    | inr differs ↦
        subst (λ (c : Execution T). IsNow c x) (sym (other_execution executions i execution j differs)) (elsewhere differs (sym (get_set_other nodes i j after differs) ∙ there))
  ]

  pub one_acts : (act : Act T) → IsAct tapes node act → IsOneOf sent act.input → AreRunning tapes n (slice_set nodes i act.after) (sent ++ act.outputs)
  one_acts act is received =
      let run = was.run in
      let execution : Execution T = record { ended = (are.executions i).ended; now = Some (record { first = run.first; acts = run.acts ++ act ∷ [] }) } in
      record {
        executions = with_execution are.executions i execution;
        items = are.items ++ record { process = i; takes = act.input; outputs = act.outputs } ∷ [];
        farm = step_goes_on tapes n i are.executions are.items run act are.farm is_member was.goes_on (subst (λ (x : Node T). IsAct tapes x act) (sym was.at) is)
            (subst (λ ms. IsOneOf ms act.input) (sym are.outputs) received);
        outputs = outputs_more are.items (record { process = i; takes = act.input; outputs = act.outputs }) ∙ ap (λ ms. ms ++ act.outputs) are.outputs;
        as_many = length-set nodes i act.after ∙ are.as_many;
        now = λ j x there. at_node are.executions execution act.after (record { run = record { first = run.first; acts = run.acts ++ act ∷ [] }; goes_on = refl; at = last_more run.first run.acts act }) j x there
            (λ differs here. are.now j x here);
      }

  -- ---- one of them starts again

  left_last : (bytes : List ℕ) (ended : List (Ended T)) (last_one : Ended T) → left_by bytes (ended ++ last_one ∷ []) ≡ last_one.left
  unfolding left_by
  left_last bytes [] last_one = refl
  left_last bytes (first ∷ ended) last_one = left_last first.left ended last_one

  pub one_restarts : (bytes : List ℕ) (again : Node T) → node.halted ≡ false → StandsFor (stored_of node) bytes → IsOpenedFrom n i bytes again → AreRunning tapes n (slice_set nodes i again) sent
  one_restarts bytes again runs stands opened =
      let run = was.run in
      let ended : Execution T = record { ended = (are.executions i).ended ++ record { run = run; end = Between; left = bytes } ∷ []; now = None } in
      let ended_executions : ℕ → Execution T = with_execution are.executions i ended in
      let ended_farm : IsFarm tapes n ended_executions are.items =
      subst (IsFarm tapes n ended_executions) (append-nil are.items)
      (end_goes_on tapes n i are.executions are.items run Between bytes are.farm is_member was.goes_on
      (subst (λ (x : Node T). x.halted ≡ false) (sym was.at) runs, subst (λ (x : Node T). StandsFor (stored_of x) bytes) (sym was.at) stands) tt) in
      let own : ended_executions i ≡ ended = own_execution are.executions i ended i refl in
      let execution : Execution T = record { ended = (ended_executions i).ended; now = Some (record { first = again; acts = [] }) } in
      record {
        executions = with_execution ended_executions i execution;
        items = are.items;
        farm = start_goes_on tapes n i ended_executions are.items again ended_farm is_member (ap (λ (c : Execution T). c.now) own)
            (subst (λ bs. IsOpenedFrom n i bs again) (sym (ap (λ (c : Execution T). left c) own ∙ left_last [] (are.executions i).ended (record { run = run; end = Between; left = bytes }))) opened);
        outputs = are.outputs;
        as_many = length-set nodes i again ∙ are.as_many;
        now = λ j x there. at_node ended_executions execution again (record { run = record { first = again; acts = [] }; goes_on = refl; at = last_first again }) j x there
            (λ differs here. subst (λ (c : Execution T). IsNow c x) (sym (other_execution are.executions i ended j differs)) (are.now j x here));
      }

-- ---- deliveries

in_at : (m : Message) (sent : List Message) (k : ℕ) → slice_get sent k ≡ Some m → IsIn m sent
in_at m [] k at = absurd (none-some m at)
in_at m (first ∷ sent) zero at = inl (sym (same_Some first m at))
in_at m (first ∷ sent) (suc k) at = inr (in_at m sent k at)

module _ {T : Type 0} (tapes : Tape T) (n : ℕ) where
  handed_on : (i k : ℕ) (lost : Bool) (nodes : List (Node T)) (sent : List Message) (nodes_after : List (Node T)) (sent_after : List Message) → AreRunning tapes n nodes sent →
      IsHanded tapes i k lost nodes sent nodes_after sent_after → AreRunning tapes n nodes_after sent_after
  handed_on i k lost nodes sent nodes_after sent_after are handed =
      subst (λ ms. AreRunning tapes n nodes_after ms) (sym handed.sent_are)
      (subst (λ ns. AreRunning tapes n ns (sent ++ handed.outputs)) (sym handed.nodes_are)
      (one_acts tapes n nodes sent are i handed.node handed.at (record { input = action.Deliver handed.handed; outputs = handed.outputs; after = handed.after })
      (record { lost = lost; takes = handed.takes }) (in_at handed.handed sent k handed.there)))

  all_handed : (nodes : List (Node T)) (messages : List Message) (p : PumpProgress) (lost : ℕ) (nodes_after : List (Node T)) (sent : List Message) → AreRunning tapes n nodes messages →
      AreHanded tapes nodes messages p lost nodes_after sent → AreRunning tapes n nodes_after sent
  all_handed nodes messages p lost nodes_after sent are First = are
  all_handed nodes messages p lost nodes_after sent are (Next q count loses middle after outputs more before one) =
      handed_on q.some q.whole loses middle outputs after more (all_handed nodes messages q count middle outputs are before) one

-- ---- the example

module _ {T : Type 0} (one : AreReadOneWay) (none : IsReadAsNone) (tapes : Tape T) (answered : StepIsAnswered tapes) (published : PublishedOnAll tapes) where
  in_turn : (nodes : List (Node T)) → AreOpenedEmpty nodes → StandInTurn nodes
  unfolding StandAmong
  in_turn nodes opened = λ i node at. let is = opened i node at in (is.id, is.among)

  fresh : (nodes : List (Node T)) → AreOpenedEmpty nodes → AreFresh nodes
  unfolding AreFresh
  fresh nodes opened = λ i node at.
      let is = opened i node at in
      record { runs = is.runs; stored = stand_for_nothing none (stored_of node) is.stored; volatile = is.idle }

  -- the proposal is an act
  proposes : (before proposed : Node T) (d : Definition) (outputs : Vec Message Global) → before.halted ≡ false → IsStep tapes before (table.Propose d) (Ok outputs) proposed →
      IsAct tapes before (record { input = action.Propose d; outputs = outputs.items; after = proposed })
  proposes before proposed d outputs runs step =
      record { lost = false; takes = answered before proposed (table.Propose d) (Ok outputs) (λ halts. absurd (both_ways before.halted runs halts)) (λ is. step) }

  -- the one that starts again has published what it had
  rests_idle : (node : Node T) → volatile_of node ≡ at_start → Rests (volatile_of node).proposing
  unfolding at_start
  rests_idle node idle = subst (λ (w : volatile.VolatileState Definition). Rests w.proposing) (sym idle) tt

  still_published : (after : List (Node T)) (k : ℕ) (stopped again : Node T) (d : Definition) (bytes : List ℕ) → AllPublish after d → slice_get after k ≡ Some stopped → StandsFor (stored_of stopped) bytes →
      IsOpenedFrom 3 k bytes again → AllPublish (slice_set after k again) d
  unfolding AllPublish
  still_published after k stopped again d bytes all at stands opened = λ j node there. elim (cases_eq j k) [
    | inl same ↦
        let it : again ≡ node = get_set_same after k again stopped node at (subst (λ m. slice_get (slice_set after k again) m ≡ Some node) same there) in
        let stored : stored_of again ≡ stored_of stopped = stand_once one (stored_of stopped) bytes stands (stored_of again) opened.stored in
        let here : (again.parts.history ≡ d ∷ []) × Rests (volatile_of again).proposing =
        (ap (λ (s : DurableState Definition). s.history) stored ∙ (all k stopped at).0, rests_idle again opened.idle) in
        subst (λ (x : Node T). (x.parts.history ≡ d ∷ []) × Rests (volatile_of x).proposing) it here
    | inr differs ↦ all j node (sym (get_set_other after k j again differs) ∙ there)
  ]

  none_halted : (after : List (Node T)) (k : ℕ) (stopped : Node T) → NoneHalted after → slice_get after k ≡ Some stopped → stopped.halted ≡ false
  unfolding NoneHalted
  none_halted after k stopped runs at = runs k stopped at

  pub three_processes : ThreeProcesses tapes
  three_processes = λ nodes after i k before proposed stopped again d outputs done bytes three opened at step handed runs there stands reopened.
      let is_opened = opened i before at in
      let start : AreRunning tapes 3 nodes [] = subst (λ m. AreRunning tapes m nodes []) three (all_started tapes nodes opened) in
      let proposal : AreRunning tapes 3 (slice_set nodes i proposed) outputs.items =
      one_acts tapes 3 nodes [] start i before at (record { input = action.Propose d; outputs = outputs.items; after = proposed }) (proposes before proposed d outputs is_opened.runs step) tt in
      let delivered : AreRunning tapes 3 after handed.sent = all_handed tapes 3 (slice_set nodes i proposed) outputs.items handed.come 0 after handed.sent proposal handed.handed in
      let all = published nodes after i before proposed d outputs done three (in_turn nodes opened) (fresh nodes opened) at step handed runs in
      record {
        sent = handed.sent;
        processes = one_restarts tapes 3 after handed.sent delivered k stopped there bytes again (none_halted after k stopped runs there) stands reopened;
        published = still_published after k stopped again d bytes all.1 there stands reopened;
      }
