-- Each event of a timeline is one move of the model.
use Rattle.std.proofs.Common.{◌≡◌, ◌⊎◌, ℕ, Bool, true, false, List, [], ◌∷◌, ◌++◌, map, Some, None, refl, sym, ap, subst, ◌∙◌, inl, inr, append-nil}
use Rattle.std.proofs.lemmas.Bool.{both_ways}
use Rattle.std.proofs.lemmas.Option.{none-some, same_Some}
use Rattle.std.specs.Prelude.{⊤}
use Rattle.wf_execution.specs.Execution.{IsOneOf}
use Rattle.wf_execution.specs.Run.{Input, Act, Run, last_of, last, RunEnd, Between, Within, Failed, FailedAt, HasLeft, IsOpenedFrom, IsAct, IsRun}
use Rattle.wf_execution.specs.RunTheorems.{last_more, done_more}
use Rattle.wf_codec.specs.Message as message
use Rattle.wf_codec.specs.declared.message.Message.{Message}
use Rattle.wf_def.specs.Definition.{Definition}
use Rattle.wf_def.specs.Equality.{definition_eq}
use Rattle.wf_delivery.specs.Delivery.{AnyPart, ShowsNode, IsNodeBy}
use Rattle.wf_journal.specs.Records.{AreReadOneWay}
use Rattle.wf_model.specs.DurableState.{DurableState, Record, fold}
use Rattle.wf_model.specs.World as world
use Rattle.wf_model.specs.World.{After}
use Rattle.wf_node.specs.Growth.{store_grown}
use Rattle.wf_node.specs.Images.{StandsFor}
use Rattle.wf_node.specs.Input.{view}
use Rattle.wf_node.specs.Node.{Node, stored_of}
use Rattle.wf_node.specs.Step.{transition_of, step_rejection_at, stored_next}
use Rattle.wf_safety.specs.Theorems.{IsBeginning}
use Rattle.wf_tape.specs.declared.tape.Tape.{Ghosts as Tape}
use Rattle.wf_trace.specs.Course.{Move, Entered, Renewed, process_moved, outputs_of, node_left, IsMove}
use Rattle.wf_trace.specs.Deed.{Deed, Takes, Crashes, Stops, Restarts}
use Rattle.wf_trace.specs.Trace.{Entry}
use Rattle.wf_replacement.specs.Timeline.{ProcessEvent, Opens, Acts, Ends, Loses, Rejoins, process_of, returned_by, ProcessState, Down, Up, Lost, state_after, node_in, HoldsCopy, IsCutInputSent, IsPossible}
use Rattle.wf_replacement.proofs.Deeds.{node_of, node_eq, running, down, input_view, IsKept, IsDeed, halted_same, running_deed, halting_deed, cut_after, run_id, run_among, run_failed, failed_where}

-- ---- what bytes stand for

-- these bytes stand for this alone
abbrev pub StandOnlyFor : DurableState Definition → List ℕ → Type 0
StandOnlyFor stored bytes = (other : DurableState Definition) → StandsFor other bytes → other ≡ stored

pub stand_once : AreReadOneWay → (stored : DurableState Definition) (bytes : List ℕ) → StandsFor stored bytes → StandOnlyFor stored bytes
stand_once one stored bytes stands = λ other also.
    let same : also.records ≡ stands.records = one bytes also.records stands.records also.reads stands.reads in
    same_Some other stored (sym also.folds ∙ ap (λ (rs : List (Record Definition)). fold rs) same ∙ stands.folds)

-- ---- a process and its node in the model

-- A halted node's tape stands for what it had stored, or for that and the record of the step within
-- which it failed.
abbrev pub MayStore : {T : Type 0} → Run T → DurableState Definition → Type 0
MayStore run part = (part ≡ stored_of (last run)) ⊎ ((input : Input) × FailedAt run.first run.acts input × (part ≡ stored_next (last run) (view input)))

abbrev pub ShowsBy : {T : Type 0} → Bool → Run T → world.Node Definition → Type 0
ShowsBy false run x = x ≡ running (last run)
ShowsBy true run x = (x.volatile ≡ None) × MayStore run x.stored

-- The process is this node; while it doesn't run, its node has stored `rest`.
abbrev pub Shows : {T : Type 0} → DurableState Definition → ProcessState T → world.Node Definition → Type 0
Shows rest (Down bytes) x = x ≡ down rest
Shows rest (Up run) x = ShowsBy (last run).halted run x
Shows rest Lost x = x ≡ down rest

-- what is known of the process: a run, or what the bytes stand for
abbrev pub IsKnown : {T : Type 0} → Tape T → ℕ → ℕ → DurableState Definition → ProcessState T → Type 0
IsKnown tapes n i rest (Down bytes) = StandOnlyFor rest bytes
IsKnown tapes n i rest (Up run) = (bytes : List ℕ) × IsRun tapes n i bytes run
IsKnown tapes n i rest Lost = ⊤

module _ {T : Type 0} (run : Run T) (x : world.Node Definition) where
  pub shows_running : (last run).halted ≡ false → x ≡ running (last run) → ShowsBy (last run).halted run x
  shows_running runs is = subst (λ h. ShowsBy h run x) (sym runs) is

  pub running_shown : (last run).halted ≡ false → ShowsBy (last run).halted run x → x ≡ running (last run)
  running_shown runs shows = subst (λ h. ShowsBy h run x) runs shows

  pub shows_halted : (last run).halted ≡ true → x.volatile ≡ None → MayStore run x.stored → ShowsBy (last run).halted run x
  shows_halted halts none part = subst (λ h. ShowsBy h run x) (sym halts) (none, part)

  pub halted_shown : (last run).halted ≡ true → ShowsBy (last run).halted run x → (x.volatile ≡ None) × MayStore run x.stored
  halted_shown halts shows = subst (λ h. ShowsBy h run x) halts shows

-- a node that shows what a process is where nothing more happens
pub record IsShown {T : Type 0} (rest : DurableState Definition) (state : ProcessState T) : Type 0 where
  pub node : world.Node Definition
  pub shows : Shows rest state node

shown_by : {T : Type 0} (run : Run T) (halted : Bool) → (x : world.Node Definition) × ShowsBy halted run x
shown_by run false = (running (last run), refl)
shown_by run true = (down (stored_of (last run)), (refl, inl refl))

pub shown_last : {T : Type 0} (rest : DurableState Definition) (state : ProcessState T) → IsShown rest state
shown_last rest (Down bytes) = record { node = down rest; shows = refl }
shown_last rest (Up run) = let so = shown_by run (last run).halted in record { node = so.0; shows = so.1 }
shown_last rest Lost = record { node = down rest; shows = refl }

-- ---- the process is this node of the model, as the theorems say it

abbrev pub IsSeen : {T : Type 0} → ℕ → ProcessState T → world.Node Definition → Type 0
IsSeen {T} i state x = (node : Node T) → node_in state ≡ Some node → ShowsNode (AnyPart i) node x

may_store_more : {T : Type 0} (run : Run T) (part : DurableState Definition) → MayStore run part → IsBeginning (last run).parts.history part.history
may_store_more run part (inl same) = ([], append-nil (last run).parts.history ∙ ap (λ (s : DurableState Definition). s.history) (sym same))
may_store_more run part (inr (input, failed, same)) =
    let grown = store_grown (stored_of (last run)) (transition_of (last run) (view input)).entry in
    (grown.more, grown.is ∙ ap (λ (s : DurableState Definition). s.history) (sym same))

run_seen : {T : Type 0} (i : ℕ) (run : Run T) (x : world.Node Definition) (halted : Bool) → ShowsBy halted run x → IsNodeBy halted (AnyPart i) (last run) x
run_seen i run x false shows = shows
run_seen i run x true shows = (shows.0, may_store_more run x.stored shows.1, tt)

pub shown_seen : {T : Type 0} (i : ℕ) (rest : DurableState Definition) (state : ProcessState T) (x : world.Node Definition) → Shows rest state x → IsSeen i state x
shown_seen i rest (Down bytes) x shows = λ node at. absurd (none-some node at)
shown_seen {T} i rest (Up run) x shows = λ node at. subst (λ (m : Node T). ShowsNode (AnyPart i) m x) (same_Some (last run) node at) (run_seen i run x (last run).halted shows)
shown_seen i rest Lost x shows = λ node at. absurd (none-some node at)

-- ---- a move

-- The move is of the event's process. A replacement's state is what its bytes stand for.
abbrev pub IsMoveOf : {T : Type 0} → ProcessEvent T → Move Definition → Type 0
IsMoveOf (Rejoins i bytes) (Renewed j stored) = StandOnlyFor stored bytes
IsMoveOf (Rejoins i bytes) (Entered entry node) = ⊥
IsMoveOf (Opens i first) (Entered entry node) = ⊤
IsMoveOf (Acts i act) (Entered entry node) = ⊤
IsMoveOf (Ends i end left) (Entered entry node) = ⊤
IsMoveOf (Loses i) (Entered entry node) = ⊤
IsMoveOf (Opens i first) (Renewed j stored) = ⊥
IsMoveOf (Acts i act) (Renewed j stored) = ⊥
IsMoveOf (Ends i end left) (Renewed j stored) = ⊥
IsMoveOf (Loses i) (Renewed j stored) = ⊥

-- The event's move leads to this node, from one that shows what the process was before.
pub record OneMove {T : Type 0} (n : ℕ) (sent : List Message) (rest : DurableState Definition) (state : ProcessState T) (event : ProcessEvent T) (y : world.Node Definition) : Type 0 where
  pub before : world.Node Definition
  pub shows : Shows rest state before
  pub move : Move Definition
  pub own : process_moved move ≡ process_of event
  pub is : IsMove definition_eq n (map message.view sent) (λ (j : ℕ). before) move
  pub leaves : node_left move ≡ y
  pub outputs : outputs_of move ≡ map message.view (returned_by event)
  pub of : IsMoveOf event move

-- What is known after the event; and whichever node shows the process then, the event's move leads
-- to it.
pub record GoesOn {T : Type 0} (tapes : Tape T) (n : ℕ) (sent : List Message) (rest : DurableState Definition) (state : ProcessState T) (event : ProcessEvent T) : Type 0 where
  pub next : DurableState Definition
  pub known : IsKnown tapes n (process_of event) next (state_after state event)
  pub comes : (y : world.Node Definition) → Shows next (state_after state event) y → OneMove n sent rest state event y

module _ {T : Type 0} (one : AreReadOneWay) (tapes : Tape T) (n : ℕ) (sent : List Message) where
  -- an entry of which nothing is returned
  abbrev quiet : ℕ → Deed Definition → world.Node Definition → Move Definition
  quiet i deed node = Entered (record { process = i; deed = deed; outputs = [] }) node

  -- ---- a run begins

  opens : (i : ℕ) (rest : DurableState Definition) (bytes : List ℕ) (node : Node T) → StandOnlyFor rest bytes → IsOpenedFrom n i bytes node → GoesOn tapes n sent rest (Down bytes) (Opens i node)
  unfolding last_of
  opens i rest bytes node known is = record {
    next = rest;
    known = (bytes, record { opened = is; done = tt });
    comes = λ y shows. record {
      before = down rest;
      shows = refl;
      move = quiet i Restarts y;
      own = refl;
      is = (
        tt,
        record {
          stopped = refl;
          silent = refl;
          node = running_shown (record { first = node; acts = [] }) y is.runs shows ∙ node_eq (stored_of node) rest _ _ (known (stored_of node) is.stored) (ap Some is.idle);
        },
      );
      leaves = refl;
      outputs = refl;
      of = tt;
    };
  }

  -- ---- an act

  module _ (i : ℕ) (rest : DurableState Definition) (bytes : List ℕ) (run : Run T) (is_run : IsRun tapes n i bytes run) (act : Act T) (is : IsAct tapes (last run) act) (received : IsOneOf sent act.input) where
    abbrev later : Run T
    later = record { first = run.first; acts = run.acts ++ act ∷ [] }

    last_later : last later ≡ act.after
    last_later = last_more run.first run.acts act

    -- what the halted node's tape stands for, where the node was halted before
    stored_still : (part : DurableState Definition) → (last run).halted ≡ true → last later ≡ last run → MayStore later part → MayStore run part
    stored_still part halts same (inl kept) = inl (kept ∙ ap (λ (x : Node T). stored_of x) same)
    stored_still part halts same (inr (input, failed, kept)) = elim (failed_where run.first run.acts act input failed) [
      | inl before ↦ inr (input, before, kept ∙ ap (λ (x : Node T). stored_next x (view input)) same)
      | inr now ↦ absurd (both_ways (last run).halted now.0 halts)
    ]

    -- and where it ran before
    stored_now : (part : DurableState Definition) → (last run).halted ≡ false → MayStore later part → IsKept tapes (last run) (view act.input) act.after act.outputs part
    stored_now part runs (inl kept) = inl (kept ∙ ap (λ (x : Node T). stored_of x) last_later)
    stored_now part runs (inr (input, failed, kept)) = elim (failed_where run.first run.acts act input failed) [
      | inl before ↦ absurd (both_ways (last run).halted runs (run_failed tapes n i bytes run is_run input before))
      | inr now ↦ inr (kept ∙ ap (λ (x : Node T). stored_next x (view input)) last_later ∙ ap (λ k. stored_next act.after (view k)) (sym now.2))
    ]

    abbrev Comes : world.Node Definition → Type 0
    Comes y = OneMove n sent rest (Up run) (Acts i act) y

    -- the node was halted before
    act_halted : (y : world.Node Definition) → (last run).halted ≡ true → ShowsBy (last later).halted later y → Comes y
    act_halted y halts shows =
        let same = halted_same tapes (last run) (view act.input) act.after act.outputs is.lost is.takes halts in
        let still : last later ≡ last run = last_later ∙ same.0 in
        let so = halted_shown later y (ap (λ (x : Node T). x.halted) still ∙ halts) shows in
        record {
          before = y;
          shows = shows_halted run y halts so.0 (stored_still y.stored halts still so.1);
          move = Entered (record { process = i; deed = Takes (view act.input); outputs = map message.view act.outputs }) y;
          own = refl;
          is = (input_view sent act.input received, inr (record { same_node = refl; silent = ap (map message.view) same.1 }));
          leaves = refl;
          outputs = refl;
          of = tt;
        }

    act_by : (y : world.Node Definition) → (last run).halted ≡ false →
        IsDeed tapes (last run) (view act.input) act.after act.outputs n i (run_id tapes n i bytes run is_run) (run_among tapes n i bytes run is_run) sent (input_view sent act.input received) y → Comes y
    act_by y runs so = record {
      before = running (last run);
      shows = shows_running run (running (last run)) runs refl;
      move = Entered (record { process = i; deed = so.deed; outputs = map message.view act.outputs }) y;
      own = refl;
      is = (so.is_received, so.done);
      leaves = refl;
      outputs = refl;
      of = tt;
    }

    act_running : (y : world.Node Definition) → (last run).halted ≡ false → (halted : Bool) → act.after.halted ≡ halted → ShowsBy (last later).halted later y → Comes y
    act_running y runs false still shows =
        act_by y runs (running_deed tapes (last run) (view act.input) act.after act.outputs n i (run_id tapes n i bytes run is_run) (run_among tapes n i bytes run is_run) sent (input_view sent act.input received) y
        is.lost is.takes runs still
        (running_shown later y (ap (λ (x : Node T). x.halted) last_later ∙ still) shows ∙ ap (λ (x : Node T). running x) last_later))
    act_running y runs true halts shows =
        let so = halted_shown later y (ap (λ (x : Node T). x.halted) last_later ∙ halts) shows in
        act_by y runs (halting_deed tapes (last run) (view act.input) act.after act.outputs n i (run_id tapes n i bytes run is_run) (run_among tapes n i bytes run is_run) sent (input_view sent act.input received) y
        is.lost is.takes runs halts y.stored (stored_now y.stored runs so.1) (ap (node_of y.stored) so.0))

    act_comes : (y : world.Node Definition) → ShowsBy (last later).halted later y → (halted : Bool) → (last run).halted ≡ halted → Comes y
    act_comes y shows false runs = act_running y runs act.after.halted refl shows
    act_comes y shows true halts = act_halted y halts shows

    acts : GoesOn tapes n sent rest (Up run) (Acts i act)
    acts = record {
      next = rest;
      known = (bytes, record { opened = is_run.opened; done = done_more tapes run.first run.acts act is_run.done is });
      comes = λ y shows. act_comes y shows (last run).halted refl;
    }

  -- ---- a run ends

  module _ (i : ℕ) (rest : DurableState Definition) (bytes : List ℕ) (run : Run T) (is_run : IsRun tapes n i bytes run) where
    -- the node runs, and the process stops
    stops : (event : ProcessEvent T) (y : world.Node Definition) → process_of event ≡ i → returned_by event ≡ [] → ((entry : Entry Definition) → IsMoveOf event (Entered entry y)) →
        (before : world.Node Definition) → ShowsBy (last run).halted run before → y ≡ down before.stored → OneMove n sent rest (Up run) event y
    stops event y own silent of before shows is = record {
      before = before;
      shows = shows;
      move = Entered (record { process = i; deed = Stops; outputs = [] }) y;
      own = sym own;
      is = (tt, record { silent = refl; node = is });
      leaves = refl;
      outputs = ap (map message.view) (sym silent);
      of = of (record { process = i; deed = Stops; outputs = [] });
    }

    module _ (left : List ℕ) where
      -- between two steps, or within one whose record isn't kept
      ends_running : (end : RunEnd) → (last run).halted ≡ false → StandsFor (stored_of (last run)) left → GoesOn tapes n sent rest (Up run) (Ends i end left)
      ends_running end runs stands = record {
        next = stored_of (last run);
        known = stand_once one (stored_of (last run)) left stands;
        comes = λ y shows. stops (Ends i end left) y refl refl (λ entry. tt) (running (last run)) (shows_running run (running (last run)) runs refl) shows;
      }

      -- within one whose record is kept
      ends_within : (input : Input) → (last run).halted ≡ false → step_rejection_at (last run) (view input) ≡ None → StandsFor (stored_next (last run) (view input)) left → IsOneOf sent input →
          GoesOn tapes n sent rest (Up run) (Ends i (Within input) left)
      ends_within input runs none stands received = record {
        next = stored_next (last run) (view input);
        known = stand_once one (stored_next (last run) (view input)) left stands;
        comes = λ y shows. record {
          before = running (last run);
          shows = shows_running run (running (last run)) runs refl;
          move = Entered (record { process = i; deed = Crashes (view input) After; outputs = [] }) y;
          own = refl;
          is = (input_view sent input received, cut_after n i (last run) (view input) (run_id tapes n i bytes run is_run) (run_among tapes n i bytes run is_run) [] y none refl shows);
          leaves = refl;
          outputs = refl;
          of = tt;
        };
      }

      -- after its tape has failed
      ends_halted : (end : RunEnd) (part : DurableState Definition) → (last run).halted ≡ true → MayStore run part → StandsFor part left → GoesOn tapes n sent rest (Up run) (Ends i end left)
      ends_halted end part halts may stands = record {
        next = part;
        known = stand_once one part left stands;
        comes = λ y shows. stops (Ends i end left) y refl refl (λ entry. tt) (down part) (shows_halted run (down part) halts refl may) shows;
      }

      ends : (end : RunEnd) → HasLeft run end left → IsCutInputSent sent end → GoesOn tapes n sent rest (Up run) (Ends i end left)
      ends Between (runs, stands) cut = ends_running Between runs stands
      ends (Within input) (runs, inl stands) cut = ends_running (Within input) runs stands
      ends (Within input) (runs, inr (none, stands)) cut = ends_within input runs none stands cut
      ends (Failed input) (failed, inl stands) cut = ends_halted (Failed input) (stored_of (last run)) (run_failed tapes n i bytes run is_run input failed) (inl refl) stands
      ends (Failed input) (failed, inr (none, stands)) cut =
          ends_halted (Failed input) (stored_next (last run) (view input)) (run_failed tapes n i bytes run is_run input failed) (inr (input, failed, refl)) stands

    -- ---- the process is lost, while it runs

    lost_by : (y : world.Node Definition) → y ≡ down (stored_of (last run)) → (halted : Bool) → (last run).halted ≡ halted → OneMove n sent rest (Up run) (Loses i) y
    lost_by y is false runs = stops (Loses i) y refl refl (λ entry. tt) (running (last run)) (shows_running run (running (last run)) runs refl) is
    lost_by y is true halts = stops (Loses i) y refl refl (λ entry. tt) (down (stored_of (last run))) (shows_halted run (down (stored_of (last run))) halts refl (inl refl)) is

    lost_running : GoesOn tapes n sent rest (Up run) (Loses i)
    lost_running = record { next = stored_of (last run); known = tt; comes = λ y shows. lost_by y shows (last run).halted refl }

  -- while it doesn't run
  lost_down : (i : ℕ) (rest : DurableState Definition) (bytes : List ℕ) → GoesOn tapes n sent rest (Down bytes) (Loses i)
  lost_down i rest bytes = record {
    next = rest;
    known = tt;
    comes = λ y shows. record {
      before = down rest;
      shows = refl;
      move = quiet i Stops y;
      own = refl;
      is = (tt, record { silent = refl; node = shows });
      leaves = refl;
      outputs = refl;
      of = tt;
    };
  }

  -- ---- it is replaced

  rejoins : (i : ℕ) (rest : DurableState Definition) (bytes : List ℕ) → HoldsCopy bytes → GoesOn tapes n sent rest Lost (Rejoins i bytes)
  rejoins i rest bytes holds = record {
    next = holds.stored;
    known = stand_once one holds.stored bytes holds.stands;
    comes = λ y shows. record {
      before = down rest;
      shows = refl;
      move = Renewed i holds.stored;
      own = refl;
      is = refl;
      leaves = sym shows;
      outputs = refl;
      of = stand_once one holds.stored bytes holds.stands;
    };
  }

  -- ---- each event

  pub goes_on : (rest : DurableState Definition) (state : ProcessState T) (event : ProcessEvent T) → IsKnown tapes n (process_of event) rest state → IsPossible tapes n sent state event → GoesOn tapes n sent rest state event
  goes_on rest (Down bytes) (Opens i node) known is = opens i rest bytes node known is
  goes_on rest (Down bytes) (Acts i act) known is = absurd is
  goes_on rest (Down bytes) (Ends i end left) known is = absurd is
  goes_on rest (Down bytes) (Loses i) known is = lost_down i rest bytes
  goes_on rest (Down bytes) (Rejoins i copy) known is = absurd is
  goes_on rest (Up run) (Opens i node) known is = absurd is
  goes_on rest (Up run) (Acts i act) known is = acts i rest known.0 run known.1 act is.0 is.1
  goes_on rest (Up run) (Ends i end left) known is = ends i rest known.0 run known.1 left end is.0 is.1
  goes_on rest (Up run) (Loses i) known is = lost_running i rest known.0 run known.1
  goes_on rest (Up run) (Rejoins i copy) known is = absurd is
  goes_on rest Lost (Opens i node) known is = absurd is
  goes_on rest Lost (Acts i act) known is = absurd is
  goes_on rest Lost (Ends i end left) known is = absurd is
  goes_on rest Lost (Loses i) known is = absurd is
  goes_on rest Lost (Rejoins i copy) known is = rejoins i rest copy is
