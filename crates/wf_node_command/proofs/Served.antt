-- From a node that is ready to one that was served.
use Rattle.std.proofs.Common.{◌≡◌, ◌∙◌, ℕ, Bool, false, true, List, [], ◌∷◌, ap, inl, inr, refl, sym, subst}
use Rattle.std.proofs.lemmas.Bool.{false≢true}
use Rattle.std.specs.Prelude.{◌↔◌, IsSome, IsTrue, Option, Some, None, Result, Ok, Err}
use Rattle.wf_loop.specs.Process.{Actor, Origin, Process}
use Rattle.wf_codec.specs.Message.{view}
use Rattle.wf_codec.specs.declared.message.Message.{Message}
use Rattle.wf_folder.specs.NodeFile.{IsNodeFile}
use Rattle.wf_line.specs.declared.node_line.NodeLine.{NodeLine}
use Rattle.wf_loop.proofs.Earlier.{its_own}
use Rattle.wf_loop.specs.Continuation.{AreHeardFrom, AreRunsHeardFrom, IsEarlier, KeepsEarlier}
use Rattle.wf_loop.specs.EventLoop.{HasAnswered, HasRepliedEarlier, IsHeardFirst, IsJoiner, IsOver, IsReopeningDue, kept_of, membership_of, process_of, replied_by}
use Rattle.wf_loop.specs.Lived.{HasLived}
use Rattle.wf_loop.specs.declared.event_loop.EventLoop.{EventLoop}
use Rattle.wf_loop.specs.Membership.{membership_by}
use Rattle.wf_membership.specs.declared.membership.Membership.{Membership}
use Rattle.wf_loop.specs.LoopFault.{LoopFault}
use Rattle.wf_loop.specs.NodePlan.{NodePlan}
use Rattle.wf_node_command.proofs.Learned.{learner_at_first}
use Rattle.wf_node_command.specs.Done.{HasLivedOn, IsNodeDone, IsNodeServed}
use Rattle.wf_node_folder.specs.Fault.{IsFromSystem}
use Rattle.wf_node_folder.specs.FarmPut.{farm_in}
use Rattle.wf_node_folder.specs.Folder.{IsHeardIn, StaysFrom, heard_in}
use Rattle.wf_node_command.specs.Learned.{IsLearner}
use Rattle.wf_node_folder.specs.Ready.{IsJustStarted, IsNodeReady}
use Rattle.wf_node_command.specs.Running.{IsRunning}
use Rattle.wf_node_folder.specs.Start.{IsNodeCause, IsNodeFault, IsUnserved}
use Rattle.wf_node_folder.specs.declared.fault.CommandFault.{CommandFault}
use Rattle.wf_node_folder.specs.declared.fault.CommandFault.TheVariants as faults
use Rattle.wf_node_folder.specs.declared.ready.ReadyNode.{ReadyNode}
use Rattle.wf_peer.specs.Sender.{heard_of}
use Rattle.wf_peer.specs.Told.{IsHeardOf, IsHeardText, IsHeardLeft, TellsNoMoreOf}
use Rattle.wf_peer.specs.declared.heard.Heard.{Heard as HeardOfNode}
use Rattle.wf_rejoin.specs.Replacements.{latest_of}
use Rattle.wf_rejoin.specs.declared.replacement.Replacement.{Replacement}
use Rattle.wf_sockets.specs.declared.connection.Connection.{Ghosts as Connection}
use Rattle.wf_store.specs.Call.{Call, locked}
use Rattle.wf_tape.specs.declared.tape.Tape.{Ghosts as Tape}
use Rattle.wf_visitors.specs.Visitors.{responses_of}

system_cause : (line : NodeLine) (old new : List Call) (fault : CommandFault) → IsFromSystem fault → IsNodeCause line old new fault
system_cause line old new (faults.BadPeer index) is = absurd is
system_cause line old new (faults.PeerCount count) is = absurd is
system_cause line old new (faults.BadAddress option) is = absurd is
system_cause line old new (faults.Rejected why) is = absurd is
system_cause line old new (faults.PeerProgress why) is = absurd is
system_cause line old new (faults.Replacement why) is = absurd is
system_cause line old new (faults.TapeBad offset) is = absurd is
system_cause line old new fault is = is

-- what is left of what was heard was heard
left_hears : (known : Option HeardOfNode) (latest : Option Replacement) (left : Option HeardOfNode) → IsHeardLeft known latest left → (m : Message) → TellsNoMoreOf left (view m) → TellsNoMoreOf known (view m)
left_hears None latest left is m tells = subst (λ (h : Option HeardOfNode). TellsNoMoreOf h (view m)) is tells
left_hears (Some known) None left is m tells = subst (λ (h : Option HeardOfNode). TellsNoMoreOf h (view m)) is tells
left_hears (Some known) (Some latest) left is m tells = elim is [
  | inl same ↦ subst (λ (h : Option HeardOfNode). TellsNoMoreOf h (view m)) same.1 tells
  | inr other ↦ absurd (subst (λ (h : Option HeardOfNode). TellsNoMoreOf h (view m)) other.1 tells)
]

module _ {T : Type 0} (tapes : Tape T) where
  pub kept_still : (process : Process T tapes) → KeepsEarlier tapes process process
  kept_still process = λ past earlier. earlier

  pub kept_same : (before after : Process T tapes) → after ≡ before → KeepsEarlier tapes before after
  kept_same before after same = λ past earlier. subst (λ (p : Process T tapes). IsEarlier tapes past p) (sym same) earlier

  -- it was time to open the tape of a halted node again
  pub kept_due : {N C L : Type 0} {connections : Connection C} (event_loop : EventLoop T N C L tapes connections) (after : Process T tapes) (due : Bool) → (IsTrue due ↔ IsReopeningDue event_loop) → due ≡ true → ((process_of event_loop).actor.node.halted ≡ true → KeepsEarlier tapes (process_of event_loop) after)
      → KeepsEarlier tapes (process_of event_loop) after
  kept_due event_loop after due decides is keeps = keeps (decides.0 is).0

  -- the event loop's process, at whatever end, is a later moment of the one that it began with
  pub lived_on : {N C L : Type 0} {connections : Connection C} (begun event_loop : EventLoop T N C L tapes connections) (plan : NodePlan) (calls : List Call) → HasLived tapes (process_of event_loop) → HasAnswered tapes event_loop → HasRepliedEarlier tapes event_loop
      → KeepsEarlier tapes (process_of begun) (process_of event_loop) → IsHeardFirst (heard_in calls) event_loop → membership_of event_loop ≡ membership_by plan → (IsSome plan.joining → IsLearner tapes event_loop)
      → HasLivedOn tapes (process_of begun) plan calls
  lived_on begun event_loop plan calls lived answered replied keeps heard goes_by learns = record {
    voter = event_loop.voter;
    lived = lived;
    befores = event_loop.clients.before.items;
    clients = responses_of event_loop.clients.visitors;
    afters = event_loop.clients.after.items;
    answered = answered.each;
    answering = answered.earlier;
    exchanges = replied_by event_loop;
    replied = replied;
    earlier = keeps (process_of begun) (its_own tapes (process_of begun));
    heard = heard;
    went_by = goes_by;
    learned = λ joins. (learns joins).1;
  }

  -- a node that is ready was served, as that of a folder that joins if it does
  pub served_first : {N C L : Type 0} {connections : Connection C} (ready : ReadyNode T tapes) (event_loop held : EventLoop T N C L tapes connections) (old began new : List Call) → IsJustStarted tapes ready old → process_of event_loop ≡ ready.process → held ≡ event_loop
      → (IsSome ready.plan.joining → IsJoiner event_loop) → membership_of event_loop ≡ membership_by ready.plan → began ≡ old
      → ((plan : NodePlan) → membership_of held ≡ membership_by plan → (IsSome plan.joining → IsLearner tapes held) → HasLivedOn tapes (process_of held) plan new) → ∥ StaysFrom began new ∥₁
      → IsNodeServed tapes ready.process ready.plan old new (Ok tt)
  served_first {N} {C} {L} {connections} ready event_loop held old began new fresh same is joins goes_by stood on stays =
      let held_is : process_of held ≡ ready.process = ap (λ (h : EventLoop T N C L tapes connections). process_of h) is ∙ same in
      let held_joins : IsSome ready.plan.joining → IsJoiner held = λ some. subst (λ (h : EventLoop T N C L tapes connections). IsJoiner h) (sym is) (joins some) in
      let held_by : membership_of held ≡ membership_by ready.plan = ap (λ (h : EventLoop T N C L tapes connections). membership_of h) is ∙ goes_by in
      let lived : HasLivedOn tapes (process_of held) ready.plan new =
      on ready.plan held_by (λ some. learner_at_first tapes held ready.process held_is fresh.begun fresh.first (held_joins some)) in (
        subst (λ (p : Process T tapes). HasLivedOn tapes p ready.plan new) held_is lived,
        subst (λ (calls : List Call). ∥ StaysFrom calls new ∥₁) stood stays,
      )

  -- an event loop that is over stays
  pub over_still : {N C L : Type 0} {connections : Connection C} (first now next : EventLoop T N C L tapes connections) (over : Bool) → (IsTrue over ↔ IsOver now) → over ≡ false → (IsOver first → now ≡ first) → IsOver first → next ≡ first
  over_still {N} {C} {L} {connections} first now next over decides not same is =
      absurd (false≢true (sym not ∙ decides.1 (subst (λ (h : EventLoop T N C L tapes connections). IsOver h) (sym (same is)) is)))

  -- nothing was given to it yet, and what it heard is in the file
  none_given_yet : (known : List (Option HeardOfNode)) → AreHeardFrom known []
  unfolding AreHeardFrom
  none_given_yet known = tt

  none_given : (known : List (Option HeardOfNode)) (given : List (Message × Origin)) → given ≡ [] → AreHeardFrom known given
  none_given known given none = subst (λ (xs : List (Message × Origin)). AreHeardFrom known xs) (sym none) (none_given_yet known)

  none_ended_yet : (known : List (Option HeardOfNode)) → AreRunsHeardFrom tapes known []
  unfolding AreRunsHeardFrom
  none_ended_yet known = tt

  no_runs : (known : List (Option HeardOfNode)) (runs : List (Actor T tapes × ℕ)) → runs ≡ [] → AreRunsHeardFrom tapes known runs
  no_runs known runs none = subst (λ (xs : List (Actor T tapes × ℕ)). AreRunsHeardFrom tapes known xs) (sym none) (none_ended_yet known)

  heard_at_first : {N C L : Type 0} {connections : Connection C} (ready : ReadyNode T tapes) (event_loop : EventLoop T N C L tapes connections) (calls : List Call) → IsJustStarted tapes ready calls → process_of event_loop ≡ ready.process → kept_of event_loop ≡ ready.heard
      → IsHeardFirst (heard_in calls) event_loop
  heard_at_first ready event_loop calls fresh same kept = record {
    known = fresh.known;
    text = fresh.heard;
    all = λ i m is. left_hears (heard_of fresh.known i) (latest_of ready.plan.replacements i) (heard_of ready.heard i) (fresh.left i) m (subst (λ (k : List (Option HeardOfNode)). IsHeardOf k i (view m)) kept is);
    given = none_given (kept_of event_loop) (process_of event_loop).actor.given.items (ap (λ (p : Process T tapes). p.actor.given.items) same ∙ fresh.begun.given);
    ended = no_runs (kept_of event_loop) (process_of event_loop).ended.items (ap (λ (p : Process T tapes). p.ended.items) same ∙ fresh.first);
  }

  -- so it is of the event loop as it is held, and of the calls as the held folder has them
  pub heard_at_start : {N C L : Type 0} {connections : Connection C} (ready : ReadyNode T tapes) (event_loop held : EventLoop T N C L tapes connections) (calls held_calls : List Call) → IsJustStarted tapes ready calls → process_of event_loop ≡ ready.process
      → kept_of event_loop ≡ ready.heard → held ≡ event_loop → held_calls ≡ calls → IsHeardFirst (heard_in held_calls) held
  heard_at_start {N} {C} {L} {connections} ready event_loop held calls held_calls fresh same kept is are =
      subst (λ (h : EventLoop T N C L tapes connections). IsHeardFirst (heard_in held_calls) h) (sym is)
      (subst (λ (cs : List Call). IsHeardFirst (heard_in cs) event_loop) (sym are) (heard_at_first ready event_loop calls fresh same kept))

  heard_text : (bytes : Option (List ℕ)) (known : List (Option HeardOfNode)) → IsHeardIn bytes known → IsHeardText bytes known
  heard_text None known is = is
  heard_text (Some bytes) known is = is.2

  pub fresh_by : (line : NodeLine) (ready : ReadyNode T tapes) (old mid : List Call) → IsNodeReady tapes line ready old mid → IsNodeFile ready.file → IsJustStarted tapes ready mid
  fresh_by line ready old mid is sound =
      let counted = is.is_ready.is_counted.is_counted in
      record {
        begun = is.is_ready.is_started.begun;
        first = is.is_ready.is_started.first;
        known = is.is_ready.known;
        heard = subst (λ (bytes : Option (List ℕ)). IsHeardText bytes is.is_ready.known) (sym (ap heard_in counted.calls)) (heard_text counted.bytes is.is_ready.known counted.is_heard);
        left = is.is_ready.left;
        put = record { sound = sound; text = ap farm_in counted.calls };
      }

  pub not_served : (process : Process T tapes) (plan : NodePlan) (calls : List Call) (why : LoopFault) → IsNodeServed tapes process plan calls calls (Err (faults.Loop why))
  not_served process plan calls why = (tt, refl)

  -- a node that is ready runs
  pub running_by : (line : NodeLine) (ready : ReadyNode T tapes) (process : Process T tapes) (kept : List (Option HeardOfNode)) (membership : Membership) (old mid new : List Call) → IsNodeReady tapes line ready (locked ∷ old) mid
      → process ≡ ready.process → kept ≡ ready.heard → membership ≡ membership_by ready.plan → new ≡ mid → IsRunning tapes line process kept membership old new
  running_by line ready process kept membership old mid new is same heard goes_by stays = record {
    ready = ready;
    is_ready = subst (λ (calls : List Call). IsNodeReady tapes line ready (locked ∷ old) calls) (sym stays) is;
    same = same;
    heard = heard;
    goes_by = goes_by;
  }

  -- or it doesn't, and only its start was counted
  pub not_started : (line : NodeLine) (ready : ReadyNode T tapes) (old mid new : List Call) (fault : CommandFault) → IsNodeReady tapes line ready (locked ∷ old) mid → IsNodeFile ready.file → IsFromSystem fault → new ≡ mid
      → IsNodeFault line old new fault
  not_started line ready old mid new fault is sound system same = record {
    cause = system_cause line old new fault system;
    left = inr (inr (subst (λ (calls : List Call). IsUnserved line (locked ∷ old) calls) (sym same) (record {
      file = is.file;
      written = ready.file;
      sound = sound;
      no_less = is.is_ready.is_raised.no_less;
      heard = is.is_ready.known;
      is_start = record { admitted = is.admitted; is_admitted = is.is_admitted; is_counted = is.is_ready.is_counted };
    })));
  }

  -- a node that is ready was served, or not
  pub served_by : (line : NodeLine) (ready : ReadyNode T tapes) (old mid new : List Call) (result : Result (Unit {0}) CommandFault) → IsNodeReady tapes line ready (locked ∷ old) mid → IsNodeFile ready.file
      → IsNodeServed tapes ready.process ready.plan mid new result → IsNodeDone tapes line old new result
  served_by line ready old mid new (Ok done) is sound served = record {
    file = is.file;
    written = ready.file;
    sound = sound;
    heard = is.is_ready.known;
    begun = mid;
    is_start = record { admitted = is.admitted; is_admitted = is.is_admitted; is_counted = is.is_ready.is_counted };
    started = ready.process;
    is_started = is.is_ready.is_started;
    on_read = is.is_ready.on_read;
    is_raised = is.is_ready.is_raised;
    plan = ready.plan;
    is_planned = is.is_planned;
    on = served.0;
    stays = served.1;
  }
  served_by line ready old mid new (Err fault) is sound served = not_started line ready old mid new fault is sound served.0 served.1
