-- The life of a node goes on with each of its steps.
use Rattle.std.proofs.Common.{◌≡◌, ◌⊎◌, inl, inr, ℕ, Bool, true, false, List, [], ◌∷◌, ◌++◌, Vec, Result, Ok, Err, IfOk, IfErr, refl, sym, ap, subst, ◌∙◌, append-nil, append_assoc}
use Rattle.std.specs.declared.alloc.Global.{Global}
use Rattle.wf_execution.specs.Execution.{values_after, values_in}
use Rattle.wf_execution.specs.RunTheorems.{last_more, done_more, fold_stands, outputs_more}
use Rattle.wf_execution.specs.Run.{Act, Input, IsAct, Run, given_to, last_of, outputs}
use Rattle.wf_codec.specs.declared.message.Message.{Message}
use Rattle.wf_edge.specs.StepResult.{IsStepResult}
use Rattle.wf_edge.specs.RequestEffect.{HandsOut, MovesOnce, Stays, Proposes}
use Rattle.wf_delivery.specs.Reachability.{outputs_by}
use Rattle.wf_delivery.proofs.Outcomes.{step_is_answered}
use Rattle.wf_delivery.specs.Outcome.{is_lost}
use Rattle.wf_model.specs.Chosen.{IsIn}
use Rattle.wf_model.specs.declared.action.Action.TheVariants as action
use Rattle.wf_node.specs.Input.{view}
use Rattle.wf_model.specs.VolatileState.{at_start}
use Rattle.wf_node.specs.Node.{Node, stored_of, volatile_of}
use Rattle.wf_node.specs.OpenedNode.{IsRead}
use Rattle.wf_node.specs.Step.{IsTransition, IsSameNode, transition_of}
use Rattle.wf_node.specs.declared.fault.NodeFault.{NodeFault}
use Rattle.wf_tape.specs.declared.tape.Tape.{Ghosts as Tape}
use Rattle.wf_actor.specs.Life.{all_from, delivered, AreAmongValues, AreOwnAmong, AreOwnReceived, AreValuesOf, IsLife, IsOpenedFromLog}
use Rattle.wf_wire.specs.Post.{logged}
use Rattle.wf_actor.specs.declared.actor.Origin.{Origin}
use Rattle.wf_actor.specs.declared.actor.Origin.TheVariants.{Own}
use Rattle.wf_actor.proofs.Runs.{received_more, delivered_more}

-- the log of one more list
pub logged_more : (log : List (Vec Message Global × ℕ)) (messages : Vec Message Global) (count : ℕ) → logged (log ++ (messages, count) ∷ []) ≡ logged log ++ messages.items
unfolding logged
logged_more [] messages count = append-nil messages.items
logged_more (entry ∷ log) messages count =
    ap (λ l. entry.0.items ++ l) (logged_more log messages count) ∙ sym (append_assoc entry.0.items (logged log) messages.items)

pub logged_none : (log : List (Vec Message Global × ℕ)) → log ≡ [] → logged log ≡ []
unfolding logged
logged_none log none = ap logged none

pub logged_grows : (log log' : List (Vec Message Global × ℕ)) (messages : Vec Message Global) → log' ≡ log ++ (messages, 0) ∷ [] → logged log' ≡ logged log ++ messages.items
logged_grows log log' messages more = ap logged more ∙ logged_more log messages 0

-- a step keeps the node's number, and how many there are
module _ {T A : Type 0} (tapes : Tape T) (input : Input) (before after : Node T) (answer : Result (Vec Message A) NodeFault) where
  kept_numbers : (halted : Bool) → before.halted ≡ halted → IsStepResult tapes (view input) before answer after → (after.id ≡ before.id) × (after.n ≡ before.n)
  kept_numbers true is answered = (ap (λ (x : Node T). x.id) (answered.refused is).1, ap (λ (x : Node T). x.n) (answered.refused is).1)
  kept_numbers false is answered = by_result answer (answered.steps is).done (answered.steps is).same
    where
      by_result : (r : Result (Vec Message A) NodeFault) → IfOk r (λ messages. IsTransition before (transition_of before (view input)) messages.items after) → IfErr r (λ fault. IsSameNode before after) →
          (after.id ≡ before.id) × (after.n ≡ before.n)
      by_result (Ok messages) transition same = (transition.id, transition.n)
      by_result (Err why) transition same = (ap (λ (x : Node T). x.id) same, ap (λ (x : Node T). x.n) same)

  pub keeps_numbers : IsStepResult tapes (view input) before answer after → (after.id ≡ before.id) × (after.n ≡ before.n)
  keeps_numbers answered = kept_numbers before.halted refl answered

-- so does a request
pub moves_numbers : {T : Type 0} (tapes : Tape T) (before after : Node T) (outputs : Vec Message Global) → MovesOnce tapes before outputs after → (after.id ≡ before.id) × (after.n ≡ before.n)
moves_numbers {T} tapes before after outputs (Stays unmoved) = (ap (λ (x : Node T). x.id) unmoved.same, ap (λ (x : Node T). x.n) unmoved.same)
moves_numbers tapes before after outputs (Proposes d result proposed hands) = keeps_numbers tapes (action.Propose d) before after result proposed

-- ---- the values that the node had

module _ {T : Type 0} where
  -- with one act more it had one value more
  had_more : (node : Node T) (acts : List (Act T)) (act : Act T) → IsIn node (values_after acts) → IsIn node (values_after (acts ++ act ∷ []))
  unfolding values_after
  had_more node [] act is = absurd is
  had_more node (first ∷ acts) act (inl is) = inl is
  had_more node (first ∷ acts) act (inr is) = inr (had_more node acts act is)

  had_last : (acts : List (Act T)) (act : Act T) → IsIn act.after (values_after (acts ++ act ∷ []))
  unfolding values_after
  had_last [] act = inl refl
  had_last (first ∷ acts) act = inr (had_last acts act)

  abbrev with_act : Run T → Act T → Run T
  with_act run act = record { first = run.first; acts = run.acts ++ act ∷ [] }

  still_had : (run : Run T) (act : Act T) (node : Node T) → IsIn node (values_in run) → IsIn node (values_in (with_act run act))
  still_had run act node (inl is) = inl is
  still_had run act node (inr is) = inr (had_more node run.acts act is)

  still_among : (run : Run T) (act : Act T) (log : List (Node T × ℕ)) → AreAmongValues log (values_in run) → AreAmongValues log (values_in (with_act run act))
  still_among run act [] are = tt
  still_among run act (entry ∷ log) are = (still_had run act entry.0 are.0, still_among run act log are.1)

  among_and : (log : List (Node T × ℕ)) (node : Node T) (values : List (Node T)) → AreAmongValues log values → IsIn node values → AreAmongValues (log ++ (node, 0) ∷ []) values
  among_and [] node values are is = (is, tt)
  among_and (entry ∷ log) node values are is = (are.0, among_and log node values are.1 is)

  values_begin : (node : Node T) (stood : List (Node T × ℕ)) → stood ≡ (node, 0) ∷ [] → AreValuesOf stood (record { first = node; acts = [] }) node
  unfolding values_after
  values_begin node stood is = record {
    later = [];
    first = is;
    earlier = [];
    now = is;
    each = subst (λ (log : List (Node T × ℕ)). AreAmongValues log (node ∷ [])) (sym is) (inl refl, tt);
  }

  -- one that it had in the run is one more in the log
  values_and : (stood stood' : List (Node T × ℕ)) (run : Run T) (node after : Node T) → AreValuesOf stood run node → IsIn after (values_in run) → stood' ≡ stood ++ (after, 0) ∷ [] → AreValuesOf stood' run after
  values_and stood stood' run node after are had more = record {
    later = are.later ++ (after, 0) ∷ [];
    first = more ∙ ap (λ (log : List (Node T × ℕ)). log ++ (after, 0) ∷ []) are.first;
    earlier = stood;
    now = more;
    each = subst (λ (log : List (Node T × ℕ)). AreAmongValues log (values_in run)) (sym more) (among_and stood after (values_in run) are.each had);
  }

  values_act : (stood : List (Node T × ℕ)) (run : Run T) (node : Node T) (act : Act T) → AreValuesOf stood run node → AreValuesOf (stood ++ (act.after, 0) ∷ []) (with_act run act) act.after
  values_act stood run node act are =
      values_and stood (stood ++ (act.after, 0) ∷ []) (with_act run act) node act.after
      (record { later = are.later; first = are.first; earlier = are.earlier; now = are.now; each = still_among run act stood are.each }) (inr (had_last run.acts act)) refl

module _ {T : Type 0} (tapes : Tape T) where
  -- ---- it begins

  -- what opening promises, of a tape that was logged before it
  pub opened_from : (tape : T) (i n : ℕ) (node : Node T) (start read_from : List (T × ℕ)) → start ≡ [] → read_from ≡ start ++ (tape, 0) ∷ [] → node.id ≡ i → node.n ≡ n → node.halted ≡ false →
      volatile_of node ≡ at_start → IsRead tapes.durable (tapes.content tape) (stored_of node) → IsOpenedFromLog tapes read_from node
  opened_from tape i n node start read_from none logs own among runs idle found = record {
    tape = tape;
    only = logs ∙ ap (λ (l : List (T × ℕ)). l ++ (tape, 0) ∷ []) none;
    opened = record {
      bytes = found.bytes;
      opened = record { id = refl; among = refl; runs = runs; stored = fold_stands (stored_of node) found.bytes found.folds; idle = idle };
      same = found.same;
    };
  }

  pub life_begins : (node : Node T) (read_from : List (T × ℕ)) (stood : List (Node T × ℕ)) (given : List (Message × Origin)) (emitted : List Message) → IsOpenedFromLog tapes read_from node →
      stood ≡ (node, 0) ∷ [] → given ≡ [] → emitted ≡ [] → IsLife tapes read_from stood given emitted node
  unfolding last_of outputs delivered AreOwnReceived
  life_begins node read_from stood given emitted opened first no_given no_reported = record {
    run = record { first = node; acts = [] };
    origins = [];
    opened = opened;
    number = refl;
    among = refl;
    done = tt;
    values = values_begin node stood first;
    now = refl;
    sends = sym no_reported;
    takes = sym no_given;
    received = tt;
  }

  pub life_opens : (node here : Node T) (read_from : List (T × ℕ)) (start stood : List (Node T × ℕ)) (given : List (Message × Origin)) (log : List (Vec Message Global × ℕ)) → IsOpenedFromLog tapes read_from node → here ≡ node →
      start ≡ [] → stood ≡ start ++ (node, 0) ∷ [] → given ≡ [] → log ≡ [] → IsLife tapes read_from stood given (logged log) here
  life_opens node here read_from start stood given log opened same none first no_given no_log =
      life_begins here read_from stood given (logged log)
      (subst (λ (x : Node T). IsOpenedFromLog tapes read_from x) (sym same) opened)
      (first ∙ ap (λ (l : List (Node T × ℕ)). l ++ (node, 0) ∷ []) none ∙ ap (λ (x : Node T). (x, 0) ∷ []) (sym same)) no_given (logged_none log no_log)

  -- ---- it goes on

  module _ (read_from : List (T × ℕ)) (stood : List (Node T × ℕ)) (given : List (Message × Origin)) (emitted : List Message) (node : Node T) (life : IsLife tapes read_from stood given emitted node) where
    -- with the same messages, spelled otherwise, and the node once more in its log
    pub life_stays : (stood' : List (Node T × ℕ)) (given' : List (Message × Origin)) (emitted' : List Message) (node' : Node T) → stood' ≡ stood ++ (node', 0) ∷ [] → given' ≡ given → emitted' ≡ emitted → node' ≡ node →
        IsLife tapes read_from stood' given' emitted' node'
    life_stays stood' given' emitted' node' e f g h = record {
      run = life.run;
      origins = life.origins;
      opened = life.opened;
      number = ap (λ (x : Node T). x.id) h ∙ life.number;
      among = ap (λ (x : Node T). x.n) h ∙ life.among;
      done = life.done;
      values = values_and stood stood' life.run node node' life.values (subst (λ (x : Node T). IsIn x (values_in life.run)) (sym h) its_own) e;
      now = life.now ∙ sym h;
      sends = life.sends ∙ sym g;
      takes = life.takes ∙ sym f;
      received = life.received;
    }
      where
        last_among : (log : List (Node T × ℕ)) (values : List (Node T)) → AreAmongValues (log ++ (node, 0) ∷ []) values → IsIn node values
        last_among [] values are = are.0
        last_among (entry ∷ log) values are = last_among log values are.1

        its_own : IsIn node (values_in life.run)
        its_own = last_among life.values.earlier (values_in life.run) (subst (λ (log : List (Node T × ℕ)). AreAmongValues log (values_in life.run)) life.values.now life.values.each)

    -- by one more act
    life_acts : (act : Act T) (origin : Origin) → IsAct tapes node act → (act.after.id ≡ node.id) × (act.after.n ≡ node.n) → AreOwnAmong emitted origin (given_to act.input) →
        IsLife tapes read_from (stood ++ (act.after, 0) ∷ []) (given ++ all_from origin (given_to act.input)) (emitted ++ act.outputs) act.after
    life_acts act origin is numbers own = record {
      run = record { first = life.run.first; acts = life.run.acts ++ act ∷ [] };
      origins = life.origins ++ origin ∷ [];
      opened = life.opened;
      number = numbers.0 ∙ life.number;
      among = numbers.1 ∙ life.among;
      done = done_more tapes life.run.first life.run.acts act life.done (subst (λ (x : Node T). IsAct tapes x act) (sym life.now) is);
      values = values_act stood life.run node act life.values;
      now = last_more life.run.first life.run.acts act;
      sends = outputs_more life.run.acts act ∙ ap (λ l. l ++ act.outputs) life.sends;
      takes = delivered_more act origin [] life.run.acts life.origins life.received ∙ ap (λ l. l ++ all_from origin (given_to act.input)) life.takes;
      received = received_more act origin [] life.run.acts life.origins life.received (subst (λ l. AreOwnAmong l origin (given_to act.input)) (sym life.sends) own);
    }

    -- by one more step
    pub life_steps : (input : Input) (origin : Origin) (answer : Result (Vec Message Global) NodeFault) (after : Node T) → IsStepResult tapes (view input) node answer after →
        AreOwnAmong emitted origin (given_to input) → IsLife tapes read_from (stood ++ (after, 0) ∷ []) (given ++ all_from origin (given_to input)) (emitted ++ outputs_by answer) after
    life_steps input origin answer after answered own =
        life_acts (record { input = input; outputs = outputs_by answer; after = after }) origin
        (record { lost = is_lost answer; takes = step_is_answered tapes node after (view input) answer answered.refused answered.steps })
        (keeps_numbers tapes input node after answer answered) own

    pub life_steps_now : (input : Input) (origin : Origin) (answer : Result (Vec Message Global) NodeFault) (after : Node T) → IsStepResult tapes (view input) node answer after →
        AreOwnAmong emitted origin (given_to input) → (stood' : List (Node T × ℕ)) (given' : List (Message × Origin)) (emitted' : List Message) → stood' ≡ stood ++ (after, 0) ∷ [] → given' ≡ given ++ all_from origin (given_to input) →
        emitted' ≡ emitted ++ outputs_by answer → IsLife tapes read_from stood' given' emitted' after
    life_steps_now input origin answer after answered own stood' given' emitted' e f g =
        subst (λ (b : List (Node T × ℕ)). IsLife tapes read_from b given' emitted' after) (sym e)
        (subst (λ (l : List (Message × Origin)). IsLife tapes read_from (stood ++ (after, 0) ∷ []) l emitted' after) (sym f)
        (subst (λ (l : List Message). IsLife tapes read_from (stood ++ (after, 0) ∷ []) (given ++ all_from origin (given_to input)) l after) (sym g)
        (life_steps input origin answer after answered own)))

    -- by a request, which may be a step
    handed : (result : Result (Vec Message Global) NodeFault) (outputs : Vec Message Global) → HandsOut result outputs → outputs_by result ≡ outputs.items
    handed (Ok messages) outputs hands = ap (λ (v : Vec Message Global). v.items) (sym hands)
    handed (Err why) outputs hands = sym hands

    pub life_serves : (outputs : Vec Message Global) (after : Node T) → MovesOnce tapes node outputs after → (stood' : List (Node T × ℕ)) (given' : List (Message × Origin)) (emitted' : List Message) →
        stood' ≡ stood ++ (after, 0) ∷ [] → given' ≡ given → emitted' ≡ emitted ++ outputs.items → IsLife tapes read_from stood' given' emitted' after
    life_serves outputs after (Stays unmoved) stood' given' emitted' e f g =
        life_stays stood' given' emitted' after e f (g ∙ ap (λ l. emitted ++ l) unmoved.quiet ∙ append-nil emitted) unmoved.same
    life_serves outputs after (Proposes d result proposed hands) stood' given' emitted' e f g =
        life_steps_now (action.Propose d) Own result after proposed (λ m is. absurd is) stood' given' emitted' e (f ∙ sym (append-nil given)) (g ∙ ap (λ l. emitted ++ l) (sym (handed result outputs hands)))

-- what a step returns is logged
pub reported_more : (log log' : List (Vec Message Global × ℕ)) (answer : Result (Vec Message Global) NodeFault) (messages : Vec Message Global) → answer ≡ Ok messages → log' ≡ log ++ (messages, 0) ∷ [] →
    logged log' ≡ logged log ++ outputs_by answer
reported_more log log' answer messages is more =
    ap logged more ∙ logged_more log messages 0 ∙ ap (λ (r : Result (Vec Message Global) NodeFault). logged log ++ outputs_by r) (sym is)

pub reported_nothing : (log : List (Vec Message Global × ℕ)) (answer : Result (Vec Message Global) NodeFault) (why : NodeFault) → answer ≡ Err why → logged log ≡ logged log ++ outputs_by answer
reported_nothing log answer why is = sym (append-nil (logged log)) ∙ ap (λ (r : Result (Vec Message Global) NodeFault). logged log ++ outputs_by r) (sym is)
