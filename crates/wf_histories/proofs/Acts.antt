-- What holds of the acts of a run holds of the first of them.
use Rattle.std.proofs.Common.{◌≡◌, ℕ, zero, suc, Bool, true, false, List, [], ◌∷◌, ◌++◌, take, refl, sym, ap, subst, ◌∙◌, inl, inr, append-nil, append_assoc}
use Rattle.std.proofs.lemmas.List.{map-append}
use Rattle.std.specs.Prelude.{◌==◌, if◌then◌else◌}
use Rattle.wf_actor.specs.Farm.{AreOwn, RunsAreOwn, Step, item_of, items, steps_by, steps_of}
use Rattle.wf_actor.specs.Life.{AreOwnReceived, all_from, delivered}
use Rattle.wf_actor.specs.Sent.{AreCome, AreGivenCome}
use Rattle.wf_actor.specs.declared.actor.Actor.{Actor}
use Rattle.wf_actor.specs.declared.actor.Origin.{Origin}
use Rattle.wf_actor.specs.declared.actor.Origin.TheVariants.{Own, Peer}
use Rattle.wf_execution.specs.Execution.{items_by, items_of}
use Rattle.wf_execution.specs.Run.{Act, AreDone, given_to, outputs}
use Rattle.wf_codec.specs.declared.message.Message.{Message}
use Rattle.wf_model.specs.Chosen.{IsIn}
use Rattle.wf_node.specs.Node.{Node}
use Rattle.wf_tape.specs.declared.tape.Tape.{Ghosts as Tape}
use Rattle.wf_histories.specs.Carried.{AreStepsCome}
use Rattle.wf_histories.specs.Runs.{ComesOf, LifeOf, LivesOf, Made, TracedRun, made_of, steps_made, steps_over}
use Rattle.wf_histories.proofs.Carried.{come_both}

module _ {T : Type 0} where
  pub received_first : (k : ℕ) (emitted : List Message) (acts : List (Act T)) (origins : List Origin) → AreOwnReceived emitted acts origins → AreOwnReceived emitted (take k acts) (take k origins)
  unfolding AreOwnReceived
  received_first zero emitted acts origins received = tt
  received_first (suc k) emitted [] [] received = tt
  received_first (suc k) emitted [] (origin ∷ origins) received = absurd received
  received_first (suc k) emitted (act ∷ acts) [] received = absurd received
  received_first (suc k) emitted (act ∷ acts) (origin ∷ origins) received = (received.0, received_first k (emitted ++ act.outputs) acts origins received.1)

  pub done_first : (tapes : Tape T) (k : ℕ) (node : Node T) (acts : List (Act T)) → AreDone tapes node acts → AreDone tapes node (take k acts)
  done_first tapes zero node acts done = tt
  done_first tapes (suc k) node [] done = tt
  done_first tapes (suc k) node (act ∷ acts) done = (done.0, done_first tapes k act.after acts done.1)

  -- the steps by acts have their items, and hear only their own messages
  pub items_by_acts : (i : ℕ) (emitted : List Message) (acts : List (Act T)) (origins : List Origin) → AreOwnReceived emitted acts origins → items (steps_by i acts origins) ≡ items_by i acts
  unfolding steps_by items_by AreOwnReceived
  items_by_acts i emitted [] origins received = refl
  items_by_acts i emitted (act ∷ acts) [] received = absurd received
  items_by_acts i emitted (act ∷ acts) (origin ∷ origins) received =
      ap (λ rest. record { process = i; takes = act.input; outputs = act.outputs } ∷ rest) (items_by_acts i (emitted ++ act.outputs) acts origins received.1)

  pub own_by_acts : (i : ℕ) (emitted : List Message) (acts : List (Act T)) (origins : List Origin) → AreOwnReceived emitted acts origins → AreOwn emitted (steps_by i acts origins)
  unfolding steps_by AreOwn AreOwnReceived
  own_by_acts i emitted [] origins received = tt
  own_by_acts i emitted (act ∷ acts) [] received = absurd received
  own_by_acts i emitted (act ∷ acts) (origin ∷ origins) received = (received.0, own_by_acts i (emitted ++ act.outputs) acts origins received.1)

  -- and so do these with steps after them that hear what the acts returned
  own_then : (i : ℕ) (emitted : List Message) (acts : List (Act T)) (origins : List Origin) (more : List Step) → AreOwnReceived emitted acts origins → AreOwn (emitted ++ outputs acts) more
      → AreOwn emitted (steps_by i acts origins ++ more)
  unfolding steps_by AreOwn AreOwnReceived outputs
  own_then i emitted [] origins more received own = subst (λ ms. AreOwn ms more) (append-nil emitted) own
  own_then i emitted (act ∷ acts) [] more received own = absurd received
  own_then i emitted (act ∷ acts) (origin ∷ origins) more received own =
      (received.0, own_then i (emitted ++ act.outputs) acts origins more received.1 (subst (λ ms. AreOwn ms more) (sym (append_assoc emitted act.outputs (outputs acts))) own))

-- ---- the items of one process

items_if : (b : Bool) (step : Step) (rest : List Step) → (if b then item_of step ∷ items rest else items rest) ≡ items (if b then step ∷ rest else rest)
items_if true step rest = refl
items_if false step rest = refl

pub items_of_steps : (i : ℕ) (steps : List Step) → items_of i (items steps) ≡ items (steps_of i steps)
unfolding items_of steps_of
items_of_steps i [] = refl
items_of_steps i (step ∷ steps) =
    ap (λ rest. if step.process == i then item_of step ∷ rest else rest) (items_of_steps i steps) ∙ items_if (step.process == i) step (steps_of i steps)

-- ---- runs that were made

module _ {T : Type 0} where
  -- each of them received of its own only what it had returned
  abbrev pub AllReceived : List (TracedRun T) → Type 0
  AllReceived [] = Unit {0}
  AllReceived (traced ∷ later) = AreOwnReceived [] traced.run.acts traced.origins × AllReceived later

  pub record IsReceived (made : Made T) : Type 0 where
    pub over : AllReceived made.over
    pub last : AreOwnReceived [] made.last.run.acts made.last.origins

  own_over : RunsAreOwn → (i : ℕ) (over : List (TracedRun T)) → AllReceived over → AreOwn [] (steps_over i over)
  unfolding steps_over AreOwn
  own_over together i [] received = tt
  own_over together i (traced ∷ later) received =
      together [] (steps_by i traced.run.acts traced.origins) (steps_over i later) (own_by_acts i [] traced.run.acts traced.origins received.0) (own_over together i later received.1)

  -- with steps after them that hear what the last run returned
  pub own_made : RunsAreOwn → (i : ℕ) (made : Made T) (more : List Step) → IsReceived made → AreOwn (outputs made.last.run.acts) more → AreOwn [] (steps_made i made ++ more)
  own_made together i made more received own =
      let last = steps_by i made.last.run.acts made.last.origins in
      subst (λ (steps : List Step). AreOwn [] steps) (sym (append_assoc (steps_over i made.over) last more))
      (together [] (steps_over i made.over) (last ++ more) (own_over together i made.over received.over) (own_then i [] made.last.run.acts made.last.origins more received.last own))

  pub items_made : (i : ℕ) (made : Made T) → IsReceived made → items (steps_made i made) ≡ items (steps_over i made.over) ++ items_by i made.last.run.acts
  items_made i made received =
      map-append item_of (steps_over i made.over) (steps_by i made.last.run.acts made.last.origins)
      ∙ ap (λ rest. items (steps_over i made.over) ++ rest) (items_by_acts i [] made.last.run.acts made.last.origins received.last)

  module _ (tapes : Tape T) where
    pub received_of : (ended : List (Actor T tapes × ℕ)) (now : Actor T tapes) (lives : LivesOf tapes ended now) (over made : ℕ) → IsReceived (made_of tapes ended now lives over made)
    unfolding made_of
    received_of [] now lives over made = record { over = tt; last = received_first made [] lives.run.acts lives.origins lives.received }
    received_of (run ∷ ended) now lives zero made = record { over = tt; last = received_first made [] lives.0.run.acts lives.0.origins lives.0.received }
    received_of (run ∷ ended) now lives (suc over) made =
        let later = received_of ended now lives.1 over made in
        record { over = (lives.0.received, later.over); last = later.last }

-- ---- what came

-- a message that was delivered, with where it came from
pub in_delivered : (m : Message) (origin : Origin) (messages : List Message) (rest : List (Message × Origin)) → IsIn m messages → IsIn (m, origin) (all_from origin messages ++ rest)
in_delivered m origin [] rest there = absurd there
in_delivered m origin (other ∷ messages) rest (inl same) = inl (ap (λ x. (x, origin)) same)
in_delivered m origin (other ∷ messages) rest (inr later) = inr (in_delivered m origin messages rest later)

delivered_come : (origin : Origin) (messages : List Message) (rest : List (Message × Origin)) → AreGivenCome (all_from origin messages ++ rest) → AreCome origin messages
unfolding AreGivenCome
delivered_come Own messages rest come = tt
delivered_come (Peer peer stream) messages rest come = λ m there. come m peer stream (in_delivered m (Peer peer stream) messages rest there)

pub in_rest : (entry : Message × Origin) (origin : Origin) (messages : List Message) (rest : List (Message × Origin)) → IsIn entry rest → IsIn entry (all_from origin messages ++ rest)
in_rest entry origin [] rest there = there
in_rest entry origin (other ∷ messages) rest there = inr (in_rest entry origin messages rest there)

rest_come : (origin : Origin) (messages : List Message) (rest : List (Message × Origin)) → AreGivenCome (all_from origin messages ++ rest) → AreGivenCome rest
unfolding AreGivenCome
rest_come origin messages rest come = λ m peer stream there. come m peer stream (in_rest (m, Peer peer stream) origin messages rest there)

module _ {T : Type 0} where
  -- if what these acts delivered came, so did what the first of them did
  first_come : (i k : ℕ) (acts : List (Act T)) (origins : List Origin) → AreGivenCome (delivered acts origins) → AreStepsCome (steps_by i (take k acts) (take k origins))
  unfolding AreStepsCome steps_by delivered
  first_come i zero acts origins come = tt
  first_come i (suc k) [] origins come = tt
  first_come i (suc k) (act ∷ acts) [] come = tt
  first_come i (suc k) (act ∷ acts) (origin ∷ origins) come = (
    delivered_come origin (given_to act.input) (delivered acts origins) come,
    first_come i k acts origins (rest_come origin (given_to act.input) (delivered acts origins) come),
  )

  acts_come : (i : ℕ) (acts : List (Act T)) (origins : List Origin) → AreGivenCome (delivered acts origins) → AreStepsCome (steps_by i acts origins)
  unfolding AreStepsCome steps_by delivered
  acts_come i [] origins come = tt
  acts_come i (act ∷ acts) [] come = tt
  acts_come i (act ∷ acts) (origin ∷ origins) come = (
    delivered_come origin (given_to act.input) (delivered acts origins) come,
    acts_come i acts origins (rest_come origin (given_to act.input) (delivered acts origins) come),
  )

  record HasCome (i : ℕ) (made : Made T) : Type 0 where
    over : AreStepsCome (steps_over i made.over)
    last : AreStepsCome (steps_by i made.last.run.acts made.last.origins)

  module _ (tapes : Tape T) where
    -- what a run's acts delivered is what was given in it
    as_delivered : (actor : Actor T tapes) (life : LifeOf tapes actor) → AreGivenCome actor.given.items → AreGivenCome (delivered life.run.acts life.origins)
    as_delivered actor life come = subst (λ (given : List (Message × Origin)). AreGivenCome given) (sym life.takes) come

    have_come : (i : ℕ) (ended : List (Actor T tapes × ℕ)) (now : Actor T tapes) (lives : LivesOf tapes ended now) → ComesOf tapes ended now → (over made : ℕ) → HasCome i (made_of tapes ended now lives over made)
    unfolding made_of steps_over AreStepsCome
    have_come i [] now lives come over made = record { over = tt; last = first_come i made lives.run.acts lives.origins (as_delivered now lives come) }
    have_come i (run ∷ ended) now lives come zero made = record { over = tt; last = first_come i made lives.0.run.acts lives.0.origins (as_delivered run.0 lives.0 come.0) }
    have_come i (run ∷ ended) now lives come (suc over) made =
        let later = have_come i ended now lives.1 come.1 over made in
        let next = made_of tapes ended now lives.1 over made in
        record {
          over = come_both (steps_by i lives.0.run.acts lives.0.origins) (steps_over i next.over) (acts_come i lives.0.run.acts lives.0.origins (as_delivered run.0 lives.0 come.0)) later.over;
          last = later.last;
        }

    -- so the steps that a process made came, if what it was given did
    pub made_come : (i : ℕ) (ended : List (Actor T tapes × ℕ)) (now : Actor T tapes) (lives : LivesOf tapes ended now) → ComesOf tapes ended now → (over made : ℕ) →
        AreStepsCome (steps_made i (made_of tapes ended now lives over made))
    made_come i ended now lives come over made =
        let have = have_come i ended now lives come over made in
        let all = made_of tapes ended now lives over made in
        come_both (steps_over i all.over) (steps_by i all.last.run.acts all.last.origins) have.over have.last
