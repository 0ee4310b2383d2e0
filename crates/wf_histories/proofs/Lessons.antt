-- What a process was given and returned whose folder joins: its steps learn.
use Rattle.std.proofs.Common.{◌≡◌, ℕ, zero, suc, Bool, true, false, List, [], ◌∷◌, ◌++◌, take, None, refl, sym, ap, subst, ◌∙◌, inl, inr, append_assoc, append-nil}
use Rattle.std.proofs.lemmas.Bool.{false≢true}
use Rattle.std.specs.Prelude.{if◌then◌else◌}
use Rattle.wf_actor.specs.Farm.{AreCarried, AreOwn, ArePeersAmong, Step, items, steps_by}
use Rattle.wf_actor.specs.Life.{AreOwnAmong, delivered}
use Rattle.wf_actor.specs.declared.actor.Actor.{Actor}
use Rattle.wf_actor.specs.declared.actor.Origin.{Origin}
use Rattle.wf_actor.specs.declared.actor.Origin.TheVariants.{Own, Peer}
use Rattle.wf_execution.specs.Execution.{Ended, Item, items_at, items_by, items_in}
use Rattle.wf_execution.specs.Run.{Act, Between, RunEnd, Failed, Input, Within, given_to, outputs}
use Rattle.wf_codec.specs.declared.message.Message.{Message}
use Rattle.wf_codec.specs.declared.message.Message.TheVariants as code
use Rattle.wf_model.specs.Chosen.{IsIn}
use Rattle.wf_model.specs.declared.action.Action.TheVariants as action
use Rattle.wf_node_command.specs.Learned.{HaveOnlyLearned, IsLearning}
use Rattle.wf_rejoin_guard.specs.Learned.{ActsLearn, EndLearns, LearnsBy, RunsLearn, SaysChosen}
use Rattle.wf_tape.specs.declared.tape.Tape.{Ghosts as Tape}
use Rattle.wf_voter.specs.Continuation.{besides_chosen, besides_questions, is_ask, is_chosen}
use Rattle.wf_histories.specs.Runs.{LifeOf, LivesOf, Made, made_of, steps_made, steps_over}
use Rattle.wf_histories.proofs.Acts.{in_delivered, in_rest}
use Rattle.wf_histories.proofs.Turns.{in_either, in_first, in_second}

-- ---- messages

says_chosen : (m : Message) → is_chosen m ≡ true → SaysChosen m
says_chosen (code.Prepare s b) is = absurd (false≢true is)
says_chosen (code.Promise i b report) is = absurd (false≢true is)
says_chosen (code.Accept s b d) is = absurd (false≢true is)
says_chosen (code.Accepted i s b) is = absurd (false≢true is)
says_chosen (code.Nack i s b q) is = absurd (false≢true is)
says_chosen (code.Chosen s d) is = record { sequence = s; definition = d; is = refl }
says_chosen (code.Ask s) is = absurd (false≢true is)

-- no question says what is published
not_both : (m : Message) → is_ask m ≡ true → is_chosen m ≡ true → ⊥
not_both (code.Prepare s b) asks is = false≢true is
not_both (code.Promise i b report) asks is = false≢true is
not_both (code.Accept s b d) asks is = false≢true is
not_both (code.Accepted i s b) asks is = false≢true is
not_both (code.Nack i s b q) asks is = false≢true is
not_both (code.Chosen s d) asks is = false≢true asks
not_both (code.Ask s) asks is = false≢true is

abbrev pub AreChosen : List Message → Type 0
AreChosen messages = (m : Message) → IsIn m messages → is_chosen m ≡ true

abbrev pub AreAsks : List Message → Type 0
AreAsks messages = (m : Message) → IsIn m messages → is_ask m ≡ true

abbrev is_nil : {A : Type 0} → List A → Bool
is_nil [] = true
is_nil (x ∷ xs) = false

none_kept : {A : Type 0} (b : Bool) (x : A) (xs : List A) → (if b then xs else x ∷ xs) ≡ [] → (b ≡ true) × (xs ≡ [])
none_kept true x xs e = (refl, e)
none_kept false x xs e = absurd (false≢true (ap is_nil e))

-- all that was given in a run says what is published, and all that was returned asks for that
chosen_in : (given : List (Message × Origin)) → besides_chosen given ≡ [] → (entry : Message × Origin) → IsIn entry given → is_chosen entry.0 ≡ true
unfolding besides_chosen
chosen_in [] none entry there = absurd there
chosen_in (first ∷ given) none entry (inl same) = ap (λ (e : Message × Origin). is_chosen e.0) same ∙ (none_kept (is_chosen first.0) first (besides_chosen given) none).0
chosen_in (first ∷ given) none entry (inr later) = chosen_in given (none_kept (is_chosen first.0) first (besides_chosen given) none).1 entry later

asked_in : (messages : List Message) → besides_questions messages ≡ [] → AreAsks messages
unfolding besides_questions
asked_in [] none m there = absurd there
asked_in (first ∷ messages) none m (inl same) = ap is_ask same ∙ (none_kept (is_ask first) first (besides_questions messages) none).0
asked_in (first ∷ messages) none m (inr later) = asked_in messages (none_kept (is_ask first) first (besides_questions messages) none).1 m later

both_ask : (xs ys : List Message) → AreAsks xs → AreAsks ys → AreAsks (xs ++ ys)
both_ask xs ys first second = λ m there. elim (in_either m xs ys there) [
  | inl front ↦ first m front
  | inr back ↦ second m back
]

-- ---- the steps of a process

-- a step was given nothing but what says what is published, and returned nothing but questions
pub record IsLesson (step : Step) : Type 0 where
  pub given : AreChosen (given_to step.takes)
  pub returned : AreAsks step.outputs

abbrev pub AreLessons : List Step → Type 0
AreLessons [] = Unit {0}
AreLessons (step ∷ steps) = IsLesson step × AreLessons steps

lessons_both : (steps more : List Step) → AreLessons steps → AreLessons more → AreLessons (steps ++ more)
lessons_both [] more first second = second
lessons_both (step ∷ steps) more first second = (first.0, lessons_both steps more first.1 second)

module _ {T : Type 0} where
  -- the acts of a run, and the first of them
  abbrev AreGivenChosen : List (Act T) → List Origin → Type 0
  AreGivenChosen acts origins = (entry : Message × Origin) → IsIn entry (delivered acts origins) → is_chosen entry.0 ≡ true

  first_given : (act : Act T) (acts : List (Act T)) (origin : Origin) (origins : List Origin) → AreGivenChosen (act ∷ acts) (origin ∷ origins) → AreChosen (given_to act.input)
  unfolding delivered
  first_given act acts origin origins given = λ m there. given (m, origin) (in_delivered m origin (given_to act.input) (delivered acts origins) there)

  rest_given : (act : Act T) (acts : List (Act T)) (origin : Origin) (origins : List Origin) → AreGivenChosen (act ∷ acts) (origin ∷ origins) → AreGivenChosen acts origins
  unfolding delivered
  rest_given act acts origin origins given = λ entry there. given entry (in_rest entry origin (given_to act.input) (delivered acts origins) there)

  first_returned : (act : Act T) (acts : List (Act T)) → AreAsks (outputs (act ∷ acts)) → AreAsks act.outputs
  unfolding outputs
  first_returned act acts returned = λ m there. returned m (in_first m act.outputs (outputs acts) there)

  rest_returned : (act : Act T) (acts : List (Act T)) → AreAsks (outputs (act ∷ acts)) → AreAsks (outputs acts)
  unfolding outputs
  rest_returned act acts returned = λ m there. returned m (in_second m act.outputs (outputs acts) there)

  lessons_by : (i : ℕ) (acts : List (Act T)) (origins : List Origin) → AreGivenChosen acts origins → AreAsks (outputs acts) → AreLessons (steps_by i acts origins)
  unfolding steps_by
  lessons_by i [] origins given returned = tt
  lessons_by i (act ∷ acts) [] given returned = tt
  lessons_by i (act ∷ acts) (origin ∷ origins) given returned = (
    record { given = first_given act acts origin origins given; returned = first_returned act acts returned },
    lessons_by i acts origins (rest_given act acts origin origins given) (rest_returned act acts returned),
  )

  first_lessons : (i k : ℕ) (acts : List (Act T)) (origins : List Origin) → AreGivenChosen acts origins → AreAsks (outputs acts) → AreLessons (steps_by i (take k acts) (take k origins))
  unfolding steps_by
  first_lessons i zero acts origins given returned = tt
  first_lessons i (suc k) [] origins given returned = tt
  first_lessons i (suc k) (act ∷ acts) [] given returned = tt
  first_lessons i (suc k) (act ∷ acts) (origin ∷ origins) given returned = (
    record { given = first_given act acts origin origins given; returned = first_returned act acts returned },
    first_lessons i k acts origins (rest_given act acts origin origins given) (rest_returned act acts returned),
  )

  record HasLessons (i : ℕ) (made : Made T) : Type 0 where
    over : AreLessons (steps_over i made.over)
    last : AreLessons (steps_by i made.last.run.acts made.last.origins)

  module _ (tapes : Tape T) where
    module _ (actor : Actor T tapes) (life : LifeOf tapes actor) (learning : IsLearning tapes actor) where
      its_given : AreGivenChosen life.run.acts life.origins
      its_given = chosen_in (delivered life.run.acts life.origins) (ap besides_chosen life.takes ∙ learning.given)

      its_returned : AreAsks (outputs life.run.acts)
      its_returned = asked_in (outputs life.run.acts) (ap besides_questions life.sends ∙ learning.returned)

      run_lessons : (i : ℕ) → AreLessons (steps_by i life.run.acts life.origins)
      run_lessons i = lessons_by i life.run.acts life.origins its_given its_returned

      cut_lessons : (i made : ℕ) → AreLessons (steps_by i (take made life.run.acts) (take made life.origins))
      cut_lessons i made = first_lessons i made life.run.acts life.origins its_given its_returned

    have_lessons : (i : ℕ) (ended : List (Actor T tapes × ℕ)) (now : Actor T tapes) (lives : LivesOf tapes ended now) → HaveOnlyLearned tapes ended → IsLearning tapes now → (over made : ℕ) →
        HasLessons i (made_of tapes ended now lives over made)
    unfolding made_of steps_over HaveOnlyLearned
    have_lessons i [] now lives learned learning over made = record { over = tt; last = cut_lessons now lives learning i made }
    have_lessons i (run ∷ ended) now lives learned learning zero made = record { over = tt; last = cut_lessons run.0 lives.0 learned.0 i made }
    have_lessons i (run ∷ ended) now lives learned learning (suc over) made =
        let later = have_lessons i ended now lives.1 learned.1 learning over made in
        let next = made_of tapes ended now lives.1 over made in
        record { over = lessons_both (steps_by i lives.0.run.acts lives.0.origins) (steps_over i next.over) (run_lessons run.0 lives.0 learned.0 i) later.over; last = later.last }

    pub made_lessons : (i : ℕ) (ended : List (Actor T tapes × ℕ)) (now : Actor T tapes) (lives : LivesOf tapes ended now) → HaveOnlyLearned tapes ended → IsLearning tapes now → (over made : ℕ) →
        AreLessons (steps_made i (made_of tapes ended now lives over made))
    made_lessons i ended now lives learned learning over made =
        let have = have_lessons i ended now lives learned learning over made in
        let all = made_of tapes ended now lives over made in
        lessons_both (steps_over i all.over) (steps_by i all.last.run.acts all.last.origins) have.over have.last

-- ---- what they learn

module _ (sent : List Message) where
  abbrev pub ItemsLearn : List Item → Type 0
  ItemsLearn [] = Unit {0}
  ItemsLearn (item ∷ later) = LearnsBy sent item.takes × ItemsLearn later

  pub learn_both : (first more : List Item) → ItemsLearn first → ItemsLearn more → ItemsLearn (first ++ more)
  learn_both [] more learn later = later
  learn_both (item ∷ first) more learn later = (learn.0, learn_both first more learn.1 later)

  pub learn_each : (first more : List Item) → ItemsLearn (first ++ more) → ItemsLearn first × ItemsLearn more
  learn_each [] more learn = (tt, learn)
  learn_each (item ∷ first) more learn =
      let rest = learn_each first more learn.1 in
      ((learn.0, rest.0), rest.1)

  -- what is delivered isn't one of the questions that the node returned
  one_learns : (asked : List Message) (m : Message) → AreAsks asked → is_chosen m ≡ true → IsIn m (sent ++ asked) → LearnsBy sent (action.Deliver m)
  one_learns asked m asks chosen there = elim (in_either m sent asked there) [
    | inl front ↦ (front, says_chosen m chosen)
    | inr back ↦ absurd (not_both m (asks m back) chosen)
  ]

  step_learns : (asked : List Message) (origin : Origin) (input : Input) → AreAsks asked → AreChosen (given_to input) → AreOwnAmong asked origin (given_to input) → ArePeersAmong (sent ++ asked) origin (given_to input) → LearnsBy sent input
  step_learns asked origin (action.Propose d) asks chosen own peers = tt
  step_learns asked origin action.Retry asks chosen own peers = tt
  step_learns asked origin action.CatchUp asks chosen own peers = tt
  step_learns asked Own (action.Deliver m) asks chosen own peers = absurd (not_both m (asks m (own m (inl refl))) (chosen m (inl refl)))
  step_learns asked (Peer peer stream) (action.Deliver m) asks chosen own peers = one_learns asked m asks (chosen m (inl refl)) (peers m (inl refl))

  steps_learn : (asked : List Message) (steps : List Step) → AreAsks asked → AreLessons steps → AreOwn asked steps → AreCarried (sent ++ asked) steps → ItemsLearn (items steps)
  unfolding AreOwn AreCarried
  steps_learn asked [] asks lessons own carried = tt
  steps_learn asked (step ∷ steps) asks lessons own carried = (
    step_learns asked step.origin step.takes asks lessons.0.given own.0 carried.0,
    steps_learn (asked ++ step.outputs) steps (both_ask asked step.outputs asks lessons.0.returned) lessons.1 own.1
        (subst (λ (ms : List Message). AreCarried ms steps) (append_assoc sent asked step.outputs) carried.1),
  )

  pub none_asked : (steps : List Step) → AreLessons steps → AreOwn [] steps → AreCarried sent steps → ItemsLearn (items steps)
  none_asked steps lessons own carried =
      steps_learn [] steps (λ m none. absurd none) lessons own (subst (λ (ms : List Message). AreCarried ms steps) (sym (append-nil sent)) carried)

  -- ---- runs

  pub end_items : (i : ℕ) (end : RunEnd) → EndLearns sent end → ItemsLearn (items_at i end)
  end_items i Between learns = tt
  end_items i (Within input) learns = (learns, tt)
  end_items i (Failed input) learns = tt

  end_learns : (i : ℕ) (end : RunEnd) → ItemsLearn (items_at i end) → EndLearns sent end
  end_learns i Between learn = tt
  end_learns i (Within input) learn = learn.0
  end_learns i (Failed input) learn = tt

  module _ {T : Type 0} where
    acts_learn : (i : ℕ) (acts : List (Act T)) → ItemsLearn (items_by i acts) → ActsLearn sent acts
    unfolding items_by
    acts_learn i [] learn = tt
    acts_learn i (act ∷ acts) learn = (learn.0, acts_learn i acts learn.1)

    pub runs_learn : (i : ℕ) (ended : List (Ended T)) → ItemsLearn (items_in i ended None) → RunsLearn sent ended
    unfolding items_in
    runs_learn i [] learn = tt
    runs_learn i (ended ∷ later) learn =
        let parts = learn_each (items_by i ended.run.acts) (items_at i ended.end ++ items_in i later None) learn in
        let rest = learn_each (items_at i ended.end) (items_in i later None) parts.1 in
        (acts_learn i ended.run.acts parts.0, end_learns i ended.end rest.0, runs_learn i later rest.1)
