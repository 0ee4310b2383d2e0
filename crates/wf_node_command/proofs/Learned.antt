-- A process whose folder joins goes on learning.
use Rattle.std.proofs.Common.{◌≡◌, ◌∙◌, ℕ, List, [], ◌∷◌, ◌++◌, ap, refl, subst, sym}
use Rattle.std.specs.Prelude.{Result, Ok, Err, OnErr, OnOk}
use Rattle.wf_loop.specs.Process.{IsJustOpened, Actor, Process}
use Rattle.wf_loop.specs.Continuation.{StaysInRun, besides_chosen, besides_questions}
use Rattle.wf_loop.specs.EventLoop.{IsJoiner, OnlyLearns, process_of}
use Rattle.wf_loop.specs.declared.event_loop.EventLoop.{EventLoop}
use Rattle.wf_loop.specs.NotReopened.{NotReopened}
use Rattle.wf_node_command.specs.Learned.{HasOnlyLearned, HaveOnlyLearned, IsLearner, IsLearning}
use Rattle.wf_sockets.specs.declared.connection.Connection.{Ghosts as Connection}
use Rattle.wf_tape.specs.declared.tape.Tape.{Ghosts as Tape}

nothing_given : besides_chosen [] ≡ []
unfolding besides_chosen
nothing_given = refl

nothing_returned : besides_questions [] ≡ []
unfolding besides_questions
nothing_returned = refl

module _ {T : Type 0} (tapes : Tape T) where
  just_learning : (process : Process T tapes) → IsJustOpened process → IsLearning tapes process.actor
  just_learning process opened = record { given = ap besides_chosen opened.given ∙ nothing_given; returned = ap besides_questions opened.emitted ∙ nothing_returned }

  no_runs : HaveOnlyLearned tapes []
  unfolding HaveOnlyLearned
  no_runs = tt

  -- a run more has ended
  one_run_more : (runs : List (Actor T tapes × ℕ)) (run : Actor T tapes) (number : ℕ) → HaveOnlyLearned tapes runs → IsLearning tapes run → HaveOnlyLearned tapes (runs ++ (run, number) ∷ [])
  unfolding HaveOnlyLearned
  one_run_more [] run number have learns = (learns, tt)
  one_run_more (first ∷ runs) run number have learns = (have.0, one_run_more runs run number have.1 learns)

  -- it begins so: nothing was given to it yet
  begins : (process : Process T tapes) → IsJustOpened process → process.ended.items ≡ [] → HasOnlyLearned tapes process
  begins process opened first = record {
    now = just_learning process opened;
    ended = subst (λ (runs : List (Actor T tapes × ℕ)). HaveOnlyLearned tapes runs) (sym first) no_runs;
  }

  pub learner_at_first : {N C L : Type 0} {connections : Connection C} (event_loop : EventLoop T N C L tapes connections) (process : Process T tapes) → process_of event_loop ≡ process → IsJustOpened process → process.ended.items ≡ [] → IsJoiner event_loop
      → IsLearner tapes event_loop
  learner_at_first event_loop process same opened first joins = (joins, subst (λ (p : Process T tapes). HasOnlyLearned tapes p) (sym same) (begins process opened first))

  -- a turn
  pub learner_on : {N C L : Type 0} {connections : Connection C} (old new : EventLoop T N C L tapes connections) → StaysInRun tapes (process_of old) (process_of new) → (IsJoiner old → OnlyLearns old new) → IsLearner tapes old → IsLearner tapes new
  learner_on old new stays learns was =
      let only = learns was.0 in (
        only.joins,
        record {
          now = record { given = only.learnt.given ∙ was.1.now.given; returned = only.learnt.returned ∙ was.1.now.returned };
          ended = subst (λ (runs : List (Actor T tapes × ℕ)). HaveOnlyLearned tapes runs) (sym stays.ended) was.1.ended;
        },
      )

  -- a tape that was opened again, or not
  pub learner_reopened : {N C L : Type 0} {connections : Connection C} (old new : EventLoop T N C L tapes connections) (result : Result (Unit {0}) NotReopened) → (IsJoiner old → IsJoiner new) → OnOk result (IsJustOpened (process_of new))
      → OnOk result ((process_of new).ended.items ≡ (process_of old).ended.items ++ ((process_of old).actor, 0) ∷ []) → OnErr result (process_of new ≡ process_of old) → IsLearner tapes old → IsLearner tapes new
  learner_reopened old new (Ok done) joins opened ended same was = (
    joins was.0,
    record {
      now = just_learning (process_of new) opened;
      ended = subst (λ (runs : List (Actor T tapes × ℕ)). HaveOnlyLearned tapes runs) (sym ended) (one_run_more (process_of old).ended.items (process_of old).actor 0 was.1.ended was.1.now);
    },
  )
  learner_reopened old new (Err why) joins opened ended same was = (joins was.0, subst (λ (p : Process T tapes). HasOnlyLearned tapes p) (sym same) was.1)

  pub learner_still : {N C L : Type 0} {connections : Connection C} (event_loop : EventLoop T N C L tapes connections) → IsLearner tapes event_loop → IsLearner tapes event_loop
  learner_still event_loop is = is
