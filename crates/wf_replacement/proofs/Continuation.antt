-- A timeline goes on with one more event.
use Rattle.std.proofs.Common.{ℕ, ◌<◌, List, [], ◌∷◌, ◌++◌, take, sym, subst, append-nil, append_assoc}
use Rattle.std.proofs.Math.Seq.{take-length}
use Rattle.wf_codec.specs.declared.message.Message.{Message}
use Rattle.wf_tape.specs.declared.tape.Tape.{Ghosts as Tape}
use Rattle.wf_replacement.specs.Timeline.{ProcessEvent, process_of, returned_by, returned_through, ProcessState, IsPossible, states_with, states_from, ArePossible, unstarted_process}
use Rattle.wf_replacement.specs.Theorems.{TimelineGoesOn}

module _ {T : Type 0} (tapes : Tape T) (n : ℕ) where
  possible_more : (sent : List Message) (states : ℕ → ProcessState T) (events : List (ProcessEvent T)) (event : ProcessEvent T) → ArePossible tapes n sent states events → process_of event < n →
      IsPossible tapes n (sent ++ returned_through events) (states_from states events (process_of event)) event → ArePossible tapes n sent states (events ++ event ∷ [])
  unfolding returned_through states_from
  possible_more sent states [] event are is_member is =
      (is_member, subst (λ ms. IsPossible tapes n ms (states (process_of event)) event) (append-nil sent) is, tt)
  possible_more sent states (first ∷ events) event are is_member is = (
    are.0,
    are.1,
    possible_more (sent ++ returned_by first) (states_with states first) events event are.2 is_member
        (subst (λ ms. IsPossible tapes n ms (states_from (states_with states first) events (process_of event)) event) (sym (append_assoc sent (returned_by first) (returned_through events))) is),
  )

pub timeline_goes_on : {T : Type 0} (tapes : Tape T) → TimelineGoesOn tapes
timeline_goes_on {T} tapes = λ n events event timeline is_member is.
    possible_more tapes n [] unstarted_process events event timeline is_member
    (subst (λ (es : List (ProcessEvent T)). IsPossible tapes n (returned_through events) (states_from unstarted_process es (process_of event)) event) (take-length events) is)
