-- A run with one more act at its end.
use Rattle.std.proofs.Common.{◌≡◌, List, [], ◌∷◌, ◌++◌, sym, ap, subst, ◌∙◌, append_assoc, append-nil}
use Rattle.wf_execution.specs.Run.{Act, given_to, outputs}
use Rattle.wf_codec.specs.declared.message.Message.{Message}
use Rattle.wf_actor.specs.Life.{all_from, delivered, AreOwnAmong, AreOwnReceived}
use Rattle.wf_actor.specs.declared.actor.Origin.{Origin}

module _ {T : Type 0} (act : Act T) where
  module _ (origin : Origin) where
    -- each act has its origin, so one more has this one
    pub received_more : (emitted : List Message) (acts : List (Act T)) (origins : List Origin) → AreOwnReceived emitted acts origins → AreOwnAmong (emitted ++ outputs acts) origin (given_to act.input) →
        AreOwnReceived emitted (acts ++ act ∷ []) (origins ++ origin ∷ [])
    unfolding AreOwnReceived outputs
    received_more emitted [] [] received own = (subst (λ l. AreOwnAmong l origin (given_to act.input)) (append-nil emitted) own, tt)
    received_more emitted [] (other ∷ origins) received own = absurd received
    received_more emitted (earlier ∷ acts) [] received own = absurd received
    received_more emitted (earlier ∷ acts) (other ∷ origins) received own = (
      received.0,
      received_more (emitted ++ earlier.outputs) acts origins received.1
          (subst (λ l. AreOwnAmong l origin (given_to act.input)) (sym (append_assoc emitted earlier.outputs (outputs acts))) own),
    )

    pub delivered_more : (emitted : List Message) (acts : List (Act T)) (origins : List Origin) → AreOwnReceived emitted acts origins →
        delivered (acts ++ act ∷ []) (origins ++ origin ∷ []) ≡ delivered acts origins ++ all_from origin (given_to act.input)
    unfolding AreOwnReceived delivered
    delivered_more emitted [] [] received = append-nil (all_from origin (given_to act.input))
    delivered_more emitted [] (other ∷ origins) received = absurd received
    delivered_more emitted (earlier ∷ acts) [] received = absurd received
    delivered_more emitted (earlier ∷ acts) (other ∷ origins) received =
        ap (λ l. all_from other (given_to earlier.input) ++ l) (delivered_more (emitted ++ earlier.outputs) acts origins received.1)
        ∙ sym (append_assoc (all_from other (given_to earlier.input)) (delivered acts origins) (all_from origin (given_to act.input)))
