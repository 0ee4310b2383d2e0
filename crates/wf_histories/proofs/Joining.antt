-- One thing more that happens on a folder that joins leaves what its theorems require of it.
use Rattle.std.proofs.Common.{◌≡◌, ℕ, suc, List, [], ◌∷◌, ◌++◌, refl, sym, ap, subst, ◌∙◌, inl, inr, append_assoc}
use Rattle.std.proofs.Math.Logic.{∥∥₁_map}
use Rattle.std.proofs.lemmas.List.{append_cancel_right}
use Rattle.std.specs.Prelude.{map}
use Rattle.wf_actor.specs.Farm.{Step, items}
use Rattle.wf_actor.specs.declared.actor.Origin.{Origin}
use Rattle.wf_actor.specs.declared.actor.Origin.TheVariants.{Own, Peer}
use Rattle.wf_execution.specs.Run.{Between, RunEnd, Failed, Input, Within, given_to}
use Rattle.wf_execution.specs.Theorems.{outputs_in}
use Rattle.wf_codec.specs.Message.{view}
use Rattle.wf_codec.specs.declared.message.Message.{Message}
use Rattle.wf_model.specs.Chosen.{IsIn}
use Rattle.wf_model.specs.declared.action.Action.TheVariants as action
use Rattle.wf_node_folder.specs.Folder.{StaysFrom}
use Rattle.wf_rejoin_guard.specs.Learned.{EndLearns, LearnsBy}
use Rattle.wf_store.specs.Call.{Call, replaced}
use Rattle.wf_store.specs.declared.file_name.FileName.TheVariants.{Joins}
use Rattle.wf_tape.specs.declared.tape.Tape.{Ghosts as Tape}
use Rattle.wf_wire.specs.Post.{AreAmong}
use Rattle.wf_histories.specs.Carried.{ArePeersSent, AreSentBefore}
use Rattle.wf_histories.specs.Joiners.{HasEmptied, HasOnlyJoined, HaveOnlyJoined}
use Rattle.wf_histories.specs.Joining.{ActJoins, CallsShowEmptied, FirstJoins, MoreIsSent, NextJoins, NextVotes, RunJoins}
use Rattle.wf_histories.specs.Nodes.{AreOnFolder, NodeProcess, made_by}
use Rattle.wf_histories.specs.Runs.{steps_made}
use Rattle.wf_histories.proofs.Advance.{begun_on, begun_steps, made_next_run, made_one_more, on_further, one_sent, sent_both}
use Rattle.wf_histories.proofs.Turns.{in_either, in_first, in_second}

-- ---- with more that is sent

in_views : (m : Message) (messages : List Message) → IsIn m messages → IsIn (view m) (map view messages)
in_views m [] is = absurd is
in_views m (first ∷ messages) (inl same) = inl (ap view same)
in_views m (first ∷ messages) (inr later) = inr (in_views m messages later)

views_among : (sent all : List Message) → AreAmong sent all → AreAmong (map view sent) (map view all)
views_among [] all among x is = absurd is
views_among (first ∷ sent) all among x (inl same) = subst (λ y. IsIn y (map view all)) (sym same) (in_views first all (among first (inl refl)))
views_among (first ∷ sent) all among x (inr later) = views_among sent all (λ m there. among m (inr there)) x later

with_outputs : (sent all outputs : List Message) → AreAmong sent all → AreAmong (sent ++ outputs) (all ++ outputs)
with_outputs sent all outputs among m is = elim (in_either m sent outputs is) [
  | inl front ↦ in_first m all outputs (among m front)
  | inr back ↦ in_second m all outputs back
]

peers_still : (sent all : List Message) → AreAmong sent all → (origin : Origin) (messages : List Message) → ArePeersSent sent origin messages → ArePeersSent all origin messages
peers_still sent all among Own messages are = tt
peers_still sent all among (Peer peer stream) messages are = λ m there come.
    let was = are m there come in
    record { bytes = was.bytes; put = was.put; sent_as = was.sent_as; begins = was.begins; returned = λ x is. views_among sent all among x (was.returned x is) }

sent_still : (sent all : List Message) → AreAmong sent all → (steps : List Step) → AreSentBefore sent steps → AreSentBefore all steps
unfolding AreSentBefore
sent_still sent all among [] are = tt
sent_still sent all among (step ∷ steps) are = (
  peers_still sent all among step.origin (given_to step.takes) are.0,
  sent_still (sent ++ step.outputs) (all ++ step.outputs) (with_outputs sent all step.outputs among) steps are.1,
)

learns_still : (sent all : List Message) → AreAmong sent all → (input : Input) → LearnsBy sent input → LearnsBy all input
learns_still sent all among (action.Propose d) learns = tt
learns_still sent all among action.Retry learns = tt
learns_still sent all among action.CatchUp learns = tt
learns_still sent all among (action.Deliver m) learns = (among m learns.0, learns.1)

end_still : (sent all : List Message) → AreAmong sent all → (end : RunEnd) → EndLearns sent end → EndLearns all end
end_still sent all among Between learns = tt
end_still sent all among (Within input) learns = learns_still sent all among input learns
end_still sent all among (Failed input) learns = tt

module _ {T : Type 0} (tapes : Tape T) where
  joined_still : (i : ℕ) (sent all : List Message) → AreAmong sent all → (processes : List (NodeProcess tapes)) → HaveOnlyJoined tapes i sent processes → HaveOnlyJoined tapes i all processes
  joined_still i sent all among [] joined = tt
  joined_still i sent all among (p ∷ later) joined = (
    record { joins = joined.0.joins; heard = sent_still sent all among (steps_made i (made_by tapes p)) joined.0.heard; cut = end_still sent all among p.end joined.0.cut },
    joined_still i sent all among later joined.1,
  )

  pub more_is_sent : MoreIsSent tapes
  more_is_sent n i sent more earlier p are =
      let among : AreAmong sent (sent ++ more) = λ m is. in_first m sent more is in
      record {
        on_folder = are.on_folder;
        joined = joined_still i sent (sent ++ more) among earlier are.joined;
        joins = are.joins;
        heard = sent_still sent (sent ++ more) among (steps_made i (made_by tapes p)) are.heard;
      }

  -- ---- a start

  none_heard : (i : ℕ) (sent : List Message) (p : NodeProcess tapes) → p.over ≡ 0 → p.made ≡ 0 → AreSentBefore sent (steps_made i (made_by tapes p))
  unfolding AreSentBefore
  none_heard i sent p first none = subst (λ (steps : List Step). AreSentBefore sent steps) (sym (begun_steps tapes i p first none)) tt

  pub first_joins : FirstJoins tapes
  first_joins n i sent p begun joins =
      record { on_folder = begun_on tapes n i [] [] p tt begun; joined = tt; joins = joins; heard = none_heard i sent p begun.first begun.none }

  -- all before the next one have joined
  all_joined : (i : ℕ) (sent : List Message) (earlier : List (NodeProcess tapes)) (last : NodeProcess tapes) → HaveOnlyJoined tapes i sent earlier → HasOnlyJoined tapes i sent last →
      HaveOnlyJoined tapes i sent (earlier ++ last ∷ [])
  all_joined i sent [] last joined has = (has, tt)
  all_joined i sent (first ∷ earlier) last joined has = (joined.0, all_joined i sent earlier last joined.1 has)

  pub next_joins : NextJoins tapes
  next_joins n i sent earlier last p are learns begun joins = record {
    on_folder = begun_on tapes n i [] (earlier ++ last ∷ []) p are.on_folder begun;
    joined = all_joined i sent earlier last are.joined (record { joins = are.joins; heard = are.heard; cut = learns });
    joins = joins;
    heard = none_heard i sent p begun.first begun.none;
  }

  pub next_votes : NextVotes tapes
  next_votes n i sent earlier last next are learns begun = record {
    on_folder = subst (λ (processes : List (NodeProcess tapes)). AreOnFolder tapes n i [] processes) (append_assoc earlier (last ∷ []) (next ∷ []))
        (begun_on tapes n i [] (earlier ++ last ∷ []) next are.on_folder begun);
    joined = all_joined i sent earlier last are.joined (record { joins = are.joins; heard = are.heard; cut = learns });
  }

  -- ---- an act, and another run

  pub act_joins : ActJoins tapes
  act_joins n i sent earlier p act origin are is connected =
      let process = p.has.on.voter.process in
      let step : Step = record { process = i; takes = act.input; origin = origin; outputs = act.outputs } in
      let before = steps_made i (made_by tapes p) in
      record {
        on_folder = on_further tapes n i [] earlier p p.over (suc p.made) are.on_folder;
        joined = are.joined;
        joins = are.joins;
        heard = subst (λ (steps : List Step). AreSentBefore sent steps)
            (sym (made_one_more tapes i process.ended.items process.actor p.lives p.over p.made act origin is.act_at is.origin_at))
            (sent_both sent before (step ∷ []) are.heard (one_sent tapes (sent ++ outputs_in (items before)) step connected));
      }

  pub run_joins : RunJoins tapes
  run_joins n i sent earlier p are is =
      let process = p.has.on.voter.process in
      record {
        on_folder = on_further tapes n i [] earlier p (suc p.over) 0 are.on_folder;
        joined = are.joined;
        joins = are.joins;
        heard = subst (λ (steps : List Step). AreSentBefore sent steps)
            (sym (made_next_run tapes i process.ended.items process.actor p.lives p.over p.made is.all is.another)) are.heard;
      }

  -- ---- its calls

  has_emptied : (p : NodeProcess tapes) (since earlier : List Call) → p.new ≡ since ++ replaced Joins [] ∷ (earlier ++ p.has.begun) → StaysFrom p.has.begun p.new → HasEmptied tapes p
  has_emptied p since earlier shown stays = record {
    stays = stays;
    since = since;
    earlier = earlier;
    calls = append_cancel_right stays.after.later (since ++ replaced Joins [] ∷ earlier) p.has.begun
        (sym stays.after.is ∙ shown ∙ sym (append_assoc since (replaced Joins [] ∷ earlier) p.has.begun));
  }

  pub calls_show : CallsShowEmptied tapes
  calls_show p since earlier shown = ∥∥₁_map p.has.stays (λ stays. has_emptied p since earlier shown stays)
