-- What came on connections of which all bytes were sent before was returned before.
use Rattle.std.proofs.Common.{◌≡◌, ◌∙◌, ℕ, ◌<◌, ◌==◌, Bool, true, false, List, [], ◌∷◌, ◌++◌, map, Option, Some, None, refl, sym, ap, subst, inl, inr, eq-eqb}
use Rattle.std.specs.Prelude.{if◌then◌else◌}
use Rattle.wf_actor.specs.Farm.{AreCarried, AreMembers, ArePeersAmong, Step, steps_of}
use Rattle.wf_actor.specs.Sent.{AreCome}
use Rattle.wf_actor.specs.declared.actor.Origin.{Origin}
use Rattle.wf_actor.specs.declared.actor.Origin.TheVariants.{Own, Peer}
use Rattle.wf_ballot.specs.Ballot.{Ballot}
use Rattle.wf_execution.specs.Run.{given_to}
use Rattle.wf_codec.specs.Message.{view, view_votes}
use Rattle.wf_codec.specs.declared.message.Message.{Message}
use Rattle.wf_codec.specs.declared.message.Message.TheVariants as code
use Rattle.wf_def.specs.Definition.{Definition}
use Rattle.wf_model.specs.Chosen.{IsIn}
use Rattle.wf_model.specs.Message as model
use Rattle.wf_model.specs.Message.{Vote}
use Rattle.wf_wire.specs.Theorem.{OnlyPostedCome}
use Rattle.wf_histories.specs.Carried.{AreSentBefore, AreStepsCome, ArePeersSent, SentAreCarried}

-- ---- a message is what it is the model of

coded_vote : Option (Vote Definition) → Option (Ballot × Definition)
coded_vote None = None
coded_vote (Some vote) = Some (vote.ballot, vote.definition)

same_votes : (votes : List (Option (Ballot × Definition))) → map coded_vote (view_votes votes) ≡ votes
unfolding coded_vote
same_votes [] = refl
same_votes (None ∷ votes) = ap (λ rest. None ∷ rest) (same_votes votes)
same_votes (Some vote ∷ votes) = ap (λ rest. Some vote ∷ rest) (same_votes votes)

message_of : model.Message Definition → Message
message_of (model.Prepare s b) = code.Prepare s b
message_of (model.Promise i s b votes) = code.Promise i b (record { slot = s; votes = map coded_vote votes })
message_of (model.Accept s b d) = code.Accept s b d
message_of (model.Accepted i s b) = code.Accepted i s b
message_of (model.Nack i s b q) = code.Nack i s b q
message_of (model.Chosen s d) = code.Chosen s d
message_of (model.Ask s) = code.Ask s

same_message : (m : Message) → message_of (view m) ≡ m
unfolding message_of
same_message (code.Prepare s b) = refl
same_message (code.Promise i b report) = ap (λ votes. code.Promise i b (record { slot = report.slot; votes = votes })) (same_votes report.votes)
same_message (code.Accept s b d) = refl
same_message (code.Accepted i s b) = refl
same_message (code.Nack i s b q) = refl
same_message (code.Chosen s d) = refl
same_message (code.Ask s) = refl

pub one_view_one_message : (m other : Message) → view m ≡ view other → m ≡ other
one_view_one_message m other same = sym (same_message m) ∙ ap message_of same ∙ same_message other

in_views : (m : Message) (messages : List Message) → IsIn (view m) (map view messages) → IsIn m messages
in_views m [] is = absurd is
in_views m (other ∷ messages) (inl same) = inl (one_view_one_message m other same)
in_views m (other ∷ messages) (inr later) = inr (in_views m messages later)

-- ---- the theorem

peers_among : OnlyPostedCome → (sent : List Message) (origin : Origin) (messages : List Message) → AreCome origin messages → ArePeersSent sent origin messages → ArePeersAmong sent origin messages
peers_among only sent Own messages come are = tt
peers_among only sent (Peer peer stream) messages come are = λ m there.
    let is = come m there in
    let before = are m there is in
    in_views m sent (before.returned (view m) (only peer stream.items (view m) is before.bytes before.put before.sent_as before.begins))

pub sent_are_carried : OnlyPostedCome → SentAreCarried
unfolding AreStepsCome AreSentBefore AreCarried
sent_are_carried only sent [] come are = tt
sent_are_carried only sent (step ∷ steps) come are =
    (peers_among only sent step.origin (given_to step.takes) come.0 are.0, sent_are_carried only (sent ++ step.outputs) steps come.1 are.1)

-- ---- all steps, if those of each process came so

come_rest : (b : Bool) (step : Step) (rest : List Step) → AreStepsCome (if b then step ∷ rest else rest) → AreStepsCome rest
unfolding AreStepsCome
come_rest true step rest come = come.1
come_rest false step rest come = come

come_first : (b : Bool) → b ≡ true → (step : Step) (rest : List Step) → AreStepsCome (if b then step ∷ rest else rest) → AreCome step.origin (given_to step.takes)
unfolding AreStepsCome
come_first b is step rest come = (subst (λ c. AreStepsCome (if c then step ∷ rest else rest)) is come).0

pub all_come : (n : ℕ) (steps : List Step) → AreMembers n steps → ((i : ℕ) → i < n → AreStepsCome (steps_of i steps)) → AreStepsCome steps
unfolding AreMembers AreStepsCome steps_of
all_come n [] members come = tt
all_come n (step ∷ steps) members come =
    let p = step.process in (
      come_first (p == p) (eq-eqb p p refl) step (steps_of p steps) (come p members.0),
      all_come n steps members.1 (λ i less. come_rest (p == i) step (steps_of i steps) (come i less)),
    )

pub come_both : (steps more : List Step) → AreStepsCome steps → AreStepsCome more → AreStepsCome (steps ++ more)
unfolding AreStepsCome
come_both [] more come also = also
come_both (step ∷ steps) more come also = (come.0, come_both steps more come.1 also)
