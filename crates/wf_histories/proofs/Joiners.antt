-- What the processes of a folder that joins have learned.
use Rattle.std.proofs.Common.{◌≡◌, ℕ, List, [], ◌∷◌, ◌++◌, take, None, refl, sym, subst, append-nil, append_assoc}
use Rattle.wf_actor.specs.Farm.{AreOwn, RunsAreOwn, Step, items}
use Rattle.wf_execution.specs.Execution.{AreRuns, Ended, items_at, items_by, items_in}
use Rattle.wf_execution.specs.Continuation.{left_by}
use Rattle.wf_execution.specs.CrashImages.{ComparisonLeaves}
use Rattle.wf_execution.specs.Run.{HasLeft}
use Rattle.wf_codec.specs.declared.message.Message.{Message}
use Rattle.wf_journal.specs.Records.{AreReadOneWay}
use Rattle.wf_replacement.specs.Timeline.{returned_through}
use Rattle.wf_tape.specs.declared.tape.Tape.{Ghosts as Tape}
use Rattle.wf_histories.specs.Carried.{SentAreCarried}
use Rattle.wf_histories.specs.Joiners.{HasOnlyJoined, HaveOnlyJoined, JoinersHaveLearned}
use Rattle.wf_histories.specs.Nodes.{AreOnFolder, IsProcessOf, NodeProcess, StandsAsBefore, bytes_read, made_by}
use Rattle.wf_histories.specs.Runs.{steps_made, steps_over}
use Rattle.wf_histories.proofs.Acts.{items_made, made_come, own_made}
use Rattle.wf_histories.proofs.Folders.{received, with_later}
use Rattle.wf_histories.proofs.Left.{left_before}
use Rattle.wf_histories.proofs.Lessons.{ItemsLearn, end_items, learn_both, learn_each, made_lessons, none_asked, runs_learn}
use Rattle.wf_histories.proofs.Relay.{from_empty}

module _ {T : Type 0} (tapes : Tape T) (compares : ComparisonLeaves tapes) (together : RunsAreOwn) (carried : SentAreCarried) (n i : ℕ) (sent : List Message) where
  -- Runs from these bytes on that have ended, and learned; whatever they begin from, they leave
  -- those.
  record AreLearnersFrom (bytes left : List ℕ) : Type 0 where
    ended : List (Ended T)
    runs : AreRuns tapes n i bytes ended None
    learn : ItemsLearn sent (items_in i ended None)
    leaves : (first : List ℕ) → left_by first ended ≡ left

  -- ---- one process

  module _ (p : NodeProcess tapes) (is : IsProcessOf tapes n i p) (joined : HasOnlyJoined tapes i sent p) where
    -- each of its steps learned
    steps_learned : ItemsLearn sent (items (steps_made i (made_by tapes p)))
    unfolding AreOwn
    steps_learned =
        let process = p.has.on.voter.process in
        let only = p.has.on.learned joined.joins in
        let steps : List Step = steps_made i (made_by tapes p) in
        none_asked sent steps
        (made_lessons tapes i process.ended.items process.actor p.lives only.ended only.now p.over p.made)
        (subst (λ (all : List Step). AreOwn [] all) (append-nil steps) (own_made together i (made_by tapes p) [] (received tapes n i p) tt))
        (carried sent steps (made_come tapes i process.ended.items process.actor p.lives p.come p.over p.made) joined.heard)

    -- with runs that come after it
    module _ (bytes left : List ℕ) (read : StandsAsBefore p.left bytes) (has : HasLeft (made_by tapes p).last.run p.end p.left) (ended : List (Ended T)) (runs : AreRuns tapes n i bytes ended None)
        (learn : ItemsLearn sent (items_in i ended None)) (leaves : left_by bytes ended ≡ left) where
      learned_with : AreLearnersFrom (bytes_read tapes p) left
      unfolding items_in left_by
      learned_with =
          let made = made_by tapes p in
          let over : Ended T = record { run = made.last.run; end = p.end; left = bytes } in
          let so = with_later tapes n i compares p is (over ∷ ended) None (λ from run. (record { run = run; left = left_before p.left bytes read made.last.run p.end has }, runs)) in
          let own = learn_each sent (items (steps_over i made.over)) (items_by i made.last.run.acts) (subst (ItemsLearn sent) (items_made i made (received tapes n i p)) steps_learned) in
          record {
            ended = so.ended;
            runs = so.runs;
            learn = subst (ItemsLearn sent) (sym so.its_items)
                (learn_both sent (items (steps_over i made.over)) (items_in i (over ∷ ended) None) own.0
                (learn_both sent (items_by i made.last.run.acts) (items_at i p.end ++ items_in i ended None) own.1
                (learn_both sent (items_at i p.end) (items_in i ended None) (end_items sent i p.end joined.cut) learn)));
            leaves = λ first. so.leaves left (λ other. leaves) first;
          }

  -- ---- all of them

  learned_from : (left : List ℕ) (p : NodeProcess tapes) (more : List (NodeProcess tapes)) (next : NodeProcess tapes) → AreOnFolder tapes n i left (p ∷ (more ++ next ∷ [])) → HaveOnlyJoined tapes i sent (p ∷ more) →
      AreLearnersFrom (bytes_read tapes p) (bytes_read tapes next)
  unfolding items_in left_by
  learned_from left p [] next are joined = learned_with p are.0 joined.0 (bytes_read tapes next) (bytes_read tapes next) are.3.1 are.2.0 [] tt tt refl
  learned_from left p (q ∷ more) next are joined =
      let rest = learned_from p.left q more next are.3 joined.1 in
      learned_with p are.0 joined.0 (bytes_read tapes q) (bytes_read tapes next) are.3.1 are.2.0 rest.ended rest.runs rest.learn (rest.leaves (bytes_read tapes q))

  -- the first one read an empty tape
  pub record AreLearners (bytes : List ℕ) : Type 0 where
    pub ended : List (Ended T)
    pub runs : AreRuns tapes n i [] ended None
    pub learn : ItemsLearn sent (items_in i ended None)
    pub leaves : left_by [] ended ≡ bytes

  from_first : AreReadOneWay → (p : NodeProcess tapes) (more : List (NodeProcess tapes)) (next : NodeProcess tapes) → AreOnFolder tapes n i [] (p ∷ (more ++ next ∷ [])) → HaveOnlyJoined tapes i sent (p ∷ more) →
      AreLearners (bytes_read tapes next)
  from_first one_way p more next are joined =
      let so = learned_from [] p more next are joined in
      record { ended = so.ended; runs = from_empty tapes n i one_way (bytes_read tapes p) so.ended None are.1 so.runs; learn = so.learn; leaves = so.leaves [] }

  pub learners : AreReadOneWay → (earlier : List (NodeProcess tapes)) (last next : NodeProcess tapes) → AreOnFolder tapes n i [] (earlier ++ last ∷ (next ∷ [])) → HaveOnlyJoined tapes i sent (earlier ++ last ∷ []) →
      AreLearners (bytes_read tapes next)
  learners one_way [] last next are joined = from_first one_way last [] next are joined
  learners one_way (p ∷ earlier) last next are joined =
      from_first one_way p (earlier ++ last ∷ []) next
      (subst (λ (all : List (NodeProcess tapes)). AreOnFolder tapes n i [] (p ∷ all)) (sym (append_assoc earlier (last ∷ []) (next ∷ []))) are) joined

pub have_learned : {T : Type 0} (tapes : Tape T) → AreReadOneWay → ComparisonLeaves tapes → RunsAreOwn → SentAreCarried → JoinersHaveLearned tapes
have_learned tapes one_way compares together carried n i events until earlier last next joined =
    let sent = returned_through (take until events) in
    let so = learners tapes compares together carried n i sent one_way earlier last next joined.on_folder joined.joined in
    record { ended = so.ended; are_runs = so.runs; learn = runs_learn sent i so.ended so.learn; left = so.leaves }
