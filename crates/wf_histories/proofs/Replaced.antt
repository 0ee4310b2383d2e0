-- The lifetimes of nodes are a timeline, and so they agree.
use Rattle.std.proofs.Common.{◌≡◌, ℕ, ◌<◌, List, [], slice_get, Some, sym, ap, subst, ◌∙◌, arith}
use Rattle.wf_actor.specs.Farm.{RunsAreOwn, Step, items, steps_of}
use Rattle.wf_execution.specs.Execution.{AreInTurn}
use Rattle.wf_execution.specs.CrashImages.{ComparisonLeaves}
use Rattle.wf_journal.specs.Records.{AreReadOneWay}
use Rattle.wf_node.specs.Node.{Node}
use Rattle.wf_rejoin.specs.declared.joining.Joining.{Joining}
use Rattle.wf_rejoin_guard.specs.Joined.{IsFolderOf}
use Rattle.wf_rejoin_guard.specs.Learned.{EachHasLearned, HasJoinedByLearning, IsGuardedTimeline, IsLooseTimeline, LearnersMayRejoin}
use Rattle.wf_replacement.specs.Theorems.{IsHeldAt, ListsGrow, OneAnswer, OneDefinition, OneHistory, OneMapAnswer}
use Rattle.wf_replacement.specs.Timeline.{Down, ProcessEvent, unstarted_process}
use Rattle.wf_tape.specs.declared.tape.Tape.{Ghosts as Tape}
use Rattle.wf_histories.specs.Carried.{AreStepsCome, SentAreCarried}
use Rattle.wf_histories.specs.Events.{Lifetime, TracedEvent, events_of, steps_in, untraced}
use Rattle.wf_histories.specs.Joiners.{FoldersJoinByLearning}
use Rattle.wf_histories.specs.Lifetimes.{AreLifetimes, LifetimesAnswerAlike, LifetimesAnswerMapsAlike, LifetimesAreTimeline, LifetimesNeverDiffer, LifetimesNeverGoBack, LifetimesShareHistory, LivedAs}
use Rattle.wf_histories.proofs.Carried.{all_come}
use Rattle.wf_histories.proofs.Lifetimes.{AreHeard, life_happens, life_heard, life_values}
use Rattle.wf_histories.proofs.Timeline.{AllMayHappen, holds_each, members_in, moment_of, moments_grow, steps_of_in, timeline_from, values_by}
use Rattle.wf_histories.proofs.Turns.{in_turn}

module _ {T : Type 0} (tapes : Tape T) where
  module _ (n : ℕ) (lives : ℕ → Lifetime tapes) (traced : List (TracedEvent T)) (are : AreLifetimes tapes n lives traced) (one_way : AreReadOneWay) (compares : ComparisonLeaves tapes) where
    abbrev events : List (ProcessEvent T)
    events = untraced traced

    happens : (i : ℕ) → i < n → AllMayHappen tapes n (Down []) (events_of i traced)
    happens i less =
        subst (λ (own : List (TracedEvent T)). AllMayHappen tapes n (Down []) own) (sym (are.in_order i less))
        (life_happens tapes n i compares one_way (lives i) (are.on_first i less) (are.on_later i less))

    -- what a node lived as, it held in the timeline
    held : (i moment : ℕ) (node : Node T) → LivedAs tapes n lives i moment node → IsHeldAt n events (moment_of i traced moment) i node
    held i moment node is = record {
      is_member = is.member;
      at = holds_each tapes n i unstarted_process traced moment node (happens i is.member)
          (subst (λ (values : List (Node T)). slice_get values moment ≡ Some node)
          (sym (ap values_by (are.in_order i is.member) ∙ life_values tapes n i (lives i))) is.at);
    }

    module _ (together : RunsAreOwn) (carried : SentAreCarried) where
      heard : (i : ℕ) → i < n → AreHeard (steps_of i (steps_in traced))
      heard i less =
          subst (λ (steps : List Step). AreHeard steps) (sym (steps_of_in i traced ∙ ap steps_in (are.in_order i less)))
          (life_heard tapes n i together (lives i) (are.on_first i less) (are.on_later i less))

      come : AreStepsCome (steps_in traced)
      come = all_come n (steps_in traced) (members_in n traced are.members) (λ i less. (heard i less).come)

      turn : AreInTurn n [] (items (steps_in traced))
      turn =
          in_turn n (steps_in traced) [] (λ i. []) (members_in n traced are.members) (λ i m none. absurd none) (λ i less. (heard i less).own)
          (carried [] (steps_in traced) come are.connected)

      timeline : IsLooseTimeline tapes n events
      timeline = timeline_from tapes n [] unstarted_process traced are.members turn happens

    learned : FoldersJoinByLearning tapes → EachHasLearned tapes n events
    learned join k i bytes at =
        let has = are.joined k i bytes at in
        subst (λ (read : List ℕ). (j : Joining) × IsFolderOf n i j × HasJoinedByLearning tapes events k read j) has.read
        (join n i events k has.earlier has.last has.next has.emptied has.joined has.kept has.said)

  pub are_timeline : AreReadOneWay → ComparisonLeaves tapes → RunsAreOwn → SentAreCarried → FoldersJoinByLearning tapes → LifetimesAreTimeline tapes
  are_timeline one_way compares together carried join n lives traced are = record {
    timeline = timeline n lives traced are one_way compares together carried;
    learned = learned n lives traced are one_way compares join;
    held = λ i moment later node next order is also. record {
      moment = moment_of i traced moment;
      later = moment_of i traced later;
      order = moments_grow i traced moment later order;
      held = held n lives traced are one_way compares i moment node is;
      held_next = held n lives traced are one_way compares i later next also;
    };
  }

  -- ---- so they agree

  module _ (theorem : LifetimesAreTimeline tapes) (rejoin : LearnersMayRejoin tapes) (n : ℕ) (lives : ℕ → Lifetime tapes) (traced : List (TracedEvent T)) (are : AreLifetimes tapes n lives traced) where
    guarded : IsGuardedTimeline tapes n (untraced traced)
    guarded =
        let so = theorem n lives traced are in
        rejoin n (untraced traced) so.timeline so.learned

    -- a moment at which a node held what it lived as
    record IsHeld (i : ℕ) (node : Node T) : Type 0 where
      k : ℕ
      held_at : IsHeldAt n (untraced traced) k i node

    lived : (i moment : ℕ) (node : Node T) → LivedAs tapes n lives i moment node → IsHeld i node
    lived i moment node is =
        let so = (theorem n lives traced are).held i moment moment node node (omega arith) is is in
        record { k = so.moment; held_at = so.held }

  pub share_history : LifetimesAreTimeline tapes → LearnersMayRejoin tapes → OneHistory tapes → LifetimesShareHistory tapes
  share_history theorem rejoin one n lives traced are =
      let may = guarded theorem rejoin n lives traced are in
      let has = one n (untraced traced) may.timeline may.may_rejoin in
      record {
        history = has.history;
        each = λ i moment node is.
            let so = lived theorem rejoin n lives traced are i moment node is in
            has.each so.k i node so.held_at;
      }

  pub never_differ : LifetimesAreTimeline tapes → LearnersMayRejoin tapes → OneDefinition tapes → LifetimesNeverDiffer tapes
  never_differ theorem rejoin one n lives traced are i moment j other_moment node other is also =
      let may = guarded theorem rejoin n lives traced are in
      let so = lived theorem rejoin n lives traced are i moment node is in
      let other_so = lived theorem rejoin n lives traced are j other_moment other also in
      one n (untraced traced) may.timeline may.may_rejoin so.k i other_so.k j node other so.held_at other_so.held_at

  pub never_go_back : LifetimesAreTimeline tapes → LearnersMayRejoin tapes → ListsGrow tapes → LifetimesNeverGoBack tapes
  never_go_back theorem rejoin grow n lives traced are i moment later node next order is also =
      let may = guarded theorem rejoin n lives traced are in
      let so = (theorem n lives traced are).held i moment later node next order is also in
      grow n (untraced traced) may.timeline may.may_rejoin so.moment so.later i node next so.order so.held so.held_next

  pub answer_alike : LifetimesAreTimeline tapes → LearnersMayRejoin tapes → OneAnswer tapes → LifetimesAnswerAlike tapes
  answer_alike theorem rejoin one n lives traced are i moment j other_moment node other is also =
      let may = guarded theorem rejoin n lives traced are in
      let so = lived theorem rejoin n lives traced are i moment node is in
      let other_so = lived theorem rejoin n lives traced are j other_moment other also in
      one n (untraced traced) may.timeline may.may_rejoin so.k i other_so.k j node other so.held_at other_so.held_at

  pub answer_maps_alike : LifetimesAreTimeline tapes → LearnersMayRejoin tapes → OneMapAnswer tapes → LifetimesAnswerMapsAlike tapes
  answer_maps_alike theorem rejoin one n lives traced are i moment j other_moment node other is also =
      let may = guarded theorem rejoin n lives traced are in
      let so = lived theorem rejoin n lives traced are i moment node is in
      let other_so = lived theorem rejoin n lives traced are j other_moment other also in
      one n (untraced traced) may.timeline may.may_rejoin so.k i other_so.k j node other so.held_at other_so.held_at
