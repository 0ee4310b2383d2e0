-- A folder that may vote has the facts that a replacement needs.
use Rattle.std.proofs.Common.{◌≡◌, ℕ, ◌<◌, true, List, refl, subst, arith}
use Rattle.std.specs.Prelude.{Option, Some, None}
use Rattle.wf_def.specs.Definition.{Definition}
use Rattle.wf_model.specs.DurableState.{DurableState, published}
use Rattle.wf_model.specs.Message.{Vote}
use Rattle.wf_node.specs.Node.{stored_of}
use Rattle.wf_peer.specs.declared.greeting.Greeting.{Greeting}
use Rattle.wf_rejoin.specs.Answer.{IsAbout}
use Rattle.wf_rejoin.specs.Theorems.{AnswersAreBounds, IsGuardedByAnswers, VotersAreGuarded}
use Rattle.wf_rejoin.specs.declared.answer.Answer.{Answer}
use Rattle.wf_rejoin.specs.declared.joining.Joining.{Joining}
use Rattle.wf_replacement.specs.Rejoining.{EachMayRejoin, MayRejoin, WasAsked}
use Rattle.wf_replacement.specs.Theorems.{ListsGrow, OneHistory}
use Rattle.wf_replacement.specs.Timeline.{ProcessEvent}
use Rattle.wf_tape.specs.declared.tape.Tape.{Ghosts as Tape}
use Rattle.wf_rejoin_guard.specs.Joined.{EachHasJoined, HasJoined, IsGreetedAnswer, IsTrueTo, JoinedListsGrow, JoinedMayRejoin, JoinedOneHistory}

-- ---- an answer is about what a node had stored

none_after : (stored : DurableState Definition) (g : Greeting) (a : Answer) → IsTrueTo stored g → IsGreetedAnswer g a → (s : ℕ) → a.voted < s → (vote : Option (Vote Definition)) → stored.votes s ≡ vote → vote ≡ None
none_after stored g a is taken s after None at = refl
none_after stored g a is taken s after (Some vote) at =
    absurd (omega (arith, after, taken.voted, is.voted_to s vote (is.at_slots s vote at) at))

pub about : (stored : DurableState Definition) (g : Greeting) (a : Answer) → IsTrueTo stored g → IsGreetedAnswer g a → IsAbout stored a
about stored g a is taken = record {
  published_to = omega (arith, taken.published, is.published_to);
  voted_to = λ s after. none_after stored g a is taken s after (stored.votes s) refl;
}

-- ---- who has joined may rejoin

was_asked : {T : Type 0} → AnswersAreBounds Definition → (events : List (ProcessEvent T)) (until i : ℕ) (bytes : List ℕ) (j : Joining) → (joined : HasJoined events until bytes j) →
    (guarded : IsGuardedByAnswers j (published joined.holds.stored)) → i < j.nodes → guarded.asked i ≡ true → WasAsked events joined.answered.since until guarded.m i
was_asked bounds events until i bytes j joined guarded below is_in =
    let (a, at, bound) = guarded.each i below is_in in
    let answered = joined.answered.answers i a below at in
    record {
      moment = answered.moment;
      after = answered.after;
      before = answered.before;
      node = answered.node;
      at = answered.at;
      runs = answered.runs;
      up_to = bounds (stored_of answered.node) a guarded.m (about (stored_of answered.node) answered.greeting a answered.is_true answered.taken) bound;
    }

pub joined_may_rejoin : {T : Type 0} (tapes : Tape T) → VotersAreGuarded → AnswersAreBounds Definition → JoinedMayRejoin tapes
joined_may_rejoin tapes guard bounds events until bytes j joined =
    let guarded = guard j (published joined.holds.stored) joined.answered.joins joined.may_vote in
    record {
      since = joined.answered.since;
      earlier = joined.answered.earlier;
      silent = joined.answered.silent;
      m = guarded.m;
      asked = guarded.asked;
      half = guarded.half;
      each = λ i below is_in. was_asked bounds events until i bytes j joined guarded below is_in;
      holds = joined.holds;
      far = guarded.far;
      known = joined.source.known;
      by_then = joined.source.by_then;
      source = joined.source.source;
      is_member = joined.source.is_member;
      node = joined.source.node;
      at = joined.source.at;
      copied = joined.source.copied;
    }

each_may_rejoin : {T : Type 0} (tapes : Tape T) → JoinedMayRejoin tapes → (n : ℕ) (events : List (ProcessEvent T)) → EachHasJoined n events → EachMayRejoin n events
each_may_rejoin tapes rejoins n events joined k i bytes at =
    let (j, folder, has) = joined k i bytes at in
    subst (λ (count : ℕ). MayRejoin count events k i bytes) folder.nodes (subst (λ (p : ℕ). MayRejoin j.nodes events k p bytes) folder.node (rejoins events k bytes j has))

pub joined_agree : {T : Type 0} (tapes : Tape T) → JoinedMayRejoin tapes → OneHistory tapes → JoinedOneHistory tapes
joined_agree tapes rejoins agree n events timeline joined = agree n events timeline (each_may_rejoin tapes rejoins n events joined)

pub joined_grow : {T : Type 0} (tapes : Tape T) → JoinedMayRejoin tapes → ListsGrow tapes → JoinedListsGrow tapes
joined_grow tapes rejoins grow n events timeline joined = grow n events timeline (each_may_rejoin tapes rejoins n events joined)
