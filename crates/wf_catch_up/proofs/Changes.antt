-- What one question changes: its requester alone, which comes on.
use Rattle.std.proofs.Common.{◌≡◌, ◌⊎◌, ◌<◌, ◌≤◌, ◌+◌, ◌||◌, ℕ, zero, suc, Bool, true, false, List, [], map, length, slice_get, slice_set, Some, refl, sym, ap, subst, ◌∙◌, inl, inr, arith}
use Rattle.wf_catch_up.proofs.Common.{cases_eq, false≢true, same_Some, last_sequence, Message, most_reports, reports_from, Node, NodeHost, Running, BringsOn, EndsUp, FirstEndUp, HasReceived, HasMost, ReceivesAt, AreAnswersTo, IsBehind, IsLevelAt, IsOneQuestion, OneChanges, lacks, lacks_by, rank, rank_at, nodes_of, nodes_get, nodes_set, get_set_other, set_same, set_there}
use Rattle.wf_codec.specs.Message as message
use Rattle.wf_codec.specs.declared.message.Message.TheVariants as code
use Rattle.wf_catch_up.proofs.Asked.{answers_ask, asks_next, loses_ask}
use Rattle.wf_catch_up.proofs.Level.{Outcome, count_of, received_answer, node_ranked, rank_halted, rank_running, rank_there, runs_there}
use Rattle.wf_tape.specs.declared.tape.Tape.{Ghosts as Tape}

-- ---- one node changes

pub no_change : {T : Type 0} (asked requester : ℕ) (nodes : List (Node T)) → rank_at nodes requester ≤ rank_at nodes asked → OneChanges asked requester nodes nodes
no_change asked requester nodes within = record { others = λ k differs. refl; asked_stays = refl; within = within }

pub changes_twice : {T : Type 0} (asked requester : ℕ) (nodes middle after : List (Node T)) → OneChanges asked requester nodes middle → OneChanges asked requester middle after → OneChanges asked requester nodes after
changes_twice asked requester nodes middle after first second = record {
  others = λ k differs. second.others k differs ∙ first.others k differs;
  asked_stays = second.asked_stays ∙ first.asked_stays;
  within = omega (arith, second.within, ap rank first.asked_stays);
}

pub has_most_at : {T : Type 0} (nodes : List (Node T)) (asked : ℕ) → HasMost nodes asked → (k : ℕ) → rank_at nodes k ≤ rank_at nodes asked
unfolding HasMost
has_most_at nodes asked most k = most k

-- A node that isn't behind is level.
level_by : (r most : ℕ) → r ≤ most → (r ≡ 0) ⊎ (most ≤ r) → (r ≡ 0) ⊎ (r ≡ most)
level_by r most within (inl none) = inl none
level_by r most within (inr all) = inr (omega (arith, within, all))

pub ends_level : {T : Type 0} (asked requester : ℕ) (nodes after : List (Node T)) → OneChanges asked requester nodes after → (rank_at after requester ≡ 0) ⊎ (rank_at after asked ≤ rank_at after requester) → IsLevelAt after asked requester
ends_level asked requester nodes after one is = level_by (rank_at after requester) (rank_at after asked) (omega (arith, one.within, ap rank one.asked_stays)) is

-- a node that lacks maps lacks fewer if it is brought on, and none if it is halted
fewer_by : (r s most : ℕ) → 0 < r → r < most → (s ≡ 0) ⊎ (r < s) → s ≤ most → lacks_by s most < lacks_by r most
fewer_by zero s most some less on within = absurd (omega (arith, some))
fewer_by (suc r) zero most some less on within = omega (arith, less)
fewer_by (suc r) (suc s) most some less (inl none) within = absurd (omega (arith, none))
fewer_by (suc r) (suc s) most some less (inr on) within = omega (arith, less, on, within)

module _ {T : Type 0} (asked requester : ℕ) (nodes after : List (Node T)) (one : OneChanges asked requester nodes after) where
  rank_other : (k : ℕ) → (k ≡ requester → ⊥) → rank_at after k ≡ rank_at nodes k
  rank_other k differs = ap rank (one.others k differs)

  rank_asked : rank_at after asked ≡ rank_at nodes asked
  rank_asked = ap rank one.asked_stays

  -- No node has come further than the one that is asked.
  pub most_on : HasMost nodes asked → HasMost after asked
  unfolding HasMost
  most_on most = λ k. elim (cases_eq k requester) [
    | inl same ↦ omega (arith, ap (rank_at after) same, one.within, rank_asked)
    | inr differs ↦ omega (arith, rank_other k differs, most k, rank_asked)
  ]

  level_on : (k : ℕ) → (k ≡ requester → ⊥) → IsLevelAt nodes asked k → IsLevelAt after asked k
  level_on k differs (inl none) = inl (rank_other k differs ∙ none)
  level_on k differs (inr level) = inr (rank_other k differs ∙ level ∙ sym rank_asked)

  behind_on : (k : ℕ) → (k ≡ requester → ⊥) → IsBehind nodes asked k → IsBehind after asked k
  behind_on k differs behind = (omega (arith, behind.0, rank_other k differs), omega (arith, behind.1, rank_other k differs, rank_asked))

  -- One more node has caught up, or it is behind still.
  pub first_end : (lost loses : Bool) (count : ℕ) → count ≡ requester + 1 → FirstEndUp asked requester lost nodes → EndsUp asked requester loses after → FirstEndUp asked count (lost || loses) after
  first_end true loses count is found ends = (found.0, omega (arith, is, found.1), behind_on found.0 (λ same. omega (arith, same, found.1)) found.2)
  first_end false true count is first ends = (requester, omega (arith, is), ends)
  first_end false false count is first ends = λ k less. elim (cases_eq k requester) [
    | inl same ↦ subst (IsLevelAt after asked) (sym same) ends
    | inr differs ↦ level_on k differs (first k (omega (arith, is, less, differs)))
  ]

  -- A node that was behind and is brought on lacks fewer maps.
  pub lacks_fewer : IsBehind nodes asked requester → BringsOn asked requester nodes false after → lacks after asked requester < lacks nodes asked requester
  lacks_fewer behind on =
      subst (λ most. lacks_by (rank_at after requester) most < lacks nodes asked requester) (sym rank_asked)
      (fewer_by (rank_at nodes requester) (rank_at after requester) (rank_at nodes asked) behind.0 behind.1 on one.within)

-- ---- a question

module _ {T : Type 0} (tapes : Tape T) (hosts : List (NodeHost T)) (asked requester : ℕ) (behind : IsBehind (nodes_of hosts) asked requester) (most : rank_at (nodes_of hosts) asked ≤ last_sequence + 1) where
  abbrev nodes : List (Node T)
  nodes = nodes_of hosts

  differs : asked ≡ requester → ⊥
  differs same = omega (arith, behind.1, ap (rank_at nodes) same)

  module _ (before other : Node T) (requester_at : slice_get nodes requester ≡ Some before) (asked_at : slice_get nodes asked ≡ Some other) where
    runs : before.halted ≡ false
    runs = runs_there nodes requester before requester_at behind.0

    goes : other.halted ≡ false
    goes = runs_there nodes asked other asked_at (omega (arith, behind.0, behind.1))

    requester_rank : rank_at nodes requester ≡ count_of before + 1
    requester_rank = rank_there nodes requester before requester_at ∙ rank_running before runs

    asked_rank : rank_at nodes asked ≡ count_of other + 1
    asked_rank = rank_there nodes asked other asked_at ∙ rank_running other goes

    fewer : count_of before < count_of other
    fewer = omega (arith, behind.1, requester_rank, asked_rank)

    next_there : length before.parts.history < last_sequence
    next_there = omega (arith, fewer, most, asked_rank)

    -- The answer is lost: nothing is changed.
    unanswered : IsOneQuestion tapes asked requester nodes true nodes
    unfolding HasReceived
    unanswered = record {
      behind = behind;
      before = before;
      after = before;
      other = other;
      requester_at = requester_at;
      asked_at = asked_at;
      question = code.Ask (count_of before + 1);
      asks = asks_next tapes before runs next_there;
      answer = [];
      unanswered = true;
      answers = loses_ask tapes other goes (count_of before + 1);
      unheard = false;
      receives = (refl, refl);
      is_lost = refl;
      nodes_are = sym (set_same nodes requester before requester_at);
    }

    module _ (answer : List Message) (lost : Bool) (after : Node T) (answer_is : map message.view answer ≡ reports_from other.parts.history (count_of before + 1) most_reports) (received : HasReceived tapes answer lost before after) where
      -- The requester hears an answer.
      answered : IsOneQuestion tapes asked requester nodes lost (slice_set nodes requester after)
      answered = record {
        behind = behind;
        before = before;
        after = after;
        other = other;
        requester_at = requester_at;
        asked_at = asked_at;
        question = code.Ask (count_of before + 1);
        asks = asks_next tapes before runs next_there;
        answer = answer;
        unanswered = false;
        answers = answers_ask tapes other goes (count_of before + 1) answer answer_is;
        unheard = lost;
        receives = received;
        is_lost = refl;
        nodes_are = refl;
      }

      now_there : rank_at (slice_set nodes requester after) requester ≡ rank (Some after)
      now_there = ap rank (set_there nodes requester after before requester_at)

      outcome : Outcome tapes other.parts.history most_reports lost before after
      outcome = received_answer tapes other.parts.history most_reports lost after answer before runs (omega (arith, fewer)) answer_is received

      within_by : Outcome tapes other.parts.history most_reports lost before after → rank (Some after) ≤ rank_at nodes asked
      within_by (inl ended) = omega (arith, rank_halted after ended.1)
      within_by (inr on) = omega (arith, rank_running after on.runs, on.within, asked_rank)

      changed : OneChanges asked requester nodes (slice_set nodes requester after)
      changed = record {
        others = λ k other_one. get_set_other nodes requester k after other_one;
        asked_stays = get_set_other nodes requester asked after differs;
        within = omega (arith, now_there, within_by outcome);
      }

    brings_by : (answer : List Message) (lost : Bool) (after : Node T) → rank_at (slice_set nodes requester after) requester ≡ rank (Some after) → rank_at (slice_set nodes requester after) asked ≡ rank_at nodes asked →
        Outcome tapes other.parts.history most_reports lost before after → BringsOn asked requester nodes lost (slice_set nodes requester after)
    brings_by answer true after now still (inl ended) = absurd (false≢true (sym ended.0))
    brings_by answer true after now still (inr on) =
        (omega (arith, now, rank_running after on.runs), omega (arith, now, still, rank_running after on.runs, asked_rank, on.part refl))
    brings_by answer false after now still (inl ended) = inl (now ∙ rank_halted after ended.1)
    brings_by answer false after now still (inr on) = inr (elim (on.whole refl) [
      | inl all ↦ omega (arith, now, rank_running after on.runs, requester_rank, fewer, all)
      | inr so_many ↦ omega (arith, now, rank_running after on.runs, requester_rank, so_many)
    ])

  -- what the three clauses of a question say
  pub record IsAsked (lost : Bool) (nodes_after : List (Node T)) : Type 0 where
    pub question : IsOneQuestion tapes asked requester nodes lost nodes_after
    pub one : OneChanges asked requester nodes nodes_after
    pub on : BringsOn asked requester nodes lost nodes_after

  pub asked_unanswered : IsAsked true nodes
  asked_unanswered =
      let before = node_ranked nodes requester behind.0 in
      let other = node_ranked nodes asked (omega (arith, behind.0, behind.1)) in
      record {
        question = unanswered before.0 other.0 before.1 other.1;
        one = no_change asked requester nodes (omega (arith, behind.1));
        on = behind;
      }

  pub asked_answered : (answer : List Message) (lost : Bool) (after : List (NodeHost T)) → AreAnswersTo nodes asked requester answer → ReceivesAt tapes requester answer lost hosts after → IsAsked lost (nodes_of after)
  asked_answered answer lost after is receives =
      let before = receives.before in
      let at : slice_get nodes requester ≡ Some before = nodes_get hosts requester (Running before) receives.at in
      let it : is.before ≡ before = same_Some is.before before (sym is.requester_at ∙ at) in
      let answer_is = subst (λ (x : Node T). map message.view answer ≡ reports_from is.other.parts.history (count_of x + 1) most_reports) it is.answer_is in
      let outcome_here = outcome before is.other at is.asked_at answer lost receives.after answer_is receives.received in
      let now = now_there before is.other at is.asked_at answer lost receives.after answer_is receives.received in
      let one_here = changed before is.other at is.asked_at answer lost receives.after answer_is receives.received in
      let nodes_are : nodes_of after ≡ slice_set nodes requester receives.after = ap nodes_of receives.hosts_are ∙ nodes_set hosts requester (Running receives.after) in
      subst (IsAsked lost) (sym nodes_are) (record {
        question = answered before is.other at is.asked_at answer lost receives.after answer_is receives.received;
        one = one_here;
        on = brings_by before is.other at is.asked_at answer lost receives.after now (ap rank one_here.asked_stays) outcome_here;
      })

-- ---- an answer

module _ {T : Type 0} (hosts : List (NodeHost T)) (asked requester : ℕ) (behind : IsBehind (nodes_of hosts) asked requester) (node other : Node T) (at : slice_get hosts requester ≡ Some (Running node)) (there : slice_get hosts asked ≡ Some (Running other)) where
  requester_is : slice_get (nodes_of hosts) requester ≡ Some node
  requester_is = nodes_get hosts requester (Running node) at

  asked_is : slice_get (nodes_of hosts) asked ≡ Some other
  asked_is = nodes_get hosts asked (Running other) there

  pub other_rank : rank_at (nodes_of hosts) asked ≡ count_of other + 1
  other_rank = rank_there (nodes_of hosts) asked other asked_is ∙ rank_running other (runs_there (nodes_of hosts) asked other asked_is (omega (arith, behind.0, behind.1)))

  node_rank : rank_at (nodes_of hosts) requester ≡ count_of node + 1
  node_rank = rank_there (nodes_of hosts) requester node requester_is ∙ rank_running node (runs_there (nodes_of hosts) requester node requester_is behind.0)

  pub fewer_published : length node.parts.history < length other.parts.history
  fewer_published = omega (arith, behind.1, other_rank, node_rank)

  pub answer_to : (answer : List Message) → map message.view answer ≡ reports_from other.parts.history (length node.parts.history + 1) most_reports → AreAnswersTo (nodes_of hosts) asked requester answer
  answer_to answer is = record { before = node; other = other; requester_at = requester_is; asked_at = asked_is; answer_is = is }
