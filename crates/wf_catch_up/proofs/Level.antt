-- How far nodes have come, and how far an answer brings one.
use Rattle.std.proofs.Common.{◌≡◌, ◌⊎◌, ◌<◌, ◌≤◌, ◌+◌, ℕ, zero, suc, Bool, true, false, List, [], ◌∷◌, ◌++◌, map, length, slice_get, Option, Some, None, refl, sym, ap, subst, ◌∙◌, inl, inr, arith, eq-eqb, length-append}
use Rattle.wf_catch_up.proofs.Common.{both_ways, cases_lt, false≢true, none-some, slice_get_within, slice_get_past, slice_get_cases, Message, Definition, definition_eq, DurableState, definition_at, next_sequence, published, with_record, on_chosen, on_message, step_rejection, transition, store, reports_from, reports_of, VolatileState, Node, stored_of, volatile_of, IsTransition, transition_of, NodeHost, Running, Stopped, HasReceived, HasMost, IsBehind, IsLevelAt, IsDeliveryTaken, StandLevel, rank, rank_at, rank_by, Takes, node_in, nodes_of, nodes_back, nodes_get}
use Rattle.wf_codec.specs.Message as message
use Rattle.wf_model.specs.Message as model
use Rattle.wf_model.specs.Table as table
use Rattle.wf_model.specs.Table.{reports}
use Rattle.wf_delivery.specs.NodeInput as giving
use Rattle.wf_delivery.proofs.Deliveries.{stays_halted}
use Rattle.wf_tape.specs.declared.tape.Tape.{Ghosts as Tape}

-- ---- how far a node has come

-- the number of maps that a node published
abbrev pub count_of : {T : Type 0} → Node T → ℕ
count_of node = length node.parts.history

pub rank_running : {T : Type 0} (node : Node T) → node.halted ≡ false → rank (Some node) ≡ count_of node + 1
rank_running node runs = ap (λ b. rank_by b (count_of node)) runs

pub rank_halted : {T : Type 0} (node : Node T) → node.halted ≡ true → rank (Some node) ≡ 0
rank_halted node halts = ap (λ b. rank_by b (count_of node)) halts

-- a node that has come anywhere runs
runs_by : (halted : Bool) (count : ℕ) → 0 < rank_by halted count → halted ≡ false
runs_by true count some = absurd (omega (arith, some))
runs_by false count some = refl

module _ {T : Type 0} (nodes : List (Node T)) (i : ℕ) where
  pub rank_there : (node : Node T) → slice_get nodes i ≡ Some node → rank_at nodes i ≡ rank (Some node)
  rank_there node at = ap rank at

  pub runs_there : (node : Node T) → slice_get nodes i ≡ Some node → 0 < rank_at nodes i → node.halted ≡ false
  runs_there node at some = runs_by node.halted (count_of node) (omega (arith, some, rank_there node at))

  ranked_by : (there : Option (Node T)) → slice_get nodes i ≡ there → 0 < rank there → (node : Node T) × (slice_get nodes i ≡ Some node)
  ranked_by None at some = absurd (omega (arith, some))
  ranked_by (Some node) at some = (node, at)

  pub node_ranked : 0 < rank_at nodes i → (node : Node T) × (slice_get nodes i ≡ Some node)
  node_ranked some = ranked_by (slice_get nodes i) refl some

-- ---- the nodes that stand level

level_counts : (a b most : ℕ) → (a + 1 ≡ 0) ⊎ (a + 1 ≡ most) → (b + 1 ≡ 0) ⊎ (b + 1 ≡ most) → a ≡ b
level_counts a b most (inl none) there = absurd (omega (arith, none))
level_counts a b most (inr here) (inl none) = absurd (omega (arith, none))
level_counts a b most (inr here) (inr there) = omega (arith, here, there)

module _ {T : Type 0} (nodes : List (Node T)) (asked : ℕ) where
  level_node : (i : ℕ) (node : Node T) → slice_get nodes i ≡ Some node → node.halted ≡ false → IsLevelAt nodes asked i → (count_of node + 1 ≡ 0) ⊎ (count_of node + 1 ≡ rank_at nodes asked)
  level_node i node at runs is = subst (λ r. (r ≡ 0) ⊎ (r ≡ rank_at nodes asked)) (rank_there nodes i node at ∙ rank_running node runs) is

  pub stand_level : ((k : ℕ) → k < length nodes → IsLevelAt nodes asked k) → StandLevel nodes
  unfolding StandLevel
  stand_level each = λ i j node other at there runs also.
      level_counts (count_of node) (count_of other) (rank_at nodes asked)
      (level_node i node at runs (each i (slice_get_within nodes i node at)))
      (level_node j other there also (each j (slice_get_within nodes j other there)))

  -- Where one is behind, they don't.
  pub not_level : (k : ℕ) → IsBehind nodes asked k → StandLevel nodes → ⊥
  unfolding StandLevel
  not_level k behind level =
      let here = node_ranked nodes k behind.0 in
      let there = node_ranked nodes asked (omega (arith, behind.0, behind.1)) in
      let runs = runs_there nodes k here.0 here.1 behind.0 in
      let also = runs_there nodes asked there.0 there.1 (omega (arith, behind.0, behind.1)) in
      let same = level k asked here.0 there.0 here.1 there.1 runs also in
      let less : count_of here.0 + 1 < count_of there.0 + 1 = omega (arith, behind.1, rank_there nodes k here.0 here.1, rank_running here.0 runs, rank_there nodes asked there.0 there.1, rank_running there.0 also) in
      absurd (omega (arith, less, same))

-- ---- the entries

module _ {T : Type 0} (hosts : List (NodeHost T)) (i : ℕ) where
  pub rank_host : (host : NodeHost T) (r : ℕ) → slice_get hosts i ≡ Some host → ((n k : ℕ) → r ≡ rank (Some (node_in n k host))) → r ≡ rank_at (nodes_of hosts) i
  rank_host host r at is = is (length hosts) i ∙ sym (rank_there (nodes_of hosts) i (node_in (length hosts) i host) (nodes_get hosts i host at))

  pub rank_nowhere : slice_get hosts i ≡ None → 0 ≡ rank_at (nodes_of hosts) i
  rank_nowhere none = sym (ap rank (past_nodes (slice_get (nodes_of hosts) i) refl))
    where
      past_nodes : (there : Option (Node T)) → slice_get (nodes_of hosts) i ≡ there → slice_get (nodes_of hosts) i ≡ None
      past_nodes None at = at
      past_nodes (Some node) at = let back = nodes_back hosts i node at in absurd (none-some back.0 (sym none ∙ back.1))

  running_by : (host : NodeHost T) → slice_get hosts i ≡ Some host → 0 < rank_at (nodes_of hosts) i → (node : Node T) × (slice_get hosts i ≡ Some (Running node))
  running_by (Running node) at some = (node, at)
  running_by (Stopped tape) at some = absurd (omega (arith, some, rank_there (nodes_of hosts) i (node_in (length hosts) i (Stopped tape)) (nodes_get hosts i (Stopped tape) at)))

  -- a node that has come anywhere runs
  pub running_there : 0 < rank_at (nodes_of hosts) i → (node : Node T) × (slice_get hosts i ≡ Some (Running node))
  running_there some =
      let found = node_ranked (nodes_of hosts) i some in
      let back = nodes_back hosts i found.0 found.1 in
      running_by back.0 back.1 some

module _ {T : Type 0} (hosts : List (NodeHost T)) (most : ℕ) where
  -- Past the last entry no node has come anywhere.
  pub all_ranked : ((k : ℕ) → k < length hosts → rank_at (nodes_of hosts) k ≤ rank_at (nodes_of hosts) most) → HasMost (nodes_of hosts) most
  unfolding HasMost
  all_ranked each = λ k. elim (slice_get_cases hosts k).1 [
    | inl there ↦ each k (slice_get_within hosts k there.0 there.2)
    | inr past ↦ omega (arith, rank_nowhere hosts k (slice_get_past hosts k past.0))
  ]

-- ---- an answer

-- one more published definition
module _ (stored : DurableState Definition) (volatile : VolatileState Definition) (s : ℕ) (d : Definition) where
  pub chosen_published : s ≡ next_sequence stored → (store stored (on_chosen definition_eq stored volatile s d).entry).history ≡ stored.history ++ d ∷ []
  unfolding on_chosen store with_record
  chosen_published next = rw (eq-eqb s (next_sequence stored) next) refl

module _ {T : Type 0} (tapes : Tape T) where
  -- A definition that is chosen for the sequence after a node's last one is published, unless the
  -- tape fails.
  chosen_counted : (node after : Node T) (outputs : List Message) (s : ℕ) (d : Definition) → s ≡ count_of node + 1 → IsTransition node (transition_of node (table.Deliver (model.Chosen s d))) outputs after → count_of after ≡ count_of node + 1
  unfolding transition on_message next_sequence published
  chosen_counted node after outputs s d next is =
      ap (λ (x : DurableState Definition). length x.history) is.stored
      ∙ ap (λ (ds : List Definition). length ds) (chosen_published (stored_of node) (volatile_of node) s d next)
      ∙ length-append node.parts.history (d ∷ [])

  pub chosen_taken : (node after : Node T) (outputs : List Message) (s : ℕ) (d : Definition) → node.halted ≡ false → s ≡ count_of node + 1 → Takes tapes false (table.Deliver (model.Chosen s d)) node after outputs →
      (after.halted ≡ true) ⊎ ((after.halted ≡ false) × (count_of after ≡ count_of node + 1))
  unfolding step_rejection
  chosen_taken node after outputs s d runs next (giving.Halts halted same quiet) = absurd (both_ways node.halted runs halted)
  chosen_taken node after outputs s d runs next (giving.Rejects why running refused same quiet) = absurd (none-some why refused)
  chosen_taken node after outputs s d runs next (giving.Steps running goes is grown) = inr (is.running, chosen_counted node after outputs s d next is)
  chosen_taken node after outputs s d runs next (giving.Fails running goes halts same keeps part each quiet) = inl halts

  -- A halted node takes nothing, and nothing is lost.
  taken_halted : (m : Message) (node after : Node T) → node.halted ≡ true → IsDeliveryTaken tapes true m node after → ⊥
  taken_halted m node after halted taken = both_ways node.halted taken.takes.runs halted

  pub received_halted : (messages : List Message) (lost : Bool) (node after : Node T) → node.halted ≡ true → HasReceived tapes messages lost node after → (lost ≡ false) × (after.halted ≡ true)
  unfolding HasReceived
  received_halted [] lost node after halted received = (received.0, ap (λ (x : Node T). x.halted) received.1 ∙ halted)
  received_halted (m ∷ rest) lost node after halted (inl losing) = absurd (taken_halted m node after halted losing.1)
  received_halted (m ∷ rest) lost node after halted (inr (middle, taken, received)) =
      let same = stays_halted tapes node middle (table.Deliver (message.view m)) taken.outputs false taken.takes halted in
      received_halted rest lost middle after (ap (λ (x : Node T). x.halted) same ∙ halted) received

  -- A message that is lost leaves the node as it was, but for its tape.
  taken_lost : (m : Message) (node after : Node T) → IsDeliveryTaken tapes true m node after → (after.halted ≡ false) × (count_of after ≡ count_of node)
  taken_lost m node after taken = (taken.takes.still, ap (λ (x : Node T). length x.parts.history) taken.takes.same)

-- ---- the messages of an answer

no_messages : (messages : List Message) → map message.view messages ≡ [] → messages ≡ []
no_messages [] is = refl
no_messages (m ∷ rest) is = absurd (omega (arith, ap length is))

module _ (history : List Definition) where
  definition_past : (s : ℕ) → length history < s → definition_at history s ≡ None
  unfolding definition_at
  definition_past zero past = refl
  definition_past (suc k) past = slice_get_past history k (omega (arith, past))

  definition_within : (s : ℕ) → 0 < s → s ≤ length history → (d : Definition) × (definition_at history s ≡ Some d)
  unfolding definition_at
  definition_within zero some within = absurd (omega (arith, some))
  definition_within (suc k) some within = elim (slice_get_cases history k).1 [
    | inl at ↦ (at.0, at.2)
    | inr past ↦ absurd (omega (arith, past.0, within))
  ]

  -- Past the last one nothing is answered.
  none_reported : (count s : ℕ) → length history < s → reports_from history s count ≡ []
  unfolding reports_from reports reports_of
  none_reported zero s past = refl
  none_reported (suc count) s past = rw (definition_past s past) (none_reported count (suc s) (omega (arith, past)))

  one_reported : (count s : ℕ) (d : Definition) → definition_at history s ≡ Some d → reports_from history s (suc count) ≡ model.Chosen s d ∷ reports_from history (suc s) count
  unfolding reports_from reports reports_of
  one_reported count s d at = rw at refl

head_of : model.Message Definition → List (model.Message Definition) → model.Message Definition
head_of default [] = default
head_of default (m ∷ rest) = m

tail_of : List (model.Message Definition) → List (model.Message Definition)
tail_of [] = []
tail_of (m ∷ rest) = rest

-- How far a node has come that heard the beginning of an answer: it is halted; or it has published
-- all of the other's definitions, or as many more as were asked for; or one was lost, and it hasn't
-- published them all.
pub record ComesOn (least most count : ℕ) (lost : Bool) (after_halted : Bool) (reached : ℕ) : Type 0 where
  pub runs : after_halted ≡ false
  pub grown : least ≤ reached
  pub within : reached ≤ most
  pub whole : lost ≡ false → (reached ≡ most) ⊎ (reached ≡ least + count)
  pub part : lost ≡ true → reached < most

module _ {T : Type 0} (tapes : Tape T) (history : List Definition) where
  abbrev pub Outcome : (count : ℕ) (lost : Bool) → Node T → Node T → Type 0
  Outcome count lost node after = ((lost ≡ false) × (after.halted ≡ true)) ⊎ ComesOn (count_of node) (length history) count lost after.halted (count_of after)

  received_nothing : (count : ℕ) (lost : Bool) (node after : Node T) → node.halted ≡ false → count_of node ≤ length history → (count ≡ 0) ⊎ (count_of node ≡ length history) → (lost ≡ false) × (after ≡ node) → Outcome count lost node after
  received_nothing count lost node after runs within all (kept, same) =
      let as_many : count_of after ≡ count_of node = ap (λ (x : Node T). length x.parts.history) same in
      inr (record {
        runs = ap (λ (x : Node T). x.halted) same ∙ runs;
        grown = omega (arith, as_many);
        within = omega (arith, as_many, within);
        whole = λ none. elim all [
          | inl none_left ↦ inr (omega (arith, as_many, none_left))
          | inr whole ↦ inl (omega (arith, as_many, whole))
        ];
        part = λ is. absurd (false≢true (sym kept ∙ is));
      })

  received_loss : (count : ℕ) (lost : Bool) (m : Message) (node after : Node T) → count_of node < length history → lost ≡ true → IsDeliveryTaken tapes true m node after → Outcome count lost node after
  received_loss count lost m node after less is taken =
      let left = taken_lost tapes m node after taken in
      inr (record {
        runs = left.0;
        grown = omega (arith, left.1);
        within = omega (arith, left.1, less);
        whole = λ none. absurd (false≢true (sym none ∙ is));
        part = λ yes. omega (arith, left.1, less);
      })

  received_more : (count : ℕ) (lost : Bool) (node middle after : Node T) → count_of middle ≡ count_of node + 1 → Outcome count lost middle after → Outcome (suc count) lost node after
  received_more count lost node middle after one (inl halts) = inl halts
  received_more count lost node middle after one (inr on) = inr (record {
    runs = on.runs;
    grown = omega (arith, one, on.grown);
    within = on.within;
    whole = λ none. elim (on.whole none) [
      | inl all ↦ inl all
      | inr so_many ↦ inr (omega (arith, one, so_many))
    ];
    part = on.part;
  })

  -- what is shown of an answer of at most `count` messages
  abbrev Brings : (count : ℕ) (lost : Bool) → Node T → Type 0
  Brings count lost after = (messages : List Message) (node : Node T) → node.halted ≡ false → count_of node ≤ length history → map message.view messages ≡ reports_from history (count_of node + 1) count →
      HasReceived tapes messages lost node after → Outcome count lost node after

  received_on : (count : ℕ) (lost : Bool) (rest : List Message) (node middle after : Node T) → Brings count lost after → count_of node < length history → map message.view rest ≡ reports_from history (suc (count_of node + 1)) count →
      HasReceived tapes rest lost middle after → (middle.halted ≡ true) ⊎ ((middle.halted ≡ false) × (count_of middle ≡ count_of node + 1)) → Outcome (suc count) lost node after
  received_on count lost rest node middle after brings less others received (inl halts) = inl (received_halted tapes rest lost middle after halts received)
  received_on count lost rest node middle after brings less others received (inr goes) =
      received_more count lost node middle after goes.1
      (brings rest middle goes.0 (omega (arith, goes.1, less)) (others ∙ ap (λ s. reports_from history s count) (omega (arith, goes.1))) received)

  received_first : (count : ℕ) (lost : Bool) (m : Message) (rest : List Message) (node after : Node T) → Brings count lost after → node.halted ≡ false → count_of node < length history →
      map message.view (m ∷ rest) ≡ reports_from history (count_of node + 1) (suc count) → HasReceived tapes (m ∷ rest) lost node after → Outcome (suc count) lost node after
  unfolding HasReceived head_of tail_of reports_from
  received_first count lost m rest node after brings runs less is (inl losing) = received_loss (suc count) lost m node after less losing.0 losing.1
  received_first count lost m rest node after brings runs less is (inr (middle, taken, received)) =
      let there = definition_within history (count_of node + 1) (omega arith) (omega (arith, less)) in
      let whole = is ∙ one_reported history count (count_of node + 1) there.0 there.1 in
      let first : message.view m ≡ model.Chosen (count_of node + 1) there.0 = ap (head_of (message.view m)) whole in
      let others : map message.view rest ≡ reports_from history (suc (count_of node + 1)) count = ap tail_of whole in
      let takes = subst (λ (x : model.Message Definition). Takes tapes false (table.Deliver x) node middle taken.outputs) first taken.takes in
      received_on count lost rest node middle after brings less others received (chosen_taken tapes node middle taken.outputs (count_of node + 1) there.0 runs refl takes)

  received_some : (count : ℕ) (lost : Bool) (messages : List Message) (node after : Node T) → Brings count lost after → node.halted ≡ false → count_of node < length history →
      map message.view messages ≡ reports_from history (count_of node + 1) (suc count) → HasReceived tapes messages lost node after → Outcome (suc count) lost node after
  received_some count lost [] node after brings runs less is received =
      let there = definition_within history (count_of node + 1) (omega arith) (omega (arith, less)) in
      absurd (omega (arith, ap length (is ∙ one_reported history count (count_of node + 1) there.0 there.1)))
  received_some count lost (m ∷ rest) node after brings runs less is received = received_first count lost m rest node after brings runs less is received

  -- what a node heard that heard no messages
  none_received : (lost : Bool) (messages : List Message) (node after : Node T) → messages ≡ [] → HasReceived tapes messages lost node after → (lost ≡ false) × (after ≡ node)
  unfolding HasReceived
  none_received lost [] node after none received = received
  none_received lost (m ∷ rest) node after none received = absurd (omega (arith, ap length none))

  received_by : (count : ℕ) (lost : Bool) (messages : List Message) (node after : Node T) → Brings count lost after → node.halted ≡ false → count_of node ≤ length history →
      (count_of node < length history) ⊎ (length history ≤ count_of node) → map message.view messages ≡ reports_from history (count_of node + 1) (suc count) → HasReceived tapes messages lost node after → Outcome (suc count) lost node after
  received_by count lost messages node after brings runs within (inr all) is received =
      received_nothing (suc count) lost node after runs within (inr (omega (arith, all, within)))
      (none_received lost messages node after (no_messages messages (is ∙ none_reported history (suc count) (count_of node + 1) (omega (arith, all)))) received)
  received_by count lost messages node after brings runs within (inl less) is received = received_some count lost messages node after brings runs less is received

  -- A node that hears an answer to the question for the sequences after its last one.
  pub received_answer : (count : ℕ) (lost : Bool) (after : Node T) → Brings count lost after
  unfolding reports_from
  received_answer zero lost after = λ messages node runs within is received.
      received_nothing zero lost node after runs within (inl refl) (none_received lost messages node after (no_messages messages is) received)
  received_answer (suc count) lost after = λ messages node runs within is received.
      received_by count lost messages node after (received_answer count lost after) runs within (cases_lt (count_of node) (length history)) is received
