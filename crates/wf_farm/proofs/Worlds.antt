-- A farm is one world, which is reached from the start: so its nodes agree.
use Rattle.std.proofs.Common.{◌≡◌, ℕ, zero, suc, ◌+◌, ◌≤◌, Bool, true, List, [], map, ◌∷◌, ◌++◌, length, replicate, slice_get, Option, Some, None, refl, sym, ap, subst, ◌∙◌, arith}
use Rattle.wf_farm.proofs.Common.{map-append, none-some, same_Some, Message, Definition, empty_map, definition_eq, steps_in_turn, IsBeginning, sent_before, raised, history_of, history, definition, DurableState, definition_at, World, Event, start, after, steps, at_start, Node, volatile_of, Running, Stopped, HasDurableState, HasNoTwoDefinitions, IsOneWorld, AreSoundHosts, KeepMembers, Moves, TapeValue, IsImageNow, NeverFails, IsFresh, AllRun, node_in, nodes_of, nodes_back, MemoryFarm, IsMemoryFarm, IsReachable, FailsOnly, MemoryHost, HostsNode, IsHostOf, tape_in, fresh_node, IsFreshAt}
use Rattle.wf_codec.specs.Message as message
use Rattle.wf_model.specs.Message as model
use Rattle.wf_model.specs.World as world
use Rattle.wf_farm.specs.Cluster.{AreNodes}
use Rattle.wf_farm.specs.Cluster as cluster
use Rattle.wf_farm.specs.Hosts as entries
use Rattle.wf_delivery.specs.Reachability as leading
use Rattle.wf_farm.specs.Start.{AreFresh}
use Rattle.wf_farm.proofs.Events.{node_at}
use Rattle.wf_delivery.proofs.Stored.{content_is_image, node_of}
use Rattle.wf_farm.proofs.Steps.{one_stored}
use Rattle.wf_delivery.proofs.Turns.{world_of}
use Rattle.wf_safety.proofs.Earlier.{earlier_messages}
use Rattle.wf_safety.proofs.Theorems.{agreement}

-- ---- the start

pub none_fresh : (n : ℕ) → AreFresh n 0 []
none_fresh n = tt

fresh_more : (n i : ℕ) (hosts : List MemoryHost) (host : MemoryHost) → AreFresh n i hosts → IsFreshAt n (i + length hosts) host → AreFresh n i (hosts ++ host ∷ [])
fresh_more n i [] host are is = (subst (λ k. IsFreshAt n k host) (omega arith) is, tt)
fresh_more n i (p ∷ hosts) host are is = (are.0, fresh_more n (suc i) hosts host are.1 (subst (λ k. IsFreshAt n k host) (omega arith) is))

-- One more fresh node, appended.
pub one_more_fresh : (n id : ℕ) (hosts : List MemoryHost) (host : MemoryHost) → AreFresh n 0 hosts → length hosts ≡ id → HostsNode host fresh_node → IsHostOf n id host → NeverFails (tape_in host) → AreFresh n 0 (hosts ++ host ∷ [])
one_more_fresh n id hosts host are long is member never = fresh_more n 0 hosts host are (subst (λ k. IsFreshAt n k host) (omega (arith, long)) (is, member, never))

fresh_nodes : (n i : ℕ) (hosts : List MemoryHost) → AreFresh n i hosts → AreNodes hosts (replicate (length hosts) fresh_node)
fresh_nodes n i [] are = tt
fresh_nodes n i (p ∷ hosts) are = (are.0.0, fresh_nodes n (suc i) hosts are.1)

fresh_at : (n i j : ℕ) (hosts : List MemoryHost) (host : MemoryHost) → AreFresh n i hosts → slice_get hosts j ≡ Some host → IsFreshAt n (i + j) host
fresh_at n i j [] host are e = absurd (none-some host e)
fresh_at n i zero (p ∷ hosts) host are e = subst (λ q. IsFreshAt n (i + 0) q) (same_Some p host e) (subst (λ k. IsFreshAt n k p) (omega arith) are.0)
fresh_at n i (suc j) (p ∷ hosts) host are e = subst (λ k. IsFreshAt n k host) (omega arith) (fresh_at n (suc i) j hosts host are.1 e)

-- n fresh nodes and no message are the start.
pub start_shown : (n : ℕ) (hosts : List MemoryHost) → AreFresh n 0 hosts → length hosts ≡ n → cluster.Refines hosts [] (start n)
unfolding start
start_shown n hosts are long = record { nodes = subst (λ k. AreNodes hosts (replicate k fresh_node)) long (fresh_nodes n 0 hosts are); messages = refl }

pub start_members : (n : ℕ) (hosts : List MemoryHost) → AreFresh n 0 hosts → length hosts ≡ n → AreSoundHosts hosts
unfolding AreSoundHosts
start_members n hosts are long = λ i host e. subst (λ k. IsHostOf k i host) (sym long) (subst (λ j. IsHostOf n j host) (omega arith) (fresh_at n 0 i hosts host are e).1)

pub start_sturdy : (n : ℕ) (hosts : List MemoryHost) → AreFresh n 0 hosts → FailsOnly None hosts
unfolding FailsOnly
start_sturdy n hosts are = λ i host e other. (fresh_at n 0 i hosts host are e).2

-- Fresh nodes all run.
fresh_host : (n i : ℕ) (host : MemoryHost) → IsFreshAt n i host → (node : Node TapeValue) × (host ≡ Running node) × IsFresh node
fresh_host n i (Running node) is =
    (node, refl, record { runs = is.1.2; stored = sym (ap (λ x. x.stored) is.0); volatile = sym (same_Some at_start (volatile_of node) (ap (λ x. x.volatile) is.0)) })
fresh_host n i (Stopped kept) is = absurd (none-some at_start (sym is.0.0))

pub fresh_run : (n : ℕ) (hosts : List MemoryHost) → AreFresh n 0 hosts → AllRun hosts
unfolding AllRun
fresh_run n hosts are = λ i host at. let is = fresh_host n i host (subst (λ k. IsFreshAt n k host) (omega arith) (fresh_at n 0 i hosts host are at)) in (is.0, is.1)

pub fresh_are_new : (n : ℕ) (hosts : List MemoryHost) → AreFresh n 0 hosts → leading.AreFresh (nodes_of hosts)
unfolding leading.AreFresh
fresh_are_new n hosts are = λ i node at.
    let back = nodes_back hosts i node at in
    let is = fresh_host n i back.0 (subst (λ k. IsFreshAt n k back.0) (omega arith) (fresh_at n 0 i hosts back.0 are back.1)) in
    subst (λ (x : Node TapeValue). IsFresh x) (ap (λ (p : MemoryHost). node_in (length hosts) i p) (sym is.1) ∙ back.2) is.2

-- The start is reached by no events.
pub started : (n : ℕ) (hosts : List MemoryHost) → length hosts ≡ n → cluster.Refines hosts [] (start n) → IsReachable IsImageNow true hosts []
unfolding after steps
started n hosts long refines =
    let is = subst (λ k. cluster.Refines hosts [] (start k)) (sym long) refines in
    record { events = []; earlier = []; nodes = is.nodes; messages = is.messages; all = λ complete. refl }

-- ---- a run goes on from where a farm is

module _ (complete : Bool) (hosts : List MemoryHost) (sent : List Message) (reached : IsReachable IsImageNow complete hosts sent) where
  -- the world reached, and the same with the messages that the farm still has
  abbrev there : World Definition
  there = after definition_eq (length hosts) reached.events

  abbrev here : World Definition
  here = world_of there.nodes (map message.view sent)

  abbrev before : List (model.Message Definition)
  before = map message.view reached.earlier

  is_here : cluster.Refines hosts sent here
  is_here = record { nodes = reached.nodes; messages = refl }

  restored : sent_before before here ≡ there
  unfolding sent_before
  restored = ap (world_of there.nodes) (sym (reached.messages ∙ map-append message.view reached.earlier sent))

  module _ (after_hosts : List MemoryHost) (after_sent : List Message) (more : List (Event Definition)) where
    abbrev all_events : List (Event Definition)
    all_events = reached.events ++ raised (length before) more

    -- The run leads there too, with the earlier messages before.
    run_on : (k : ℕ) → k ≡ length hosts → after definition_eq k all_events ≡ sent_before before (steps definition_eq here more)
    unfolding after
    run_on k long =
        steps_in_turn Definition definition_eq (start k) reached.events (raised (length before) more)
        ∙ ap (λ n. steps definition_eq (steps definition_eq (start n) reached.events) (raised (length before) more)) long
        ∙ ap (λ w. steps definition_eq w (raised (length before) more)) (sym restored)
        ∙ earlier_messages Definition definition_eq before here more

    -- What is reached stays so by any run.
    pub reached_on : length after_hosts ≡ length hosts → Moves more hosts sent after_hosts after_sent → IsReachable IsImageNow complete after_hosts after_sent
    unfolding Moves sent_before
    reached_on long moves =
        let ended = run_on (length after_hosts) long in
        let refines = moves here is_here in
        record {
          events = all_events;
          earlier = reached.earlier;
          nodes = subst (λ w. AreNodes after_hosts w.nodes) (sym ended) refines.nodes;
          messages = ap (λ w. w.sent) ended ∙ ap (λ ms. before ++ ms) refines.messages ∙ sym (map-append message.view reached.earlier after_sent);
          all = reached.all;
        }

-- ---- the members

-- of a farm in memory
one_member : (n i : ℕ) (host : MemoryHost) → entries.IsMember (Unit {0}) IsImageNow NeverFails n i host → IsHostOf n i host
one_member n i (Running node) is = (is.0, is.1, (is.2 tt).0)
one_member n i (Stopped kept) is = tt

its_tape : (n i : ℕ) (host : MemoryHost) → entries.IsMember (Unit {0}) IsImageNow NeverFails n i host → NeverFails (tape_in host)
its_tape n i (Running node) is = (is.2 tt).1
its_tape n i (Stopped kept) is = (is tt).0

its_member : (n i : ℕ) (host : MemoryHost) → IsHostOf n i host → NeverFails (tape_in host) → entries.IsMember (Unit {0}) IsImageNow NeverFails n i host
its_member n i (Running node) is never = (is.0, is.1, λ durable. (is.2, never))
its_member n i (Stopped kept) is never = λ durable. (never, (kept.bytes, content_is_image kept))

pub members_of : (hosts : List MemoryHost) → entries.AreAtTheirIndex (Unit {0}) IsImageNow NeverFails hosts → AreSoundHosts hosts
unfolding AreSoundHosts entries.AreAtTheirIndex
members_of hosts are = λ i host at. one_member (length hosts) i host (are i host at)

pub sturdy_of : (hosts : List MemoryHost) → entries.AreAtTheirIndex (Unit {0}) IsImageNow NeverFails hosts → FailsOnly None hosts
unfolding FailsOnly entries.AreAtTheirIndex
sturdy_of hosts are = λ i host at other. its_tape (length hosts) i host (are i host at)

as_members : (hosts : List MemoryHost) → AreSoundHosts hosts → FailsOnly None hosts → entries.AreAtTheirIndex (Unit {0}) IsImageNow NeverFails hosts
unfolding AreSoundHosts FailsOnly entries.AreAtTheirIndex
as_members hosts are sturdy = λ i host at. its_member (length hosts) i host (are i host at) (sturdy i host at (λ is. none-some i is))

-- A farm after a run is a farm, if no tape of it fails.
pub farm_run : (hosts after_hosts : List MemoryHost) (sent after_sent : List Message) (pumped now : ℕ) (complete : Bool) (more : List (Event Definition)) →
    IsMemoryFarm hosts sent pumped complete → length after_hosts ≡ length hosts → AreSoundHosts after_hosts → FailsOnly None after_hosts → Moves more hosts sent after_hosts after_sent → now ≤ length after_sent →
    IsMemoryFarm after_hosts after_sent now complete
farm_run hosts after_hosts sent after_sent pumped now complete more farm long members sturdy moves within = record {
  some = subst (λ k. 1 ≤ k) (sym long) farm.some;
  most = subst (λ k. k ≤ 64) (sym long) farm.most;
  members = as_members after_hosts members sturdy;
  pumped_within = within;
  reached = λ durable. reached_on complete hosts sent (farm.reached durable) after_hosts after_sent more long moves;
}

-- No tape fails that didn't before.
pub sturdy_on : (watched : Option ℕ) (hosts after_hosts : List MemoryHost) → KeepMembers hosts after_hosts → FailsOnly watched hosts → FailsOnly watched after_hosts
unfolding FailsOnly
sturdy_on watched hosts after_hosts keeps sturdy = λ i host at other. let was = keeps.sturdy i host at in was.2 (sturdy i was.0 was.1 other)

-- So after a run of a farm whose tapes don't fail.
pub farm_moved : (hosts after_hosts : List MemoryHost) (sent after_sent : List Message) (pumped now : ℕ) (complete : Bool) (more : List (Event Definition)) →
    IsMemoryFarm hosts sent pumped complete → KeepMembers hosts after_hosts → Moves more hosts sent after_hosts after_sent → now ≤ length after_sent → IsMemoryFarm after_hosts after_sent now complete
farm_moved hosts after_hosts sent after_sent pumped now complete more farm keeps moves within =
    farm_run hosts after_hosts sent after_sent pumped now complete more farm keeps.as_many (keeps.members (members_of hosts farm.members))
    (sturdy_on None hosts after_hosts keeps (sturdy_of hosts farm.members)) moves within

-- A new farm is one.
pub farm_started : (n : ℕ) (hosts : List MemoryHost) → 1 ≤ n → n ≤ 64 → length hosts ≡ n → AreSoundHosts hosts → FailsOnly None hosts → cluster.Refines hosts [] (start n) → IsMemoryFarm hosts [] 0 true
farm_started n hosts some most long members sturdy refines = record {
  some = subst (λ k. 1 ≤ k) (sym long) some;
  most = subst (λ k. k ≤ 64) (sym long) most;
  members = as_members hosts members sturdy;
  pumped_within = omega arith;
  reached = λ durable. started n hosts long refines;
}

-- ---- one world

one_node : (host : MemoryHost) (node other : world.Node Definition) → HostsNode host node → HostsNode host other → node ≡ other
one_node (Running held) node other is again = is ∙ sym again
one_node (Stopped kept) node other is again =
    ap (λ s. node_of s node.volatile) (one_stored kept node.stored other.stored is.1 again.1) ∙ ap (λ x. node_of other.stored x) (is.0 ∙ sym again.0)

one_list : (hosts : List MemoryHost) (nodes others : List (world.Node Definition)) → AreNodes hosts nodes → AreNodes hosts others → nodes ≡ others
one_list [] [] [] are again = refl
one_list [] [] (y ∷ others) are again = absurd again
one_list [] (x ∷ nodes) others are again = absurd are
one_list (p ∷ hosts) [] others are again = absurd are
one_list (p ∷ hosts) (x ∷ nodes) [] are again = absurd again
one_list (p ∷ hosts) (x ∷ nodes) (y ∷ others) are again =
    ap (λ z. z ∷ nodes) (one_node p x y are.0 again.0) ∙ ap (λ zs. y ∷ zs) (one_list hosts nodes others are.1 again.1)

-- A farm that has all messages is the world that it was led to, and no other.
pub one_world : (farm : MemoryFarm) → (Unit {0} → IsReachable IsImageNow farm.complete farm.hosts farm.sent) → farm.complete ≡ true → IsOneWorld farm
one_world farm known complete =
    let reached = known tt in
    let w = after definition_eq (length farm.hosts) reached.events in
    let all : w.sent ≡ map message.view farm.sent = reached.messages ∙ ap (λ earlier. map message.view (earlier ++ farm.sent)) (reached.all complete) in
    record {
      the_world = w;
      shown = record { nodes = reached.nodes; messages = all };
      events = reached.events;
      reached = refl;
      no_other = λ v refines.
          ap (λ ns. world_of ns v.sent) (one_list farm.hosts v.nodes w.nodes refines.nodes reached.nodes)
          ∙ ap (λ ms. world_of w.nodes ms) (refines.messages ∙ sym all);
    }

-- ---- the headline

-- the durable state of an entry is that of its node
stored_at : (host : MemoryHost) (node : world.Node Definition) (stored : DurableState Definition) → HostsNode host node → HasDurableState (Some host) stored → stored ≡ node.stored
stored_at (Running held) node stored is has = has ∙ sym (ap (λ x. x.stored) is)
stored_at (Stopped kept) node stored is has = one_stored kept stored node.stored has is.1

-- a definition at a sequence, as the model's `definition`
entry_at : (definitions : List Definition) (w : World Definition) (i s : ℕ) (d : Definition) → history w i ≡ definitions → definition_at definitions s ≡ Some d → definition empty_map w i s ≡ Some d
unfolding definition definition_at
entry_at definitions w i zero d same e = absurd (none-some d e)
entry_at definitions w i (suc k) d same e = ap (λ ds. slice_get ds k) same ∙ e

published_by : (hosts : List MemoryHost) (w : World Definition) (i s : ℕ) (d : Definition) (there : Option MemoryHost) (stored : DurableState Definition) → AreNodes hosts w.nodes →
    slice_get hosts i ≡ there → HasDurableState there stored → definition_at stored.history s ≡ Some d → definition empty_map w i s ≡ Some d
unfolding history history_of
published_by hosts w i s d None stored are at has e = absurd has
published_by hosts w i s d (Some host) stored are at has e =
    let here = node_at hosts w.nodes i host are at in
    entry_at stored.history w i s d (ap history_of here.1 ∙ ap (λ (x : DurableState Definition). x.history) (sym (stored_at host here.0 stored here.2 has))) e

-- the durable state of an entry has the list of the world's node
history_at : (hosts : List MemoryHost) (w : World Definition) (i : ℕ) (there : Option MemoryHost) (stored : DurableState Definition) → AreNodes hosts w.nodes → slice_get hosts i ≡ there →
    HasDurableState there stored → history w i ≡ stored.history
unfolding history history_of
history_at hosts w i None stored are at has = absurd has
history_at hosts w i (Some host) stored are at has =
    let here = node_at hosts w.nodes i host are at in
    ap history_of here.1 ∙ ap (λ (x : DurableState Definition). x.history) (sym (stored_at host here.0 stored here.2 has))

-- What an entry's node has published before a run is a prefix of what it has published after it.
pub grown : (hosts after_hosts : List MemoryHost) (sent after_sent : List Message) (complete : Bool) (more : List (Event Definition)) →
    length after_hosts ≡ length hosts → (Unit {0} → IsReachable IsImageNow complete hosts sent) → Moves more hosts sent after_hosts after_sent →
    (i : ℕ) (old new : DurableState Definition) → HasDurableState (slice_get hosts i) old → HasDurableState (slice_get after_hosts i) new → IsBeginning old.history new.history
unfolding reached_on
grown hosts after_hosts sent after_sent complete more long known moves i old new was is =
    let reached = known tt in
    let ended = reached_on complete hosts sent reached after_hosts after_sent more long moves in
    let before = after definition_eq (length hosts) reached.events in
    let now = after definition_eq (length after_hosts) ended.events in
    subst (λ h. IsBeginning h new.history) (history_at hosts before i (slice_get hosts i) old reached.nodes refl was)
    (subst (λ h. IsBeginning (history before i) h) (history_at after_hosts now i (slice_get after_hosts i) new ended.nodes refl is)
    (subst (λ k. IsBeginning (history before i) (history (after definition_eq k ended.events) i)) (sym long)
    ((agreement Definition).grows definition_eq (length hosts) i reached.events (raised (length (map message.view reached.earlier)) more))))

pub grown_still : (hosts : List MemoryHost) (sent : List Message) (complete : Bool) → (Unit {0} → IsReachable IsImageNow complete hosts sent) →
    (i : ℕ) (old new : DurableState Definition) → HasDurableState (slice_get hosts i) old → HasDurableState (slice_get hosts i) new → IsBeginning old.history new.history
unfolding Moves steps
grown_still hosts sent complete reached = grown hosts hosts sent sent complete [] refl reached (λ w refines. refines)

-- Whatever led to the farm, no two of its nodes publish different definitions under one sequence.
pub agree_reached : (farm : MemoryFarm) → (Unit {0} → IsReachable IsImageNow farm.complete farm.hosts farm.sent) → HasNoTwoDefinitions farm
unfolding HasNoTwoDefinitions
agree_reached farm known = λ i j s c d first second.
    let reached = known tt in
    let w = after definition_eq (length farm.hosts) reached.events in
    ((agreement Definition).facts definition_eq (length farm.hosts) reached.events).same_definition empty_map i j s c d
    (published_by farm.hosts w i s c (slice_get farm.hosts i) first.stored reached.nodes refl first.has first.entry)
    (published_by farm.hosts w j s d (slice_get farm.hosts j) second.stored reached.nodes refl second.has second.entry)
