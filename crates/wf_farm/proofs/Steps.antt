-- One entry: a node in memory that is closed, and opened again.
use Rattle.std.proofs.Common.{◌≡◌, ◌∙◌, ℕ, false, Some, refl, sym, ap, subst}
use Rattle.wf_farm.proofs.Common.{Definition, DurableState, at_start, AllStandFor, StandsFor, Node, stored_of, volatile_of, IsFoldOf, IsSameNode, Follows, ReadsSame, IsImageNow, Running, Stopped, IsFresh, MemoryHost, IsChanged, IsHostOf, HostsNode, KeepsMember, Restarts, HostStays, Stops, fresh_node, node_restarted, node_stopped, volatile_restarted}
use Rattle.wf_delivery.proofs.Stored.{content_is_image, node_eq, node_of, one_stand, still_stands}
use Rattle.wf_model.specs.World as world
use Rattle.wf_tape.specs.MemoryTape as tape

-- the node of the model that a running one is
abbrev pub shown : Node tape.TapeValue → world.Node Definition
shown node = node_of (stored_of node) (Some (volatile_of node))

-- a node that is unchanged but for its tape
pub same_stays : (node after : Node tape.TapeValue) → IsSameNode node after → HostStays (Running node) (Running after)
unfolding HostStays
same_stays node after same = λ x e. e ∙ node_eq _ _ _ _ (sym (ap stored_of same)) (ap Some (sym (ap volatile_of same)))

-- ---- a stop

-- The tape of a node that was closed stands for what it stored.
pub stops_changed : (n i : ℕ) (host after : MemoryHost) → IsHostOf n i host → Stops host after → IsChanged node_stopped host after
unfolding node_stopped
stops_changed n i (Running node) after member stopped = λ x e.
    subst (λ p. HostsNode p (node_stopped x)) (sym stopped.1) (refl, subst (λ y. AllStandFor y.stored (IsImageNow stopped.0)) (sym e) (stopped.2 member.2))
stops_changed n i (Stopped kept) after member stopped = λ x is. subst (λ p. HostsNode p (node_stopped x)) (sym stopped) (refl, is.1)

pub stops_member : (host after : MemoryHost) → Stops host after → KeepsMember host after
unfolding KeepsMember
stops_member (Running node) after stopped = λ n i member. subst (IsHostOf n i) (sym stopped.1) tt
stops_member (Stopped kept) after stopped = λ n i member. subst (IsHostOf n i) (sym stopped) tt

-- ---- a restart

-- A tape stands for exactly one durable state.
pub one_stored : (kept : tape.TapeValue) (stored others : DurableState Definition) → AllStandFor stored (IsImageNow kept) → AllStandFor others (IsImageNow kept) → stored ≡ others
one_stored kept stored others first second =
    one_stand kept.bytes stored others (first kept.bytes (content_is_image kept)) (second kept.bytes (content_is_image kept))

-- A node opened from a tape stored what the tape stands for, and has no proposal and no leadership.
pub opened : (kept : tape.TapeValue) (node : Node tape.TapeValue) → IsFoldOf (stored_of node) kept.bytes → volatile_of node ≡ at_start → Restarts (Stopped kept) (Running node)
unfolding Restarts node_restarted volatile_restarted
opened kept node fold_of idle = λ x is.
    let stands : StandsFor x.stored kept.bytes = is.1 kept.bytes (content_is_image kept) in
    let found : StandsFor (stored_of node) kept.bytes = record { records = fold_of.records; reads = (fold_of.rest, fold_of.tape.reads); folds = fold_of.folds } in
    ap (λ volatile. node_of x.stored (volatile_restarted volatile)) is.0
    ∙ node_eq _ _ _ _ (one_stand kept.bytes x.stored (stored_of node) stands found) (ap Some (sym idle))

pub opened_member : (n i : ℕ) (node : Node tape.TapeValue) → node.id ≡ i → node.n ≡ n → node.halted ≡ false → IsHostOf n i (Running node)
opened_member n i node id many runs = (id, many, runs)

pub still_running : (node : Node tape.TapeValue) → Restarts (Running node) (Running node)
unfolding Restarts node_restarted volatile_restarted
still_running node = λ x e. subst (λ y. node_restarted y ≡ shown node) (sym e) refl

-- The entry of a node that stays stopped stands for what it stood for.
pub not_opened : (kept left : tape.TapeValue) → Follows ReadsSame (IsImageNow kept) (IsImageNow left) → HostStays (Stopped kept) (Stopped left)
unfolding HostStays
not_opened kept left follows = λ x is. (is.0, still_stands kept left x.stored follows is.1)

pub fresh_shown : (node : Node tape.TapeValue) → IsFresh node → HostsNode (Running node) fresh_node
fresh_shown node is = node_eq _ _ _ _ (sym is.stored) (ap Some (sym is.volatile))
