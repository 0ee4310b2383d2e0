-- Events while a node's tape may fail: the farm, whose tapes may fail or not, and whose failures
-- are set and taken away.
use Rattle.std.proofs.Common.{◌≡◌, ◌∙◌, ℕ, ◌≤◌, ◌<◌, List, ◌++◌, length, slice_get, slice_set, Option, Some, None, inl, inr, refl, sym, ap, subst, arith}
use Rattle.wf_farm.proofs.Common.{cases_eq, none-some, same_Some, slice_get_within, Message, Definition, definition_eq, steps_in_turn, Action, Event, steps, NeverFails, ChangesByEvent, ChangesByStep, AreSoundHosts, Happens, KeepMembers, Moves, StayShown, FarmFault, Memory, may_allocate, FailsOnly, FailsWithin, IsHappened, NoneFails, MemoryHost, tape_in, with_fuse_in, get_set_other, get_set_same}
use Rattle.wf_model.specs.World as world
use Rattle.wf_farm.specs.Cluster.{Refines}
use Rattle.wf_farm.proofs.Events.{host_members, host_stays, set_members}
use Rattle.wf_farm.proofs.Tried.{fused_member, fused_stays, unfused_sturdy}

-- ---- events

module _ (hosts after : List MemoryHost) (sent more : List Message) where
  -- an event that isn't a step
  pub plain_event : (event : Event Definition) → Happens event None hosts sent after more → IsHappened event (record { why = None; torn = None }) hosts sent after more
  plain_event event happened = record { reaches = happened.reaches; why = happened.why }

-- ---- what the carrier does

pub same_by_event : {C : Type 0} (hosts : List MemoryHost) (sent : List Message) (before after : C) (event : Event Definition) → after ≡ before → ChangesByEvent event hosts sent before after
unfolding ChangesByEvent
same_by_event hosts sent before after event same = λ w refines idle. same

pub step_by_event : {C : Type 0} (hosts : List MemoryHost) (sent : List Message) (before after : C) (i : ℕ) (action : Action Definition ℕ) → ChangesByEvent (world.Act i action) hosts sent before after → ChangesByStep i action hosts sent before after
unfolding ChangesByEvent ChangesByStep may_allocate
step_by_event hosts sent before after i action changes = changes

-- ---- runs

pub moves_then : (events rest : List (Event Definition)) (hosts middle after : List MemoryHost) (sent outputs more : List Message) → Moves events hosts sent middle outputs → Moves rest middle outputs after more →
    Moves (events ++ rest) hosts sent after more
unfolding Moves
moves_then events rest hosts middle after sent outputs more first second =
    λ w refines. subst (Refines after more) (sym (steps_in_turn Definition definition_eq w events rest)) (second (steps definition_eq w events) (first w refines))

-- ---- a failure that is set

module _ (hosts : List MemoryHost) (sent : List Message) (i call kept : ℕ) (host : MemoryHost) (at : slice_get hosts i ≡ Some host) where
  pub fused_shown : StayShown hosts sent (slice_set hosts i (with_fuse_in call kept host)) sent
  fused_shown = host_stays hosts sent i host (with_fuse_in call kept host) at (fused_stays call kept host)

  pub fused_members : AreSoundHosts hosts → AreSoundHosts (slice_set hosts i (with_fuse_in call kept host))
  fused_members members = set_members hosts i host (with_fuse_in call kept host) at (fused_member call kept (length hosts) i host) members

  -- The tape of this node alone may fail now.
  pub fused_only : FailsOnly None hosts → FailsOnly (Some i) (slice_set hosts i (with_fuse_in call kept host))
  unfolding FailsOnly
  fused_only sturdy = λ j p e other. elim (cases_eq j i) [
    | inl same ↦ absurd (other (ap Some (sym same)))
    | inr differs ↦ sturdy j p (sym (get_set_other hosts i j (with_fuse_in call kept host) differs) ∙ e) (λ is. none-some j is)
  ]

-- Without a failure none fails.
module _ (hosts : List MemoryHost) (i : ℕ) (host : MemoryHost) (at : slice_get hosts i ≡ Some host) where
  pub unfused_only : FailsOnly (Some i) hosts → FailsOnly None (slice_set hosts i (with_fuse_in 0 0 host))
  unfolding FailsOnly
  unfused_only sturdy = λ j p e other. elim (cases_eq j i) [
    | inl same ↦ subst (λ q. NeverFails (tape_in q)) (get_set_same hosts i (with_fuse_in 0 0 host) host p at (subst (λ k. slice_get (slice_set hosts i (with_fuse_in 0 0 host)) k ≡ Some p) same e)) (unfused_sturdy host)
    | inr differs ↦ sturdy j p (sym (get_set_other hosts i j (with_fuse_in 0 0 host) differs) ∙ e) (λ is. differs (sym (same_Some i j is)))
  ]

  pub unfused_members : KeepMembers hosts (slice_set hosts i (with_fuse_in 0 0 host))
  unfused_members = host_members hosts i host (with_fuse_in 0 0 host) at (fused_member 0 0 (length hosts) i host) (λ never. unfused_sturdy host)

-- A node that isn't there has no tape.
pub absent_only : (hosts : List MemoryHost) (i : ℕ) → length hosts ≤ i → FailsOnly (Some i) hosts → FailsOnly None hosts
unfolding FailsOnly
absent_only hosts i past sturdy = λ j host at other.
    let within : j < length hosts = slice_get_within hosts j host at in
    sturdy j host at (λ is. let same : i ≡ j = same_Some i j is in absurd (omega (arith, past, within, same)))

pub absent_armed : (hosts : List MemoryHost) (watched : Option ℕ) → FailsOnly None hosts → FailsOnly watched hosts
unfolding FailsOnly
absent_armed hosts watched sturdy = λ j host at other. sturdy j host at (λ is. none-some j is)

-- ---- farms

pub none_fails : (hosts : List MemoryHost) → FailsOnly None hosts → NoneFails hosts
unfolding FailsOnly NoneFails
none_fails hosts sturdy = λ i host at. sturdy i host at (λ is. none-some i is)

pub fails_at_once : (n : ℕ) (fault : FarmFault) → fault ≡ Memory 0 → FailsWithin n fault
fails_at_once n fault is = subst (FailsWithin n) (sym is) (inl refl)

pub fails_at : (n done : ℕ) → done < n → FailsWithin n (Memory done)
fails_at n done within = inr within
