-- A failure of a tape that is set, and taken away; and the opening of a tape that may fail.
use Rattle.std.proofs.Common.{◌≡◌, ℕ, List, Option, Result, Ok, Err, IfOk, IfErr, refl, sym, ap, subst}
use Rattle.wf_farm.proofs.Common.{Definition, DurableState, Record, at_start, EachIsCut, Node, stored_of, volatile_of, IsFoldOf, Follows, ReadsSame, TapeValue, IsImageNow, NeverFails, with_fuse, Running, Stopped, MemoryHost, IsHostOf, KeepsSturdy, Restarts, HostStays, tape_in, with_fuse_in}
use Rattle.wf_tape.specs.Fuse.{fuse_at}
use Rattle.wf_farm.proofs.Steps.{not_opened, opened}

-- ---- a failure that is set, and taken away

-- the node with this failure set of its tape
abbrev armed : ℕ → ℕ → Node TapeValue → Node TapeValue
armed call kept node = record node { tape = with_fuse call kept node.tape }

pub no_fuse : (tape laid : TapeValue) → laid ≡ with_fuse 0 0 tape → NeverFails laid
unfolding fuse_at
no_fuse tape laid is = ap (λ (t : TapeValue). t.fuse) is

pub no_fuse_on : (node laid : Node TapeValue) → laid ≡ armed 0 0 node → NeverFails laid.tape
unfolding fuse_at
no_fuse_on node laid is = ap (λ (x : Node TapeValue). x.tape.fuse) is

-- It changes no node and no member.
pub fused_stays : (call kept : ℕ) (host : MemoryHost) → HostStays host (with_fuse_in call kept host)
unfolding HostStays
fused_stays call kept (Running node) = λ x is. is
fused_stays call kept (Stopped tape) = λ x is. is

pub fused_member : (call kept n i : ℕ) (host : MemoryHost) → IsHostOf n i host → IsHostOf n i (with_fuse_in call kept host)
fused_member call kept n i (Running node) member = member
fused_member call kept n i (Stopped tape) member = tt

pub unfused_sturdy : (host : MemoryHost) → NeverFails (tape_in (with_fuse_in 0 0 host))
unfolding fuse_at
unfused_sturdy (Running node) = refl
unfused_sturdy (Stopped tape) = refl

-- A failure that is taken away after it changes nothing of a failed step.
pub laid_cut : (entry : Option (Record Definition)) (before after : DurableState Definition) (images : List ℕ → Type 0) (node laid : Node TapeValue) → laid ≡ armed 0 0 node → EachIsCut entry before after images (IsImageNow node.tape) →
    EachIsCut entry before after images (IsImageNow laid.tape)
laid_cut entry before after images node laid is cut = subst (λ (x : Node TapeValue). EachIsCut entry before after images (IsImageNow x.tape)) (sym is) cut

-- ---- opening

pub opened_laid : (tape laid : TapeValue) (node : Node TapeValue) → laid ≡ with_fuse 0 0 tape → IsFoldOf (stored_of node) laid.bytes → volatile_of node ≡ at_start → Restarts (Stopped tape) (Running node)
opened_laid tape laid node is fold_of idle = opened tape node (subst (λ (t : TapeValue). IsFoldOf (stored_of node) t.bytes) is fold_of) idle

pub not_opened_laid : (tape laid left : TapeValue) → laid ≡ with_fuse 0 0 tape → Follows ReadsSame (IsImageNow laid) (IsImageNow left) → HostStays (Stopped tape) (Stopped left)
not_opened_laid tape laid left is follows = not_opened tape left (subst (λ (t : TapeValue). Follows ReadsSame (IsImageNow t) (IsImageNow left)) is follows)

-- An entry that is opened from a tape that reads as another's is that one's.
after_same : (before middle after : MemoryHost) → HostStays before middle → Restarts middle after → Restarts before after
unfolding HostStays Restarts
after_same before middle after stays restarts = λ x is. restarts x (stays x is)

stays_twice : (before middle after : MemoryHost) → HostStays before middle → HostStays middle after → HostStays before after
unfolding HostStays
stays_twice before middle after first second = λ x is. second x (first x is)

pub stays_itself : (host : MemoryHost) → HostStays host host
unfolding HostStays
stays_itself host = λ x is. is

module _ (host : MemoryHost) (tape left : TapeValue) (is : host ≡ Stopped tape) (follows : Follows ReadsSame (IsImageNow tape) (IsImageNow left)) where
  pub opened_after : {E : Type 0} (result : Result MemoryHost E) → IfOk result (Restarts (Stopped left)) → IfOk result (Restarts host)
  opened_after (Ok after) restarts = subst (λ p. Restarts p after) (sym is) (after_same (Stopped tape) (Stopped left) after (not_opened tape left follows) restarts)
  opened_after (Err e) restarts = tt

  pub stays_after : {A : Type 0} (result : Result A MemoryHost) → IfErr result (HostStays (Stopped left)) → IfErr result (HostStays host)
  stays_after (Ok x) stays = tt
  stays_after (Err after) stays = subst (λ p. HostStays p after) (sym is) (stays_twice (Stopped tape) (Stopped left) after (not_opened tape left follows) stays)

module _ (host : MemoryHost) (tape left : TapeValue) (is : host ≡ Stopped tape) (sturdy : NeverFails tape → NeverFails left) where
  pub sturdy_after : {E : Type 0} (result : Result MemoryHost E) → IfOk result (KeepsSturdy (Stopped left)) → IfOk result (KeepsSturdy host)
  sturdy_after (Ok after) keeps = subst (λ p. KeepsSturdy p after) (sym is) (λ never. keeps (sturdy never))
  sturdy_after (Err e) keeps = tt

  pub sturdy_after_err : {A : Type 0} (result : Result A MemoryHost) → IfErr result (KeepsSturdy (Stopped left)) → IfErr result (KeepsSturdy host)
  sturdy_after_err (Ok x) keeps = tt
  sturdy_after_err (Err after) keeps = subst (λ p. KeepsSturdy p after) (sym is) (λ never. keeps (sturdy never))
