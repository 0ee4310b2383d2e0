-- A promise that a ballot raises.
use Rattle.std.proofs.Common.{◌≡◌, ◌⊎◌, Bool, true, false, Option, Some, None, refl, sym, inl, inr}
use Rattle.std.proofs.lemmas.Option.{same_Some}
use Rattle.wf_ballot.specs.Ballot.{Ballot, below}
use Rattle.wf_ballot.specs.OrderTheorems.{below-irreflexive, below-asymmetric, not_below-below}
use Rattle.wf_model.specs.DurableState.{raised}
use Rattle.wf_model.specs.Fits.{NotBelow}

reached_by : (q b : Ballot) (is_below : Bool) → below q b ≡ is_below → NotBelow (raised (Some q) b) b
unfolding raised
reached_by q b true e = rw e (below-irreflexive b)
reached_by q b false e = rw e e

-- It isn't below that ballot.
pub raised-reached : (promise : Option Ballot) (b : Ballot) → NotBelow (raised promise b) b
unfolding raised
raised-reached None b = below-irreflexive b
raised-reached (Some q) b = reached_by q b (below q b) refl

kept_by : (q b c : Ballot) (is_below : Bool) → below q b ≡ is_below → below q c ≡ false → NotBelow (raised (Some q) b) c
unfolding raised
kept_by q b c true e h = rw e (below-asymmetric c b (not_below-below c q b h e))
kept_by q b c false e h = rw e h

-- It isn't below any ballot that the promise wasn't below.
pub raised-kept : (promise : Option Ballot) (b c : Ballot) → NotBelow promise c → NotBelow (raised promise b) c
unfolding raised
raised-kept None b c h = absurd h
raised-kept (Some q) b c h = kept_by q b c (below q b) refl h

-- It is that ballot, or the promise as it was.
either_by : (q b c : Ballot) (is_below : Bool) → below q b ≡ is_below → raised (Some q) b ≡ Some c → (c ≡ b) ⊎ (Some q ≡ Some c)
unfolding raised
either_by q b c true e h = inl (sym (same_Some b c (rw e at h)))
either_by q b c false e h = inr (rw e at h)

pub raised-either : (promise : Option Ballot) (b c : Ballot) → raised promise b ≡ Some c → (c ≡ b) ⊎ (promise ≡ Some c)
unfolding raised
raised-either None b c h = inl (sym (same_Some b c h))
raised-either (Some q) b c h = either_by q b c (below q b) refl h
