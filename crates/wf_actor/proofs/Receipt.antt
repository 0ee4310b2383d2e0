-- What a process is given from its peers came on their connections.
use Rattle.std.proofs.Common.{◌≡◌, ℕ, List, [], ◌∷◌, ◌++◌, refl, sym, ap, subst, inl, inr}
use Rattle.wf_codec.specs.Message.{view}
use Rattle.wf_codec.specs.declared.message.Message.{Message}
use Rattle.wf_model.specs.Chosen.{IsIn}
use Rattle.wf_wire.specs.FromPeer.{HasComeFrom}
use Rattle.wf_wire.specs.Post.{AreAmong}
use Rattle.wf_actor.specs.Life.{all_from}
use Rattle.wf_actor.specs.Sent.{AreCome, AreGivenCome, Stream}
use Rattle.wf_actor.specs.declared.actor.Origin.{Origin}
use Rattle.wf_actor.specs.declared.actor.Origin.TheVariants.{Own, Peer}
use Rattle.wf_actor.proofs.Lists.{in_either, in_along}

pub none_given : (given : List (Message × Origin)) → given ≡ [] → AreGivenCome given
unfolding AreGivenCome
none_given given none = λ m peer stream there. absurd (in_along (m, Peer peer stream) given [] none there)

-- what a message that comes from there is of
ComesBy : Message → Origin → Type 0
ComesBy m Own = Unit {0}
ComesBy m (Peer peer stream) = HasComeFrom peer stream.items (view m)

comes_by : (origin : Origin) (messages : List Message) → AreCome origin messages → (m : Message) → IsIn m messages → ComesBy m origin
unfolding ComesBy
comes_by Own messages come m there = tt
comes_by (Peer peer stream) messages come m there = come m there

-- a message that is said to come from there is one of these, and from there
of_these : (origin other : Origin) (messages : List Message) (m : Message) → IsIn (m, other) (all_from origin messages) → (IsIn m messages) × (other ≡ origin)
of_these origin other [] m there = absurd there
of_these origin other (x ∷ messages) m there = elim there [
  | inl e ↦ (inl (ap (λ (p : Message × Origin). p.0) e), ap (λ (p : Message × Origin). p.1) e)
  | inr h ↦ let rest = of_these origin other messages m h in (inr rest.0, rest.1)
]

from_peer : (origin : Origin) (messages : List Message) → AreCome origin messages → (m : Message) (peer : ℕ) (stream : Stream) → IsIn (m, Peer peer stream) (all_from origin messages) → HasComeFrom peer stream.items (view m)
unfolding ComesBy
from_peer origin messages come m peer stream there =
    let is = of_these origin (Peer peer stream) messages m there in
    subst (λ (o : Origin). ComesBy m o) (sym is.1) (comes_by origin messages come m is.0)

pub given_on : (given given' : List (Message × Origin)) (origin : Origin) (messages : List Message) → AreGivenCome given → AreCome origin messages → given' ≡ given ++ all_from origin messages → AreGivenCome given'
unfolding AreGivenCome
given_on given given' origin messages are come more = λ m peer stream there.
    elim (in_either (m, Peer peer stream) given (all_from origin messages) (in_along (m, Peer peer stream) given' (given ++ all_from origin messages) more there)) [
      | inl a ↦ are m peer stream a
      | inr b ↦ from_peer origin messages come m peer stream b
    ]

pub given_stays : (given given' : List (Message × Origin)) → AreGivenCome given → given' ≡ given → AreGivenCome given'
unfolding AreGivenCome
given_stays given given' are e = λ m peer stream there. are m peer stream (in_along (m, Peer peer stream) given' given e there)

-- one message that is of these
pub just_one : (m : Message) (emitted : List Message) → IsIn m emitted → AreAmong (m ∷ []) emitted
just_one m emitted is = λ x there. elim there [ inl e ↦ subst (λ y. IsIn y emitted) (sym e) is | inr none ↦ absurd none ]

-- one message that came
pub one_come : (m : Message) (peer : ℕ) (stream : Stream) → HasComeFrom peer stream.items (view m) → AreCome (Peer peer stream) (m ∷ [])
one_come m peer stream come = λ x there. elim there [ inl e ↦ subst (λ y. HasComeFrom peer stream.items (view y)) (sym e) come | inr none ↦ absurd none ]
