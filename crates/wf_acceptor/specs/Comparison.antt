-- Used only in this crate's contracts: votes that are the same, except at a slot.
use Rattle.std.specs.Prelude.{◌≡◌, ℕ, Option, Some}
use Rattle.std.specs.Ordering.{nat_cmp}
use Rattle.std.specs.FinMap.{FinMap, get}
use Rattle.wf_ballot.specs.Ballot.{Ballot}
use Rattle.wf_acceptor.specs.Acceptor.{Part}

-- the second map has each entry of the first one, except that of the slot
unfoldable pub HasAllBut : {A : Type 0} → Option ℕ → FinMap nat_cmp A → FinMap nat_cmp A → Type 0
HasAllBut {A} but votes others = (s : ℕ) (x : A) → (but ≡ Some s → ⊥) → get votes s ≡ Some x → get others s ≡ Some x

-- the two maps have the same at each slot but this one
unfoldable pub AreSameBut : {A : Type 0} → Option ℕ → FinMap nat_cmp A → FinMap nat_cmp A → Type 0
AreSameBut but votes others = (s : ℕ) → (but ≡ Some s → ⊥) → get votes s ≡ get others s

-- The new part is of the same node, has this promise and this number of published definitions, and
-- the old one's votes, except at the slot.
pub record KeepsPart (promise : Option Ballot) (published : ℕ) (but : Option ℕ) (old new : Part) : Type 0 where
  pub id : new.id ≡ old.id
  pub promised : new.promise ≡ promise
  pub up_to : new.published ≡ published
  pub votes : AreSameBut but new.votes old.votes
