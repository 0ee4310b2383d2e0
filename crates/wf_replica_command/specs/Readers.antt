-- What the readers of a replica were replied.
use Rattle.std.specs.Prelude.{⊤, List, [], ◌∷◌}
use Rattle.wf_def.specs.Definition.{Definition}
use Rattle.wf_readers_port.specs.Exchanges.{Exchange, IsRepliedFrom}
use Rattle.wf_safety.specs.Theorems.{IsBeginning}

-- a question with its reply, by the list as it was earlier
pub record IsRepliedByBeginning (list : List Definition) (exchange : Exchange) : Type 0 where
  pub earlier : List Definition
  pub begins : IsBeginning earlier list
  pub replied : IsRepliedFrom earlier exchange

-- so each of these
unfoldable pub AreRepliedByBeginnings : List Definition → List Exchange → Type 0
AreRepliedByBeginnings list [] = ⊤
AreRepliedByBeginnings list (exchange ∷ exchanges) = IsRepliedByBeginning list exchange × AreRepliedByBeginnings list exchanges

-- If they were so before, these are so after.
abbrev pub GoOnReplied : (list list' : List Definition) (exchanges exchanges' : List Exchange) → Type 0
GoOnReplied list list' exchanges exchanges' = ∥ AreRepliedByBeginnings list exchanges ∥₁ → ∥ AreRepliedByBeginnings list' exchanges' ∥₁
