-- Which nodes a farm has.
use Rattle.std.specs.Prelude.{ℕ, ◌<◌, ◌≤◌}

-- a node's number, and how many nodes its farm has
pub record MemberValue : Type 0 where
  pub node : ℕ
  pub nodes : ℕ

-- the farm has such a node, and isn't larger than a farm may be
pub record IsFarmMember (m : MemberValue) : Type 0 where
  pub inside : m.node < m.nodes
  pub most : m.nodes ≤ 64
