-- One more connection.
use Rattle.std.proofs.Common.{◌≡◌, ◌+◌, ◌%◌, ℕ, zero, suc, List, refl, subst, arith}
use Rattle.wf_node.specs.Node.{Node}
use Rattle.wf_serve.specs.Connections.{HaveCome, MayBeAnswered}
use Rattle.wf_tape.specs.declared.tape.Tape.{Ghosts as Tape}

module _ {T : Type 0} (tapes : Tape T) where
  pub none_came : (count : ℕ) (nodes : List (Node T)) → HaveCome tapes count zero nodes nodes
  unfolding HaveCome
  none_came count nodes = refl

  next_came : (count connection : ℕ) (nodes middle after : List (Node T)) → HaveCome tapes count connection nodes middle →
      MayBeAnswered tapes (connection % count) middle after → HaveCome tapes count (suc connection) nodes after
  unfolding HaveCome
  next_came count connection nodes middle after so_far next = (middle, so_far, next)

  pub one_more_came : (count connection node_index : ℕ) (nodes middle after : List (Node T)) → node_index ≡ connection % count → HaveCome tapes count connection nodes middle →
      MayBeAnswered tapes node_index middle after → HaveCome tapes count (connection + 1) nodes after
  one_more_came count connection node_index nodes middle after turn so_far next =
      let behind : suc connection ≡ connection + 1 = omega arith in
      subst (λ k. HaveCome tapes count k nodes after) behind
      (next_came count connection nodes middle after so_far (subst (λ p. MayBeAnswered tapes p middle after) turn next))
