-- The nodes that are served: each is at the index of its number.
use Rattle.std.proofs.Common.{◌≡◌, ◌⊎◌, ℕ, zero, suc, List, [], ◌∷◌, ◌++◌, length, slice_get, Some, refl, sym, ap, subst, ◌∙◌, inl, inr}
use Rattle.std.proofs.lemmas.Option.{none-some, same_Some}
use Rattle.wf_delivery.specs.Delivery.{StandAmong, StandInTurn}
use Rattle.wf_farm.specs.declared.cluster.NodeHost.{NodeHost}
use Rattle.wf_farm.specs.declared.cluster.NodeHost.TheVariants.{Running}
use Rattle.wf_farm.specs.Nodes.{nodes_from, nodes_of}
use Rattle.wf_farm.specs.NodesTheorems.{length-nodes, long_from, none_run, one_more_node, one_more_runs}
use Rattle.wf_serve.specs.OpenedNodes.{AreOpened, WasRead, WereRead}
use Rattle.wf_node.specs.Node.{Node}

-- the element at an index of a list with one more at its end: the one that was there, or the last
-- one
more_at : {A : Type 0} (xs : List A) (y : A) (i : ℕ) (x : A) → slice_get (xs ++ y ∷ []) i ≡ Some x → (slice_get xs i ≡ Some x) ⊎ ((i ≡ length xs) × (y ≡ x))
more_at [] y zero x e = inr (refl, same_Some y x e)
more_at [] y (suc i) x e = absurd (none-some x e)
more_at (z ∷ xs) y zero x e = inl e
more_at (z ∷ xs) y (suc i) x e = elim (more_at xs y i x e) [
  | inl before ↦ inl before
  | inr last ↦ inr (ap suc last.0, last.1)
]

-- The next node of n, appended.
one_more_among : {T : Type 0} (n : ℕ) (nodes : List (Node T)) (node : Node T) → StandAmong n nodes → node.id ≡ length nodes → node.n ≡ n → StandAmong n (nodes ++ node ∷ [])
unfolding StandAmong
one_more_among n nodes node turns next of = λ i x e. elim (more_at nodes node i x e) [
  | inl before ↦ turns i x before
  | inr last ↦ subst (λ y. (y.id ≡ i) × (y.n ≡ n)) last.1 (next ∙ sym last.0, of)
]

-- No node is opened yet.
pub none_opened : (T : Type 0) (n : ℕ) → AreOpened {T = T} n []
unfolding StandAmong nodes_from
none_opened T n = record { in_turn = λ i node e. absurd (none-some node e); running = none_run T; read = record { each = λ i node e. absurd (none-some node e) } }

one_more_read : {T : Type 0} (nodes : List (Node T)) (node : Node T) → WereRead nodes → WasRead node → WereRead (nodes ++ node ∷ [])
one_more_read nodes node were was = record {
  each = λ i x e. elim (more_at nodes node i x e) [
    | inl before ↦ were.each i x before
    | inr last ↦ subst WasRead last.1 was
  ];
}

-- One more is.
pub one_more : {T : Type 0} (n : ℕ) (hosts : List (NodeHost T)) (node : Node T) → AreOpened n hosts → node.id ≡ length hosts → node.n ≡ n → WasRead node → AreOpened n (hosts ++ Running node ∷ [])
one_more n hosts node are next of was = record {
  in_turn = subst (StandAmong n) (sym (one_more_node n 0 hosts node)) (one_more_among n (nodes_from n 0 hosts) node are.in_turn (next ∙ sym (long_from n 0 hosts)) of);
  running = one_more_runs hosts node are.running;
  read = subst WereRead (sym (one_more_node n 0 hosts node)) (one_more_read (nodes_from n 0 hosts) node are.read was);
}

-- Once there are n nodes, each is at the index of its number.
pub in_place : {T : Type 0} (n : ℕ) (hosts : List (NodeHost T)) → length hosts ≡ n → AreOpened n hosts → StandInTurn (nodes_of hosts)
in_place n hosts long are =
    subst (λ k. StandAmong k (nodes_of hosts)) (sym (length-nodes hosts)) (subst (λ k. StandAmong k (nodes_from k 0 hosts)) (sym long) are.in_turn)

pub read_in_place : {T : Type 0} (n : ℕ) (hosts : List (NodeHost T)) → length hosts ≡ n → AreOpened n hosts → WereRead (nodes_of hosts)
read_in_place n hosts long are = subst (λ k. WereRead (nodes_from k 0 hosts)) (sym long) are.read
