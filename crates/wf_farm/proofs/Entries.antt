-- The entries of a farm, over any kind of tape, and the nodes of the model that they are.
use Rattle.std.proofs.Common.{◌≡◌, ℕ, zero, suc, List, [], ◌∷◌, length, slice_get, Some, refl, sym, ap, subst, arith, ◌∙◌, ◌++◌, take, drop}
use Rattle.wf_farm.proofs.Common.{none-some, same_Some, Definition, NodeHost, append-nil, drop_all, take_all}
use Rattle.wf_model.specs.World as world
use Rattle.wf_farm.specs.Hosts.{IsHostNode, AreNodes}

module _ {T : Type 0} (images : T → List ℕ → Type 0) where
  -- if there is an entry, its node is at the same index
  pub node_at : (hosts : List (NodeHost T)) (nodes : List (world.Node Definition)) (i : ℕ) (host : NodeHost T) → AreNodes images hosts nodes → slice_get hosts i ≡ Some host →
      (node : world.Node Definition) × (slice_get nodes i ≡ Some node) × IsHostNode images host node
  node_at [] nodes i host are e = absurd (none-some host e)
  node_at (p ∷ hosts) [] i host are e = absurd are
  node_at (p ∷ hosts) (node ∷ nodes) zero host are e = (node, refl, subst (λ q. IsHostNode images q node) (same_Some p host e) are.0)
  node_at (p ∷ hosts) (node ∷ nodes) (suc i) host are e = node_at hosts nodes i host are.1 e

  pub as_many : (hosts : List (NodeHost T)) (nodes : List (world.Node Definition)) → AreNodes images hosts nodes → length nodes ≡ length hosts
  as_many [] [] are = refl
  as_many [] (node ∷ nodes) are = absurd are
  as_many (p ∷ hosts) [] are = absurd are
  as_many (p ∷ hosts) (node ∷ nodes) are = ap suc (as_many hosts nodes are.1)

  -- entries are the nodes that they are one by one
  pub all_nodes : (hosts : List (NodeHost T)) (nodes : List (world.Node Definition)) → length nodes ≡ length hosts →
      ((i : ℕ) (host : NodeHost T) → slice_get hosts i ≡ Some host → (node : world.Node Definition) × (slice_get nodes i ≡ Some node) × IsHostNode images host node) → AreNodes images hosts nodes
  all_nodes [] [] long each = tt
  all_nodes [] (node ∷ nodes) long each = absurd (omega (arith, long))
  all_nodes (p ∷ hosts) [] long each = absurd (omega (arith, long))
  all_nodes (p ∷ hosts) (node ∷ nodes) long each =
      let first = each 0 p refl in
      (subst (λ x. IsHostNode images p x) (sym (same_Some node first.0 first.1)) first.2, all_nodes hosts nodes (omega (arith, long)) (λ i host at. each (suc i) host at))

-- Entries that were lent are those that came back, if there are as many.
pub lent_back : {A : Type 0} (hosts after : List A) (n : ℕ) → n ≡ length hosts → length after ≡ length hosts → take n (after ++ drop (length after) hosts) ≡ after
lent_back hosts after n all same =
    ap (λ rest. take n (after ++ rest)) (drop_all (length after) hosts (omega (arith, same))) ∙ ap (take n) (append-nil after) ∙ take_all n after (omega (arith, all, same))
