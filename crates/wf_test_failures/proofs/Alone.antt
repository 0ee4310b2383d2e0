-- An empty cache is that of the only node of a new farm.
use Rattle.std.proofs.Common.{◌≡◌, ◌∙◌, ℕ, zero, suc, List, [], ◌∷◌, length, slice_get, Some, sym, ap, subst}
use Rattle.std.proofs.lemmas.Option.{none-some, same_Some}
use Rattle.wf_delivery.specs.Common.{Definition, DurableState, Node}
use Rattle.wf_delivery.specs.Reachability.{AreFresh}
use Rattle.wf_farm.specs.Nodes.{nodes_of}
use Rattle.wf_farm.specs.NodesTheorems.{length-nodes}
use Rattle.wf_farm.specs.declared.cluster.NodeHost.{NodeHost}
use Rattle.wf_serve.specs.CacheSet.{AreCached}
use Rattle.wf_model.specs.DurableState.{nothing_stored}
use Rattle.wf_wms.specs.CachedPictures.{AllCached, CacheValue}

module _ {T : Type 0} (hosts : List (NodeHost T)) (cache : CacheValue) (alone : length hosts ≡ 1) (fresh : AreFresh (nodes_of hosts)) (cached : AllCached [] cache) where
  no_history : (i : ℕ) (node : Node T) → slice_get (nodes_of hosts) i ≡ Some node → [] ≡ node.parts.history
  unfolding AreFresh nothing_stored
  no_history = λ i node at. let is = fresh i node at in sym (ap (λ (stored : DurableState Definition). stored.history) is.stored)

  at_first : (i : ℕ) (other : CacheValue) (history : List Definition) → slice_get (cache ∷ []) i ≡ Some other → [] ≡ history → AllCached history other
  at_first zero other history e none = subst (AllCached history) (same_Some cache other e) (subst (λ h. AllCached h cache) none cached)
  at_first (suc i) other history e none = absurd (none-some other e)

  pub cached_alone : AreCached (nodes_of hosts) (cache ∷ [])
  cached_alone = record { as_many = sym (length-nodes hosts ∙ alone); cached = λ i node other at there. at_first i other node.parts.history there (no_history i node at) }
