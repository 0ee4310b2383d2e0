-- Each cache stays its node's.
use Rattle.std.proofs.Common.{◌≡◌, ◌∙◌, ◌<◌, ◌⊎◌, ℕ, zero, suc, List, [], ◌∷◌, ◌++◌, length, slice_get, slice_set, Some, length-set, refl, sym, subst, inl, inr, arith}
use Rattle.std.proofs.lemmas.Bool.{cases_eq}
use Rattle.std.proofs.lemmas.Option.{none-some, same_Some, slice_get_within}
use Rattle.wf_def.specs.Definition.{Definition}
use Rattle.wf_edge.specs.Growth.{cached_on}
use Rattle.wf_delivery.specs.Delivery.{EachGrows}
use Rattle.wf_delivery.specs.IndexTheorems.{get_set_same, get_set_other}
use Rattle.wf_node.specs.Node.{Node}
use Rattle.wf_wms.specs.CachedPictures.{AllCached, CacheValue}
use Rattle.wf_wms.proofs.CachedPicturesTheorem.{growth_keeps}
use Rattle.wf_serve.specs.CacheSet.{AreEmpty, AreCached, HaveRoom, IsCachedAt, KeepRoom}

-- the element at an index of a list
pub there_is : {A : Type 0} (xs : List A) (i : ℕ) → i < length xs → (x : A) × (slice_get xs i ≡ Some x)
there_is [] i within = absurd (omega arith)
there_is (x ∷ xs) zero within = (x, refl)
there_is (x ∷ xs) (suc i) within = there_is xs i (omega arith)

-- if the nodes' lists have grown
pub cached_grown : {T : Type 0} (nodes after : List (Node T)) (caches : List CacheValue) → length after ≡ length nodes → EachGrows nodes after →
    AreCached nodes caches → AreCached after caches
unfolding EachGrows
cached_grown nodes after caches long grows are = record {
  as_many = are.as_many ∙ sym long;
  cached = λ i node cache at there.
      let within = slice_get_within after i node at in
      let old = there_is nodes i (omega (arith, within, long)) in
      let new = grows i old.0 old.1 in
      let it = same_Some new.0 node (sym new.1 ∙ at) in
      subst (λ n. AllCached n.parts.history cache) it (cached_on growth_keeps old.0.parts.history new.0.parts.history cache new.2 (are.cached i old.0 cache old.1 there));
}

-- if the nodes' lists have grown, and one cache has changed, and is its node's still
pub cached_with : {T : Type 0} (nodes after : List (Node T)) (caches : List CacheValue) (node_index : ℕ) (cache next : CacheValue) → length after ≡ length nodes → EachGrows nodes after →
    slice_get caches node_index ≡ Some cache → IsCachedAt after node_index next → AreCached nodes caches → AreCached after (slice_set caches node_index next)
cached_with nodes after caches node_index cache next long grows there own are =
    let grown = cached_grown nodes after caches long grows are in
    record {
      as_many = length-set caches node_index next ∙ grown.as_many;
      cached = λ i node cached at cache_at. elim (cases_eq i node_index) [
        | inl same ↦
            let its = get_set_same caches node_index next cache cached there (subst (λ k. slice_get (slice_set caches node_index next) k ≡ Some cached) same cache_at) in
            subst (AllCached node.parts.history) its (own node (subst (λ k. slice_get after k ≡ Some node) same at))
        | inr differs ↦ grown.cached i node cached at (sym (get_set_other caches node_index i next differs) ∙ cache_at)
      ];
    }

-- ---- empty caches

pub none_yet : AreEmpty []
unfolding AreEmpty
none_yet = λ i cache at. absurd (none-some cache at)

-- the element at an index of a list with one more at its end
last_at : {A : Type 0} (xs : List A) (y : A) (i : ℕ) (x : A) → slice_get (xs ++ y ∷ []) i ≡ Some x → (slice_get xs i ≡ Some x) ⊎ (y ≡ x)
last_at [] y zero x e = inr (same_Some y x e)
last_at [] y (suc i) x e = absurd (none-some x e)
last_at (z ∷ xs) y zero x e = inl e
last_at (z ∷ xs) y (suc i) x e = last_at xs y i x e

pub one_more_empty : (caches : List CacheValue) (cache : CacheValue) → AreEmpty caches → ((history : List Definition) → AllCached history cache) → AreEmpty (caches ++ cache ∷ [])
unfolding AreEmpty
one_more_empty caches cache are is = λ i other at. elim (last_at caches cache i other at) [
  | inl before ↦ are i other before
  | inr last ↦ λ history. subst (AllCached history) last (is history)
]

pub cached_empty : {T : Type 0} (nodes : List (Node T)) (caches : List CacheValue) → length caches ≡ length nodes → AreEmpty caches → AreCached nodes caches
unfolding AreEmpty
cached_empty nodes caches long are = record { as_many = long; cached = λ i node cache at there. are i cache there node.parts.history }

-- ---- the room of caches

pub no_room : (room : ℕ) → HaveRoom room []
unfolding HaveRoom
no_room room = λ i cache at. absurd (none-some cache at)

pub one_more_room : (room : ℕ) (caches : List CacheValue) (cache : CacheValue) → HaveRoom room caches → cache.cap ≡ room → HaveRoom room (caches ++ cache ∷ [])
unfolding HaveRoom
one_more_room room caches cache have is = λ i other at. elim (last_at caches cache i other at) [
  | inl before ↦ have i other before
  | inr last ↦ subst (λ (c : CacheValue). c.cap ≡ room) last is
]

-- one cache has changed, and has the room that it had
pub room_with : (caches : List CacheValue) (node_index : ℕ) (cache next : CacheValue) → slice_get caches node_index ≡ Some cache → next.cap ≡ cache.cap → KeepRoom caches (slice_set caches node_index next)
unfolding HaveRoom
room_with caches node_index cache next there same = λ room have i cached at. elim (cases_eq i node_index) [
  | inl is ↦
      let its = get_set_same caches node_index next cache cached there (subst (λ k. slice_get (slice_set caches node_index next) k ≡ Some cached) is at) in
      subst (λ (c : CacheValue). c.cap ≡ room) its (same ∙ have node_index cache there)
  | inr differs ↦ have i cached (sym (get_set_other caches node_index i next differs) ∙ at)
]
