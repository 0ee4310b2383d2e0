-- What is known of replacements is no older later.
use Rattle.std.proofs.Common.{◌≡◌, ◌⊎◌, ℕ, zero, suc, ◌+◌, ◌-◌, ◌<◌, ◌≤◌, List, inl, inr, refl, sym, subst, arith}
use Rattle.std.specs.Prelude.{Option, Some, None}
use Rattle.wf_rejoin.specs.Replacements.{IsNoOlder, latest_of}
use Rattle.wf_rejoin.specs.Theorems.{AreKept}
use Rattle.wf_rejoin.specs.declared.replacement.Replacement.{Replacement}

itself : (x : Option Replacement) → IsNoOlder x x
itself None = tt
itself (Some r) = inr refl

through : (x y z : Option Replacement) → IsNoOlder x y → IsNoOlder y z → IsNoOlder x z
through None y z first second = tt
through (Some a) None z first second = absurd first
through (Some a) (Some b) None first second = absurd second
through (Some a) (Some b) (Some c) first second = elim first [
  | inl below ↦ elim second [
    | inl more ↦ inl (omega (arith, below, more))
    | inr same ↦ inl (subst (λ (r : Replacement). a.count < r.count) (sym same) below)
  ]
  | inr same ↦ subst (λ (r : Replacement). (r.count < c.count) ⊎ (c ≡ r)) same second
]

later : (tables : ℕ → ℕ → List (Option Replacement)) → AreKept tables → (j i k more t : ℕ) → t ≡ more + k → IsNoOlder (latest_of (tables j k) i) (latest_of (tables j t) i)
later tables kept j i k zero t e =
    let same : k ≡ t = omega (arith, e) in
    subst (λ (u : ℕ). IsNoOlder (latest_of (tables j k) i) (latest_of (tables j u) i)) same (itself (latest_of (tables j k) i))
later tables kept j i k (suc more) t e =
    let same : suc (more + k) ≡ t = omega (arith, e) in
    subst (λ (u : ℕ). IsNoOlder (latest_of (tables j k) i) (latest_of (tables j u) i)) same
    (through (latest_of (tables j k) i) (latest_of (tables j (more + k)) i) (latest_of (tables j (suc (more + k))) i) (later tables kept j i k more (more + k) refl) (kept j (more + k) i))

-- of one node, the later of two replacements has a higher count, or is the same one
pub in_order : (tables : ℕ → ℕ → List (Option Replacement)) → AreKept tables → (j i k l : ℕ) (r s : Replacement) → k ≤ l →
    latest_of (tables j k) i ≡ Some r → latest_of (tables j l) i ≡ Some s → (r.count < s.count) ⊎ (s ≡ r)
in_order tables kept j i k l r s order at_k at_l =
    let moment : l ≡ (l - k) + k = omega (arith, order) in
    let known : IsNoOlder (latest_of (tables j k) i) (latest_of (tables j l) i) = later tables kept j i k (l - k) l moment in
    subst (λ (x : Option Replacement). IsNoOlder (Some r) x) at_l (subst (λ (x : Option Replacement). IsNoOlder x (latest_of (tables j l) i)) at_k known)
