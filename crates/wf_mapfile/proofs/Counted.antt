-- The counts made while a layer is read equal those of its value.
use Rattle.std.proofs.Common.{◌≡◌, ◌∙◌, Bool, true, false, List, ℕ, refl, sym, ap}
use Rattle.std.specs.Prelude.{Option, Some, None, if◌then◌else◌}
use Rattle.wf_def.specs.Definition.{FeatureDefinition, LayerDefinition}
use Rattle.wf_def.specs.Layer as def
use Rattle.wf_def.specs.declared.choice.LayerKind.{LayerKind}
use Rattle.wf_mapfile.specs.declared.slots.LayerSlots.{LayerSlots}
use Rattle.wf_block.specs.Grammar.{◌>>=◌}
use Rattle.wf_mapfile.specs.Layer.{layer_of}

abbrev Entry : Type 0
Entry = List ℕ × LayerDefinition

built : (so : Bool) (name : List ℕ) (x : LayerDefinition) (l : Entry) → ((if so then Some x else None) >>= λ d. Some (name, d)) ≡ Some l → (name ≡ l.0) × (x ≡ l.1)
built true name x l e =
    let same : (name, x) ≡ l = cc in
    (ap (λ (p : Entry). p.0) same, ap (λ (p : Entry). p.1) same)
built false name x l e = absurd (let impossible : ⊥ = cc in impossible)

-- a layer has the name and the features of its slots
pub record AsSet (settings : LayerSlots) (l : Entry) : Type 0 where
  pub name : settings.single.name ≡ Some l.0
  pub features : settings.features ≡ l.1.features

as_set : (name : Option (List ℕ)) (kind : Option LayerKind) (features : List FeatureDefinition) (so : List ℕ → LayerKind → Bool) (x : List ℕ → LayerKind → LayerDefinition) (l : Entry) →
    ((n : List ℕ) (k : LayerKind) → (x n k).features ≡ features) →
    (name >>= λ n. kind >>= λ k. (if so n k then Some (x n k) else None) >>= λ d. Some (n, d)) ≡ Some l → (name ≡ Some l.0) × (features ≡ l.1.features)
as_set None kind features so x l same e = absurd (let impossible : ⊥ = cc in impossible)
as_set (Some n) None features so x l same e = absurd (let impossible : ⊥ = cc in impossible)
as_set (Some n) (Some k) features so x l same e =
    let parts = built (so n k) n (x n k) l e in
    (ap (λ (n : List ℕ). Some n) parts.0, sym (same n k) ∙ ap (λ (d : LayerDefinition). d.features) parts.1)

pub layer_counted : (settings : LayerSlots) (l : Entry) → layer_of settings ≡ Some l → AsSet settings l
unfolding layer_of def.layer_of
layer_counted settings l e =
    let parts = as_set settings.single.name settings.single.kind settings.features _ _ l (λ n k. refl) e in
    record { name = parts.0; features = parts.1 }
