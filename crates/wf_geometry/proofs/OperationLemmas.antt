-- The colour of a pixel under operations, one list of them after another.
use Rattle.std.proofs.Common.{◌≡◌, true, false, ℕ, List, [], ◌∷◌, ◌++◌, reverse, slice_get, Option, Some, None, ℤ, refl, ap, ◌∙◌}
use Rattle.std.specs.Option.{option_or}
use Rattle.std.specs.List.{find}
use Rattle.std.proofs.lemmas.List.{reverse-append}
use Rattle.std.proofs.lemmas.List.Folds.{find-append}
use Rattle.wf_def.specs.Attribute.{class_of}
use Rattle.wf_def.specs.Definition.{LayerDefinition, ClassDefinition, FeatureDefinition}
use Rattle.wf_def.specs.declared.choice.LayerKind.{LayerKind}
use Rattle.wf_def.specs.declared.color.Color.{Color}
use Rattle.wf_geometry.specs.Operation.{OperationValue, covers, color_or, color_at, class_at, class_operations, feature_operations}
use Rattle.wf_geometry.specs.View.{ViewValue}

color_or-either : (background : Color) (a b : Option OperationValue) → color_or background (option_or a b) ≡ color_or (color_or background b) a
color_or-either background None b = refl
color_or-either background (Some op) b = refl

-- the later operations paint over what the earlier ones left
pub color_at-append : (xs ys : List OperationValue) (background : Color) (column row : ℤ) →
    color_at (xs ++ ys) background column row ≡ color_at ys (color_at xs background column row) column row
unfolding color_at
color_at-append xs ys background column row =
    let covered = λ (op : OperationValue). covers op column row in
    ap (λ (ops : List OperationValue). color_or background (find covered ops)) (reverse-append xs ys)
    ∙ ap (color_or background) (find-append covered (reverse ys) (reverse xs))
    ∙ color_or-either background (find covered (reverse ys)) (find covered (reverse xs))

-- the colour of one operation, or the background
pub color_at-covered : (op : OperationValue) (background : Color) (column row : ℤ) → covers op column row ≡ true → color_at (op ∷ []) background column row ≡ op.color
unfolding color_at
color_at-covered op background column row covered = rw covered refl

pub color_at-left : (op : OperationValue) (background : Color) (column row : ℤ) → covers op column row ≡ false → color_at (op ∷ []) background column row ≡ background
unfolding color_at
color_at-left op background column row left = rw left refl

-- a feature has the operations of its class's styles
pub feature_styled : (view : ViewValue) (layer : LayerDefinition) (feature : FeatureDefinition) (kind : LayerKind) (index : ℕ) (class : ClassDefinition) →
    class_of layer feature ≡ Some index → slice_get layer.classes index ≡ Some class → layer.kind ≡ kind →
    feature_operations view layer feature ≡ class_operations view kind feature.parts (Some class)
unfolding feature_operations
feature_styled view layer feature kind index class named found is =
    ap (λ (o : Option ℕ). class_operations view layer.kind feature.parts (class_at layer o)) named
    ∙ ap (class_operations view layer.kind feature.parts) found
    ∙ ap (λ (k : LayerKind). class_operations view k feature.parts (Some class)) is
