-- Each test of equality is true iff the two values are equal.
use Rattle.std.proofs.Common.{◌≡◌, ℕ, Bool, List, Option, Some, None, refl, sym, ap, arith}
use Rattle.std.specs.Bool.{Decides}
use Rattle.std.specs.Option.{option_eq}
use Rattle.std.specs.Cmp.{IsEquivalence, decided, booleans_Decides}
use Rattle.std.specs.Cmp.Lexicographic.{pointwise_decides, bytes_decides}
use Rattle.std.proofs.lemmas.Bool.Decides.{Decides-and, Decides-like, Decides-eqb, Decides-int_eq}
use Rattle.std.proofs.lemmas.Option.{none-some, same_Some}
use denote.Enum.Declared.{Declared}
use denote.Enum.Bare.{Bare, sameb, same_true, true_same}
use Rattle.wf_def.specs.Extent.{ExtentValue}
use Rattle.wf_def.specs.Definition.{Definition, LayerDefinition, ClassDefinition, ExpressionDefinition, StyleDefinition, LabelDefinition, FeatureDefinition}
use Rattle.wf_def.specs.declared.color.Color.{Color}
use Rattle.wf_def.specs.declared.point.Point.{Point}
use Rattle.wf_def.specs.declared.expression.Expression.TheVariants.{Equals, OneOf}
use Rattle.wf_def.specs.contracts.choice.Projection.{the_type as projections}
use Rattle.wf_def.specs.contracts.choice.LayerKind.{the_type as layer_kinds}
use Rattle.wf_def.specs.contracts.choice.LabelSize.{the_type as label_sizes}
use Rattle.wf_def.specs.contracts.choice.LabelPosition.{the_type as label_positions}
use Rattle.wf_def.specs.Equality.{color_eq, point_eq, extent_eq, style_eq, label_eq, expression_eq, class_eq, feature_eq, layer_eq, entry_eq, definition_eq}

pub sameb-Decides : (D : Declared) → Bare D.parts → (a b : D.D) → Decides (sameb D a b) (a ≡ b)
sameb-Decides D bare a b = (same_true D bare a b, true_same D a b)

pub option_eq-Decides : {A : Type 0} {E : A → A → Bool} → ((a b : A) → Decides (E a b) (a ≡ b)) → (a b : Option A) → Decides (option_eq E a b) (a ≡ b)
option_eq-Decides d None None = (λ _. refl, λ _. refl)
option_eq-Decides d None (Some y) = (λ e. grind arith, λ e. absurd (none-some y e))
option_eq-Decides d (Some x) None = (λ e. grind arith, λ e. absurd (none-some x (sym e)))
option_eq-Decides d (Some x) (Some y) = (λ e. ap Some ((d x y).0 e), λ e. (d x y).1 (same_Some x y e))

pub color_eq-Decides : (a b : Color) → Decides (color_eq a b) (a ≡ b)
color_eq-Decides a b = Decides-like _ (λ e i. record { r = e.0 i; g = e.1.0 i; b = e.1.1 i }) (λ e. (ap (λ c. c.r) e, (ap (λ c. c.g) e, ap (λ c. c.b) e)))
    (Decides-and _ _ (Decides-eqb _ _) (Decides-and _ _ (Decides-eqb _ _) (Decides-eqb _ _)))

pub point_eq-Decides : (a b : Point) → Decides (point_eq a b) (a ≡ b)
point_eq-Decides a b = Decides-like _ (λ e i. record { x = e.0 i; y = e.1 i }) (λ e. (ap (λ p. p.x) e, ap (λ p. p.y) e))
    (Decides-and _ _ (Decides-int_eq _ _) (Decides-int_eq _ _))

pub extent_eq-Decides : (a b : ExtentValue) → Decides (extent_eq a b) (a ≡ b)
extent_eq-Decides a b = Decides-like _ (λ e i. record { minx = e.0 i; miny = e.1.0 i; maxx = e.1.1.0 i; maxy = e.1.1.1 i })
    (λ e. (ap (λ p. p.minx) e, (ap (λ p. p.miny) e, (ap (λ p. p.maxx) e, ap (λ p. p.maxy) e))))
    (Decides-and _ _ (Decides-int_eq _ _) (Decides-and _ _ (Decides-int_eq _ _) (Decides-and _ _ (Decides-int_eq _ _) (Decides-int_eq _ _))))

pub style_eq-Decides : (a b : StyleDefinition) → Decides (style_eq a b) (a ≡ b)
style_eq-Decides a b = Decides-like _ (λ e i. record { color = e.0 i; outline_color = e.1.0 i; width = e.1.1.0 i; size = e.1.1.1 i })
    (λ e. (ap (λ x. x.color) e, (ap (λ x. x.outline_color) e, (ap (λ x. x.width) e, ap (λ x. x.size) e))))
    (Decides-and _ _ (option_eq-Decides color_eq-Decides _ _) (Decides-and _ _ (option_eq-Decides color_eq-Decides _ _) (Decides-and _ _ (Decides-eqb _ _) (Decides-eqb _ _))))

pub label_eq-Decides : (a b : LabelDefinition) → Decides (label_eq a b) (a ≡ b)
label_eq-Decides a b = Decides-like _ (λ e i. record { color = e.0 i; size = e.1.0 i; position = e.1.1.0 i; priority = e.1.1.1.0 i; force = e.1.1.1.1.0 i; buffer = e.1.1.1.1.1 i })
    (λ e. (ap (λ x. x.color) e, (ap (λ x. x.size) e, (ap (λ x. x.position) e, (ap (λ x. x.priority) e, (ap (λ x. x.force) e, ap (λ x. x.buffer) e))))))
    (Decides-and _ _ (color_eq-Decides _ _) (Decides-and _ _ (sameb-Decides label_sizes tt _ _) (Decides-and _ _ (sameb-Decides label_positions tt _ _) (Decides-and _ _ (Decides-eqb _ _) (Decides-and _ _ (booleans_Decides _ _) (Decides-eqb _ _))))))

same_text : (a b : List ℕ) → Equals a ≡ Equals b → a ≡ b
same_text a b e = cc

same_list : (a b : List ℕ) → OneOf a ≡ OneOf b → a ≡ b
same_list a b e = cc

pub expression_eq-Decides : (a b : ExpressionDefinition) → Decides (expression_eq a b) (a ≡ b)
expression_eq-Decides (Equals a) (Equals b) = (λ e. ap Equals ((bytes_decides a b).0 e), λ e. (bytes_decides a b).1 (same_text a b e))
expression_eq-Decides (Equals a) (OneOf b) = (λ e. grind arith, λ e. absurd cc)
expression_eq-Decides (OneOf a) (Equals b) = (λ e. grind arith, λ e. absurd cc)
expression_eq-Decides (OneOf a) (OneOf b) = (λ e. ap OneOf ((bytes_decides a b).0 e), λ e. (bytes_decides a b).1 (same_list a b e))

pub expression_eq_equiv : IsEquivalence expression_eq
expression_eq_equiv = decided expression_eq expression_eq-Decides

pub class_eq-Decides : (a b : ClassDefinition) → Decides (class_eq a b) (a ≡ b)
unfolding class_eq
class_eq-Decides a b = Decides-like _ (λ e i. record { name = e.0.0.0 i; expression = e.0.0.1 i; styles = e.0.1 i; label = e.1 i })
    (λ e. (((ap (λ x. x.name) e, ap (λ x. x.expression) e), ap (λ x. x.styles) e), ap (λ x. x.label) e))
    (Decides-and _ _ (Decides-and _ _ (Decides-and _ _ (bytes_decides _ _) (option_eq-Decides expression_eq-Decides _ _)) (pointwise_decides style_eq-Decides _ _)) (option_eq-Decides label_eq-Decides _ _))

pub class_eq_equiv : IsEquivalence class_eq
class_eq_equiv = decided class_eq class_eq-Decides

pub feature_eq-Decides : (a b : FeatureDefinition) → Decides (feature_eq a b) (a ≡ b)
unfolding feature_eq
feature_eq-Decides a b = Decides-like _ (λ e i. record { parts = e.0.0 i; items = e.0.1 i; text = e.1 i })
    (λ e. ((ap (λ x. x.parts) e, ap (λ x. x.items) e), ap (λ x. x.text) e))
    (Decides-and _ _ (Decides-and _ _ (pointwise_decides (pointwise_decides point_eq-Decides) _ _) (bytes_decides _ _)) (bytes_decides _ _))

pub feature_eq_equiv : IsEquivalence feature_eq
feature_eq_equiv = decided feature_eq feature_eq-Decides

pub layer_eq-Decides : (a b : LayerDefinition) → Decides (layer_eq a b) (a ≡ b)
unfolding layer_eq
layer_eq-Decides a b = Decides-like _ (λ e i. record { kind = e.0.0.0.0.0.0 i; title = e.0.0.0.0.0.1 i; class_item = e.0.0.0.0.1 i; label_item = e.0.0.0.1 i; items = e.0.0.1 i; classes = e.0.1 i; features = e.1 i })
    (λ e. ((((((ap (λ x. x.kind) e, ap (λ x. x.title) e), ap (λ x. x.class_item) e), ap (λ x. x.label_item) e), ap (λ x. x.items) e), ap (λ x. x.classes) e), ap (λ x. x.features) e))
    (Decides-and _ _ (Decides-and _ _ (Decides-and _ _ (Decides-and _ _ (Decides-and _ _ (Decides-and _ _ (sameb-Decides layer_kinds tt _ _) (bytes_decides _ _)) (bytes_decides _ _)) (bytes_decides _ _)) (bytes_decides _ _)) (pointwise_decides class_eq-Decides _ _)) (pointwise_decides feature_eq-Decides _ _))

pub layer_eq_equiv : IsEquivalence layer_eq
layer_eq_equiv = decided layer_eq layer_eq-Decides

pub entry_eq-Decides : (a b : List ℕ × LayerDefinition) → Decides (entry_eq a b) (a ≡ b)
entry_eq-Decides a b = Decides-like _ (λ e i. (e.0 i, e.1 i)) (λ e. (ap (λ p. p.0) e, ap (λ p. p.1) e))
    (Decides-and _ _ (bytes_decides _ _) (layer_eq-Decides _ _))

pub definition_eq-Decides : (a b : Definition) → Decides (definition_eq a b) (a ≡ b)
unfolding definition_eq
definition_eq-Decides a b = Decides-like _ (λ e i. record { name = e.0.0.0.0.0.0 i; title = e.0.0.0.0.0.1 i; abstract_text = e.0.0.0.0.1 i; address = e.0.0.0.1 i; extent = e.0.0.1 i; projection = e.0.1 i; layers = e.1 i })
    (λ e. ((((((ap (λ x. x.name) e, ap (λ x. x.title) e), ap (λ x. x.abstract_text) e), ap (λ x. x.address) e), ap (λ x. x.extent) e), ap (λ x. x.projection) e), ap (λ x. x.layers) e))
    (Decides-and _ _ (Decides-and _ _ (Decides-and _ _ (Decides-and _ _ (Decides-and _ _ (Decides-and _ _ (bytes_decides _ _) (bytes_decides _ _)) (bytes_decides _ _)) (bytes_decides _ _)) (extent_eq-Decides _ _)) (sameb-Decides projections tt _ _)) (pointwise_decides entry_eq-Decides _ _))

pub definition_eq_equiv : IsEquivalence definition_eq
definition_eq_equiv = decided definition_eq definition_eq-Decides
