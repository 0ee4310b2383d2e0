-- The parts of a block that was scanned are those of its value.
use Rattle.std.proofs.Common.{◌≡◌, ℕ, Bool, true, false, List, Option, Some, None, length}
use Rattle.std.specs.Prelude.{IfSome, if◌then◌else◌, ◌&&◌, nat_lt, nat_le}
use Rattle.std.specs.List.{list_all}
use Rattle.wf_def.specs.Definition.{FeatureDefinition, LayerDefinition, ClassDefinition}
use Rattle.wf_def.specs.declared.point.Point.{Point}
use Rattle.wf_def.specs.declared.choice.LayerKind.{LayerKind}
use Rattle.wf_def.specs.Layer.{feature_of, layer_of, has_enough_points}
use Rattle.wf_def.specs.Limit.{most_items_bytes}
use Rattle.wf_feature.specs.Layers.{is_layer_name}
use Rattle.std.specs.Prelude.{codes}
use Rattle.wf_block.specs.Spelling.{line, text_of}
use Rattle.wf_spelling.specs.Canon.{alone, end_line, feature_lines}
use Rattle.wf_spelling.specs.declared.scan.cursor.Cursor.{Cursor}
use Rattle.wf_spelling.specs.Scan.{Scans}

chosen : {X : Type 0} (so : Bool) (x : X) (P : X → Type 0) → P x → IfSome (if so then Some x else None) P
chosen true x P p = p
chosen false x P p = tt

given : {X : Type 0} (so : Bool) (x y : X) → Some y ≡ (if so then Some x else None) → y ≡ x
given true x y e = cc
given false x y e = absurd (let impossible : ⊥ = cc in impossible)

-- a keyword with its LF is its line
pub feature_line : {a b : Cursor} → Scans a (codes "FEATURE\n") b → Scans a (line (alone (codes "FEATURE"))) b
unfolding line
feature_line scanned = scanned

pub end_line_scanned : {a b : Cursor} → Scans a (codes "END\n") b → Scans a (line end_line) b
unfolding line
end_line_scanned scanned = scanned

pub feature_is : {a b : Cursor} (parts : List (List Point)) (items text : List ℕ) (r : Option FeatureDefinition) → r ≡ feature_of parts items text
    → Scans a (text_of (feature_lines (record { parts = parts; items = items; text = text }))) b → IfSome r (λ f. Scans a (text_of (feature_lines f)) b)
unfolding feature_of
feature_is {a = a} {b = b} parts items text r e scanned = rw e (chosen (nat_lt 0 (length parts)) _ (λ (f : FeatureDefinition). Scans a (text_of (feature_lines f)) b) scanned)

pub layer_is : (kind : LayerKind) (title class_item label_item items : List ℕ) (classes : List ClassDefinition) (features : List FeatureDefinition) (l : LayerDefinition) → Some l ≡ layer_of kind title class_item label_item items classes features
    → l ≡ record { kind = kind; title = title; class_item = class_item; label_item = label_item; items = items; classes = classes; features = features }
unfolding layer_of
layer_is kind title class_item label_item items classes features l e = given (nat_le (length items) most_items_bytes && list_all (has_enough_points kind) features) _ l e

pub name_is : (name n : List ℕ) → Some n ≡ (if is_layer_name name then Some name else None) → n ≡ name
name_is name n e = given (is_layer_name name) name n e
