-- LAYER: a layer with its name.
use Rattle.std.specs.Prelude.{ℕ, Bool, ◌-◌, if◌then◌else◌, List, [], ◌∷◌, take, drop, codes, Option, Some, None, sum_by, unwrap_or}
use Rattle.std.specs.Str.{str_eq_ignore_ascii_case}
use Rattle.wf_def.specs.Definition.{LayerDefinition}
use Rattle.wf_def.specs.Layer as def
use Rattle.wf_def.specs.Limits.{has_layer, points_of_feature}
use Rattle.wf_def.specs.declared.choice.LayerKind.{LayerKind}
use Rattle.wf_def.specs.declared.choice.LayerKind.TheVariants as kind
use Rattle.wf_def.specs.Limit.{most_classes}
use Rattle.wf_mapfile.specs.declared.slots.LayerDropped.{LayerDropped}
use Rattle.wf_mapfile.specs.declared.slots.LayerOnce.{LayerOnce}
use Rattle.wf_mapfile.specs.declared.slots.LayerSlots.{LayerSlots}
use Rattle.wf_block.specs.Token.{Token}
use Rattle.wf_block.specs.Grammar.{◌>>=◌, text, one_of}
use Rattle.wf_block.specs.Steps.{once, again, step_by, step_or, put_into, block}
use Rattle.wf_mapfile.specs.Metadata.{metadata}
use Rattle.wf_mapfile.specs.Web.{no_metadata}
use Rattle.wf_class.specs.Class.{class}
use Rattle.wf_feature.specs.Feature.{feature}
unfoldable pub use Rattle.wf_feature.specs.Layers.{is_layer_name, features_left, points_left}
pub use Rattle.wf_feature.specs.Layers.{LayerNamesAreTested}

unfoldable pub layer_name : List Token → Option (List ℕ × List Token)
layer_name tokens = do
  x ← text tokens
  if is_layer_name x.0 then Some x else None

-- the kinds of features
abbrev pub layer_kinds : List (List ℕ × LayerKind)
layer_kinds =
    (codes "POINT", kind.Points) ∷
    (codes "LINE", kind.Lines) ∷
    (codes "POLYGON", kind.Polygons) ∷ []

unfoldable pub layer_kind : List Token → Option (LayerKind × List Token)
layer_kind tokens = one_of layer_kinds tokens

-- the text begins with `ITEMS=`, in any letter case
abbrev pub begins_items : List ℕ → Bool
begins_items text = str_eq_ignore_ascii_case (take 6 text) (codes "ITEMS=")

-- the names of the features' attributes: what follows `ITEMS=` in a text
unfoldable pub processing : List Token → Option (List ℕ × List Token)
processing tokens = do
  x ← text tokens
  if begins_items x.0 then Some (drop 6 x.0, x.1) else None

-- a layer's name that none of the layers before it has
unfoldable pub new_name : List (List ℕ × LayerDefinition) → List Token → Option (List ℕ × List Token)
new_name others tokens = do
  x ← layer_name tokens
  if has_layer others x.0 then None else Some x

-- the slots after a dropped keyword: each comes at most once
unfoldable pub layer_dropped : LayerDropped → List ℕ → List Token → Option (LayerDropped × List Token)
layer_dropped settings = step_by (
    (codes "STATUS", once settings.status text (λ x. record settings { status = Some tt })) ∷
    (codes "UNITS", once settings.units text (λ x. record settings { units = Some tt })) ∷
    (codes "TEMPLATE", once settings.template text (λ x. record settings { template = Some tt })) ∷ [])

-- the slots after a keyword that comes at most once, given the layers before: a name differs from
-- theirs
unfoldable pub layer_once : List (List ℕ × LayerDefinition) → LayerOnce → List ℕ → List Token → Option (LayerOnce × List Token)
layer_once others settings = step_or (
    (codes "NAME", once settings.name (new_name others) (λ x. record settings { name = Some x })) ∷
    (codes "TYPE", once settings.kind layer_kind (λ x. record settings { kind = Some x })) ∷
    (codes "CLASSITEM", once settings.class_item text (λ x. record settings { class_item = Some x })) ∷
    (codes "LABELITEM", once settings.label_item text (λ x. record settings { label_item = Some x })) ∷
    (codes "PROCESSING", once settings.items processing (λ x. record settings { items = Some x })) ∷
    (codes "METADATA", once settings.metadata metadata (λ x. record settings { metadata = Some x })) ∷ [])
    (λ keyword tokens. put_into (λ x. record settings { dropped = x }) (layer_dropped settings.dropped keyword tokens))

-- the slots after a keyword, given the layers before: at most as many features and points as are
-- left for the map
unfoldable pub layer_put : List (List ℕ × LayerDefinition) → LayerSlots → List ℕ → List Token → Option (LayerSlots × List Token)
layer_put others settings = step_or (
    (codes "CLASS", again most_classes settings.classes class (λ more. record settings { classes = more })) ∷
    (codes "FEATURE", again (features_left others) settings.features (feature (points_left others - sum_by points_of_feature settings.features)) (λ more. record settings { features = more })) ∷ [])
    (λ keyword tokens. put_into (λ x. record settings { single = x }) (layer_once others settings.single keyword tokens))

abbrev pub no_layer_dropped : LayerDropped
no_layer_dropped = record { status = None; units = None; template = None }

abbrev pub no_layer_once : LayerOnce
no_layer_once = record { name = None; kind = None; class_item = None; label_item = None; items = None; metadata = None; dropped = no_layer_dropped }

abbrev pub no_layer : LayerSlots
no_layer = record { classes = []; features = []; single = no_layer_once }

-- the layer of the slots, with its name: NAME and TYPE are required, the title defaults to the
-- name, other texts to empty
unfoldable pub layer_of : LayerSlots → Option (List ℕ × LayerDefinition)
layer_of settings = do
  name ← settings.single.name
  kind ← settings.single.kind
  let title = unwrap_or (unwrap_or settings.single.metadata no_metadata).title name
  l ← def.layer_of kind title (unwrap_or settings.single.class_item []) (unwrap_or settings.single.label_item []) (unwrap_or settings.single.items []) settings.classes settings.features
  Some (name, l)

-- what follows the word LAYER, up to its END, given the layers before
unfoldable pub layer : List (List ℕ × LayerDefinition) → List Token → Option ((List ℕ × LayerDefinition) × List Token)
layer others tokens = do
  x ← block (layer_put others) no_layer tokens
  l ← layer_of x.0
  Some (l, x.1)
