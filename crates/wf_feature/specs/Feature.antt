-- FEATURE: a shape, with the values of its attributes and the text of its label.
use Rattle.std.specs.Prelude.{ℕ, zero, suc, ◌-◌, List, [], ◌∷◌, length, codes, Option, Some, None, sum_by, unwrap_or}
use Rattle.std.specs.Option.{option_or}
use Rattle.wf_def.specs.Definition.{FeatureDefinition}
use Rattle.wf_def.specs.Layer as def
use Rattle.wf_def.specs.declared.point.Point.{Point}
use Rattle.wf_feature.specs.declared.slots.FeatureOnce.{FeatureOnce}
use Rattle.wf_feature.specs.declared.slots.FeatureSlots.{FeatureSlots}
use Rattle.wf_block.specs.Token.{Token}
use Rattle.wf_block.specs.Grammar.{◌>>=◌, text, number, end}
use Rattle.wf_block.specs.Steps.{once, any_times, again, step_by, step_or, put_into, block}

-- an x and a y
unfoldable pub point : List Token → Option (Point × List Token)
point tokens = do
  x ← number tokens
  y ← number x.1
  Some (record { x = x.0; y = y.0 }, y.1)

-- at most n points up to END, appended to those so far
unfoldable pub points_behind : ℕ → List Point → ℕ → List Token → Option (List Point × List Token)
points_behind most part zero tokens = None
points_behind most part (suc left) tokens =
    option_or (end tokens >>= λ rest. Some (part, rest)) (again most part point (λ more. more) tokens >>= λ x. points_behind most x.0 left x.1)

-- what follows the word POINTS, up to its END: at most n points, each of at least one token
unfoldable pub points : ℕ → List Token → Option (List Point × List Token)
points most tokens = points_behind most [] (length tokens) tokens

-- the slots after a keyword that comes at most once
unfoldable pub feature_once : FeatureOnce → List ℕ → List Token → Option (FeatureOnce × List Token)
feature_once settings = step_by (
    (codes "ITEMS", once settings.items text (λ x. record settings { items = Some x })) ∷
    (codes "TEXT", once settings.text text (λ x. record settings { text = Some x })) ∷ [])

-- the slots after a keyword, if at most n points may come in all
unfoldable pub feature_put : ℕ → FeatureSlots → List ℕ → List Token → Option (FeatureSlots × List Token)
feature_put most settings = step_or (
    (codes "POINTS", any_times settings.parts (points (most - sum_by length settings.parts)) (λ more. record settings { parts = more })) ∷ [])
    (λ keyword tokens. put_into (λ x. record settings { single = x }) (feature_once settings.single keyword tokens))

abbrev pub no_feature : FeatureSlots
no_feature = record { parts = []; single = record { items = None; text = None } }

-- the feature of the slots, if there is a part: absent texts are empty
unfoldable pub feature_of : FeatureSlots → Option FeatureDefinition
feature_of settings = def.feature_of settings.parts (unwrap_or settings.single.items []) (unwrap_or settings.single.text [])

-- what follows the word FEATURE, up to its END: a shape of at most n points
unfoldable pub feature : ℕ → List Token → Option (FeatureDefinition × List Token)
feature most tokens = do
  x ← block (feature_put most) no_feature tokens
  f ← feature_of x.0
  Some (f, x.1)
