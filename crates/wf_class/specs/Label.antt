-- LABEL: how a feature's text is drawn.
use Rattle.std.specs.Prelude.{ℕ, Bool, true, false, List, [], ◌∷◌, codes, Option, Some, None, unwrap_or}
use Rattle.wf_def.specs.declared.color.Color.{Color}
use Rattle.wf_def.specs.declared.choice.LabelSize.{LabelSize}
use Rattle.wf_def.specs.declared.choice.LabelSize.TheVariants.{Tiny, Small, Medium, Large, Giant}
use Rattle.wf_def.specs.declared.choice.LabelPosition.{LabelPosition}
use Rattle.wf_def.specs.declared.choice.LabelPosition.TheVariants.{UpperLeft, UpperCenter, UpperRight, CenterLeft, CenterCenter, CenterRight, LowerLeft, LowerCenter, LowerRight}
use Rattle.wf_def.specs.Limit.{most_priority, most_buffer}
use Rattle.wf_def.specs.Definition.{LabelDefinition}
use Rattle.wf_class.specs.declared.slots.LabelSlots.{LabelSlots}
use Rattle.wf_block.specs.Token.{Token}
use Rattle.wf_block.specs.Grammar.{◌>>=◌, one_of, whole}
use Rattle.wf_block.specs.Steps.{once, step_by, block}
use Rattle.wf_class.specs.Color.{color}

abbrev pub label_sizes : List (List ℕ × LabelSize)
label_sizes =
    (codes "TINY", Tiny) ∷
    (codes "SMALL", Small) ∷
    (codes "MEDIUM", Medium) ∷
    (codes "LARGE", Large) ∷
    (codes "GIANT", Giant) ∷ []

abbrev pub label_positions : List (List ℕ × LabelPosition)
label_positions =
    (codes "UL", UpperLeft) ∷
    (codes "UC", UpperCenter) ∷
    (codes "UR", UpperRight) ∷
    (codes "CL", CenterLeft) ∷
    (codes "CC", CenterCenter) ∷
    (codes "CR", CenterRight) ∷
    (codes "LL", LowerLeft) ∷
    (codes "LC", LowerCenter) ∷
    (codes "LR", LowerRight) ∷ []

abbrev pub truths : List (List ℕ × Bool)
truths = (codes "TRUE", true) ∷ (codes "FALSE", false) ∷ []

-- bitmap letters are the only kind
abbrev pub label_kinds : List (List ℕ × Unit {0})
label_kinds = (codes "BITMAP", tt) ∷ []

unfoldable pub label_size : List Token → Option (LabelSize × List Token)
label_size tokens = one_of label_sizes tokens

unfoldable pub label_position : List Token → Option (LabelPosition × List Token)
label_position tokens = one_of label_positions tokens

unfoldable pub truth : List Token → Option (Bool × List Token)
truth tokens = one_of truths tokens

unfoldable pub label_kind : List Token → Option (Unit {0} × List Token)
label_kind tokens = one_of label_kinds tokens

-- the slots after a keyword: each comes at most once, and the last is dropped
unfoldable pub label_put : LabelSlots → List ℕ → List Token → Option (LabelSlots × List Token)
label_put settings = step_by (
    (codes "COLOR", once settings.color color (λ x. record settings { color = Some x })) ∷
    (codes "SIZE", once settings.size label_size (λ x. record settings { size = Some x })) ∷
    (codes "POSITION", once settings.position label_position (λ x. record settings { position = Some x })) ∷
    (codes "PRIORITY", once settings.priority (whole 1 most_priority) (λ x. record settings { priority = Some x })) ∷
    (codes "FORCE", once settings.force truth (λ x. record settings { force = Some x })) ∷
    (codes "BUFFER", once settings.buffer (whole 0 most_buffer) (λ x. record settings { buffer = Some x })) ∷
    (codes "TYPE", once settings.kind label_kind (λ x. record settings { kind = Some x })) ∷ [])

abbrev pub no_label : LabelSlots
no_label = record { color = None; size = None; position = None; priority = None; force = None; buffer = None; kind = None }

abbrev pub black : Color
black = record { r = 0; g = 0; b = 0 }

-- the label of the slots, with defaults for absent ones
unfoldable pub label_of : LabelSlots → LabelDefinition
label_of settings = record {
  color = unwrap_or settings.color black;
  size = unwrap_or settings.size Medium;
  position = unwrap_or settings.position CenterCenter;
  priority = unwrap_or settings.priority 1;
  force = unwrap_or settings.force false;
  buffer = unwrap_or settings.buffer 0;
}

-- what follows the word LABEL, up to its END
unfoldable pub label : List Token → Option (LabelDefinition × List Token)
label tokens = do
  x ← block label_put no_label tokens
  Some (label_of x.0, x.1)
