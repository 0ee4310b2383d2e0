-- STYLE: how a feature is drawn.
use Rattle.std.specs.Prelude.{ℕ, List, [], ◌∷◌, codes, Option, Some, None, unwrap_or}
use Rattle.wf_def.specs.Limit.{most_width, most_size}
use Rattle.wf_def.specs.Definition.{StyleDefinition}
use Rattle.wf_class.specs.declared.slots.StyleSlots.{StyleSlots}
use Rattle.wf_block.specs.Token.{Token}
use Rattle.wf_block.specs.Grammar.{◌>>=◌, whole}
use Rattle.wf_block.specs.Steps.{once, step_by, block}
use Rattle.wf_class.specs.Color.{color}

-- the slots after a keyword: each comes at most once
unfoldable pub style_put : StyleSlots → List ℕ → List Token → Option (StyleSlots × List Token)
style_put settings = step_by (
    (codes "COLOR", once settings.color color (λ x. record settings { color = Some x })) ∷
    (codes "OUTLINECOLOR", once settings.outline_color color (λ x. record settings { outline_color = Some x })) ∷
    (codes "WIDTH", once settings.width (whole 1 most_width) (λ x. record settings { width = Some x })) ∷
    (codes "SIZE", once settings.size (whole 1 most_size) (λ x. record settings { size = Some x })) ∷ [])

abbrev pub no_style : StyleSlots
no_style = record { color = None; outline_color = None; width = None; size = None }

-- the style of the slots: an absent colour is none, an absent width or size is one pixel
unfoldable pub style_of : StyleSlots → StyleDefinition
style_of settings = record {
  color = settings.color;
  outline_color = settings.outline_color;
  width = unwrap_or settings.width 1;
  size = unwrap_or settings.size 1;
}

-- what follows the word STYLE, up to its END
unfoldable pub style : List Token → Option (StyleDefinition × List Token)
style tokens = do
  x ← block style_put no_style tokens
  Some (style_of x.0, x.1)
