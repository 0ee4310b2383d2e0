-- CLASS: which features it contains, and how they are drawn.
use Rattle.std.specs.Prelude.{ℕ, Bool, true, false, if◌then◌else◌, List, [], ◌∷◌, codes, Option, Some, None, unwrap_or}
use Rattle.wf_def.specs.Limit.{most_styles}
use Rattle.wf_def.specs.Definition.{ClassDefinition, ExpressionDefinition}
use Rattle.wf_def.specs.declared.expression.Expression.TheVariants.{Equals, OneOf}
use Rattle.wf_class.specs.declared.slots.ClassOnce.{ClassOnce}
use Rattle.wf_class.specs.declared.slots.ClassSlots.{ClassSlots}
use Rattle.wf_block.specs.Token.{Token, Word, Quoted, Braced, is_slash}
use Rattle.wf_block.specs.Grammar.{◌>>=◌, text, value_list}
use Rattle.wf_block.specs.Steps.{once, again, step_by, step_or, put_into, block}
use Rattle.wf_class.specs.Style.{style}
use Rattle.wf_class.specs.Label.{label}

-- whether a regular expression begins here: a word that begins with `/`, outside quotes
unfoldable pub begins_pattern : List Token → Bool
begins_pattern [] = false
begins_pattern (Quoted bytes ∷ rest) = false
begins_pattern (Braced inside ∷ rest) = false
begins_pattern (Word [] ∷ rest) = false
begins_pattern (Word (b ∷ bytes) ∷ rest) = is_slash b

-- whether a list begins here
unfoldable pub begins_list : List Token → Bool
begins_list [] = false
begins_list (Word bytes ∷ rest) = false
begins_list (Quoted bytes ∷ rest) = false
begins_list (Braced inside ∷ rest) = true

-- a list in braces, or a text; a regular expression is neither
unfoldable pub expression : List Token → Option (ExpressionDefinition × List Token)
expression tokens =
    if begins_list tokens then value_list tokens >>= (λ x. Some (OneOf x.0, x.1)) else
    if begins_pattern tokens then None else text tokens >>= (λ x. Some (Equals x.0, x.1))

-- the slots after a keyword that comes at most once
unfoldable pub class_once : ClassOnce → List ℕ → List Token → Option (ClassOnce × List Token)
class_once settings = step_by (
    (codes "NAME", once settings.name text (λ x. record settings { name = Some x })) ∷
    (codes "EXPRESSION", once settings.expression expression (λ x. record settings { expression = Some x })) ∷
    (codes "LABEL", once settings.label label (λ x. record settings { label = Some x })) ∷ [])

-- the slots after a keyword
unfoldable pub class_put : ClassSlots → List ℕ → List Token → Option (ClassSlots × List Token)
class_put settings = step_or (
    (codes "STYLE", again most_styles settings.styles style (λ more. record settings { styles = more })) ∷ [])
    (λ keyword tokens. put_into (λ x. record settings { single = x }) (class_once settings.single keyword tokens))

abbrev pub no_class : ClassSlots
no_class = record { styles = []; single = record { name = None; expression = None; label = None } }

-- the class of the slots: an absent name is empty
unfoldable pub class_of : ClassSlots → ClassDefinition
class_of settings = record {
  name = unwrap_or settings.single.name [];
  expression = settings.single.expression;
  styles = settings.styles;
  label = settings.single.label;
}

-- what follows the word CLASS, up to its END
unfoldable pub class : List Token → Option (ClassDefinition × List Token)
class tokens = do
  x ← block class_put no_class tokens
  Some (class_of x.0, x.1)
