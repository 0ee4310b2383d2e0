-- What is written for a class, with its styles and its label, is read as that class, whatever
-- follows.
use Rattle.std.proofs.Common.{Bool, true, false, List, [], ◌∷◌, Option, Some, None, refl, arith}
use Rattle.std.specs.Prelude.{codes}
use Rattle.wf_def.specs.Definition.{ExpressionDefinition, StyleDefinition, LabelDefinition, ClassDefinition}
use Rattle.wf_def.specs.Limits.{IsColor, IsExpression, IsStyle, IsLabel, IsClass}
use Rattle.wf_def.specs.declared.expression.Expression.TheVariants.{Equals, OneOf}
use Rattle.wf_def.specs.Limit.{most_styles, most_width, most_size, most_priority, most_buffer}
use Rattle.wf_def.specs.declared.color.Color.{Color}
use Rattle.wf_def.specs.declared.choice.LabelSize.{LabelSize}
use Rattle.wf_def.specs.declared.choice.LabelSize.TheVariants.{Tiny, Small, Medium, Large, Giant}
use Rattle.wf_def.specs.declared.choice.LabelPosition.{LabelPosition}
use Rattle.wf_def.specs.declared.choice.LabelPosition.TheVariants.{UpperLeft, UpperCenter, UpperRight, CenterLeft, CenterCenter, CenterRight, LowerLeft, LowerCenter, LowerRight}
use Rattle.wf_block.specs.Token.{Word}
use Rattle.wf_block.specs.Spelling.{tokens_of}
use Rattle.wf_mapfile.specs.StyleSlots.{StyleSlots}
use Rattle.wf_mapfile.specs.LabelSlots.{LabelSlots}
use Rattle.wf_mapfile.specs.ClassSlots.{ClassSlots}
use Rattle.wf_mapfile.specs.Style as styles
use Rattle.wf_mapfile.specs.Label as labels
use Rattle.wf_mapfile.specs.Class as classes
use Rattle.wf_spelling.specs.Canon.{size_word, position_word, force_word, expression_token, with_expression, with_color, when_there, style_lines, label_lines, optional_label_lines, class_lines}
use Rattle.wf_canon.proofs.TokenTheorem.{text_again, list_again, whole_again, color_again, chosen_again}
use Rattle.wf_canon.proofs.Steps.{Reads, inside, is_keyword, Fills, Ended, keyword, line, both, ended, there, each, holds_at, room_at, block_again}

-- ---- styles

style_fills : (s : StyleDefinition) → IsStyle s
    → Fills styles.style_put styles.no_style (inside (style_lines s)) (Ended (record { color = s.color; outline_color = s.outline_color; width = Some s.width; size = Some s.size }))
unfolding styles.style_put is_keyword
style_fills s h =
    let colored : Option Color → StyleSlots = λ c. record styles.no_style { color = c } in
    let outlined : Option Color → StyleSlots = λ c. record styles.no_style { color = s.color; outline_color = c } in
    let wide : StyleSlots = record styles.no_style { color = s.color; outline_color = s.outline_color; width = Some s.width } in
    both (outlined s.outline_color)
    (both (colored s.color)
    (there IsColor (when_there (with_color (codes "COLOR"))) colored s.color refl (λ c i. keyword refl (color_again c i) (λ rest e. rw e refl)) h.color)
    (there IsColor (when_there (with_color (codes "OUTLINECOLOR"))) outlined s.outline_color refl (λ c i. keyword refl (color_again c i) (λ rest e. rw e refl)) h.outline_color))
    (line wide refl (whole_again 1 most_width s.width h.width_least h.width_most (omega (arith, h.width_most))) (λ rest e. rw e refl)
    (line (record wide { size = Some s.size }) refl (whole_again 1 most_size s.size h.size_least h.size_most (omega (arith, h.size_most))) (λ rest e. rw e refl)
    ended))

pub style_again : (s : StyleDefinition) → IsStyle s → Reads styles.style (tokens_of (inside (style_lines s))) s
unfolding styles.style styles.style_of
style_again s h = block_again (inside (style_lines s)) (style_fills s h) (λ rest e. rw e refl)

-- ---- labels

size_again : (s : LabelSize) → Reads labels.label_size (Word (size_word s) ∷ []) s
unfolding labels.label_size is_keyword
size_again Tiny = chosen_again labels.label_sizes (codes "TINY") Tiny refl refl
size_again Small = chosen_again labels.label_sizes (codes "SMALL") Small refl refl
size_again Medium = chosen_again labels.label_sizes (codes "MEDIUM") Medium refl refl
size_again Large = chosen_again labels.label_sizes (codes "LARGE") Large refl refl
size_again Giant = chosen_again labels.label_sizes (codes "GIANT") Giant refl refl

position_again : (p : LabelPosition) → Reads labels.label_position (Word (position_word p) ∷ []) p
unfolding labels.label_position is_keyword
position_again UpperLeft = chosen_again labels.label_positions (codes "UL") UpperLeft refl refl
position_again UpperCenter = chosen_again labels.label_positions (codes "UC") UpperCenter refl refl
position_again UpperRight = chosen_again labels.label_positions (codes "UR") UpperRight refl refl
position_again CenterLeft = chosen_again labels.label_positions (codes "CL") CenterLeft refl refl
position_again CenterCenter = chosen_again labels.label_positions (codes "CC") CenterCenter refl refl
position_again CenterRight = chosen_again labels.label_positions (codes "CR") CenterRight refl refl
position_again LowerLeft = chosen_again labels.label_positions (codes "LL") LowerLeft refl refl
position_again LowerCenter = chosen_again labels.label_positions (codes "LC") LowerCenter refl refl
position_again LowerRight = chosen_again labels.label_positions (codes "LR") LowerRight refl refl

force_again : (b : Bool) → Reads labels.truth (Word (force_word b) ∷ []) b
unfolding labels.truth is_keyword
force_again true = chosen_again labels.truths (codes "TRUE") true refl refl
force_again false = chosen_again labels.truths (codes "FALSE") false refl refl

label_fills : (l : LabelDefinition) → IsLabel l
    → Fills labels.label_put labels.no_label (inside (label_lines l)) (Ended (record labels.no_label { color = Some l.color; size = Some l.size; position = Some l.position; priority = Some l.priority; force = Some l.force; buffer = Some l.buffer }))
unfolding labels.label_put is_keyword
label_fills l h =
    let colored : LabelSlots = record labels.no_label { color = Some l.color } in
    let sized : LabelSlots = record colored { size = Some l.size } in
    let placed : LabelSlots = record sized { position = Some l.position } in
    let ranked : LabelSlots = record placed { priority = Some l.priority } in
    let forced : LabelSlots = record ranked { force = Some l.force } in
    line colored refl (color_again l.color h.color) (λ rest e. rw e refl)
    (line sized refl (size_again l.size) (λ rest e. rw e refl)
    (line placed refl (position_again l.position) (λ rest e. rw e refl)
    (line ranked refl (whole_again 1 most_priority l.priority h.priority_least h.priority_most (omega (arith, h.priority_most))) (λ rest e. rw e refl)
    (line forced refl (force_again l.force) (λ rest e. rw e refl)
    (line (record forced { buffer = Some l.buffer }) refl (whole_again 0 most_buffer l.buffer (omega arith) h.buffer_most (omega (arith, h.buffer_most))) (λ rest e. rw e refl)
    ended)))))

pub label_again : (l : LabelDefinition) → IsLabel l → Reads labels.label (tokens_of (inside (label_lines l))) l
unfolding labels.label labels.label_of
label_again l h = block_again (inside (label_lines l)) (label_fills l h) (λ rest e. rw e refl)

-- ---- classes

expression_again : (e : ExpressionDefinition) → IsExpression e → Reads classes.expression (expression_token e ∷ []) e
unfolding classes.expression classes.begins_list classes.begins_pattern
expression_again (Equals t) h = let read = text_again t h in record { written = read.written; read = λ rest. rw (read.read rest) refl }
expression_again (OneOf inside) h = let read = list_again inside h in record { written = read.written; read = λ rest. rw (read.read rest) refl }

class_fills : (c : ClassDefinition) → IsClass c
    → Fills classes.class_put classes.no_class (inside (class_lines c)) (Ended (record { styles = c.styles; single = record { name = Some c.name; expression = c.expression; label = c.label } }))
unfolding classes.class_put classes.class_once is_keyword
class_fills c h =
    let matched : Option ExpressionDefinition → ClassSlots = λ e. record { styles = []; single = record { name = Some c.name; expression = e; label = None } } in
    let styled : List StyleDefinition → ClassSlots = λ s. record { styles = s; single = record { name = Some c.name; expression = c.expression; label = None } } in
    let labelled : Option LabelDefinition → ClassSlots = λ l. record { styles = c.styles; single = record { name = Some c.name; expression = c.expression; label = l } } in
    line (matched None) refl (text_again c.name h.name) (λ rest e. rw e refl)
    (both (labelled c.label)
    (both (styled c.styles)
    (both (matched c.expression)
    (there IsExpression (when_there (with_expression (codes "EXPRESSION"))) matched c.expression refl (λ x i. keyword refl (expression_again x i) (λ rest e. rw e refl)) h.expression)
    (each style_lines styled [] c.styles (λ before s byte_offset. keyword refl (style_again s (holds_at IsStyle byte_offset h.styles)) (λ rest e. rw (room_at most_styles byte_offset h.styles_most, e) refl))))
    (there IsLabel optional_label_lines labelled c.label refl (λ l i. keyword refl (label_again l i) (λ rest e. rw e refl)) h.label))
    ended)

pub class_again : (c : ClassDefinition) → IsClass c → Reads classes.class (tokens_of (inside (class_lines c))) c
unfolding classes.class classes.class_of
class_again c h = block_again (inside (class_lines c)) (class_fills c h) (λ rest e. rw e refl)
