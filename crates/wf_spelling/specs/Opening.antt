-- The lines of a canonical text that stand before a block's last list.
use Rattle.std.specs.Prelude.{ℕ, List, ◌∷◌, ◌++◌, codes}
use Rattle.std.specs.List.{flat_map}
use Rattle.wf_def.specs.Definition.{Definition, LayerDefinition}
use Rattle.wf_block.specs.Token.{Token}
use Rattle.wf_spelling.specs.Canon.{alone, class_lines, heading_lines, kind_word, metadata_lines, projection_lines, web_lines, with_text, with_word}

-- the lines of a map before its layers
abbrev pub opening_lines : Definition → List (List Token)
opening_lines d = heading_lines d ++ projection_lines d.projection ++ web_lines d

-- the lines of a layer with its name before its features
abbrev pub layer_opening_lines : List ℕ × LayerDefinition → List (List Token)
layer_opening_lines entry = let l = entry.1 in
    (alone (codes "LAYER")
    ∷ with_text (codes "NAME") entry.0
    ∷ with_word (codes "TYPE") (kind_word l.kind)
    ∷ with_text (codes "CLASSITEM") l.class_item
    ∷ with_text (codes "LABELITEM") l.label_item
    ∷ with_text (codes "PROCESSING") (codes "ITEMS=" ++ l.items)
    ∷ metadata_lines l.title)
    ++ flat_map class_lines l.classes
