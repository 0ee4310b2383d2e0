-- Canonical text as it is scanned, piece by piece.
use Rattle.std.specs.Prelude.{◌≡◌, ℕ, true, List, ◌++◌, ◌∷◌, codes, []}
use Rattle.wf_spelling.specs.declared.scan.cursor.Cursor.{Cursor}
use Rattle.wf_def.specs.Definition.{LayerDefinition, ClassDefinition, FeatureDefinition}
use Rattle.wf_def.specs.declared.choice.LayerKind.{LayerKind}
use Rattle.wf_block.specs.Token.{Token}
use Rattle.wf_spelling.specs.Canon.{with_text, with_word, kind_word, metadata_lines, alone, with_key, end_line}
use Rattle.wf_spelling.specs.declared.scan.layer.Heading.{Heading}

-- nothing has failed to match, and these bytes are ahead
pub record IsAt (c : Cursor) (rest : List ℕ) : Type 0 where
  pub matches : c.matches ≡ true
  pub ahead : c.rest.now ≡ rest

-- if nothing has failed to match, this piece was ahead, and what is ahead now comes behind it
pub record Scans (before : Cursor) (piece : List ℕ) (after : Cursor) : Type 0 where
  pub whole : (rest : List ℕ) → IsAt after rest → IsAt before (piece ++ rest)

-- the lines of a layer from NAME to the end of METADATA
abbrev pub layer_heading_lines : List ℕ → LayerKind → List ℕ → List ℕ → List ℕ → List ℕ → List (List Token)
layer_heading_lines name kind class_item label_item items title =
    with_text (codes "NAME") name
    ∷ with_word (codes "TYPE") (kind_word kind)
    ∷ with_text (codes "CLASSITEM") class_item
    ∷ with_text (codes "LABELITEM") label_item
    ∷ with_text (codes "PROCESSING") (codes "ITEMS=" ++ items)
    ∷ metadata_lines title

-- the layer of this heading, with these classes and features
pub record IsWhole (h : Heading) (classes : List ClassDefinition) (features : List FeatureDefinition) (n : List ℕ) (l : LayerDefinition) : Type 0 where
  pub name : n ≡ h.name
  pub layer : l ≡ record { kind = h.kind; title = h.title; class_item = h.class_item; label_item = h.label_item; items = h.items; classes = classes; features = features }

-- the WEB block of these texts
abbrev pub web_lines_of : List ℕ → List ℕ → List ℕ → List (List Token)
web_lines_of title abstract_text address =
    alone (codes "WEB")
    ∷ alone (codes "METADATA")
    ∷ with_key (codes "wms_title") title
    ∷ with_key (codes "wms_abstract") abstract_text
    ∷ with_key (codes "wms_onlineresource") address
    ∷ end_line
    ∷ end_line
    ∷ []
