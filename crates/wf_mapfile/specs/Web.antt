-- WEB: at most one METADATA, and the texts IMAGEPATH and IMAGEURL, which are dropped.
use Rattle.std.specs.Prelude.{ℕ, List, [], ◌∷◌, codes, Option, Some, None, unwrap_or}
use Rattle.wf_mapfile.specs.declared.slots.Metadata as kept
use Rattle.wf_mapfile.specs.declared.slots.WebSlots.{WebSlots}
use Rattle.wf_block.specs.Token.{Token}
use Rattle.wf_block.specs.Grammar.{◌>>=◌, text}
use Rattle.wf_block.specs.Steps.{once, step_by, block}
use Rattle.wf_mapfile.specs.Metadata.{metadata}

-- the slots after a keyword: each comes at most once
unfoldable pub web_put : WebSlots → List ℕ → List Token → Option (WebSlots × List Token)
web_put settings = step_by (
    (codes "METADATA", once settings.metadata metadata (λ x. record settings { metadata = Some x })) ∷
    (codes "IMAGEPATH", once settings.image_path text (λ x. record settings { image_path = Some tt })) ∷
    (codes "IMAGEURL", once settings.image_url text (λ x. record settings { image_url = Some tt })) ∷ [])

abbrev pub no_settings : WebSlots
no_settings = record { metadata = None; image_path = None; image_url = None }

-- without METADATA nothing is kept
abbrev pub no_metadata : kept.Metadata
no_metadata = record { title = None; abstract_text = None; address = None }

-- what follows the word WEB, up to its END
unfoldable pub web : List Token → Option (kept.Metadata × List Token)
web tokens = do
  x ← block web_put no_settings tokens
  Some (unwrap_or x.0.metadata no_metadata, x.1)
