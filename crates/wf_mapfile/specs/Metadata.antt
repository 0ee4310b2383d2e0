-- METADATA: pairs of texts up to END.
use Rattle.std.specs.Prelude.{ℕ, zero, suc, if◌then◌else◌, List, [], ◌∷◌, length, map, codes, Option, Some, None}
use Rattle.std.specs.Option.{option_or}
use Rattle.std.specs.Str.{bytes_eq, str_to_ascii_lowercase}
use Rattle.wf_mapfile.specs.declared.slots.Metadata.{Metadata}
use Rattle.wf_block.specs.Token.{Token}
use Rattle.wf_block.specs.Grammar.{◌>>=◌, text, end}
unfoldable pub use Rattle.wf_block.specs.Grammar.{all_differ}

-- at most n pairs up to END, each a key in lower case and its value
unfoldable pub pairs : ℕ → List Token → Option (List (List ℕ × List ℕ) × List Token)
pairs zero tokens = None
pairs (suc most) tokens = option_or (end tokens >>= λ rest. Some ([], rest)) (do
  key ← text tokens
  value ← text key.1
  others ← pairs most value.1
  Some ((str_to_ascii_lowercase key.0, value.0) ∷ others.0, others.1))

-- the value under a key
unfoldable pub value_at : List ℕ → List (List ℕ × List ℕ) → Option (List ℕ)
value_at key [] = None
value_at key (pair ∷ others) = if bytes_eq pair.0 key then Some pair.1 else value_at key others

-- the values that are kept: those under the keys that a map or a layer uses
unfoldable pub kept : List (List ℕ × List ℕ) → Metadata
kept all = record {
  title = value_at (codes "wms_title") all;
  abstract_text = value_at (codes "wms_abstract") all;
  address = value_at (codes "wms_onlineresource") all;
}

unfoldable pub metadata : List Token → Option (Metadata × List Token)
metadata tokens = do
  all ← pairs (length tokens) tokens
  if all_differ (map (λ pair. pair.0) all.0) then Some (kept all.0, all.1) else None
