-- METADATA read in one pass: what each pair stores.
use Rattle.std.specs.Prelude.{ℕ, zero, suc, Bool, ◌||◌, if◌then◌else◌, List, codes, Option, Some, None}
use Rattle.std.specs.Option.{option_or}
use Rattle.std.specs.Str.{bytes_eq, str_to_ascii_lowercase}
use Rattle.wf_mapfile.specs.declared.slots.Metadata.{Metadata}
use Rattle.wf_block.specs.Token.{Token}
use Rattle.wf_block.specs.Grammar.{◌>>=◌, text, end}

-- a pair's value goes to its key's slot, if there is one
unfoldable pub keep : Metadata → List ℕ → List ℕ → Metadata
keep slots key value =
    if bytes_eq key (codes "wms_title") then record slots { title = Some value } else
    if bytes_eq key (codes "wms_abstract") then record slots { abstract_text = Some value } else
    if bytes_eq key (codes "wms_onlineresource") then record slots { address = Some value } else slots

-- a pair whose key, in lower case, was not seen
unfoldable pub new_pair : (List ℕ → Bool) → List Token → Option ((List ℕ × List ℕ) × List Token)
new_pair seen tokens = do
  key ← text tokens
  let name = str_to_ascii_lowercase key.0
  if seen name then None else (text key.1 >>= λ value. Some ((name, value.0), value.1))

-- at most n pairs up to END, after keys that were seen
unfoldable pub collect : (List ℕ → Bool) → Metadata → ℕ → List Token → Option (Metadata × List Token)
collect seen slots zero tokens = None
collect seen slots (suc most) tokens = option_or (end tokens >>= λ rest. Some (slots, rest)) (do
  pair ← new_pair seen tokens
  collect (λ other. bytes_eq pair.0.0 other || seen other) (keep slots pair.0.0 pair.0.1) most pair.1)
