-- The message about an error: what was found there, and what is allowed there.
use Rattle.std.specs.Prelude.{◌≡◌, ℕ, ◌-◌, ◌++◌, ⊤, codes, decimal, length, List, Option, Some, None}
use Rattle.std.specs.List.{flat_map}
use Rattle.wf_block.specs.Blocks.{block_name}
use Rattle.wf_block.specs.declared.fault.MapFault.{MapFault}
use Rattle.wf_block.specs.declared.fault.MapFault.TheVariants as faults
use Rattle.wf_block.specs.declared.place.Block.{Block}
use Rattle.wf_block.specs.declared.place.Block.TheVariants as blocks
use Rattle.wf_def.specs.Definition.{Definition}
use Rattle.wf_mapfile.specs.Meaning.{Means}
use Rattle.wf_spelling.specs.Canon.{canon, counted, most_canon_bytes}
use Rattle.wf_mapfile.specs.Keywords.{AreKeywordsOf}
use Rattle.wf_check.specs.declared.fault.CheckFault.{CheckFault}
use Rattle.wf_check.specs.declared.fault.CheckFault.TheVariants.{Map, TooBig}
use Rattle.wf_check.specs.declared.finding.Finding.{Finding}
use Rattle.wf_mapfile.specs.declared.keywords.Takes.{Takes}

-- what was found, and what is allowed
abbrev pub said : List ℕ → List ℕ → List ℕ
said found allowed = codes "Found " ++ found ++ codes ". Allowed: " ++ allowed ++ codes "."

-- keywords, each with a comma behind it
abbrev pub enumerated : List (List ℕ × Takes) → List ℕ
enumerated keywords = flat_map (λ keyword. keyword.0 ++ codes ", ") keywords

-- The text lists the keywords of a block, and its END.
abbrev pub IsKeywordList : Block → List ℕ → Type 0
IsKeywordList block text = (keywords : List (List ℕ × Takes)) × AreKeywordsOf block keywords × (text ≡ enumerated keywords ++ codes "or the END of " ++ block_name block)

-- what is allowed in a block between its keywords
abbrev pub IsAllowedIn : Block → List ℕ → Type 0
IsAllowedIn blocks.Map text = IsKeywordList blocks.Map text
IsAllowedIn blocks.Projection text = ⊤
IsAllowedIn blocks.Web text = IsKeywordList blocks.Web text
IsAllowedIn blocks.Metadata text = text ≡ codes "pairs of texts, key and value, or END"
IsAllowedIn blocks.Layer text = IsKeywordList blocks.Layer text
IsAllowedIn blocks.Class text = IsKeywordList blocks.Class text
IsAllowedIn blocks.Style text = IsKeywordList blocks.Style text
IsAllowedIn blocks.Label text = IsKeywordList blocks.Label text
IsAllowedIn blocks.Feature text = IsKeywordList blocks.Feature text
IsAllowedIn blocks.Points text = text ≡ codes "pairs of numbers, x and y, or END"

-- what is allowed in place of a token: MAP before all blocks, and in a block what may stand between
-- its keywords, unless the token is behind one of them
abbrev pub IsAllowedBetween : Option Block → Option ℕ → ℕ → List ℕ → Type 0
IsAllowedBetween None keyword offset text = text ≡ codes "MAP"
IsAllowedBetween (Some block) None offset text = IsAllowedIn block text
IsAllowedBetween (Some block) (Some keyword) offset text = keyword ≡ offset → IsAllowedIn block text

abbrev pub IsAllowedHere : Finding → List ℕ → Type 0
IsAllowedHere finding text = IsAllowedBetween finding.place.block finding.place.keyword finding.offset text

-- what is allowed at the end of a file
abbrev pub allowed_end : Option Block → List ℕ
allowed_end None = codes "MAP"
allowed_end (Some block) = codes "the END of " ++ block_name block

-- The text says that this is allowed, and something that was found.
abbrev pub Says : List ℕ → List ℕ → Type 0
Says text allowed = (found : List ℕ) × (text ≡ said found allowed)

abbrev pub IsSaid : List ℕ → Type 0
IsSaid text = (allowed : List ℕ) × Says text allowed

abbrev pub IsSaidHere : Finding → List ℕ → Type 0
IsSaidHere finding text = (allowed : List ℕ) × IsAllowedHere finding allowed × Says text allowed

-- The text is the message about an error of the reader: what is allowed there is said of M2, M3,
-- M5, M6, M7 and M12.
abbrev pub IsReaderMessage : Finding → MapFault → List ℕ → Type 0
IsReaderMessage finding faults.Memory text = IsSaid text
IsReaderMessage finding faults.TooLong text = Says text (codes "a mapfile of at most 131072 bytes")
IsReaderMessage finding (faults.NotUtf8 offset) text = Says text (codes "UTF-8; convert the file, as by iconv -f latin1 -t utf-8")
IsReaderMessage finding (faults.BadToken offset) text = IsSaid text
IsReaderMessage finding (faults.UnexpectedWord offset) text = IsSaidHere finding text
IsReaderMessage finding (faults.MissingEnd offset) text = Says text (allowed_end finding.place.block)
IsReaderMessage finding (faults.BadNumber offset) text = IsSaidHere finding text
IsReaderMessage finding (faults.OutOfRange offset) text = IsSaid text
IsReaderMessage finding faults.Missing text = IsSaid text
IsReaderMessage finding (faults.Repeated offset) text = IsSaid text
IsReaderMessage finding faults.TooMany text = IsSaid text
IsReaderMessage finding (faults.Trailing offset) text = Says text (codes "nothing after MAP's END")

-- the canonical text of a map is too long: by how many bytes, as the writer counts them, and more
-- about each layer
abbrev pub excess_said : ℕ → List ℕ → List ℕ
excess_said bytes layers =
    codes "Found a map whose canonical text has " ++ decimal bytes ++ codes " bytes, " ++ decimal (bytes - most_canon_bytes)
    ++ codes " too many. Allowed: at most " ++ decimal most_canon_bytes ++ codes "; fewer points, digits or attributes, or two maps." ++ layers

-- The text is the message about a file whose map has a canonical text that is too long: a sentence,
-- and more about each layer.
abbrev pub IsExcessMessage : List ℕ → List ℕ → Type 0
IsExcessMessage file text = (d : Definition) → Means file d → (layers : List ℕ) × (text ≡ excess_said (counted (length (canon d))) layers)

-- The text is the message about an error.
abbrev pub IsFaultMessage : CheckFault → Finding → List ℕ → Type 0
IsFaultMessage (Map fault) finding text = IsReaderMessage finding fault text
IsFaultMessage TooBig finding text = IsExcessMessage finding.file.now text

abbrev pub IsFindingMessage : Finding → List ℕ → Type 0
IsFindingMessage finding text = IsFaultMessage finding.fault finding text
