-- Keywords and what they take, as the readers of blocks define it.
use Rattle.std.specs.Prelude.{◌≡◌, ℕ, ⊤, false, if◌then◌else◌, List, [], ◌∷◌, map, Option, Some, None, option_map}
use Rattle.std.specs.List.{list_any}
use Rattle.std.specs.Str.{str_eq_ignore_ascii_case}
use Rattle.wf_def.specs.Limit.{most_points}
use Rattle.wf_block.specs.Token.{Token}
use Rattle.wf_block.specs.Grammar.{◌>>=◌, argument, text, whole}
use Rattle.wf_block.specs.declared.place.Block.{Block}
use Rattle.wf_block.specs.declared.place.Block.TheVariants as blocks
use Rattle.wf_class.specs.Class.{class, class_put, expression, no_class}
use Rattle.wf_class.specs.Color.{color}
use Rattle.wf_class.specs.Label.{label, label_put, no_label}
use Rattle.wf_class.specs.Style.{no_style, style, style_put}
use Rattle.wf_feature.specs.Feature.{feature, feature_put, no_feature, point, points}
use Rattle.wf_mapfile.specs.Layer.{layer, layer_name, layer_put, no_layer, processing}
use Rattle.wf_mapfile.specs.Map as maps
use Rattle.wf_mapfile.specs.Metadata.{metadata}
use Rattle.wf_mapfile.specs.Web.{no_settings, web, web_put}
use Rattle.wf_mapfile.specs.declared.keywords.Takes.{Takes}
use Rattle.wf_mapfile.specs.declared.keywords.Takes.TheVariants as takes

-- the tokens after what is read
abbrev pub rest_of : {A : Type 0} → Option (A × List Token) → Option (List Token)
rest_of read = option_map (λ x. x.1) read

-- what follows one of these words, without regard to letter case
abbrev pub behind_word : List (List ℕ) → List Token → Option (List Token)
behind_word words tokens = do
  x ← argument tokens
  if list_any (λ word. str_eq_ignore_ascii_case x.0 word) words then Some x.1 else None

-- what follows a block, after its keyword: a layer's before all other layers
abbrev pub behind_block : Block → List Token → Option (List Token)
behind_block blocks.Map tokens = rest_of (maps.map tokens)
behind_block blocks.Projection tokens = rest_of (maps.projection tokens)
behind_block blocks.Web tokens = rest_of (web tokens)
behind_block blocks.Metadata tokens = rest_of (metadata tokens)
behind_block blocks.Layer tokens = rest_of (layer [] tokens)
behind_block blocks.Class tokens = rest_of (class tokens)
behind_block blocks.Style tokens = rest_of (style tokens)
behind_block blocks.Label tokens = rest_of (label tokens)
behind_block blocks.Feature tokens = rest_of (feature most_points tokens)
behind_block blocks.Points tokens = rest_of (points most_points tokens)

-- what follows an argument, if it is what a keyword takes
abbrev pub behind : Takes → List Token → Option (List Token)
behind (takes.Block block) tokens = behind_block block tokens
behind takes.Text tokens = rest_of (text tokens)
behind takes.LayerName tokens = rest_of (layer_name tokens)
behind takes.AttributeNames tokens = rest_of (processing tokens)
behind takes.Expression tokens = rest_of (expression tokens)
behind takes.System tokens = text tokens >>= λ x. maps.projection_named x.0 >>= λ named. Some x.1
behind takes.Extent tokens = rest_of (maps.extent tokens)
behind takes.Size tokens = rest_of (maps.two_numbers tokens)
behind takes.Point tokens = rest_of (point tokens)
behind takes.Color tokens = rest_of (color tokens)
behind (takes.Whole least most) tokens = rest_of (whole least most tokens)
behind (takes.OneOf words) tokens = behind_word (map (λ word. word.now) words.now) tokens

-- after each of the keywords a reader's step leaves the tokens that follow what the keyword takes
abbrev pub AreKeywordsTaken : {S : Type 0} → (List ℕ → List Token → Option (S × List Token)) → List (List ℕ × Takes) → Type 0
AreKeywordsTaken put [] = ⊤
AreKeywordsTaken put (keyword ∷ others) = ((tokens : List Token) → rest_of (put keyword.0 tokens) ≡ behind keyword.1 tokens) × AreKeywordsTaken put others

-- a word is none of the keywords, without regard to letter case
abbrev pub IsNoneOf : List ℕ → List (List ℕ × Takes) → Type 0
IsNoneOf word [] = ⊤
IsNoneOf word (keyword ∷ others) = (str_eq_ignore_ascii_case word keyword.0 ≡ false) × IsNoneOf word others

-- The keywords are exactly those of a reader's step, each with what the step takes: it takes each
-- of them, and rejects any other word.
pub record AreRead {S : Type 0} (put : List ℕ → List Token → Option (S × List Token)) (keywords : List (List ℕ × Takes)) : Type 0 where
  pub taken : AreKeywordsTaken put keywords
  pub others : (word : List ℕ) (tokens : List Token) → IsNoneOf word keywords → put word tokens ≡ None

-- the keywords of a block are those of the first step of its reader
abbrev pub AreKeywordsOf : Block → List (List ℕ × Takes) → Type 0
AreKeywordsOf blocks.Map keywords = AreRead (maps.map_put maps.no_map) keywords
AreKeywordsOf blocks.Projection keywords = keywords ≡ []
AreKeywordsOf blocks.Web keywords = AreRead (web_put no_settings) keywords
AreKeywordsOf blocks.Metadata keywords = keywords ≡ []
AreKeywordsOf blocks.Layer keywords = AreRead (layer_put [] no_layer) keywords
AreKeywordsOf blocks.Class keywords = AreRead (class_put no_class) keywords
AreKeywordsOf blocks.Style keywords = AreRead (style_put no_style) keywords
AreKeywordsOf blocks.Label keywords = AreRead (label_put no_label) keywords
AreKeywordsOf blocks.Feature keywords = AreRead (feature_put most_points no_feature) keywords
AreKeywordsOf blocks.Points keywords = keywords ≡ []

-- the first keyword that has this name, without regard to ASCII letter case
abbrev pub keyword_named : List (List ℕ × Takes) → List ℕ → Option (List ℕ × Takes)
keyword_named [] word = None
keyword_named (keyword ∷ others) word = if str_eq_ignore_ascii_case word keyword.0 then Some keyword else keyword_named others word

-- the keyword of a block that has this name
abbrev pub IsKeywordOf : Block → List ℕ → Option (List ℕ × Takes) → Type 0
IsKeywordOf block word keyword = (keywords : List (List ℕ × Takes)) × AreKeywordsOf block keywords × (keyword ≡ keyword_named keywords word)
