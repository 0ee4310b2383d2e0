-- The keyword of a block by its name.
use Rattle.std.proofs.Common.{◌≡◌, ℕ, List}
use Rattle.std.specs.Prelude.{Option}
use Rattle.wf_block.specs.declared.place.Block.{Block}
use Rattle.wf_mapfile.specs.Keywords.{AreKeywordsOf, IsKeywordOf, keyword_named}
use Rattle.wf_mapfile.specs.declared.keywords.Takes.{Takes}

pub of_block : (block : Block) (word : List ℕ) (keyword : Option (List ℕ × Takes)) (keywords : List (List ℕ × Takes)) → AreKeywordsOf block keywords
    → keyword ≡ keyword_named keywords word → IsKeywordOf block word keyword
of_block block word keyword keywords are is = (keywords, are, is)
