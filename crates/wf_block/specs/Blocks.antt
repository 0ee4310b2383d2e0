-- The blocks of a mapfile.
use Rattle.std.specs.Prelude.{ℕ, List, codes}
use Rattle.wf_block.specs.declared.place.Block.{Block}
use Rattle.wf_block.specs.declared.place.Block.TheVariants as blocks

-- the keyword that begins a block
abbrev pub block_name : Block → List ℕ
block_name blocks.Map = codes "MAP"
block_name blocks.Projection = codes "PROJECTION"
block_name blocks.Web = codes "WEB"
block_name blocks.Metadata = codes "METADATA"
block_name blocks.Layer = codes "LAYER"
block_name blocks.Class = codes "CLASS"
block_name blocks.Style = codes "STYLE"
block_name blocks.Label = codes "LABEL"
block_name blocks.Feature = codes "FEATURE"
block_name blocks.Points = codes "POINTS"
