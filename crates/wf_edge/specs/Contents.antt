-- The contents of a page.
use Rattle.std.specs.Prelude.{ℕ, List}
use Rattle.wf_edge.specs.declared.page.Contents.{Contents}
use Rattle.wf_edge.specs.declared.page.Contents.TheVariants as contents

-- the bytes of a page
abbrev pub bytes_of : Contents → List ℕ
bytes_of (contents.Bytes bytes) = bytes.items
bytes_of (contents.TextLine line) = line.bytes.items
