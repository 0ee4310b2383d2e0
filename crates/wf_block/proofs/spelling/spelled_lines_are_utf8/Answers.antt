use Rattle.wf_block.specs.Utf8Theorems.{text_of-is_utf8}
use Rattle.wf_block.proofs.spelling.spelled_lines_are_utf8.Goals as goal

pub returns : goal.returns
returns c = text_of-is_utf8
