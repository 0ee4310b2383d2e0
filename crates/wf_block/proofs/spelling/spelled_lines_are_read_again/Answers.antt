use Rattle.wf_block.specs.SpellingTheorems.{lex_text}
use Rattle.wf_block.proofs.spelling.spelled_lines_are_read_again.Goals as goal

pub returns : goal.returns
returns c = lex_text
