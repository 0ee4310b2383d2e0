use Rattle.wf_block.specs.WordTheorems.{number_is_word, decimal_is_word}
use Rattle.wf_block.proofs.spelling.numbers_are_words.Goals as goal

pub returns-clause-numbers : goal.returns-clause-numbers
returns-clause-numbers c = number_is_word

pub returns-clause-whole_numbers : goal.returns-clause-whole_numbers
returns-clause-whole_numbers c = decimal_is_word
