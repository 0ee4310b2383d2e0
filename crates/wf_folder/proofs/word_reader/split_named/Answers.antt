-- No mark follows where none is read.
use Rattle.wf_folder.proofs.WordLemmas.{no_mark_after}
use Rattle.wf_folder.proofs.word_reader.split_named.Goals as goal

pub returns-in-Some-clause-none : goal.returns-in-Some-clause-none
returns-in-Some-clause-none c = no_mark_after c.split_mark.result c.args.bytes.now c.args.word.now c.in-Some.rest.now c.in-Some.ensures c.split_mark.ensures.none
