-- A promise that isn't read is none.
use Rattle.wf_folder.proofs.WordLemmas.{no_promise}
use Rattle.wf_folder.proofs.word_reader.split_promise.Goals as goal

pub returns-in-None-split_ballot-clause-none : goal.returns-in-None-split_ballot-clause-none
returns-in-None-split_ballot-clause-none c = no_promise c.args.bytes.now c.in-None.ensures c.in-None-split_ballot.ensures.none
