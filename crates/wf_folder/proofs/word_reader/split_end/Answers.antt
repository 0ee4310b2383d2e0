-- What isn't read is neither a published sequence nor a vote before one.
use Rattle.std.proofs.Common.{rules}
use Rattle.wf_folder.proofs.WordLemmas.{is_unvoted_end, no_end, none_weaker}
use Rattle.wf_folder.proofs.word_reader.split_end.Goals as goal

pub returns-in-Some-clause-some : goal.returns-in-Some-clause-some
returns-in-Some-clause-some c =
    let same = is_unvoted_end c.args.bytes.now c.in-Some.rest.now c.in-Some.published c.in-Some.ensures.some in search (rules, same)

pub returns-in-None-clause-none : goal.returns-in-None-clause-none
returns-in-None-clause-none c = none_weaker c.split_voted.result (λ voted. no_end c.args.bytes.now c.in-None.ensures.none voted) c.split_voted.ensures.none
