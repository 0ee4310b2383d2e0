-- The vote and the published sequence are determined.
use Rattle.std.proofs.Common.{◌∙◌, sym, rules}
use Rattle.wf_folder.specs.Words.{end_then}
use Rattle.wf_folder.proofs.WordLemmas.{both_votes, is_voted_end}
use Rattle.wf_folder.proofs.word_reader.split_voted.Goals as goal

pub returns-in_default-clause-none : goal.returns-in_default-clause-none
unfolding end_then
returns-in_default-clause-none c = λ v s rest of_v of_s e. c.in_default.ensures.none v _ of_v e

pub returns-in-None-clause-none : goal.returns-in-None-clause-none
unfolding end_then
returns-in-None-clause-none c = λ v s rest of_v of_s e.
    c.in-None.ensures.none s rest of_s (both_votes c.in-Some.vote v c.in-Some.rest.now _ c.in-Some.ensures.vote of_v (sym c.in-Some.ensures.some ∙ e)).1

pub returns-in-Some-split_published-clause-some : goal.returns-in-Some-split_published-clause-some
returns-in-Some-split_published-clause-some c =
    let same = is_voted_end c.args.bytes.now c.in-Some.rest.now c.in-Some-split_published.rest.now c.in-Some.vote c.in-Some-split_published.published c.in-Some.ensures.some c.in-Some-split_published.ensures.some
    in search (rules, same)
