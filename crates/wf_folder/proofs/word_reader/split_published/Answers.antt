-- The published sequence is determined.
use Rattle.std.proofs.Common.{◌∙◌, sym, subst, arith, codes}
use Rattle.wf_ballot.specs.Sequence.{IsSequence}
use Rattle.wf_folder.proofs.WordLemmas.{both_numbers, if_none}
use Rattle.wf_folder.proofs.word_reader.split_published.Goals as goal

pub returns-in_err-number-clause-none : goal.returns-in_err-number-clause-none
returns-in_err-number-clause-none c = if_none c.from_residual.result (λ s rest is e. c.in_err-number.ensures.none s _ (omega (arith, is)) e)

pub returns-in-None-clause-none : goal.returns-in-None-clause-none
returns-in-None-clause-none c = λ s rest is e.
    let numbers = both_numbers (codes " published ") c.in_ok-number.number s c.in_ok-number.rest.now _ c.in_ok-number.ensures.fits (omega (arith, is)) (sym c.in_ok-number.ensures.some ∙ e) in
    c.in-None.ensures.none (subst IsSequence (sym numbers.0) is)
