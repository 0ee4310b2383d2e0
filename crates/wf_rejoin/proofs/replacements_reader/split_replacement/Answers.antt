-- The parts of a line are determined, one after the other.
use Rattle.std.proofs.Common.{◌∙◌, sym, codes, rules}
use Rattle.wf_folder.proofs.WordLemmas.{after_mark, after_number, if_none}
use Rattle.wf_rejoin.specs.ReplacementsText.{entry_line}
use Rattle.wf_rejoin.proofs.Entries.{is_entry}
use Rattle.wf_rejoin.proofs.replacements_reader.split_replacement.Goals as goal

pub returns-in_err-count-clause-none : goal.returns-in_err-count-clause-none
unfolding entry_line
returns-in_err-count-clause-none c = if_none c.from_residual.result (λ r rest is e. c.in_err-count.ensures.none r.count _ is.fits e)

pub returns-in_err-mark-clause-none : goal.returns-in_err-mark-clause-none
unfolding entry_line
returns-in_err-mark-clause-none c = if_none c.from_residual-in_err-mark.result (λ r rest is e.
    let mark = after_number (codes "count ") c.in_ok-count.count r.count c.in_ok-count.rest.now _ (sym c.in_ok-count.ensures.some ∙ e) in
    c.in_err-mark.ensures.none r.mark _ is.bytes is.size mark)

pub returns-in_err-rest-clause-none : goal.returns-in_err-rest-clause-none
unfolding entry_line
returns-in_err-rest-clause-none c = if_none c.from_residual-in_err-rest.result (λ r rest is e.
    let mark = after_number (codes "count ") c.in_ok-count.count r.count c.in_ok-count.rest.now _ (sym c.in_ok-count.ensures.some ∙ e) in
    let end = after_mark (codes " mark ") c.in_ok-mark.mark r.mark c.in_ok-mark.rest.now _ c.in_ok-mark.ensures.mark.1 is.size (sym c.in_ok-mark.ensures.some ∙ mark) in
    c.in_err-rest.ensures rest end)

pub returns-clause-some : goal.returns-clause-some
returns-clause-some c =
    let same = is_entry c.args.bytes.now c.in_ok-count.rest.now c.in_ok-mark.rest.now c.in_ok-rest.rest.now c.in_ok-mark.mark c.in_ok-count.count c.in_ok-count.ensures.some c.in_ok-mark.ensures.some c.in_ok-rest.ensures
    in search (rules, same)
