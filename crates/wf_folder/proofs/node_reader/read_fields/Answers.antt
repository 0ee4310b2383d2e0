-- The parts are determined, one after the other.
use Rattle.std.proofs.Common.{◌∙◌, sym, arith}
use Rattle.wf_folder.proofs.Ends.{after_known, no_end}
use Rattle.wf_folder.proofs.Lines.{after_numbers}
use Rattle.wf_folder.proofs.WordLemmas.{if_none}
use Rattle.wf_folder.proofs.node_reader.read_fields.Goals as goal

pub returns-in_default-clause-none : goal.returns-in_default-clause-none
returns-in_default-clause-none c = λ file is e. c.in_default.ensures.none file.node file.nodes file.starts _ is.nodes is.node (omega (arith, is.starts)) e

pub returns-in_default-split_known-clause-none : goal.returns-in_default-split_known-clause-none
returns-in_default-split_known-clause-none c = λ file is e.
    c.in_default-split_known.ensures.none file.known _ is.reached
    (after_numbers c.in-Some.node file.node c.in-Some.nodes file.nodes c.in-Some.starts file.starts c.in-Some.rest.now _ (sym c.in-Some.ensures.some ∙ e))

pub returns-in_err-farm-clause-none : goal.returns-in_err-farm-clause-none
returns-in_err-farm-clause-none c = if_none c.from_residual.result (λ file is e.
    let known = after_numbers c.in-Some.node file.node c.in-Some.nodes file.nodes c.in-Some.starts file.starts c.in-Some.rest.now _ (sym c.in-Some.ensures.some ∙ e) in
    let ends = after_known c.in-Some-split_known.known file.known c.in-Some-split_known.rest.now _ c.in-Some-split_known.ensures.known is.reached (sym c.in-Some-split_known.ensures.some ∙ known) in
    no_end c.in-Some-split_known.rest.now c.split_any_suspension-suspension.result.1.now c.split_any_suspension-suspension.result.0 c.split_any_suspension-suspension.ensures.suspension c.split_any_suspension-suspension.ensures.some
    c.split_any_suspension-suspension.ensures.none c.in_err-farm.ensures.none file.suspension file.farm file.mark is.suspended is.farm is.bytes is.size ends)
