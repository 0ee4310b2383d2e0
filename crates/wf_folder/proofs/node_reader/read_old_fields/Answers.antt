-- The parts are determined, one after the other.
use Rattle.std.proofs.Common.{◌∙◌, sym, arith}
use Rattle.wf_folder.proofs.Lines.{after_numbers}
use Rattle.wf_folder.proofs.WordLemmas.{if_none}
use Rattle.wf_folder.proofs.node_reader.read_old_fields.Goals as goal

pub returns-in_default-clause-none : goal.returns-in_default-clause-none
returns-in_default-clause-none c = λ file is e. c.in_default.ensures.none file.node file.nodes file.starts _ is.nodes is.node (omega (arith, is.starts)) e

pub returns-in_err-farm-clause-none : goal.returns-in_err-farm-clause-none
returns-in_err-farm-clause-none c = if_none c.from_residual.result (λ file is e.
    c.in_err-farm.ensures.none file.farm file.mark is.farm is.bytes is.size
    (after_numbers c.in-Some.node file.node c.in-Some.nodes file.nodes c.in-Some.starts file.starts c.in-Some.rest.now _ (sym c.in-Some.ensures.some ∙ e)))
