-- What doesn't begin with the lines of this version and this kind is no file's text.
use Rattle.std.proofs.Common.{◌++◌, ◌∙◌, sym}
use Rattle.std.proofs.lemmas.List.{append_cancel_left}
use Rattle.wf_folder.specs.FarmFile.{beginning_line, first_line, mark_line, nodes_line}
use Rattle.wf_folder.proofs.farm_file.FarmFile.read.Goals as goal

pub returns-in_default-after-clause-none : goal.returns-in_default-after-clause-none
returns-in_default-after-clause-none c = λ file is e.
    c.in_default-after.ensures (beginning_line file.beginning ++ (nodes_line file.nodes ++ mark_line file.mark)) (append_cancel_left first_line _ _ (sym c.in-Some.ensures ∙ e))

pub returns-in_default-after-clause-kind : goal.returns-in_default-after-clause-kind
returns-in_default-after-clause-kind c = λ err rest e.
    c.in_default-after.ensures rest (append_cancel_left first_line _ _ (sym c.in-Some.ensures ∙ e))
