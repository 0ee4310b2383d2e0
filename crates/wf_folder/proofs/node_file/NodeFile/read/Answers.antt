-- What doesn't begin with the lines of a version and this kind is no file's text.
use Rattle.std.proofs.Common.{◌∙◌, ◌++◌, inl, inr, sym}
use Rattle.std.proofs.lemmas.List.{append_cancel_left}
use Rattle.wf_folder.specs.FarmFile.{first_line}
use Rattle.wf_folder.specs.NodeFile.{kind_node_line, node_fields, node_first_line, old_node_fields}
use Rattle.wf_folder.proofs.Ends.{not_both}
use Rattle.wf_folder.proofs.node_file.NodeFile.read.Goals as goal

pub returns-in-Err-clause-kind : goal.returns-in-Err-clause-kind
returns-in-Err-clause-kind c = λ err rest.
    (λ e. c.in-Err.ensures.kind err rest (append_cancel_left node_first_line _ _ (sym c.in-Some.ensures ∙ e)), λ e. not_both c.args.bytes.now c.in-Some.rest.now _ c.in-Some.ensures e)

pub returns-in_default-after-clause-none : goal.returns-in_default-after-clause-none
returns-in_default-after-clause-none c = λ file is text. elim text [
  | inl e ↦ c.in_default.ensures (kind_node_line ++ node_fields file) e
  | inr both ↦ c.in_default-after.ensures (kind_node_line ++ old_node_fields file) both.1
]

pub returns-in-Err-read_old_kind-clause-kind : goal.returns-in-Err-read_old_kind-clause-kind
returns-in-Err-read_old_kind-clause-kind c = λ err rest.
    (λ e. c.in_default.ensures (kind_node_line ++ rest) e, λ e. c.in-Err-read_old_kind.ensures.kind err rest (append_cancel_left first_line _ _ (sym c.in-Some-after.ensures ∙ e)))
