-- The head, and then what the lines after it mean.
use Rattle.std.proofs.Common.{◌≡◌, ◌∙◌, None, sym, subst, ap, false}
use Rattle.std.specs.Prelude.{Err}
use Rattle.std.proofs.lemmas.Result.{err_from_is_err_and}
use Rattle.wf_script.specs.Fault.{is_memory}
use Rattle.wf_script.specs.Text.{head_from, on_from}
use Rattle.wf_script.proofs.Whole.{AreLinesOf, all_meant, no_head_reported, none_meant}
use Rattle.wf_script.proofs.script.read_lines.Goals as goal

pub returns-in_err-nodes-clause-value : goal.returns-in_err-nodes-clause-value
returns-in_err-nodes-clause-value c =
    let reported = err_from_is_err_and c.from_residual.result c.from_residual.ensures.1 in
    let are : AreLinesOf c.args.bytes.now c.new-lines.result = record { number = c.new-lines.ensures.number; left = c.new-lines.ensures.left } in
    no_head_reported (λ s. s) c.from_residual.result reported.0 c.args.bytes.now c.new-lines.result reported.1 are
    (subst (λ f. is_memory f ≡ false → head_from c.new-lines.result ≡ Err f) (sym reported.2) c.in_err-nodes.ensures.value)

pub returns-in-Ok-clause-value : goal.returns-in-Ok-clause-value
returns-in-Ok-clause-value c =
    let are : AreLinesOf c.args.bytes.now c.new-lines.result = record { number = c.new-lines.ensures.number; left = c.new-lines.ensures.left } in
    all_meant c.args.bytes.now c.new-lines.result c.first_line.new.lines c.in_ok-nodes.nodes _ are c.in_ok-nodes.ensures.value (ap (λ s. on_from None s c.first_line.new.lines) (sym c.new-draft.ensures) ∙ c.in-Ok.ensures.value)

pub returns-in-Err-clause-value : goal.returns-in-Err-clause-value
returns-in-Err-clause-value c = λ isnt.
    let are : AreLinesOf c.args.bytes.now c.new-lines.result = record { number = c.new-lines.ensures.number; left = c.new-lines.ensures.left } in
    none_meant c.args.bytes.now c.new-lines.result c.first_line.new.lines c.in_ok-nodes.nodes c.in-Err.fault are c.in_ok-nodes.ensures.value (ap (λ s. on_from None s c.first_line.new.lines) (sym c.new-draft.ensures) ∙ c.in-Err.ensures.value isnt)
