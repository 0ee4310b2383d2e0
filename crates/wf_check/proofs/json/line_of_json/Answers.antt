use Rattle.std.proofs.lemmas.Result.{IfOk-weaker}
use Rattle.std.specs.String.{string_bytes}
use Rattle.wf_check.proofs.Reports.{written}
use Rattle.wf_check.proofs.json.line_of_json.Goals as goal

pub returns : goal.returns
returns c =
    IfOk-weaker c.end_line.result _ _
    (λ text line. written c.args.finding.now c.args.message.now (string_bytes c.in_ok-text.field-0) (string_bytes text) _ c.in_ok-value.ensures c.in_ok-text.ensures.reads_back line)
    c.end_line.ensures
