use Rattle.std.proofs.Common.{◌≡◌, refl, rules}
use Rattle.std.proofs.lemmas.Result.{IfOk-weaker}
use Rattle.std.specs.String.{string_bytes}
use Rattle.wf_check.specs.Finding.{fault_text}
use Rattle.wf_check.proofs.Reports.{is_report}
use Rattle.wf_check.proofs.finding_report.report_with.Goals as goal

pub returns : goal.returns
returns c =
    let finding = c.args.finding.now in
    let fault : c.as_str.result.now ≡ fault_text finding.fault = search rules in
    IfOk-weaker c.reported-text.result _ _ (λ text is. is_report finding (string_bytes text) _ _ _ _ _ refl c.column-column.ensures fault c.requires is) c.reported-text.ensures
