-- From the text of a report to what it begins with, and from a value's text to a line of JSON.
use Rattle.std.proofs.Common.{◌≡◌, ◌∙◌, ◌+◌, ◌++◌, ◌≤◌, ℕ, List, ap, arith, codes, refl, subst, sym}
use Rattle.std.specs.Prelude.{Some}
use Rattle.serde_json.specs.Data.{Data, depth}
use Rattle.serde_json.specs.Read.{max_depth, read}
use Rattle.wf_check.specs.Finding.{IsReport, fault_text, reported}
use Rattle.wf_check.specs.Json.{IsJsonReport, IsLineOfJson, as_data}
use Rattle.wf_check.specs.Message.{IsFindingMessage}
use Rattle.wf_check.specs.NumberedLine.{characters}
use Rattle.wf_check.specs.declared.finding.Finding.{Finding}

pub is_report : (finding : Finding) (text fault picture message : List ℕ) (number column : ℕ) → number ≡ finding.line.number → column ≡ characters finding.line.before.now + 1
    → fault ≡ fault_text finding.fault → IsFindingMessage finding message → text ≡ reported number column fault picture message → IsReport finding text
is_report finding text fault picture message number column is_number is_column is_fault says is = (
  picture,
  message,
  says,
  is ∙ ap (λ n. reported n column fault picture message) is_number
      ∙ ap (λ c. reported finding.line.number c fault picture message) is_column
      ∙ ap (λ f. reported finding.line.number (characters finding.line.before.now + 1) f picture message) is_fault,
)

-- the object has no object in it
shallow : (finding : Finding) (message : List ℕ) → depth (as_data finding message) ≡ 1
unfolding as_data
shallow finding message = refl

pub written : (finding : Finding) (message json text : List ℕ) (value : Data) → value ≡ as_data finding message
    → (depth value ≤ max_depth → read json ≡ Some value) → text ≡ json ++ codes "\n" → IsLineOfJson (as_data finding message) text
written finding message json text value is reads line =
    let one = shallow finding message in
    let within : depth value ≤ max_depth = subst (λ v. depth v ≤ max_depth) (sym is) (omega (arith, one)) in
    (json, line, reads within ∙ ap Some is)

pub json_reported : (finding : Finding) (message text : List ℕ) → IsFindingMessage finding message → IsLineOfJson (as_data finding message) text → IsJsonReport finding text
json_reported finding message text says line = (message, says, line)
