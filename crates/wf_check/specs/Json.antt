-- A finding as JSON.
use Rattle.std.specs.Prelude.{◌≡◌, ℕ, ◌+◌, ◌++◌, List, Some, codes}
use Rattle.serde_json.specs.Data.{Data, number, unsigned, string, object, member, no_members}
use Rattle.serde_json.specs.Read.{read}
use Rattle.wf_block.specs.Faults as faults
use Rattle.wf_check.specs.Message.{IsFindingMessage}
use Rattle.wf_check.specs.NumberedLine.{characters}
use Rattle.wf_check.specs.declared.fault.CheckFault.{CheckFault}
use Rattle.wf_check.specs.declared.fault.CheckFault.TheVariants.{Map, TooBig}
use Rattle.wf_check.specs.declared.finding.Finding.{Finding}

-- the number of an error
unfoldable pub code : CheckFault → List ℕ
code (Map fault) = faults.code fault
code TooBig = codes "K1"

-- the members of the object, in the order of their keys
unfoldable pub as_data : Finding → List ℕ → Data
as_data finding message = object (member (codes "column") (number (unsigned (characters finding.line.before.now + 1)))
    (member (codes "error") (string (code finding.fault))
    (member (codes "line") (number (unsigned finding.line.number))
    (member (codes "message") (string message)
    (member (codes "offset") (number (unsigned finding.offset)) no_members)))))

-- The text is JSON of this value (RFC 8259), and ends a line.
abbrev pub IsLineOfJson : Data → List ℕ → Type 0
IsLineOfJson value text = (json : List ℕ) × (text ≡ json ++ codes "\n") × (read json ≡ Some value)

-- The text is the finding as JSON, with its message.
abbrev pub IsJsonReport : Finding → List ℕ → Type 0
IsJsonReport finding text = (message : List ℕ) × IsFindingMessage finding message × IsLineOfJson (as_data finding message) text
