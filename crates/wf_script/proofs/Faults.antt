-- At which line an error of a script is.
use Rattle.std.proofs.Common.{◌≡◌, ◌≤◌, ℕ, List, length, ap, subst, arith}
use Rattle.wf_script.specs.Fault.{IsAtLine, fault_of}
use Rattle.wf_script.specs.Lines.{Lines, lines, total}
use Rattle.wf_script.specs.declared.fault.ScriptFault.{ScriptFault}
use Rattle.wf_script.specs.declared.fault.Wrong.{Wrong}
use Rattle.wf_script.specs.declared.fault.Wrong.TheVariants as wrongs

-- the error of a line is reported at that line
pub wrong_at : (wrong : Wrong) (line count : ℕ) → 1 ≤ line → line ≤ count → IsAtLine count (fault_of wrong line)
wrong_at wrongs.Memory line count some most = record { some = some; most = omega arith }
wrong_at wrongs.BadLine line count some most = record { some = some; most = omega arith }
wrong_at wrongs.OverLimit line count some most = record { some = some; most = omega arith }
wrong_at wrongs.BadMap line count some most = record { some = some; most = omega arith }

-- the lines of a text are all that are left at its beginning
pub at_line_of : (text : List ℕ) (ls now : Lines) (fault : ScriptFault) → ls.number ≡ 0 → ls.left ≡ lines text → total now ≡ total ls → IsAtLine (total now) fault → IsAtLine (length (lines text)) fault
at_line_of text ls now fault first left same at =
    let count : length ls.left ≡ length (lines text) = ap length left in
    let all : total now ≡ length (lines text) = omega arith in
    subst (λ n. IsAtLine n fault) all at
