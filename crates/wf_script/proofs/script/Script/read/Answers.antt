-- A text over a limit is no script; any other text is what its lines mean.
use Rattle.std.proofs.Common.{sym, subst}
use Rattle.wf_script.specs.ReadContract.{ReportsWithLine}
use Rattle.wf_script.proofs.LineCount.{few_lines}
use Rattle.wf_script.proofs.Whole.{over_is_none, within_is}
use Rattle.wf_script.proofs.script.Script.read.Goals as goal

pub returns-in-Some-clause-value : goal.returns-in-Some-clause-value
returns-in-Some-clause-value c = λ isnt. over_is_none c.args.bytes.now c.in-Some.line (sym c.in-Some.ensures)

pub read_lines-requires : goal.read_lines-requires
read_lines-requires c = few_lines c.args.bytes.now (sym c.in_default.ensures)

pub returns-clause-value : goal.returns-clause-value
returns-clause-value c = subst (λ meant. ReportsWithLine (λ s. s) c.read_lines.result meant) (sym (within_is c.args.bytes.now (sym c.in_default.ensures))) c.read_lines.ensures.value
