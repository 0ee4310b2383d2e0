-- Skipped lines mean nothing, and no line is returned twice.
use Rattle.std.proofs.Common.{◌≡◌, length}
use Rattle.wf_script.specs.Lines.{total}
use Rattle.wf_script.specs.Text.{head_from}
use Rattle.wf_script.proofs.script.first_line.Given as goal

abbrev pub decreases-loop-line : goal.decreases-loop-line
decreases-loop-line l = length l.lines.left

abbrev pub invariant-loop-line : goal.invariant-loop-line
invariant-loop-line l = record {
  value : head_from l.fn.lines ≡ head_from l.lines;
  total : total l.lines ≡ total l.fn.lines;
}
