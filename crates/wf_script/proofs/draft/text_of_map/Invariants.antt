-- What the lines that are left mean after the text so far stays what all lines mean.
use Rattle.std.proofs.Common.{◌≡◌, ◌≤◌, ℕ, List, Some, length}
use Rattle.wf_script.specs.Lines.{total}
use Rattle.wf_script.specs.Text.{ScriptState, begins, on_from}
use Rattle.wf_script.proofs.draft.text_of_map.Given as goal

abbrev pub decreases-loop-line : goal.decreases-loop-line
decreases-loop-line l = length l.lines.left

abbrev pub invariant-loop-line : goal.invariant-loop-line
invariant-loop-line l = record {
  value : (n : ℕ) (name : List ℕ) (s : ScriptState) → on_from (Some (begins n name)) s l.fn.lines ≡ on_from (Some (record { line = n; name = name; text = l.text.items })) s l.lines;
  total : total l.lines ≡ total l.fn.lines;
  left : length l.lines.left ≤ length l.fn.lines.left;
}
