-- What the lines that are left mean after the maps and orders so far stays what all lines mean.
-- Each line gives one order at most, and no line is returned twice.
use Rattle.std.proofs.Common.{◌≡◌, ◌≤◌, ◌+◌, None, length}
use Rattle.wf_script.specs.Lines.{total}
use Rattle.wf_script.specs.Text.{on_from, state}
use Rattle.wf_script.proofs.draft.ScriptDraft.take_lines.Given as goal

abbrev pub decreases-loop-line : goal.decreases-loop-line
decreases-loop-line l = length l.lines.left

abbrev pub invariant-loop-line : goal.invariant-loop-line
invariant-loop-line l = record {
  value : on_from None (state l.fn.self.maps.named.items l.fn.self.orders.items) l.fn.lines ≡ on_from None (state l.self.maps.named.items l.self.orders.items) l.lines;
  total : total l.lines ≡ total l.fn.lines;
  orders : length l.self.orders.items + length l.lines.left ≤ length l.fn.self.orders.items + length l.fn.lines.left;
}
