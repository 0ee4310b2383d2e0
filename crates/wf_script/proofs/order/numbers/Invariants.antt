-- Each word leaves one word less, and the numbers so far come before those of the words that are
-- left.
use Rattle.std.proofs.Common.{◌≡◌, length}
use Rattle.wf_script.specs.Orders.{numbers}
use Rattle.wf_script.proofs.NumberList.{with_numbers}
use Rattle.wf_script.proofs.order.numbers.Given as goal

abbrev pub decreases-loop-word : goal.decreases-loop-word
decreases-loop-word l = length l.words

abbrev pub invariant-loop-word : goal.invariant-loop-word
invariant-loop-word l = numbers l.fn.words ≡ with_numbers l.numbers.items (numbers l.words)
