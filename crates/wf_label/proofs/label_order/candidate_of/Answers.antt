use Rattle.std.proofs.Common.{◌≡◌, ◌<◌, length, rules, sym, ◌∙◌}
use Rattle.wf_label.specs.Walk.{candidate_of}
use Rattle.wf_label.proofs.LabelLemmas.{with_priority-at, with_priority-nowhere, with_priority-empty}
use Rattle.wf_label.proofs.label_order.candidate_of.Goals as goal

pub returns-then-is_empty : goal.returns-then-is_empty
unfolding candidate_of
returns-then-is_empty c = search (rules, with_priority-empty)

pub returns-in_err-anchor : goal.returns-in_err-anchor
unfolding candidate_of
returns-in_err-anchor c = search (rules, with_priority-nowhere)

pub returns : goal.returns
unfolding candidate_of
returns c =
    let class = sym c.label_of.ensures ∙ c.in_ok-label.was in
    let shown = rw c.parts.ensures.value at c.anchor_of.ensures.value in
    let some : 0 < length c.text_of-text.result.now = search rules in
    let priority : c.get.result ≡ c.in_ok-label.label.priority = search rules in
    rw (← c.text_of-text.ensures.value) (with_priority-at _ c.in_ok-label.label c.text_of-text.result.now _ c.in_ok-anchor.anchor c.get.result _ class (sym shown ∙ c.in_ok-anchor.was) some priority c.at_anchor.ensures)
