use Rattle.std.proofs.Common.{◌≡◌, length, rules}
use Rattle.wf_label.proofs.TakenLemmas.{taken_lent}
use Rattle.wf_label.proofs.placement.add.Goals as goal

pub returns-clause-taken : goal.returns-clause-taken
returns-clause-taken c =
    let old = c.args.layout.now.marks.items in
    let same : length c.mark.new.marks ≡ length old = search rules in
    taken_lent c.args.view.now c.args.layout.now.placed.items c.push.new.self.items c.args.label.now old c.mark.new.marks _ _ c.in_ok-push.ensures.items (search rules) same
    c.requires.shown c.requires.taken (rw (c.box_of.ensures.value, c.deref_mut.ensures.value) at c.mark.ensures)
