use Rattle.std.proofs.Common.{◌≡◌, ◌<◌, length, slice_index, sym, ◌∙◌, arith}
use Rattle.std.proofs.lemmas.List.{get_or_read}
use Rattle.wf_paint.proofs.MarksLemmas.{taken_start, taken_more, taken_skip, taken_all}
use Rattle.wf_paint.proofs.inside.take_marked.Goals as goal
use Rattle.wf_paint.proofs.inside.take_marked.Goals.{then-index-eq1+in_ok-push, else-index-eq1}

pub loop-number-init : goal.loop-number-init
loop-number-init c = rw c.clear.ensures.items (taken_start c.args.reaches.now.items c.args.odd.now.items c.requires.marked)

pub loop-number-preserved : goal.loop-number-preserved
loop-number-preserved c =
    let within : c.loop-number.number < length c.args.odd.now.items = omega arith in
    let mark : c.index.result.now ≡ slice_index c.loop-number.odd.items c.loop-number.number =
    get_or_read c.loop-number.odd.items c.loop-number.number _ (omega (arith, c.loop-number.invariant.sized)) c.index.ensures 0 in
    elim c.if-index-eq1.branch [
      | then-index-eq1+in_ok-push w ↦
          rw (w.reaches-is, w.in_ok-push.ensures.items, w.odd-is)
          (taken_more c.args.reaches.now.items (length c.args.odd.now.items) c.loop-number.number c.loop-number.reaches.items c.loop-number.odd.items c.loop-number.invariant within (sym mark ∙ w.if-index-eq1.true))
      | else-index-eq1 w ↦
          rw (w.reaches-is, w.odd-is)
          (taken_skip c.args.reaches.now.items (length c.args.odd.now.items) c.loop-number.number c.loop-number.reaches.items c.loop-number.odd.items c.loop-number.invariant within (λ e. w.if-index-eq1.false (mark ∙ e)))
    ]

pub returns-clause-parity : goal.returns-clause-parity
returns-clause-parity c =
    taken_all c.args.reaches.now.items (length c.args.odd.now.items) c.loop-number.number c.loop-number.reaches.items c.loop-number.odd.items c.loop-number.invariant (omega arith) c.requires.within
