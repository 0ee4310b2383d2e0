use Rattle.std.proofs.Common.{◌≡◌, List, ℕ, ◌<◌, length, get_or, slice_index, refl, arith}
use Rattle.std.proofs.lemmas.List.{get_or_read}
use Rattle.wf_paint.proofs.MarksLemmas.{marked_more}
use Rattle.wf_paint.proofs.inside.mark_odd.Goals as goal

pub loop-reach-preserved : goal.loop-reach-preserved
loop-reach-preserved c =
    let reaches : List ℕ = c.args.reaches.now.items in
    let list : c.deref-reach-items.result.now ≡ reaches = c.deref-reach-items.ensures.value in
    let number : ℕ = get_or reaches c.loop-reach.reach-index 0 in
    let within : number < length c.loop-reach.odd.items = omega (arith, c.requires.within c.loop-reach.reach-index 0 (omega arith), c.loop-reach.invariant.0) in
    let mark : c.index.result.now ≡ slice_index c.loop-reach.odd.items number = get_or_read c.loop-reach.odd.items number _ within (rw list at c.index.ensures) 0 in
    rw (list, mark) (marked_more reaches c.loop-reach.odd.items c.loop-reach.reach-index 0 number (length c.args.odd.now.items) (omega arith) refl
    (c.requires.within c.loop-reach.reach-index 0 (omega arith)) c.loop-reach.invariant)
