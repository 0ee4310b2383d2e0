use Rattle.std.proofs.Common.{◌≡◌, ◌-◌, ◌++◌, ◌∷◌, [], List, length, Some, sym, subst}
use Rattle.std.specs.Prelude.{slice_get}
use Rattle.wf_paint.specs.Edges.{AreAlong}
use Rattle.wf_geometry.specs.declared.operation.Segment.{Segment}
use Rattle.wf_paint.proofs.EdgesLemmas.{along_again, along_same}
use Rattle.wf_paint.proofs.edges.push_unlike.Goals as goal

pub returns-in-Some : goal.returns-in-Some
returns-in-Some c =
    let items = c.args.segments.now.items in
    let is : slice_get items (length items - 1) ≡ Some c.in-Some.last.now = rw (← c.deref.ensures.value) (sym c.in-Some.ensures.value) in
    let same : c.in-Some.last.now ≡ c.args.segment.now = c.is_same.ensures c.if-is_same.true in
    subst (λ (s : Segment). AreAlong (items ++ s ∷ []) items) same (along_again items c.in-Some.last.now is)

pub returns-in_ok-push-in_default : goal.returns-in_ok-push-in_default
returns-in_ok-push-in_default c =
    let all = c.args.segments.now.items ++ c.args.segment.now ∷ [] in
    subst (λ (new : List Segment). AreAlong all new) (sym c.in_ok-push-in_default.ensures.items) (along_same all)
