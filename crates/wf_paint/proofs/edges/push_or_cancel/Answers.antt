use Rattle.std.proofs.Common.{◌≡◌, ℕ, ◌-◌, ap, ◌∙◌, ◌++◌, ◌∷◌, [], List, length, Some, sym, subst, take}
use Rattle.std.specs.Prelude.{slice_get}
use Rattle.std.specs.Vec.{vec_len}
use Rattle.wf_paint.specs.Edges.{AreAround}
use Rattle.wf_geometry.specs.declared.operation.Segment.{Segment}
use Rattle.wf_paint.proofs.EdgesLemmas.{around_cancelled, around_same}
use Rattle.wf_paint.proofs.edges.push_or_cancel.Goals as goal

pub returns-then-cancels : goal.returns-then-cancels
returns-then-cancels c =
    let items = c.args.segments.now.items in
    let last : slice_get items (length items - 1) ≡ Some c.args.segment.now = rw c.deref.ensures.value at (c.ends_with-cancels.ensures c.if-cancels.true) in
    let sized : length items ≡ vec_len c.args.segments.now = rw c.deref.ensures.value at c.deref.ensures.len in
    let rest : c.pop.new.self.items ≡ take (length items - 1) items = c.pop.ensures.rest ∙ ap (λ (n : ℕ). take (n - 1) items) (sym sized) in
    subst (λ (new : List Segment). AreAround (items ++ c.args.segment.now ∷ []) new) (sym rest) (around_cancelled items c.args.segment.now last)

pub returns-in_ok-push : goal.returns-in_ok-push
returns-in_ok-push c =
    let all = c.args.segments.now.items ++ c.args.segment.now ∷ [] in
    subst (λ (new : List Segment). AreAround all new) (sym c.in_ok-push.ensures.items) (around_same all)
