-- Pictures coloured by lines along one segment after another.
use Rattle.std.proofs.Common.{◌≡◌, Bool, ℕ, ◌+◌, ◌<◌, ◌||◌, List, [], take, length, get_or, pos, refl, sym, ap, ◌∙◌}
use Rattle.std.proofs.lemmas.List.Folds.{list_any_more}
use Rattle.std.specs.List.{list_any}
use Rattle.wf_geometry.specs.Position.{centre}
use Rattle.wf_geometry.specs.Coverage.{is_on, is_on_any}
use Rattle.wf_def.specs.declared.color.Color.{Color}
use Rattle.wf_paint.specs.Canvas.{CanvasValue}
use Rattle.wf_paint.specs.Shown.{IsColored}
use Rattle.wf_geometry.specs.declared.operation.Segment.{Segment}
use Rattle.wf_paint.proofs.ColoredLemmas.{IsColored-none, IsColored-either, IsColored-alike}

-- ---- segments

-- the pixels that a line along one of the segments covers
abbrev pub on_any : ℕ → List Segment → ℕ → ℕ → Bool
on_any width segments column row = is_on_any width (centre (pos column) (pos row)) segments

pub segments_none : (width : ℕ) (color : Color) (a : CanvasValue) → IsColored (on_any width []) color a a
unfolding is_on_any
segments_none width color a = IsColored-none (on_any width []) color a (λ column row wide high. refl)

-- one more step of a loop over segments
pub segments_more : (width : ℕ) (xs : List Segment) (i : ℕ) (x d : Segment) (color : Color) (a b c : CanvasValue) → i < length xs → x ≡ get_or xs i d →
    IsColored (on_any width (take i xs)) color a b → IsColored (λ column row. is_on width (centre (pos column) (pos row)) x) color b c →
    IsColored (on_any width (take (i + 1) xs)) color a c
unfolding is_on_any
segments_more width xs i x d color a b c within here before next =
    IsColored-alike (λ column row. on_any width (take i xs) column row || is_on width (centre (pos column) (pos row)) x) (on_any width (take (i + 1) xs)) color a c
    (λ column row wide high. list_any_more (is_on width (centre (pos column) (pos row))) xs i d within
    ∙ ap (λ (s : Segment). list_any (is_on width (centre (pos column) (pos row))) (take i xs) || is_on width (centre (pos column) (pos row)) s) (sym here))
    (IsColored-either (on_any width (take i xs)) (λ column row. is_on width (centre (pos column) (pos row)) x) color a b c before next)
