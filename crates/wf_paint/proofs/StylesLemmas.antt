-- Lines and insides drawn from the last style to the first, without those that later ones hide.
use Rattle.std.proofs.Common.{◌≡◌, ℕ, ◌≤◌, ◌<◌, ◌⊎◌, inl, inr, ⊎_elim, max, Bool, true, false, cond, ◌||◌, List, [], ◌++◌, Option, Some, None, ℤ, refl, sym, ap, subst, ◌∙◌, append_assoc, arith}
use Rattle.std.specs.Option.{option_or, is_some}
use Rattle.std.proofs.lemmas.Bool.{false≢true, cases_lt}
use Rattle.wf_def.specs.declared.color.Color.{Color}
use Rattle.wf_geometry.specs.Position.{centre}
use Rattle.wf_geometry.specs.Operation.{ShapeValue, OperationValue, FillOf, LineOf, in_color, shape_covers}
use Rattle.wf_paint.specs.Canvas.{CanvasValue, IsAlike}
use Rattle.wf_paint.specs.Shown.{IsShown, seen, color_where}
use Rattle.wf_geometry.specs.declared.operation.Segment.{Segment}
use Rattle.wf_paint.proofs.ColoredLemmas.{shape_seen}
use Rattle.wf_paint.proofs.ShownLemmas.{IsHidden, IsHidden-none, IsHidden-more, IsShown-none, IsShown-append, IsShown-alike, IsShown-hidden, seen-append}
use Rattle.wf_paint.proofs.WidthLemmas.{any_wider}

-- ---- a shape hides what it covers

covered_pixels : (first : Option Color) (inner outer : Bool) (color other : Color) → (inner ≡ true → outer ≡ true) →
    option_or (option_or first (color_where outer color)) (color_where inner other) ≡ option_or first (color_where outer color)
unfolding color_where
covered_pixels (Some c) inner outer color other within = refl
covered_pixels None inner true color other within = refl
covered_pixels None false false color other within = refl
covered_pixels None true false color other within = absurd (false≢true (within refl))

-- in whatever colours
IsHidden-covered : (shape cover : ShapeValue) (color : Color) (under : Option Color) (ops : List OperationValue) →
    ((column row : ℤ) → shape_covers shape column row ≡ true → shape_covers cover column row ≡ true) →
    IsHidden (in_color shape under) (in_color cover (Some color) ++ ops)
IsHidden-covered shape cover color None ops within = IsHidden-none (in_color cover (Some color) ++ ops)
IsHidden-covered shape cover color (Some other) ops within = record {
  pixels = λ column row.
      let parted : seen (in_color cover (Some color) ++ ops) column row ≡ option_or (seen ops column row) (color_where (shape_covers cover column row) color) =
      seen-append (in_color cover (Some color)) ops column row
      ∙ ap (option_or (seen ops column row)) (shape_seen cover color column row) in
      ap (λ (o : Option Color). option_or o (seen (in_color shape (Some other)) column row)) parted
      ∙ ap (option_or (option_or (seen ops column row) (color_where (shape_covers cover column row) color))) (shape_seen shape other column row)
      ∙ covered_pixels (seen ops column row) (shape_covers shape column row) (shape_covers cover column row) color other (within column row)
      ∙ sym parted;
}

-- the shape is painted in its colour, or not at all where the operations hide it
abbrev pub IsSpared : ShapeValue → Option Color → Option Color → List OperationValue → Type 0
IsSpared shape color painted ops = (painted ≡ color) ⊎ ((painted ≡ None) × IsHidden (in_color shape color) ops)

shown_or_spared : (shape : ShapeValue) (color painted : Option Color) (ops : List OperationValue) (a b c : CanvasValue) →
    IsSpared shape color painted ops → IsShown ops a b → IsShown (in_color shape painted) b c → IsShown (in_color shape color ++ ops) a c
shown_or_spared shape color painted ops a b c (inl whole) before after =
    IsShown-append (in_color shape color) ops a b c before (subst (λ (o : Option Color). IsShown (in_color shape o) b c) whole after)
shown_or_spared shape color painted ops a b c (inr (none, hidden)) before after =
    IsShown-hidden (in_color shape color) ops a c hidden
    (IsShown-append [] ops a b c before (subst (λ (o : Option Color). IsShown (in_color shape o) b c) none after))

module _ (segments : List Segment) where
  -- ---- what is hidden

  -- where the inside is filled it hides every other fill of it
  pub record HidesFills (filled : Bool) (ops : List OperationValue) : Type 0 where
    pub each : filled ≡ true → (color : Option Color) → IsHidden (in_color (FillOf segments) color) ops

  HidesFills-none : (ops : List OperationValue) → HidesFills false ops
  HidesFills-none ops = record { each = λ filled color. absurd (false≢true filled) }

  HidesFills-under : (filled : Bool) (ops others : List OperationValue) → HidesFills filled ops → HidesFills filled (others ++ ops)
  HidesFills-under filled ops others hides = record {
    each = λ is color. IsHidden-more (in_color (FillOf segments) color) ops others (hides.each is color);
  }

  HidesFills-more : (filled : Bool) (own : Option Color) (ops : List OperationValue) → HidesFills filled ops →
      HidesFills (filled || is_some own) (in_color (FillOf segments) own ++ ops)
  HidesFills-more true own ops hides = HidesFills-under true ops (in_color (FillOf segments) own) hides
  HidesFills-more false None ops hides = HidesFills-none ops
  HidesFills-more false (Some own) ops hides = record {
    each = λ is color. IsHidden-covered (FillOf segments) (FillOf segments) own color ops (λ column row covered. covered);
  }

  -- the lines of at most this width are hidden
  pub record HidesLines (widest : ℕ) (ops : List OperationValue) : Type 0 where
    pub each : (width : ℕ) → 1 ≤ width → width ≤ widest → (color : Option Color) → IsHidden (in_color (LineOf width segments) color) ops

  HidesLines-none : (ops : List OperationValue) → HidesLines 0 ops
  HidesLines-none ops = record { each = λ width least most color. absurd (omega arith) }

  HidesLines-under : (widest : ℕ) (ops others : List OperationValue) → HidesLines widest ops → HidesLines widest (others ++ ops)
  HidesLines-under widest ops others hides = record {
    each = λ width least most color. IsHidden-more (in_color (LineOf width segments) color) ops others (hides.each width least most color);
  }

  not_wider : (width other widest : ℕ) → other ≤ max widest width → widest < other → other ≤ width
  not_wider width other widest most more = omega arith

  HidesLines-more : (widest width : ℕ) (own : Option Color) (ops : List OperationValue) → HidesLines widest ops →
      HidesLines (cond (is_some own) (max widest width) widest) (in_color (LineOf width segments) own ++ ops)
  HidesLines-more widest width None ops hides = hides
  HidesLines-more widest width (Some own) ops hides = record {
    each = λ other least most color. ⊎_elim
        (λ more. IsHidden-covered (LineOf other segments) (LineOf width segments) own color ops
        (λ column row covered. any_wider other width (centre column row) segments (not_wider width other widest most more) covered))
        (λ less. IsHidden-more (in_color (LineOf other segments) color) ops (in_color (LineOf width segments) (Some own)) (hides.each other least less color))
        (cases_lt widest other);
  }

  -- ---- what is drawn

  -- the operations are shown, and fills and lines along the segments that they hide are known
  pub record IsDrawn (ops : List OperationValue) (filled : Bool) (widest : ℕ) (a b : CanvasValue) : Type 0 where
    pub shown : IsShown ops a b
    pub fills : HidesFills filled ops
    pub lines : HidesLines widest ops

  pub IsDrawn-none : (c : CanvasValue) → IsDrawn [] false 0 c c
  IsDrawn-none c = record { shown = IsShown-none c; fills = HidesFills-none []; lines = HidesLines-none [] }

  pub IsDrawn-alike : (ops : List OperationValue) (filled : Bool) (widest : ℕ) (a b c : CanvasValue) →
      IsDrawn ops filled widest a b → IsAlike b c → IsDrawn ops filled widest a c
  IsDrawn-alike ops filled widest a b c drawn alike = record {
    shown = IsShown-alike ops a b c drawn.shown alike;
    fills = drawn.fills;
    lines = drawn.lines;
  }

  line_spared : (ops : List OperationValue) (widest width : ℕ) (color painted : Option Color) → HidesLines widest ops → 1 ≤ width →
      (width ≤ widest → painted ≡ None) → (widest < width → painted ≡ color) → IsSpared (LineOf width segments) color painted ops
  line_spared ops widest width color painted hides least hidden visible = ⊎_elim
      (λ more. inl (visible more))
      (λ less. inr (hidden less, hides.each width least less color))
      (cases_lt widest width)

  -- a line along the segments, unless it is hidden
  pub IsDrawn-line : (ops : List OperationValue) (filled : Bool) (widest width : ℕ) (color painted : Option Color) (a b c : CanvasValue) →
      IsDrawn ops filled widest a b → 1 ≤ width → (width ≤ widest → painted ≡ None) → (widest < width → painted ≡ color) →
      IsShown (in_color (LineOf width segments) painted) b c →
      IsDrawn (in_color (LineOf width segments) color ++ ops) filled (cond (is_some color) (max widest width) widest) a c
  IsDrawn-line ops filled widest width color painted a b c drawn least hidden visible after = record {
    shown = shown_or_spared (LineOf width segments) color painted ops a b c
        (line_spared ops widest width color painted drawn.lines least hidden visible) drawn.shown after;
    fills = HidesFills-under filled ops (in_color (LineOf width segments) color) drawn.fills;
    lines = HidesLines-more widest width color ops drawn.lines;
  }

  fill_spared : (ops : List OperationValue) (filled : Bool) (color : Option Color) → HidesFills filled ops → IsSpared (FillOf segments) color (cond filled None color) ops
  fill_spared ops true color hides = inr (refl, hides.each refl color)
  fill_spared ops false color hides = inl refl

  -- the inside, unless it is filled already
  pub IsDrawn-fill : (ops : List OperationValue) (filled : Bool) (widest : ℕ) (color : Option Color) (a b c : CanvasValue) →
      IsDrawn ops filled widest a b → IsShown (in_color (FillOf segments) (cond filled None color)) b c →
      IsDrawn (in_color (FillOf segments) color ++ ops) (filled || is_some color) widest a c
  IsDrawn-fill ops filled widest color a b c drawn after = record {
    shown = shown_or_spared (FillOf segments) color (cond filled None color) ops a b c (fill_spared ops filled color drawn.fills) drawn.shown after;
    fills = HidesFills-more filled color ops drawn.fills;
    lines = HidesLines-under widest ops (in_color (FillOf segments) color) drawn.lines;
  }

  -- a style of polygons has its line over its inside
  pub IsDrawn-both : (ops : List OperationValue) (width : ℕ) (color outline_color : Option Color) (filled : Bool) (widest : ℕ) (a b : CanvasValue) →
      IsDrawn (in_color (FillOf segments) color ++ (in_color (LineOf width segments) outline_color ++ ops)) filled widest a b →
      IsDrawn ((in_color (FillOf segments) color ++ in_color (LineOf width segments) outline_color) ++ ops) filled widest a b
  IsDrawn-both ops width color outline_color filled widest a b drawn =
      subst (λ (all : List OperationValue). IsDrawn all filled widest a b)
      (sym (append_assoc (in_color (FillOf segments) color) (in_color (LineOf width segments) outline_color) ops)) drawn
