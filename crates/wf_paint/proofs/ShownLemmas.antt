-- The effect of operations on a canvas that is painted from the last operation to the first.
use Rattle.std.proofs.Common.{◌≡◌, true, ℕ, zero, suc, ◌+◌, ◌-◌, ◌<◌, ◌≤◌, List, [], ◌∷◌, ◌++◌, take, drop, length, get_or, reverse, Option, Some, None, ℤ, pos, refl, sym, ap, subst, ◌∙◌, arith}
use Rattle.std.specs.Option.{option_map, option_or, unwrap_or, is_some}
use Rattle.std.specs.List.{find, flat_map, Contains}
use Rattle.std.proofs.lemmas.Bool.{false≢true}
use Rattle.std.proofs.lemmas.List.{reverse-append, drop_more, drop_all, take-append-drop}
use Rattle.std.proofs.lemmas.List.Folds.{find-append}
use Rattle.std.proofs.lemmas.Grind.{flat_map-append}
use Rattle.wf_def.specs.declared.color.Color.{Color}
use Rattle.wf_geometry.specs.Operation.{OperationValue, covers, color_or, color_at}
use Rattle.wf_paint.specs.Pixmap.{PixmapValue, IsPicture, column_of, row_of}
use Rattle.wf_paint.specs.Canvas.{CanvasValue, IsBlank, IsFull, IsAlike, IsFinished, painted_at}
use Rattle.wf_paint.specs.Shown.{IsShown, seen}
use Rattle.wf_paint.proofs.CanvasLemmas.{or_none}

-- ---- the first of several colours

or-assoc : (a b c : Option Color) → option_or (option_or a b) c ≡ option_or a (option_or b c)
or-assoc None b c = refl
or-assoc (Some color) b c = refl

or-same : (a : Option Color) → option_or a a ≡ a
or-same None = refl
or-same (Some color) = refl

or-some : (a b : Option Color) → is_some a ≡ true → option_or a b ≡ a
or-some None b some = absurd (false≢true some)
or-some (Some color) b some = refl

-- what the first covers may be left out after others
or-covered : (a b c : Option Color) → option_or a c ≡ a → option_or (option_or a b) c ≡ option_or a b
or-covered None b c hidden = ap (option_or b) hidden ∙ or_none b
or-covered (Some color) b c hidden = refl

color_of-either : (a b : Option OperationValue) → option_map (λ (op : OperationValue). op.color) (option_or a b) ≡ option_or (option_map (λ (op : OperationValue). op.color) a) (option_map (λ (op : OperationValue). op.color) b)
color_of-either None b = refl
color_of-either (Some op) b = refl

-- ---- what is seen of operations

-- the later operations are seen over the earlier ones
pub seen-append : (xs ys : List OperationValue) (column row : ℤ) → seen (xs ++ ys) column row ≡ option_or (seen ys column row) (seen xs column row)
unfolding seen
seen-append xs ys column row =
    let covered = λ (op : OperationValue). covers op column row in
    ap (λ (ops : List OperationValue). option_map (λ (op : OperationValue). op.color) (find covered ops)) (reverse-append xs ys)
    ∙ ap (option_map (λ (op : OperationValue). op.color)) (find-append covered (reverse ys) (reverse xs))
    ∙ color_of-either (find covered (reverse ys)) (find covered (reverse xs))

pub seen-none : (column row : ℤ) → seen [] column row ≡ None
unfolding seen
seen-none column row = refl

-- ---- canvases

-- without operations a canvas is unchanged
pub IsShown-none : (c : CanvasValue) → IsShown [] c c
unfolding seen
IsShown-none c = record { width = refl; height = refl; background = refl; pixels = λ i within. sym (or_none (painted_at c i)) }

-- the later operations first, then the earlier ones
pub IsShown-append : (xs ys : List OperationValue) (a b c : CanvasValue) → IsShown ys a b → IsShown xs b c → IsShown (xs ++ ys) a c
IsShown-append xs ys a b c later earlier = record {
  width = earlier.width ∙ later.width;
  height = earlier.height ∙ later.height;
  background = earlier.background ∙ later.background;
  pixels = λ i within.
      let here = λ (width height : ℕ). seen xs (pos (column_of width i)) (pos (row_of width height i)) in
      earlier.pixels i (rw (later.width, later.height) within)
      ∙ ap (λ (width : ℕ). option_or (painted_at b i) (here width b.height)) later.width
      ∙ ap (λ (height : ℕ). option_or (painted_at b i) (here a.width height)) later.height
      ∙ ap (λ (o : Option Color). option_or o (here a.width a.height)) (later.pixels i within)
      ∙ or-assoc (painted_at a i) (seen ys (pos (column_of a.width i)) (pos (row_of a.width a.height i))) (here a.width a.height)
      ∙ ap (option_or (painted_at a i)) (sym (seen-append xs ys (pos (column_of a.width i)) (pos (row_of a.width a.height i))));
}

-- a full canvas is unchanged, whatever is painted
pub IsShown-full : (ops : List OperationValue) (c : CanvasValue) → IsFull c → IsShown ops c c
IsShown-full ops c full = record {
  width = refl;
  height = refl;
  background = refl;
  pixels = λ i within. sym (or-some (painted_at c i) (seen ops (pos (column_of c.width i)) (pos (row_of c.width c.height i))) (full.pixels i within));
}

-- operations are shown on any canvas with the same pixels
pub IsShown-alike : (ops : List OperationValue) (a b c : CanvasValue) → IsShown ops a b → IsAlike b c → IsShown ops a c
IsShown-alike ops a b c shown alike = record {
  width = alike.width ∙ shown.width;
  height = alike.height ∙ shown.height;
  background = alike.background ∙ shown.background;
  pixels = λ i within. alike.pixels i (rw (shown.width, shown.height) within) ∙ shown.pixels i within;
}

-- ---- what others hide

-- where the first operations would be seen, the others are
pub record IsHidden (under ops : List OperationValue) : Type 0 where
  pub pixels : (column row : ℤ) → option_or (seen ops column row) (seen under column row) ≡ seen ops column row

pub IsHidden-none : (ops : List OperationValue) → IsHidden [] ops
unfolding seen
IsHidden-none ops = record { pixels = λ column row. or_none (seen ops column row) }

-- hidden operations may be left out
pub IsShown-hidden : (under ops : List OperationValue) (a b : CanvasValue) → IsHidden under ops → IsShown ops a b → IsShown (under ++ ops) a b
IsShown-hidden under ops a b hidden shown = record {
  width = shown.width;
  height = shown.height;
  background = shown.background;
  pixels = λ i within.
      let column = pos (column_of a.width i) in
      let row = pos (row_of a.width a.height i) in
      shown.pixels i within ∙ ap (option_or (painted_at a i)) (sym (seen-append under ops column row ∙ hidden.pixels column row));
}

-- what operations hide, they hide with others under them
pub IsHidden-more : (under ops others : List OperationValue) → IsHidden under ops → IsHidden under (others ++ ops)
IsHidden-more under ops others hidden = record {
  pixels = λ column row.
      let parted = seen-append others ops column row in
      ap (λ (o : Option Color). option_or o (seen under column row)) parted
      ∙ or-covered (seen ops column row) (seen others column row) (seen under column row) (hidden.pixels column row)
      ∙ sym parted;
}

-- operations hide themselves
pub IsHidden-same : (ops others : List OperationValue) → IsHidden ops (ops ++ others)
IsHidden-same ops others = record {
  pixels = λ column row.
      let own = seen ops column row in
      let parted = seen-append ops others column row in
      ap (λ (o : Option Color). option_or o own) parted
      ∙ or-assoc (seen others column row) own own ∙ ap (option_or (seen others column row)) (or-same own)
      ∙ sym parted;
}

-- ---- loops from the last element to the first

-- the elements that remain, from one element earlier on
pub drop_before : {X : Type 0} (xs : List X) (next : ℕ) (x d : X) → 0 < next → next ≤ length xs → x ≡ get_or xs (next - 1) d → drop (next - 1) xs ≡ x ∷ drop next xs
drop_before {X} xs next x d some within here =
    let follows : next - 1 + 1 ≡ next = omega arith in
    drop_more xs (next - 1) d (omega arith) ∙ ap (λ (y : X). y ∷ drop (next - 1 + 1) xs) (sym here) ∙ ap (λ (i : ℕ). x ∷ drop i xs) follows

module _ {X : Type 0} (f : X → List OperationValue) where
  -- a loop begins with no element
  pub IsShown-begin : (xs : List X) (c : CanvasValue) → IsShown (flat_map f (drop (length xs) xs)) c c
  IsShown-begin xs c =
      let none : drop (length xs) xs ≡ [] = drop_all (length xs) xs (omega arith) in
      subst (λ (rest : List X). IsShown (flat_map f rest) c c) (sym none) (IsShown-none c)

  -- the operations of one element more
  pub operations_more : (xs : List X) (next : ℕ) (x d : X) → 0 < next → next ≤ length xs → x ≡ get_or xs (next - 1) d →
      flat_map f (drop (next - 1) xs) ≡ f x ++ flat_map f (drop next xs)
  operations_more xs next x d some within here = ap (flat_map f) (drop_before xs next x d some within here)

  -- one more step: the element before those that are shown
  pub IsShown-more : (xs : List X) (next : ℕ) (x d : X) (a b c : CanvasValue) →
      0 < next → next ≤ length xs → x ≡ get_or xs (next - 1) d → IsShown (flat_map f (drop next xs)) a b → IsShown (f x) b c → IsShown (flat_map f (drop (next - 1) xs)) a c
  IsShown-more xs next x d a b c some within here before after =
      subst (λ (ops : List OperationValue). IsShown ops a c) (sym (operations_more xs next x d some within here))
      (IsShown-append (f x) (flat_map f (drop next xs)) a b c before after)

  -- at the end all are shown
  pub IsShown-end : (xs : List X) (next : ℕ) (a b : CanvasValue) → next ≡ 0 → IsShown (flat_map f (drop next xs)) a b → IsShown (flat_map f xs) a b
  IsShown-end xs next a b none shown = subst (λ (i : ℕ). IsShown (flat_map f (drop i xs)) a b) none shown

  -- on a full canvas the elements before those that are shown make no difference
  pub IsShown-stop : (xs : List X) (next : ℕ) (a b : CanvasValue) → IsFull b → IsShown (flat_map f (drop next xs)) a b → IsShown (flat_map f xs) a b
  IsShown-stop xs next a b full shown =
      let parted : flat_map f (take next xs) ++ flat_map f (drop next xs) ≡ flat_map f xs =
      sym (flat_map-append f (take next xs) (drop next xs)) ∙ ap (flat_map f) (take-append-drop next xs) in
      subst (λ (ops : List OperationValue). IsShown ops a b) parted
      (IsShown-append (flat_map f (take next xs)) (flat_map f (drop next xs)) a b b shown (IsShown-full (flat_map f (take next xs)) b full))

  -- an element that comes again later is hidden by its own operations there
  IsHidden-again : (rest : List X) (k : ℕ) (x : X) → k < length rest → get_or rest k x ≡ x → IsHidden (f x) (flat_map f rest)
  IsHidden-again [] k x within here = absurd (omega arith)
  IsHidden-again (y ∷ ys) zero x within here =
      subst (λ (z : X). IsHidden (f x) (f z ++ flat_map f ys)) (sym here) (IsHidden-same (f x) (flat_map f ys))
  IsHidden-again (y ∷ ys) (suc k) x within here = IsHidden-more (f x) (flat_map f ys) (f y) (IsHidden-again ys k x (omega arith) here)

  -- so it may be left out
  pub IsShown-again : (xs : List X) (next : ℕ) (x d : X) (a b : CanvasValue) →
      0 < next → next ≤ length xs → x ≡ get_or xs (next - 1) d → Contains (drop next xs) x → IsShown (flat_map f (drop next xs)) a b → IsShown (flat_map f (drop (next - 1) xs)) a b
  IsShown-again xs next x d a b some within here again shown =
      subst (λ (ops : List OperationValue). IsShown ops a b) (sym (operations_more xs next x d some within here))
      (IsShown-hidden (f x) (flat_map f (drop next xs)) a b (IsHidden-again (drop next xs) again.0 x again.1 again.2) shown)

-- ---- the whole picture

color_of-free : (o : Option OperationValue) (background : Color) → unwrap_or (option_map (λ (op : OperationValue). op.color) o) background ≡ color_or background o
color_of-free None background = refl
color_of-free (Some op) background = refl

color_at-seen : (ops : List OperationValue) (background : Color) (column row : ℤ) → unwrap_or (seen ops column row) background ≡ color_at ops background column row
unfolding seen color_at
color_at-seen ops background column row = color_of-free (find (λ (op : OperationValue). covers op column row) (reverse ops)) background

-- on a blank canvas the operations are seen, and the background where there are none
pub IsPicture-shown : (ops : List OperationValue) (background : Color) (width height : ℕ) (blank shown : CanvasValue) (p : PixmapValue) →
    IsBlank width height background blank → IsShown ops blank shown → IsFinished shown p → IsPicture width height (color_at ops background) p
IsPicture-shown ops background width height blank shown p begun over finished = record {
  wide = finished.width ∙ over.width ∙ begun.wide;
  high = finished.height ∙ over.height ∙ begun.high;
  pixels = λ i within.
      let wide = over.width ∙ begun.wide in
      let high = over.height ∙ begun.high in
      let here = λ (w h : ℕ). seen ops (pos (column_of w i)) (pos (row_of w h i)) in
      let colored : painted_at shown i ≡ here width height =
      over.pixels i (rw (begun.wide, begun.high) within)
      ∙ ap (λ (o : Option Color). option_or o (here blank.width blank.height)) (begun.pixels i within)
      ∙ ap (λ (w : ℕ). here w blank.height) begun.wide ∙ ap (here width) begun.high in
      finished.pixels i (rw (wide, high) within)
      ∙ ap (unwrap_or (painted_at shown i)) (over.background ∙ begun.under)
      ∙ ap (λ (o : Option Color). unwrap_or o background) colored
      ∙ color_at-seen ops background (pos (column_of width i)) (pos (row_of width height i));
}
