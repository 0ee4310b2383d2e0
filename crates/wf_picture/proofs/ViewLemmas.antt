-- The one view of a request, and where a picture lies in it.
use Rattle.std.proofs.Common.{◌≡◌, ℕ, ◌+◌, ◌*◌, ◌≤◌, ◌==◌, Bool, true, false, Option, Some, None, ℤ, pos, negsuc, nat_le, leb-true, le-leb, true≢false, refl, sym, ap, ◌∙◌, arith}
use Rattle.std.specs.Bool.{Decides}
use Rattle.std.proofs.lemmas.Bool.Decides.{Decides-eqb, Decides-int_eq, nat_tests}
use Rattle.std.proofs.lemmas.Int.{ints}
use Rattle.wf_def.specs.Extent.{ExtentValue}
use Rattle.wf_geometry.specs.Grid.{fits}
use Rattle.wf_geometry.specs.Limit.{tile_pixels}
use Rattle.wf_geometry.specs.Tile.{EachRequestHasAView, IsViewOf, tile_start}
use Rattle.wf_geometry.specs.View.{AxisValue, ViewValue}
use Rattle.wf_geometry.specs.declared.grid.GridCell.{GridCell}
use Rattle.wf_geometry.specs.declared.view.Corner.{Corner}
use Rattle.wf_picture.specs.Image.{image}
use Rattle.wf_picture.specs.Picture.{picture, corner_of, EachRequestHasOneView, EachRequestHasOneImage, EachRequestHasAnImage}

-- ---- a request is a tile's or it isn't: what holds in both cases holds

-- what isn't refuted holds, of facts that a test decides
abbrev Stable : Type 0 → Type 0
Stable P = ¬ ¬ P → P

decided : {P : Type 0} (test : Bool) → Decides test P → Stable P
decided true decides twice = decides.0 refl
decided false decides twice = absurd (twice (λ holds. true≢false (sym (decides.1 holds))))

-- a fact that holds where some cell fits, and where none does, isn't refuted
pub either : (e box : ExtentValue) (width height : ℕ) (P : Type 0) →
    ((cell : GridCell) → fits e box width height cell ≡ true → P) → (((cell : GridCell) → fits e box width height cell ≡ false) → P) → ¬ ¬ P
either e box width height P tile plain refuted = refuted (plain none) where
  none : (cell : GridCell) → fits e box width height cell ≡ false
  none cell = by_test (fits e box width height cell) refl where
    by_test : (b : Bool) → fits e box width height cell ≡ b → fits e box width height cell ≡ false
    by_test true found = absurd (refuted (tile cell found))
    by_test false left = left

-- ---- one view

same_number : (a b : ℕ) → Stable (a ≡ b)
same_number a b = decided (a == b) (Decides-eqb a b)

same_whole : (a b : ℤ) → Stable (a ≡ b)
same_whole a b = decided _ (Decides-int_eq a b)

module _ {A B : Type 0} (f : A → B) {a b : A} where
  ap_twice : ¬ ¬ (a ≡ b) → ¬ ¬ (f a ≡ f b)
  ap_twice twice refuted = twice (λ same. refuted (ap f same))

same_axis : (a b : AxisValue) → Stable (a ≡ b)
same_axis a b twice =
    let origin = same_whole a.origin b.origin (ap_twice (λ (v : AxisValue). v.origin) twice) in
    let scale = same_number a.scale b.scale (ap_twice (λ (v : AxisValue). v.scale) twice) in
    let span = same_number a.span b.span (ap_twice (λ (v : AxisValue). v.span) twice) in
    let shift = same_whole a.shift b.shift (ap_twice (λ (v : AxisValue). v.shift) twice) in
    λ i. record { origin = origin i; scale = scale i; span = span i; shift = shift i }

same_corner : (a b : Corner) → Stable (a ≡ b)
same_corner a b twice =
    let column = same_number a.column b.column (ap_twice (λ (c : Corner). c.column) twice) in
    let row = same_number a.row b.row (ap_twice (λ (c : Corner). c.row) twice) in
    λ i. record { column = column i; row = row i }

-- the corner, or another where there is none
abbrev or_else : Option Corner → Corner → Corner
or_else None c = c
or_else (Some c) d = c

abbrev is_there : Option Corner → Bool
is_there None = false
is_there (Some c) = true

same_option : (a b : Option Corner) → Stable (a ≡ b)
same_option None None twice = refl
same_option None (Some d) twice = absurd (twice (λ same. true≢false (ap is_there (sym same))))
same_option (Some c) None twice = absurd (twice (λ same. true≢false (ap is_there same)))
same_option (Some c) (Some d) twice = ap Some (same_corner c d (ap_twice (λ (o : Option Corner). or_else o c) twice))

same_view : (a b : ViewValue) → Stable (a ≡ b)
same_view a b twice =
    let width = same_number a.width b.width (ap_twice (λ (v : ViewValue). v.width) twice) in
    let height = same_number a.height b.height (ap_twice (λ (v : ViewValue). v.height) twice) in
    let x = same_axis a.x b.x (ap_twice (λ (v : ViewValue). v.x) twice) in
    let y = same_axis a.y b.y (ap_twice (λ (v : ViewValue). v.y) twice) in
    let corner = same_option a.corner b.corner (ap_twice (λ (v : ViewValue). v.corner) twice) in
    λ i. record { width = width i; height = height i; x = x i; y = y i; corner = corner i }

pub one_view : EachRequestHasOneView
one_view e request view other is also =
    let width = request.size.width in
    let height = request.size.height in
    same_view other view (either e request.bbox width height (other ≡ view)
    (λ cell found. also.tile cell found ∙ sym (is.tile cell found))
    (λ none. also.plain none ∙ sym (is.plain none)))

pub one_image : EachRequestHasOneImage
one_image map request bytes others is also =
    let same : also.view ≡ is.view = one_view map.extent request is.view also.view is.is also.is in
    also.file ∙ ap (λ (view : ViewValue). image request.size.width request.size.height (picture map request.layers view request.background)) same ∙ sym is.file

-- an image in the request's view
pub an_image : EachRequestHasAView → EachRequestHasAnImage
an_image views map request =
    let found = views map.extent request.bbox request.size.width request.size.height in
    record {
      bytes = image request.size.width request.size.height (picture map request.layers found.view request.background);
      is = record { view = found.view; is = found.is; file = refl };
    }

-- ---- where the picture lies in it

-- a cell is one of four
tile_within : (k : ℤ) → tile_start k ≤ 3 * tile_pixels
unfolding tile_start
tile_within (pos n) = omega arith
tile_within (negsuc n) = omega (arith, ints)

-- a tile's request has a tile's size
pub tile_size : (e box : ExtentValue) (width height : ℕ) (cell : GridCell) → fits e box width height cell ≡ true → (width ≡ tile_pixels) × (height ≡ tile_pixels)
unfolding fits
tile_size e box width height cell found = grind (arith, nat_tests)

at_most : (a b : ℕ) → Stable (a ≤ b)
at_most a b = decided (nat_le a b) (leb-true a b, le-leb a b)

module _ (e box : ExtentValue) (width height : ℕ) (view : ViewValue) (is : IsViewOf e box width height view) where
  -- its columns are columns of the view
  pub columns_within : (corner_of view).column + width ≤ view.width
  columns_within = at_most _ _ (either e box width height ((corner_of view).column + width ≤ view.width)
      (λ cell found.
      let size = tile_size e box width height cell found in
      rw (is.tile cell found) (omega (arith, size.0, tile_within cell.col)))
      (λ none. rw (is.plain none) (omega arith)))

  -- its rows are rows of the view
  pub rows_within : (corner_of view).row + height ≤ view.height
  rows_within = at_most _ _ (either e box width height ((corner_of view).row + height ≤ view.height)
      (λ cell found.
      let size = tile_size e box width height cell found in
      rw (is.tile cell found) (omega (arith, size.1, tile_within cell.row)))
      (λ none. rw (is.plain none) (omega arith)))
