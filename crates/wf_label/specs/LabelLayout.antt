-- Which labels are placed: the one set that the rule describes.
use Rattle.std.specs.Prelude.{◌≡◌, ℕ, ◌<◌, Bool, false, not, ◌&&◌, ◌||◌, List, [], ◌∷◌, ◌++◌, length, get_or, take, if◌then◌else◌}
use Rattle.std.specs.List.{list_any, items_where_true}
use Rattle.wf_geometry.specs.View.{ViewValue}
use Rattle.wf_label.specs.PixelBox.{box_of, is_whole_in, meets}
use Rattle.wf_label.specs.Placed.{PlacedValue}

-- the label may be placed after those of `before`: its box lies whole in the view, and either it is
-- forced or its widened box has no pixel in common with a box of theirs
unfoldable pub stands : ViewValue → List PlacedValue → PlacedValue → Bool
stands view before label = is_whole_in view (box_of label) && (label.force || not (list_any (meets label) before))

-- A set of labels, as a mark for each label in label order: true for its members. It is the placed
-- set where each label is a member iff it may be placed after the members among the labels before
-- it.
pub record IsPlacedSet (view : ViewValue) (labels : List PlacedValue) (members : List Bool) : Type 0 where
  pub size : length members ≡ length labels
  pub each : (i : ℕ) (d : PlacedValue) → i < length labels →
      get_or members i false ≡ stands view (items_where_true (take i members) (take i labels)) (get_or labels i d)

-- the list holds the members of the placed set, in label order
abbrev pub IsLayout : ViewValue → List PlacedValue → List PlacedValue → Type 0
IsLayout view labels placed = (members : List Bool) × IsPlacedSet view labels members × (placed ≡ items_where_true members labels)

-- there is a placed set, and no other
pub record HasOnePlacedSet (view : ViewValue) (labels : List PlacedValue) : Type 0 where
  pub members : List Bool
  pub is : IsPlacedSet view labels members
  pub only : (others : List Bool) → IsPlacedSet view labels others → others ≡ members

-- of any labels, in any view
abbrev pub EachListHasOnePlacedSet : Type 0
EachListHasOnePlacedSet = (view : ViewValue) (labels : List PlacedValue) → HasOnePlacedSet view labels

-- so its members, in label order, are one list
abbrev pub EachListHasOneLayout : Type 0
EachListHasOneLayout = (view : ViewValue) (labels placed others : List PlacedValue) → IsLayout view labels placed → IsLayout view labels others → others ≡ placed

-- the label joins those placed before it, if it may be placed
abbrev pub joined : ViewValue → List PlacedValue → PlacedValue → List PlacedValue
joined view before label = if stands view before label then before ++ label ∷ [] else before

-- That list, as a function: each label joins those before it that joined.
abbrev pub placed_after : ViewValue → List PlacedValue → List PlacedValue → List PlacedValue
placed_after view before [] = before
placed_after view before (label ∷ rest) = placed_after view (joined view before label) rest

unfoldable pub placed_of : ViewValue → List PlacedValue → List PlacedValue
placed_of view labels = placed_after view [] labels

-- the function gives the members of the placed set
abbrev pub PlacedIsTheLayout : Type 0
PlacedIsTheLayout = (view : ViewValue) (labels : List PlacedValue) → IsLayout view labels (placed_of view labels)
