-- The pixels that a fill or a line covers: those whose centre it covers. Positions are in
-- sixteenths of a pixel.
use Rattle.std.specs.Prelude.{ℕ, ◌*◌, ◌%◌, ◌==◌, ◌&&◌, ◌||◌, Bool, not, nat_lt, List, ℤ, pos, nat_abs, if◌then◌else◌}
use Rattle.std.specs.List.{count_by, list_any}
use Rattle.wf_geometry.specs.Exact.{difference, product, opposite, is_less}
use Rattle.wf_geometry.specs.Limit.{half_side}
use Rattle.wf_geometry.specs.Position.{PositionValue, turned}
use Rattle.wf_geometry.specs.declared.operation.Segment.{Segment}

-- the x and y offsets of the second position from the first
unfoldable pub run : PositionValue → PositionValue → ℤ
run a b = difference b.x a.x

unfoldable pub rise : PositionValue → PositionValue → ℤ
rise a b = difference b.y a.y

-- ---- the inside of a ring of edges

-- the position is left of an edge that goes up from `low` to `high`
unfoldable pub is_left_of : PositionValue → PositionValue → PositionValue → Bool
is_left_of c low high = is_less (product (run low c) (rise low high)) (product (rise low c) (run low high))

-- its y is between those of the ends: the lower end counts, the upper doesn't
unfoldable pub is_beside : PositionValue → PositionValue → PositionValue → Bool
is_beside c low high = not (is_less c.y low.y) && is_less c.y high.y

-- the ray from the position to the right meets the edge from `low` up to `high`
unfoldable pub meets : PositionValue → PositionValue → PositionValue → Bool
meets c low high = is_beside c low high && is_left_of c low high

-- the same for a segment, with its ends in either order
unfoldable pub crosses : PositionValue → Segment → Bool
crosses c s = meets c s.from s.to || meets c s.to s.from

-- the ray meets an odd number of the edges
unfoldable pub is_inside : PositionValue → List Segment → Bool
is_inside c edges = count_by (crosses c) edges % 2 == 1

-- ---- the line along a segment

-- how far the position lies above the line from a to b, times the line's x length
unfoldable pub deviation : PositionValue → PositionValue → PositionValue → ℤ
deviation c a b = difference (product (rise a c) (run a b)) (product (run a c) (rise a b))

-- half the width in sixteenths of a pixel, times the line's x length
unfoldable pub margin : ℕ → PositionValue → PositionValue → ℤ
margin width a b = product (pos (half_side * width)) (run a b)

-- the position's x is between those of the ends, both included
unfoldable pub is_along : PositionValue → PositionValue → PositionValue → Bool
is_along c a b = not (is_less c.x a.x) && not (is_less b.x c.x)

-- it lies within half the width above or below the line; the lower border counts, the upper doesn't
unfoldable pub is_in_band : ℕ → PositionValue → PositionValue → PositionValue → Bool
is_in_band width c a b = not (is_less (deviation c a b) (opposite (margin width a b))) && is_less (deviation c a b) (margin width a b)

-- the line from a to b covers the position, where b isn't left of a
unfoldable pub is_across : ℕ → PositionValue → PositionValue → PositionValue → Bool
is_across width c a b = is_along c a b && is_in_band width c a b

-- the same, with the ends in either order
unfoldable pub is_on_flat : ℕ → PositionValue → PositionValue → PositionValue → Bool
is_on_flat width c a b = if is_less b.x a.x then is_across width c b a else is_across width c a b

-- the segment is longer along y than along x
unfoldable pub is_steep : PositionValue → PositionValue → Bool
is_steep a b = nat_lt (nat_abs (run a b)) (nat_abs (rise a b))

-- the line of `width` pixels along the segment covers the position; a steep segment is tested with
-- the axes exchanged
unfoldable pub is_on : ℕ → PositionValue → Segment → Bool
is_on width c s = if is_steep s.from s.to then is_on_flat width (turned c) (turned s.from) (turned s.to) else is_on_flat width c s.from s.to

-- a line along one of the segments covers the position
unfoldable pub is_on_any : ℕ → PositionValue → List Segment → Bool
is_on_any width c segments = list_any (is_on width c) segments
