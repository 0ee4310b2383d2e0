-- The limits of requests. The constant of the code is proved equal to its number. Those of pictures
-- and boxes are `wf_geometry`'s.
use Rattle.std.specs.Prelude.{ℕ}

-- the most layers of a request, as in the service metadata (LayerLimit)
abbrev pub most_entries : ℕ
most_entries = 64
