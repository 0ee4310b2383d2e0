-- Extents: boxes in the map's coordinates.
use Rattle.std.specs.Prelude.{ℤ, ◌<ℤ◌}
use Rattle.wf_text.specs.Number.{IsMicro}

-- the sides of a box, in millionths of a unit
pub record ExtentValue : Type 0 where
  pub minx : ℤ
  pub miny : ℤ
  pub maxx : ℤ
  pub maxy : ℤ

-- the sides are coordinates, and the minima are below the maxima
pub record IsExtent (e : ExtentValue) : Type 0 where
  pub minx : IsMicro e.minx
  pub miny : IsMicro e.miny
  pub maxx : IsMicro e.maxx
  pub maxy : IsMicro e.maxy
  pub wide : e.minx <ℤ e.maxx
  pub tall : e.miny <ℤ e.maxy
