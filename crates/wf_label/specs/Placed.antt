-- Labels with their positions in a view.
use Rattle.std.specs.Prelude.{ℕ, Bool, List, map, ℤ}
use Rattle.wf_def.specs.declared.color.Color.{Color}
use Rattle.wf_def.specs.declared.choice.LabelSize.{LabelSize}
use Rattle.wf_def.specs.declared.choice.LabelSize.TheVariants.{Tiny, Small, Medium, Large, Giant}
use Rattle.wf_label.specs.declared.placed.Placed.{Placed}

-- The first column and row of its box, columns from the left of the view and rows from its bottom;
-- how many pixels wide and high a bit of its letters is; how many pixels around it are to be free;
-- whether it is placed even where it overlaps another; its colour, and its text in UTF-8.
pub record PlacedValue : Type 0 where
  pub left : ℤ
  pub bottom : ℤ
  pub scale : ℕ
  pub buffer : ℕ
  pub force : Bool
  pub color : Color
  pub text : List ℕ

-- how many pixels wide and high a bit of a letter is
abbrev pub scale_of : LabelSize → ℕ
scale_of Tiny = 1
scale_of Small = 2
scale_of Medium = 3
scale_of Large = 4
scale_of Giant = 5

-- the values of the code's labels
abbrev pub placed_value : Placed → PlacedValue
placed_value p = record { left = p.left; bottom = p.bottom; scale = scale_of p.scale; buffer = p.buffer; force = p.force; color = p.color; text = p.text.now }

abbrev pub placed_values : List Placed → List PlacedValue
placed_values labels = map placed_value labels
