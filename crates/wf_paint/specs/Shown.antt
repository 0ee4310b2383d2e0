-- The effect of operations on a picture that is painted from the last operation to the first.
use Rattle.std.specs.Prelude.{◌≡◌, ℕ, ◌*◌, ◌<◌, ◌==◌, ◌&&◌, Bool, not, nat_lt, List, Option, Some, None, ℤ, pos, reverse, cond}
use Rattle.std.specs.Option.{option_map, option_or}
use Rattle.std.specs.List.{find}
use Rattle.wf_def.specs.declared.color.Color.{Color}
use Rattle.wf_geometry.specs.Operation.{OperationValue, covers}
use Rattle.wf_paint.specs.Pixmap.{column_of, row_of}
use Rattle.wf_paint.specs.Canvas.{CanvasValue, painted_at}

-- the colour of the last operation that covers the pixel, if one does
unfoldable pub seen : List OperationValue → ℤ → ℤ → Option Color
seen ops column row = option_map (λ op. op.color) (find (λ op. covers op column row) (reverse ops))

-- the colour, if the pixel is shown
unfoldable pub color_where : Bool → Color → Option Color
color_where shown color = cond shown (Some color) None

-- the pixel in column `column` and row `r` lies in row `row`, in the columns from `from` on and
-- before `to`
unfoldable pub is_in_run : ℕ → ℕ → ℕ → ℕ → ℕ → Bool
is_in_run row from to column r = (r == row) && (not (nat_lt column from) && nat_lt column to)

-- every free pixel that an operation covers now has the colour of the last one that does; every
-- other pixel is unchanged
pub record IsShown (ops : List OperationValue) (old new : CanvasValue) : Type 0 where
  pub width : new.width ≡ old.width
  pub height : new.height ≡ old.height
  pub background : new.background ≡ old.background
  pub pixels : (i : ℕ) → i < old.width * old.height →
      painted_at new i ≡ option_or (painted_at old i) (seen ops (pos (column_of old.width i)) (pos (row_of old.width old.height i)))

-- every free pixel whose column and row pass the test now has the colour; every other pixel is
-- unchanged
pub record IsColored (shown : ℕ → ℕ → Bool) (color : Color) (old new : CanvasValue) : Type 0 where
  pub width : new.width ≡ old.width
  pub height : new.height ≡ old.height
  pub background : new.background ≡ old.background
  pub pixels : (i : ℕ) → i < old.width * old.height →
      painted_at new i ≡ option_or (painted_at old i) (color_where (shown (column_of old.width i) (row_of old.width old.height i)) color)
