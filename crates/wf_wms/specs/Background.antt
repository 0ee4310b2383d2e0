-- The background of a picture: OGC 06-042, 7.3.3.10.
use Rattle.std.specs.Prelude.{ℕ, ◌==◌, ◌&&◌, ◌||◌, Bool, List, ◌∷◌, Option, Some, None, ok_or, Result, Ok, if◌then◌else◌}
use Rattle.wf_def.specs.Color.{hexadecimal_color}
use Rattle.wf_def.specs.declared.color.Color.{Color}
use Rattle.wf_wms.specs.declared.exception.Exception.{Exception}
use Rattle.wf_wms.specs.declared.exception.Exception.TheVariants as exception
use Rattle.wf_wms.specs.declared.exception.Parameter.TheVariants as parameters

-- the background if BGCOLOR is absent
abbrev pub white : Color
white = record { r = 255; g = 255; b = 255 }

-- `0x` or `0X`
abbrev pub is_hex_mark : ℕ → ℕ → Bool
is_hex_mark digit x = digit == 48 && (x == 120 || x == 88)

-- the colour of a mark and six hexadecimal digits
unfoldable pub color_of : List ℕ → Option Color
color_of (digit ∷ x ∷ digits) = if is_hex_mark digit x then hexadecimal_color digits else None
color_of _ = None

-- BGCOLOR
abbrev pub background_in : Option (List ℕ) → Result Color Exception
background_in None = Ok white
background_in (Some text) = ok_or (color_of text) (exception.BadValue parameters.BackgroundColor)
