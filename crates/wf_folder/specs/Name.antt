-- The name of a farm.
use Rattle.std.specs.Prelude.{◌≡◌, ℕ, ◌-◌, ◌≤◌, ◌==◌, ◌&&◌, ◌||◌, nat_le, not, Bool, true, List, ◌++◌, length, take, replicate}
use Rattle.std.specs.List.{list_all, prefix_len}

-- a letter of ASCII, a digit, or one of - . _
abbrev pub is_name_byte : ℕ → Bool
is_name_byte b = nat_le 97 b && nat_le b 122 || nat_le 65 b && nat_le b 90 || nat_le 48 b && nat_le b 57 || b == 45 || b == 46 || b == 95

-- a text that a farm's name may have: 1 to 32 such bytes
pub record IsNameText (text : List ℕ) : Type 0 where
  pub some : 1 ≤ length text
  pub short : length text ≤ 32
  pub each : list_all is_name_byte text ≡ true

-- the text, and then zeros up to 32 bytes
abbrev pub pad : List ℕ → List ℕ
pad text = text ++ replicate (32 - length text) 0

-- the bytes before the first zero
abbrev pub isnt_zero : ℕ → Bool
isnt_zero b = not (b == 0)

abbrev pub name_text : List ℕ → List ℕ
name_text bytes = take (prefix_len isnt_zero bytes) bytes

-- a farm's name: the bytes of such a text
pub record IsFarmName (bytes : List ℕ) : Type 0 where
  pub text : IsNameText (name_text bytes)
  pub whole : bytes ≡ pad (name_text bytes)
