-- A frame: a version byte, a kind byte, four bytes of length, and a body. A format says which
-- versions are read, which kinds of frame each of them has, and what the body of each is.
use Rattle.std.specs.Prelude.{◌≡◌, ℕ, ◌+◌, ◌<◌, ◌≤◌, ◌^◌, ◌⊎◌, nat_lt, Bool, true, List, [], ◌∷◌, length, take, Option, Some, None, Result, Ok, Err, MatchResult, if◌then◌else◌}
use Rattle.std.specs.Int.{w32, from_be_bytes}
use Rattle.wf_frame.specs.declared.fault.FrameFault.{FrameFault}
use Rattle.wf_frame.specs.declared.fault.FrameFault.TheVariants.{Short, BadVersion, BadKind, TooLong, BadLength}
use Rattle.wf_frame.specs.Layout.{Layout, fits}

-- `layout` is that of the body of a kind, by a version and the kind's byte, None if there is no
-- such kind; `longest` is the most bytes of a body.
pub record Format : Type 0 where
  pub is_read : ℕ → Bool
  pub layout : ℕ → ℕ → Option Layout
  pub longest : ℕ

-- No body is longer than the longest, whose length has 4 bytes.
pub record IsFormat (format : Format) : Type 0 where
  pub within : (version byte : ℕ) (layout : Layout) (n : ℕ) → format.layout version byte ≡ Some layout → fits layout n ≡ true → n ≤ format.longest
  pub has_four_bytes : format.longest < 2 ^ 32

-- The format has this version and this kind, whose body can be these bytes.
pub record HasBody (format : Format) (version byte : ℕ) (body : List ℕ) : Type 0 where
  pub is_read : format.is_read version ≡ true
  pub layout : Layout
  pub has_kind : format.layout version byte ≡ Some layout
  pub has_length : fits layout (length body) ≡ true

-- the number of bytes before the body
abbrev pub header_length : ℕ
header_length = 6

-- ---- how a frame is read, each byte as soon as it is there

-- a version, the byte of a kind, and a body
abbrev pub FrameFound : Type 0
FrameFound = ℕ × ℕ × List ℕ

-- after the length: the body, if that many bytes are there
unfoldable pub body_front : Format → ℕ → ℕ → Layout → ℕ → List ℕ → Result FrameFound FrameFault
body_front format version byte layout n bytes =
    if nat_lt format.longest n then Err TooLong
    else if fits layout n then (if nat_lt (length bytes) n then Err Short else Ok (version, byte, take n bytes))
    else Err BadLength

-- after the kind's byte
unfoldable pub length_front : Format → ℕ → ℕ → Option Layout → List ℕ → Result FrameFound FrameFault
length_front format version byte None bytes = Err BadKind
length_front format version byte (Some layout) (a ∷ b ∷ c ∷ d ∷ bytes) = body_front format version byte layout (from_be_bytes w32 (a ∷ b ∷ c ∷ d ∷ [])) bytes
length_front format version byte (Some layout) _ = Err Short

-- after the version
unfoldable pub kind_front : Format → ℕ → List ℕ → Result FrameFound FrameFault
kind_front format version [] = Err Short
kind_front format version (byte ∷ bytes) = length_front format version byte (format.layout version byte) bytes

-- the version, the kind and the body of the frame at the front of bytes
unfoldable pub frame_front : Format → List ℕ → Result FrameFound FrameFault
frame_front format [] = Err Short
frame_front format (version ∷ bytes) = if format.is_read version then kind_front format version bytes else Err BadVersion

-- the result of a function that splits a frame, mapped by view, is this one, or this error
abbrev pub IsSplitAs : {X : Type 0} → (X → FrameFound) → Result X FrameFault → Result FrameFound FrameFault → Type 0
IsSplitAs view result split = MatchResult result (λ x. split ≡ Ok (view x)) (λ fault. split ≡ Err fault)

-- ---- part of a frame

-- the length of the body, as the first four bytes state it
abbrev pub stated_length : List ℕ → ℕ
stated_length bytes = from_be_bytes w32 (take 4 bytes)

-- The header isn't whole, or it states a length that the kind can have and the body isn't whole.
abbrev pub LacksBody : Layout → List ℕ → Type 0
LacksBody layout bytes = (length bytes < 4) ⊎ ((fits layout (stated_length bytes) ≡ true) × (length bytes < 4 + stated_length bytes))

-- Part of a frame, without an error in its version, its kind and its length as far as they are
-- there; the length is checked once its four bytes are there.
abbrev pub IsUnfinishedFrame : Format → List ℕ → Type 0
IsUnfinishedFrame format [] = Unit {0}
IsUnfinishedFrame format (version ∷ []) = format.is_read version ≡ true
IsUnfinishedFrame format (version ∷ byte ∷ bytes) = (format.is_read version ≡ true) × ((layout : Layout) × (format.layout version byte ≡ Some layout) × LacksBody layout bytes)
