-- Which error bytes have: that of the first check that fails, or else that of the message's texts.
use Rattle.std.specs.Prelude.{◌≡◌, ℕ, nat_lt, ◌==◌, List, [], ◌∷◌, length, take, drop, Option, Some, None, is_some, if◌then◌else◌}
use Rattle.std.specs.Int.{w32, from_be_bytes}
use Rattle.wf_frame.specs.Layout.{Layout, fits}
use Rattle.wf_frame.specs.Layout as layouts
use Rattle.wf_frame.specs.Row.{layout_of}
use Rattle.wf_def.specs.Definition.{Definition}
use Rattle.wf_canon.specs.Canon.{canon}
use Rattle.wf_codec.specs.declared.fault.DecodeFault.{DecodeFault}
use Rattle.wf_codec.specs.declared.fault.DecodeFault.TheVariants.{Short, BadVersion, BadKind, BadField, NotCanonical, TooLong, Memory}
use Rattle.wf_codec.specs.KindTable.{kinds, most_body_bytes}
use Rattle.wf_codec.specs.Encoding.{message_version, header_length}
use Rattle.wf_codec.specs.Message.{HasText, HasOne, HasOneOf}

-- ---- what the bytes contain, as far as they are there

-- the layout of the kind that the second byte gives
unfoldable pub layout_in : List ℕ → Option Layout
layout_in (version ∷ byte ∷ bytes) = layout_of kinds byte
layout_in _ = None

-- the length of the body, from the four bytes after the kind
unfoldable pub length_in : List ℕ → Option ℕ
length_in (version ∷ byte ∷ a ∷ b ∷ c ∷ d ∷ bytes) = Some (from_be_bytes w32 (a ∷ b ∷ c ∷ d ∷ []))
length_in _ = None

-- what follows the header
abbrev pub behind_header : List ℕ → List ℕ
behind_header bytes = drop header_length bytes

-- the first n bytes of a list, if n is known
abbrev pub front_of : Option ℕ → List ℕ → List ℕ
front_of None bytes = []
front_of (Some n) bytes = take n bytes

-- the body
abbrev pub body_in : List ℕ → List ℕ
body_in bytes = front_of (length_in bytes) (behind_header bytes)

-- ---- the checks, each with its error

-- the version is the supported one
abbrev pub check_version : List ℕ → Option DecodeFault
check_version [] = None
check_version (version ∷ bytes) = if version == message_version then None else Some BadVersion

-- the second byte is a kind's
abbrev pub check_kind : List ℕ → Option DecodeFault
check_kind (version ∷ byte ∷ bytes) = if is_some (layout_of kinds byte) then None else Some BadKind
check_kind _ = None

-- the body isn't longer than the longest
abbrev pub check_longest : Option ℕ → Option DecodeFault
check_longest None = None
check_longest (Some n) = if nat_lt most_body_bytes n then Some TooLong else None

-- a body of this kind can have that many bytes
abbrev pub check_length : Option Layout → Option ℕ → Option DecodeFault
check_length (Some layout) (Some n) = if fits layout n then None else Some BadField
check_length _ _ = None

-- the header is whole, and is followed by as many bytes as it states
abbrev pub check_whole : Option ℕ → List ℕ → Option DecodeFault
check_whole None behind = Some Short
check_whole (Some n) behind = if nat_lt (length behind) n then Some Short else None

-- each field of the body is in its range, by byte offset
abbrev pub check_fields : Option Layout → List ℕ → Option DecodeFault
check_fields None body = None
check_fields (Some layout) body = if layouts.has_fields layout body then None else Some BadField

-- the error of the first check that fails
abbrev pub first_failing : List (Option DecodeFault) → Option DecodeFault
first_failing [] = None
first_failing (None ∷ checks) = first_failing checks
first_failing (Some fault ∷ checks) = Some fault

-- Checks go from left to right, each as soon as its bytes are there.
unfoldable pub first_fault : List ℕ → Option DecodeFault
first_fault bytes = first_failing (
    check_version bytes
    ∷ check_kind bytes
    ∷ check_longest (length_in bytes)
    ∷ check_length (layout_in bytes) (length_in bytes)
    ∷ check_whole (length_in bytes) (behind_header bytes)
    ∷ check_fields (layout_in bytes) (body_in bytes)
    ∷ [])

-- ---- the texts, which are checked last

-- the texts in a body of this kind
abbrev pub texts_of_kind : Option Layout → List ℕ → List (List ℕ)
texts_of_kind None body = []
texts_of_kind (Some layout) body = layouts.texts_in layout body

-- the texts of the message at the front
abbrev pub texts_in : List ℕ → List (List ℕ)
texts_in bytes = texts_of_kind (layout_in bytes) (body_in bytes)

-- the bytes begin with a message except that its texts aren't checked: no other check fails, and it
-- has a text
pub record CarriesText (bytes : List ℕ) : Type 0 where
  pub no_fault : first_fault bytes ≡ None
  pub text : HasOne (texts_in bytes)

-- it isn't any message's text
abbrev pub IsNoText : List ℕ → Type 0
IsNoText text = (d : Definition) → HasText d → canon d ≡ text → ⊥

-- no check fails, and one of the texts isn't any definition's
pub record CarriesNoText (bytes : List ℕ) : Type 0 where
  pub no_fault : first_fault bytes ≡ None
  pub no_text : HasOneOf IsNoText (texts_in bytes)

-- The bytes have this error. Allocation can fail only for a text.
abbrev pub HasFault : List ℕ → DecodeFault → Type 0
HasFault bytes NotCanonical = CarriesNoText bytes
HasFault bytes Memory = CarriesText bytes
HasFault bytes fault = first_fault bytes ≡ Some fault
