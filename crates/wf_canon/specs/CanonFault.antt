-- When bytes are no canonical text.
use Rattle.std.specs.Prelude.{◌≡◌, ℕ, ◌<◌, ◌≤◌, true, List, length}
use Rattle.std.specs.Str.{is_utf8}
use Rattle.wf_def.specs.Definition.{Definition}
use Rattle.wf_def.specs.Limits.{IsWithinLimits}
use Rattle.wf_spelling.specs.declared.fault.CanonFault.{CanonFault}
use Rattle.wf_spelling.specs.declared.fault.CanonFault.TheVariants.{TooBig, NotCanonical, Memory}
use Rattle.wf_spelling.specs.Canon.{canon, most_canon_bytes}

-- the bytes are no map's canonical text
abbrev pub HasNoCanon : List ℕ → Type 0
HasNoCanon bytes = (d : Definition) → IsWithinLimits d → canon d ≡ bytes → ⊥

-- why bytes are rejected; the length and UTF-8 are checked without allocating, and allocation
-- failure says nothing more about the bytes
abbrev pub IsWhyRejected : CanonFault → List ℕ → Type 0
IsWhyRejected TooBig bytes = most_canon_bytes < length bytes
IsWhyRejected NotCanonical bytes = HasNoCanon bytes
IsWhyRejected Memory bytes = (length bytes ≤ most_canon_bytes) × (is_utf8 bytes ≡ true)

-- the error for bytes within the limit, given the error for the map that they mean: a text over the
-- limit isn't these bytes
abbrev pub reject_again : CanonFault → CanonFault
reject_again TooBig = NotCanonical
reject_again NotCanonical = NotCanonical
reject_again Memory = Memory
