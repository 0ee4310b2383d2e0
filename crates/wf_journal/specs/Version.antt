-- The versions of records. All are read; records are written in the last one.
use Rattle.std.specs.Prelude.{ℕ, ◌==◌, List, [], ◌∷◌, Option, find}
use Rattle.wf_canon.specs.Canon.{most_canon_bytes}
use Rattle.wf_journal.specs.declared.version.Version.{Version}
use Rattle.wf_journal.specs.declared.version.Version.TheVariants.{One, Two}

abbrev pub version_byte : Version → ℕ
version_byte One = 1
version_byte Two = 2

abbrev pub all_versions : List Version
all_versions = One ∷ Two ∷ []

-- the version that has this byte
unfoldable pub version_of_byte : ℕ → Option Version
version_of_byte byte = find (λ version. byte == version_byte version) all_versions

-- the version in which records are written
abbrev pub version_written : Version
version_written = Two

-- the most bytes of a record's text: canonical texts were shorter when the first version was
-- written
abbrev pub most_text : Version → ℕ
most_text One = 32768
most_text Two = most_canon_bytes
