-- The files that stand for the machine's: one.
use Rattle.std.specs.Prelude.{ℕ, List, Bool, Option, Some, None, codes, if◌then◌else◌}
use Rattle.std.specs.Str.{bytes_eq}
use Rattle.wf_commands.specs.Contents.{Contents}

-- whether the file is at the path
unfoldable pub is_file : List ℕ → Bool
is_file path = bytes_eq path (codes "node-0.tape")

-- the content of the file at the path, if it is there
abbrev pub content_at : List ℕ → List ℕ → Option (List ℕ)
content_at tape path = if is_file path then Some tape else None

-- what stands for the machine's files
abbrev pub files_of : List ℕ → Contents
files_of tape = record { file = λ path. content_at tape path }
