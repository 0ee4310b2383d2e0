-- The target of a request (RFC 9112, section 3.2.1).
use Rattle.std.specs.Prelude.{ℕ, ◌+◌, Bool, ◌==◌, List, length, drop}
use Rattle.std.specs.List.{before_first}

abbrev pub is_question_mark : ℕ → Bool
is_question_mark byte = byte == 63

-- the bytes before the first question mark
abbrev pub path_of : List ℕ → List ℕ
path_of target = before_first is_question_mark target

-- the bytes after the first question mark: none if there is none
abbrev pub query_of : List ℕ → List ℕ
query_of target = drop (length (path_of target) + 1) target
