-- A reader's question, and its bytes. Numbers are big-endian.
use Rattle.std.specs.Prelude.{◌≡◌, ◌≢◌, ℕ, ⊤, List, ◌++◌, codes, length}
use Rattle.std.specs.Int.{w16, to_be_bytes}
use Rattle.wf_ballot.specs.Sequence.{IsSequence, seq_bytes}
use Rattle.wf_folder.specs.Name.{IsFarmName}
use Rattle.wf_reader.specs.declared.fault.QuestionFault.{QuestionFault}
use Rattle.wf_reader.specs.declared.fault.QuestionFault.TheVariants as faults
use Rattle.wf_reader.specs.declared.question.Question.{Question}

-- a question: a farm's name, a sequence, and a digest of 32 bytes
pub record IsQuestion (q : Question) : Type 0 where
  pub farm : IsFarmName q.farm
  pub published : IsSequence q.published
  pub digest : length q.digest ≡ 32

-- ---- its bytes: what each question begins with, the version (2 bytes), the farm's name (32), the
-- sequence (2) and the digest (32)
abbrev pub question_mark : List ℕ
question_mark = codes "wf-read\n"

abbrev pub reader_version : ℕ
reader_version = 1

unfoldable pub question_body : Question → List ℕ
question_body q = q.farm ++ (seq_bytes q.published ++ q.digest)

unfoldable pub question_bytes : Question → List ℕ
question_bytes q = question_mark ++ (to_be_bytes w16 reader_version ++ question_body q)

-- the number of its bytes
abbrev pub question_length : ℕ
question_length = 76

-- ---- questions of another version

-- behind the mark: two bytes that aren't this version's
pub record BeginsWithOther (bytes : List ℕ) : Type 0 where
  pub version : List ℕ
  pub rest : List ℕ
  pub two : length version ≡ 2
  pub other : version ≢ to_be_bytes w16 reader_version
  pub begins : bytes ≡ version ++ rest

-- The bytes begin as a question does, but for its version.
pub record IsOfOtherVersion (bytes : List ℕ) : Type 0 where
  pub behind : List ℕ
  pub begins : bytes ≡ question_mark ++ behind
  pub other : BeginsWithOther behind

-- P holds, if the error is that
abbrev pub IfOtherVersion : Type 0 → QuestionFault → Type 0
IfOtherVersion P (faults.OtherVersion version) = P
IfOtherVersion P faults.Short = ⊤
IfOtherVersion P faults.NotAReader = ⊤
IfOtherVersion P faults.Malformed = ⊤
