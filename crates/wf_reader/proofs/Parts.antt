-- The parts of bytes that are made of fronts of known lengths.
use Rattle.std.proofs.Common.{◌≡◌, ◌≢◌, ◌≤◌, ◌∙◌, ℕ, ◌-◌, List, ◌++◌, length, take, drop, refl, sym, ap, subst, arith, length-append}
use Rattle.std.specs.Int.{w16, to_be_bytes}
use Rattle.std.specs.Prelude.{replicate}
use Rattle.std.proofs.Math.Seq.{take-append_seam, drop-append_seam}
use Rattle.std.proofs.lemmas.List.{length-take-le, take-append-drop, length-replicate}
use Rattle.wf_ballot.specs.Sequence.{seq_bytes}
use Rattle.wf_folder.specs.Name.{IsFarmName, name_text}
use Rattle.wf_reader.specs.Question.{BeginsWithOther, IfOtherVersion, IsOfOtherVersion, IsQuestion, question_body, question_mark, reader_version}
use Rattle.wf_reader.specs.declared.fault.QuestionFault.{QuestionFault}
use Rattle.wf_reader.specs.declared.fault.QuestionFault.TheVariants as faults
use Rattle.wf_reader.specs.declared.question.Question.{Question}

-- the first n bytes, and those after them
pub take_front : (n : ℕ) (bytes a b : List ℕ) → length a ≡ n → bytes ≡ a ++ b → take n bytes ≡ a
take_front n bytes a b size e = ap (take n) e ∙ subst (λ (k : ℕ). take k (a ++ b) ≡ a) size (take-append_seam a b)

pub drop_front : (n : ℕ) (bytes a b : List ℕ) → length a ≡ n → bytes ≡ a ++ b → drop n bytes ≡ b
drop_front n bytes a b size e = ap (drop n) e ∙ subst (λ (k : ℕ). drop k (a ++ b) ≡ b) size (drop-append_seam a b)

-- both together
pub joined : (n : ℕ) (bytes a b : List ℕ) → a ≡ take n bytes → b ≡ drop n bytes → bytes ≡ a ++ b
joined n bytes a b front back = sym (take-append-drop n bytes) ∙ ap (λ (f : List ℕ). f ++ drop n bytes) (sym front) ∙ ap (λ (t : List ℕ). a ++ t) (sym back)

-- ---- a question's
pub length_of_farm : (name : List ℕ) → IsFarmName name → length name ≡ 32
length_of_farm name is =
    let text = name_text name in
    let short = is.text.short in
    rw is.whole (omega (arith, short, length-append text (replicate (32 - length text) 0), length-replicate {A = ℕ} (32 - length text) 0))

pub length_of_sequence : (s : ℕ) → length (seq_bytes s) ≡ 2
unfolding seq_bytes
length_of_sequence s = refl

pub length_of_body : (q : Question) → IsQuestion q → length (question_body q) ≡ 66
unfolding question_body
length_of_body q is = omega (arith, length-append q.farm (seq_bytes q.published ++ q.digest), length-append (seq_bytes q.published) q.digest, length_of_farm q.farm is.farm, length_of_sequence q.published, is.digest)

pub question_parts : (b r f p d : List ℕ) → f ≡ take 32 b → r ≡ drop 32 b → p ≡ take 2 r → d ≡ drop 2 r → (q : Question) → IsQuestion q → b ≡ question_body q →
    (f ≡ q.farm) × (p ≡ seq_bytes q.published) × (d ≡ q.digest)
unfolding question_body
question_parts b r f p d ef er ep ed q is e =
    let a : r ≡ seq_bytes q.published ++ q.digest = er ∙ drop_front 32 b q.farm _ (length_of_farm q.farm is.farm) e in (
      ef ∙ take_front 32 b q.farm _ (length_of_farm q.farm is.farm) e,
      ep ∙ take_front 2 r (seq_bytes q.published) _ (length_of_sequence q.published) a,
      ed ∙ drop_front 2 r (seq_bytes q.published) _ (length_of_sequence q.published) a,
    )

pub question_whole : (b r f p d : List ℕ) → f ≡ take 32 b → r ≡ drop 32 b → p ≡ take 2 r → d ≡ drop 2 r → (q : Question) → q.farm ≡ f → p ≡ seq_bytes q.published → q.digest ≡ d → b ≡ question_body q
unfolding question_body
question_whole b r f p d ef er ep ed q farm published digest =
    joined 32 b f r ef er ∙ ap (λ (t : List ℕ). f ++ t) (joined 2 r p d ep ed)
    ∙ ap (λ (x : List ℕ). x ++ (p ++ d)) (sym farm)
    ∙ ap (λ (x : List ℕ). q.farm ++ (x ++ d)) published
    ∙ ap (λ (x : List ℕ). q.farm ++ (seq_bytes q.published ++ x)) (sym digest)

pub same_question : (a b : Question) → a.farm ≡ b.farm → a.published ≡ b.published → a.digest ≡ b.digest → a ≡ b
same_question a b farm published digest =
    let made : List ℕ → ℕ → List ℕ → Question = λ f p d. record { farm = f; published = p; digest = d } in
    ap (λ (f : List ℕ). made f a.published a.digest) farm
    ∙ ap (λ (p : ℕ). made b.farm p a.digest) published
    ∙ ap (λ (d : List ℕ). made b.farm b.published d) digest

-- ---- a question's version

-- two bytes that aren't this version's are another's
pub other_version : (bytes : List ℕ) → 2 ≤ length bytes → ((more : List ℕ) → bytes ≢ to_be_bytes w16 reader_version ++ more) → BeginsWithOther bytes
other_version bytes two never = record {
  version = take 2 bytes;
  rest = drop 2 bytes;
  two = length-take-le 2 bytes two;
  other = λ same. never (drop 2 bytes) (sym (take-append-drop 2 bytes) ∙ ap (λ (v : List ℕ). v ++ drop 2 bytes) same);
  begins = sym (take-append-drop 2 bytes);
}

-- behind the mark they are a question's of another version
pub other_question : (bytes behind : List ℕ) (fault : QuestionFault) → bytes ≡ question_mark ++ behind → IfOtherVersion (BeginsWithOther behind) fault → IfOtherVersion (IsOfOtherVersion bytes) fault
other_question bytes behind (faults.OtherVersion version) is other = record { behind = behind; begins = is; other = other }
other_question bytes behind faults.Short is other = tt
other_question bytes behind faults.NotAReader is other = tt
other_question bytes behind faults.Malformed is other = tt

-- another error isn't about the version
pub no_other_version : (P : Type 0) (fault : QuestionFault) → IfOtherVersion ⊥ fault → IfOtherVersion P fault
no_other_version P (faults.OtherVersion version) is = absurd is
no_other_version P faults.Short is = tt
no_other_version P faults.NotAReader is = tt
no_other_version P faults.Malformed is = tt
