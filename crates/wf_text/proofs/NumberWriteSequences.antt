-- Pieces of a number's text that are written one after the other are written as one.
use Rattle.std.proofs.Common.{◌≡◌, ℕ, ◌+◌, ◌≤◌, List, [], ◌++◌, length, sym, ap, ◌∙◌, subst, append_assoc, arith}
use Rattle.std.proofs.lemmas.List.{append-nil, length-append}
use Rattle.wf_text.specs.Limit.{most_number_bytes}
use Rattle.wf_text.specs.NumberText.{IsNumberDraftOf, Writes}

-- bytes that are appended if there is room are appended if the text is short enough
pub pushed : {before bytes after : List ℕ} → (length before + length bytes ≤ most_number_bytes → after ≡ before ++ bytes) → Writes before bytes after
pushed {before = before} {bytes = bytes} {after = after} added = record { behind = λ text is. record { whole = λ short. grown text is short } } where
  grown : (text : List ℕ) → IsNumberDraftOf before text → length (text ++ bytes) ≤ most_number_bytes → after ≡ text ++ bytes
  grown text is short =
      let together : length (text ++ bytes) ≡ length text + length bytes = length-append text bytes in
      let same : before ≡ text = is.whole (omega (arith, short, together)) in
      let room : length before + length bytes ≤ most_number_bytes = rw same (omega (arith, short, together)) in
      added room ∙ ap (λ (xs : List ℕ). xs ++ bytes) same

pub nothing : (draft : List ℕ) → Writes draft [] draft
nothing draft = record { behind = λ text is. subst (λ (t : List ℕ). IsNumberDraftOf draft t) (sym (append-nil text)) is }

pub both : {a b c x y : List ℕ} → Writes a x b → Writes b y c → Writes a (x ++ y) c
both {c = c} {x = x} {y = y} first second = record {
  behind = λ text is. subst (λ (t : List ℕ). IsNumberDraftOf c t) (append_assoc text x y) (second.behind (text ++ x) (first.behind text is));
}

pub same : {a b x y : List ℕ} → Writes a x b → x ≡ y → Writes a y b
same {a = a} {b = b} first e = subst (λ (bytes : List ℕ). Writes a bytes b) e first

-- what is written into an empty buffer is the whole text, if it is short enough
pub whole_text : {a b x : List ℕ} → a ≡ [] → Writes a x b → length x ≤ most_number_bytes → b ≡ x
whole_text empty written short =
    let all = written.behind [] (record { whole = λ _. empty }) in
    all.whole short
