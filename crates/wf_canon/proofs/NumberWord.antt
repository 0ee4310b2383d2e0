-- A number's text is a word, and isn't END.
use Rattle.std.proofs.Common.{◌≡◌, ℕ, ◌||◌, true, false, eqb, List, [], ◌∷◌, refl, arith}
use Rattle.std.specs.Prelude.{ℤ}
use Rattle.std.specs.Char.{is_ascii_digit, to_ascii_lowercase}
use Rattle.std.proofs.lemmas.Bool.Decides.{nat_tests}
use Rattle.wf_def.specs.Number.{IsMicro}
use Rattle.wf_block.specs.Grammar.{is_end}
use Rattle.wf_text.specs.NumberText.{number_text}
use Rattle.wf_block.specs.Spelling.{is_word, begins_like_number}
use Rattle.wf_block.specs.WordTheorems as words

-- END begins with a letter
number_is_no_end : (w : List ℕ) → begins_like_number w ≡ true → is_end w ≡ false
unfolding is_end
number_is_no_end [] e = absurd cc
number_is_no_end (b ∷ w) e =
    let first : (is_ascii_digit b || eqb b 45) ≡ true = e in
    let no_letter : eqb (to_ascii_lowercase b) 101 ≡ false = grind (arith, nat_tests) in
    rw no_letter refl

pub number_word_is : (m : ℤ) → IsMicro m → (is_word (number_text m) ≡ true) × (is_end (number_text m) ≡ false)
number_word_is m h =
    let word = words.number_word_is m h in
    (word.0, number_is_no_end (number_text m) word.1)
