-- The numbers that the words of a line are.
use Rattle.std.proofs.Common.{◌≡◌, ◌∙◌, ℕ, List, [], ◌∷◌, ◌++◌, refl, sym, ap, subst, length, arith}
use Rattle.std.specs.Prelude.{◌==◌, true, false, Result, Ok, Err}
use Rattle.std.proofs.lemmas.Grind.{common_steps}
use Rattle.std.proofs.lemmas.List.{append_assoc, append-nil}
use Rattle.wf_script.specs.Orders.{numbers, some_numbers}
use Rattle.wf_script.specs.ReadContract.{◌>>=◌, Gives, wants_memory}
use Rattle.wf_script.specs.Words.{number}
use Rattle.wf_script.specs.declared.fault.Wrong.{Wrong}
use Rattle.wf_script.specs.declared.fault.Wrong.TheVariants.{BadLine}

-- the numbers so far, and those of the words that are left
abbrev pub with_numbers : List ℕ → Result (List ℕ) Wrong → Result (List ℕ) Wrong
with_numbers so_far (Err wrong) = Err wrong
with_numbers so_far (Ok others) = Ok (so_far ++ others)

pub none_so_far : (rest : Result (List ℕ) Wrong) → rest ≡ with_numbers [] rest
none_so_far (Err wrong) = refl
none_so_far (Ok others) = refl

pub no_words : (so_far : List ℕ) (words : List (List ℕ)) → words ≡ [] → with_numbers so_far (numbers words) ≡ Ok so_far
unfolding numbers
no_words so_far words none = ap (λ ws. with_numbers so_far (numbers ws)) none ∙ ap Ok (append-nil so_far)

moved : (so_far : List ℕ) (n : ℕ) (rest : Result (List ℕ) Wrong) → with_numbers so_far (rest >>= (λ others. Ok (n ∷ others))) ≡ with_numbers (so_far ++ n ∷ []) rest
moved so_far n (Err wrong) = refl
moved so_far n (Ok others) = ap Ok (sym (append_assoc so_far (n ∷ []) others))

pub one_number : (so_far : List ℕ) (words rest : List (List ℕ)) (word : List ℕ) (n : ℕ) → words ≡ word ∷ rest → number word ≡ Ok n → with_numbers so_far (numbers words) ≡ with_numbers (so_far ++ n ∷ []) (numbers rest)
unfolding numbers
one_number so_far words rest word n is some =
    ap (λ ws. with_numbers so_far (numbers ws)) is
    ∙ ap (λ found. with_numbers so_far (found >>= (λ m. numbers rest >>= (λ others. Ok (m ∷ others))))) some
    ∙ moved so_far n (numbers rest)

no_number : (wrong : Wrong) (so_far : List ℕ) (words rest : List (List ℕ)) (word : List ℕ) → words ≡ word ∷ rest → number word ≡ Err wrong → with_numbers so_far (numbers words) ≡ Err wrong
unfolding numbers
no_number wrong so_far words rest word is none =
    ap (λ ws. with_numbers so_far (numbers ws)) is
    ∙ ap (λ found. with_numbers so_far (found >>= (λ m. numbers rest >>= (λ others. Ok (m ∷ others))))) none

pub refused : {X : Type 0} (view : X → List ℕ) (result : Result X Wrong) (wrong : Wrong) (so_far : List ℕ) (all words rest : List (List ℕ)) (word : List ℕ) → result ≡ Err wrong
    → numbers all ≡ with_numbers so_far (numbers words) → words ≡ word ∷ rest → (wants_memory wrong ≡ false → number word ≡ Err wrong) → Gives view result (numbers all)
refused view result wrong so_far all words rest word is so is_next why =
    subst (λ r. Gives view r (numbers all)) (sym is) (λ isnt. so ∙ no_number wrong so_far words rest word is_next (why isnt))

-- there are numbers exactly where there are words
bound_some : (n : ℕ) (rest : Result (List ℕ) Wrong) → (rest >>= (λ others. Ok (n ∷ others))) ≡ Ok [] → ⊥
bound_some n (Err wrong) is = absurd (cc)
bound_some n (Ok others) is = absurd (cc)

found_some : (found : Result ℕ Wrong) (rest : Result (List ℕ) Wrong) → (found >>= (λ n. rest >>= (λ others. Ok (n ∷ others)))) ≡ Ok [] → ⊥
found_some (Err wrong) rest is = absurd (cc)
found_some (Ok n) rest is = bound_some n rest is

none_there : (xs : List ℕ) → (length xs == 0) ≡ true → xs ≡ []
none_there [] is = refl
none_there (x ∷ xs) is = absurd (grind (arith, common_steps))

pub none_at_all : (words : List (List ℕ)) (found : List ℕ) → numbers words ≡ Ok found → (length found == 0) ≡ true → some_numbers words ≡ Err BadLine
unfolding numbers some_numbers
none_at_all [] found is none = refl
none_at_all (word ∷ rest) found is none = absurd (found_some (number word) (numbers rest) (is ∙ ap Ok (none_there found none)))

pub some_found : (words : List (List ℕ)) (found : List ℕ) → numbers words ≡ Ok found → (length found == 0) ≡ false → some_numbers words ≡ Ok found
unfolding numbers some_numbers
some_found [] found is some = absurd (cc)
some_found (word ∷ rest) found is some = is

pub not_even_one : (wrong : Wrong) (words : List (List ℕ)) → numbers words ≡ Err wrong → some_numbers words ≡ Err wrong
unfolding numbers some_numbers
not_even_one wrong [] is = absurd (cc)
not_even_one wrong (word ∷ rest) is = is
