-- Pieces that are written one after the other are written as one.
use Rattle.std.proofs.Common.{◌≡◌, ℕ, ◌+◌, List, [], ◌∷◌, ◌++◌, Some, get_or, take, ap, sym, ◌∙◌, subst, append_assoc, true, false, length, ◌<◌, ◌≤◌, arith}
use Rattle.std.specs.Prelude.{nat_lt, map, slice_get}
use Rattle.std.proofs.lemmas.List.{map-append}
use Rattle.std.proofs.lemmas.Bool.Decides.{nat_tests}
use Rattle.std.proofs.lemmas.List.{append-nil, take_more}
use Rattle.std.proofs.lemmas.Option.{slice_get_within, get_or_from_slice_get}
use Rattle.std.proofs.lemmas.List.Concat.{flat_map-append}
use Rattle.std.specs.List.{flat_map}
use Rattle.wf_block.specs.Token.{Token}
use Rattle.wf_spelling.specs.declared.draft.Draft.{Draft}
use Rattle.wf_block.specs.Spelling.{line, text_of}
use Rattle.wf_spelling.specs.Canon.{most_canon_bytes}
use Rattle.wf_spelling.specs.Draft.{IsDraftOf, Writes}

pub nothing : (d : Draft) → Writes d [] d
nothing d = record { behind = λ text is. subst (λ (t : List ℕ). IsDraftOf d t) (sym (append-nil text)) is }

pub both : {a b c : Draft} {x y : List ℕ} → Writes a x b → Writes b y c → Writes a (x ++ y) c
both {c = c} {x = x} {y = y} first second = record {
  behind = λ text is. subst (λ (t : List ℕ). IsDraftOf c t) (append_assoc text x y) (second.behind (text ++ x) (first.behind text is));
}

pub same : {a b : Draft} {x y : List ℕ} → Writes a x b → x ≡ y → Writes a y b
same {a = a} {b = b} first e = subst (λ (bytes : List ℕ). Writes a bytes b) e first

-- what is written into an empty draft is the whole text
pub whole_text : {a b : Draft} {x : List ℕ} → IsDraftOf a [] → Writes a x b → IsDraftOf b x
whole_text empty written = written.behind [] empty

-- if the count is over the limit, so is the text
pub is_long : {d : Draft} {text : List ℕ} → IsDraftOf d text → nat_lt most_canon_bytes d.length ≡ true → most_canon_bytes < length text
is_long is long = grind (arith, nat_tests, is.total)

pub is_short : {d : Draft} {text : List ℕ} → IsDraftOf d text → nat_lt most_canon_bytes d.length ≡ false → length text ≤ most_canon_bytes
is_short is short = grind (arith, nat_tests, is.total)

-- ---- lines

pub text_of-append : (xs ys : List (List Token)) → text_of (xs ++ ys) ≡ text_of xs ++ text_of ys
text_of-append xs ys = flat_map-append line xs ys

pub last_line : {a b : Draft} (l : List Token) → Writes a (line l) b → Writes a (text_of (l ∷ [])) b
last_line l written = same written (sym (append-nil (line l)))

pub lines : {a b c : Draft} (xs ys : List (List Token)) → Writes a (text_of xs) b → Writes b (text_of ys) c → Writes a (text_of (xs ++ ys)) c
lines xs ys first second = same (both first second) (sym (text_of-append xs ys))

-- the text of a block, line by line
pub ruleset pieces = (flat_map-append, append_assoc)

-- ---- lists

-- one more element of a list
pub taken : {X : Type 0} (xs : List X) (i : ℕ) (x : X) → i < length xs → x ≡ get_or xs i x → take (i + 1) xs ≡ take i xs ++ x ∷ []
taken {X = X} xs i x within is = take_more xs i x within ∙ ap (λ (y : X). take i xs ++ y ∷ []) (sym is)

pub next_taken : {X : Type 0} (xs : List X) (i : ℕ) (x : X) → slice_get xs i ≡ Some x → take (i + 1) xs ≡ take i xs ++ x ∷ []
next_taken {X = X} xs i x here = take_more xs i x (slice_get_within xs i x here) ∙ ap (λ (y : X). take i xs ++ y ∷ []) (get_or_from_slice_get xs i x x here)

-- one more element of a list is written
pub one_more : {X : Type 0} {a b c : Draft} (of : X → List (List Token)) (xs : List X) (i : ℕ) (x : X) → take (i + 1) xs ≡ take i xs ++ x ∷ []
    → Writes a (text_of (flat_map of (take i xs))) b → Writes b (text_of (of x)) c → Writes a (text_of (flat_map of (take (i + 1) xs))) c
one_more of xs i x next before written =
    let split : flat_map of (take (i + 1) xs) ≡ flat_map of (take i xs) ++ of x =
    ap (flat_map of) next ∙ flat_map-append of (take i xs) (x ∷ []) ∙ ap (λ (ls : List (List Token)). flat_map of (take i xs) ++ ls) (append-nil (of x)) in
    same (lines (flat_map of (take i xs)) (of x) before written) (ap text_of (sym split))

-- one more line of a list is written
pub one_line_more : {X : Type 0} {a b c : Draft} (of : X → List Token) (xs : List X) (i : ℕ) (x : X) → take (i + 1) xs ≡ take i xs ++ x ∷ []
    → Writes a (text_of (map of (take i xs))) b → Writes b (line (of x)) c → Writes a (text_of (map of (take (i + 1) xs))) c
one_line_more of xs i x next before written =
    let split : map of (take (i + 1) xs) ≡ map of (take i xs) ++ of x ∷ [] = ap (map of) next ∙ map-append of (take i xs) (x ∷ []) in
    same (lines (map of (take i xs)) (of x ∷ []) before (last_line (of x) written)) (ap text_of (sym split))
