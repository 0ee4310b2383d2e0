-- Pieces that are scanned one after the other are scanned as one.
use Rattle.std.proofs.Common.{◌≡◌, ℕ, List, [], ◌∷◌, ◌++◌, Option, Some, None, true, false, ap, sym, ◌∙◌, subst, append_assoc}
use Rattle.std.specs.Prelude.{map, IfSome}
use Rattle.std.specs.List.{flat_map}
use Rattle.std.proofs.lemmas.List.{append-nil, map-append}
use Rattle.std.proofs.lemmas.List.Concat.{flat_map-append}
use Rattle.wf_block.specs.Token.{Token}
use Rattle.wf_block.specs.Spelling.{line, text_of}
use Rattle.wf_spelling.specs.declared.scan.cursor.Cursor.{Cursor}
use Rattle.wf_spelling.specs.Scan.{IsAt, Scans}
use Rattle.wf_spelling.proofs.WriteSequences.{text_of-append}

pub nothing : (c : Cursor) → Scans c [] c
nothing c = record { whole = λ rest is. is }

pub both : {a b c : Cursor} {x y : List ℕ} → Scans a x b → Scans b y c → Scans a (x ++ y) c
both {a = a} {x = x} {y = y} first second = record {
  whole = λ rest is. subst (λ (bytes : List ℕ). IsAt a bytes) (sym (append_assoc x y rest)) (first.whole (y ++ rest) (second.whole rest is));
}

pub same : {a b : Cursor} {x y : List ℕ} → Scans a x b → x ≡ y → Scans a y b
same {a = a} {b = b} first e = subst (λ (bytes : List ℕ). Scans a bytes b) e first

-- what has failed to match is no text's beginning
pub failed : {a b : Cursor} (x : List ℕ) → b.matches ≡ false → Scans a x b
failed x mismatch = record { whole = λ rest is. absurd (let impossible : true ≡ false = sym is.matches ∙ mismatch in cc) }

-- a piece that was ahead was gone past
pub past : {a b : Cursor} (x : List ℕ) → b.matches ≡ a.matches → a.rest.now ≡ x ++ b.rest.now → Scans a x b
past x flag ahead = record { whole = λ rest is. record { matches = sym flag ∙ is.matches; ahead = ahead ∙ ap (λ (bytes : List ℕ). x ++ bytes) is.ahead } }

-- what was scanned from the beginning to the end is the whole text
pub whole_text : {a b : Cursor} {bytes x : List ℕ} → IsAt a bytes → Scans a x b → IsAt b [] → x ≡ bytes
whole_text {x = x} start scanned end = sym (append-nil x) ∙ sym (scanned.whole [] end).ahead ∙ start.ahead

-- what was scanned before a step that went past nothing
pub then_nothing : {a b c : Cursor} {x : List ℕ} → Scans a x b → Scans b [] c → Scans a x c
then_nothing {x = x} first second = same (both first second) (append-nil x)

-- what holds of a value behind a step holds of it behind the next
pub if_some : {X : Type 0} {P Q : X → Type 0} (r : Option X) → ((x : X) → P x → Q x) → IfSome r P → IfSome r Q
if_some None more holds = holds
if_some (Some x) more holds = more x holds

-- ---- lines

pub last_line : {a b : Cursor} (l : List Token) → Scans a (line l) b → Scans a (text_of (l ∷ [])) b
last_line l scanned = same scanned (sym (append-nil (line l)))

pub lines : {a b c : Cursor} (xs ys : List (List Token)) → Scans a (text_of xs) b → Scans b (text_of ys) c → Scans a (text_of (xs ++ ys)) c
lines xs ys first second = same (both first second) (sym (text_of-append xs ys))

-- ---- lists

-- one more element of a list was scanned
pub one_more : {X : Type 0} {a b c : Cursor} (of : X → List (List Token)) (xs : List X) (x : X) (ys : List X) → ys ≡ xs ++ x ∷ []
    → Scans a (text_of (flat_map of xs)) b → Scans b (text_of (of x)) c → Scans a (text_of (flat_map of ys)) c
one_more of xs x ys next before scanned =
    let split : flat_map of ys ≡ flat_map of xs ++ of x =
    ap (flat_map of) next ∙ flat_map-append of xs (x ∷ []) ∙ ap (λ (ls : List (List Token)). flat_map of xs ++ ls) (append-nil (of x)) in
    same (lines (flat_map of xs) (of x) before scanned) (ap text_of (sym split))

-- one more line of a list was scanned
pub one_line_more : {X : Type 0} {a b c : Cursor} (of : X → List Token) (xs : List X) (x : X) (ys : List X) → ys ≡ xs ++ x ∷ []
    → Scans a (text_of (map of xs)) b → Scans b (line (of x)) c → Scans a (text_of (map of ys)) c
one_line_more of xs x ys next before scanned =
    let split : map of ys ≡ map of xs ++ of x ∷ [] = ap (map of) next ∙ map-append of xs (x ∷ []) in
    same (lines (map of xs) (of x ∷ []) before (last_line (of x) scanned)) (ap text_of (sym split))
