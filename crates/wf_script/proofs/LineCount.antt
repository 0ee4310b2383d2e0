-- How many lines a text has.
use Rattle.std.proofs.Common.{◌≡◌, ◌∙◌, ℕ, ◌+◌, ◌<◌, ◌≤◌, zero, suc, Bool, true, false, cond, nat_lt, Option, Some, None, take, subst, List, [], ◌∷◌, ◌++◌, length, refl, arith, ◌&&◌}
use Rattle.std.specs.Prelude.{◌==◌, if◌then◌else◌, filter, IfSome}
use Rattle.std.proofs.lemmas.Bool.Decides.{nat_tests}
use Rattle.wf_script.specs.Lines.{lines, before, lesser, line_at, line_feeds, most_lines, most_script_bytes, over_bytes, over_limit, over_lines}
use Rattle.wf_script.specs.Fault.{IsAtLine}
use Rattle.wf_script.specs.declared.fault.ScriptFault.TheVariants.{OverLimit}

-- no byte, no line
pub no_lines : (bytes : List ℕ) → length bytes ≡ 0 → 0 ≡ length (lines bytes)
unfolding lines
no_lines [] none = refl
no_lines (byte ∷ rest) none = absurd (omega arith)

-- a byte before lines takes none away
length_before : (byte : ℕ) (ls : List (List ℕ)) → 1 ≤ length ls → length (before byte ls) ≡ length ls
length_before byte [] some = absurd (omega arith)
length_before byte (line ∷ rest) some = refl

before_some : (byte : ℕ) (ls : List (List ℕ)) → 1 ≤ length (before byte ls)
before_some byte [] = omega arith
before_some byte (line ∷ rest) = omega arith

-- a text with a byte has a line
some_of : (ends returns next : Bool) (byte : ℕ) (ls : List (List ℕ)) → (next ≡ true → 1 ≤ length ls)
    → 1 ≤ length (if ends then [] ∷ ls else (if returns && next then ls else before byte ls))
some_of true returns next byte ls some = omega arith
some_of false false next byte ls some = before_some byte ls
some_of false true true byte ls some = some refl
some_of false true false byte ls some = before_some byte ls

pub some_line : (byte : ℕ) (rest : List ℕ) → 1 ≤ length (lines (byte ∷ rest))
unfolding lines
some_line byte [] = some_of (byte == 10) (byte == 13) false byte (lines []) (λ e. absurd (cc))
some_line byte (next ∷ rest) = some_of (byte == 10) (byte == 13) (next == 10) byte (lines (next ∷ rest)) (λ _. some_line next rest)

-- a byte before a text that isn't empty: a line more where it ends one
more_of : (ends returns next : Bool) (byte : ℕ) (ls : List (List ℕ)) → 1 ≤ length ls
    → length (if ends then [] ∷ ls else (if returns && next then ls else before byte ls)) ≡ cond ends 1 0 + length ls
more_of true returns next byte ls some = omega arith
more_of false false next byte ls some = length_before byte ls some ∙ omega arith
more_of false true true byte ls some = omega arith
more_of false true false byte ls some = length_before byte ls some ∙ omega arith

pub line_more : (byte next : ℕ) (rest : List ℕ) → length (lines (byte ∷ next ∷ rest)) ≡ cond (byte == 10) 1 0 + length (lines (next ∷ rest))
unfolding lines
line_more byte next rest = more_of (byte == 10) (byte == 13) (next == 10) byte (lines (next ∷ rest)) (some_line next rest)

-- a line alone
one_of : (ends returns : Bool) (byte : ℕ) → length (if ends then [] ∷ [] else (if returns && false then [] else before byte [])) ≡ 1
one_of true returns byte = refl
one_of false true byte = refl
one_of false false byte = refl

pub one_line : (byte : ℕ) → length (lines (byte ∷ [])) ≡ 1
unfolding lines
one_line byte = one_of (byte == 10) (byte == 13) byte

feed_of : (ends : Bool) (byte : ℕ) (fed : List ℕ) → length (cond ends (byte ∷ fed) fed) ≡ cond ends 1 0 + length fed
feed_of true byte fed = omega arith
feed_of false byte fed = omega arith

feed_more : (byte : ℕ) (rest : List ℕ) → line_feeds (byte ∷ rest) ≡ cond (byte == 10) 1 0 + line_feeds rest
feed_more byte rest = feed_of (byte == 10) byte (filter (λ b. b == 10) rest)

-- Lines end within all bytes but the last, and one more has begun.
pub lines_counted : (front : List ℕ) (last : ℕ) → length (lines (front ++ last ∷ [])) ≡ line_feeds front + 1
lines_counted [] last = one_line last
lines_counted (byte ∷ []) last =
    let more = line_more byte last [] in
    let one = one_line last in
    let feeds = feed_more byte [] in
    omega arith
lines_counted (byte ∷ next ∷ rest) last =
    let more = line_more byte next (rest ++ last ∷ []) in
    let fewer = lines_counted (next ∷ rest) last in
    let feeds = feed_more byte (next ∷ rest) in
    omega arith

at_most_one : (ends : Bool) → cond ends 1 0 ≤ 1
at_most_one true = omega arith
at_most_one false = omega arith

-- as many lines end in a text as it has, or one less
pub feeds_within : (bytes : List ℕ) → line_feeds bytes ≤ length (lines bytes)
feeds_within [] = omega arith
feeds_within (byte ∷ []) = let feeds = feed_more byte [] in let one = one_line byte in let most = at_most_one (byte == 10) in omega arith
feeds_within (byte ∷ next ∷ rest) =
    let more = line_more byte next rest in
    let fewer = feeds_within (next ∷ rest) in
    let feeds = feed_more byte (next ∷ rest) in
    omega arith

-- a byte is on one of the lines
pub line_within : (bytes : List ℕ) (k : ℕ) → k < length bytes → line_at bytes k ≤ length (lines bytes)
line_within [] k below = absurd (omega arith)
line_within (byte ∷ []) zero below = let one = one_line byte in omega arith
line_within (byte ∷ []) (suc k) below = absurd (omega arith)
line_within (byte ∷ next ∷ rest) zero below = let some = some_line byte (next ∷ rest) in omega arith
line_within (byte ∷ next ∷ rest) (suc k) below =
    let more = line_more byte next rest in
    let fewer = line_within (next ∷ rest) k (omega arith) in
    let feeds = feed_more byte (take k (next ∷ rest)) in
    omega arith

-- A text over a limit is over it at one of its lines.
record IsOneOf (count line : ℕ) : Type 0 where
  some : 1 ≤ line
  most : line ≤ count

lesser_within : (count : ℕ) (first second : Option ℕ) → IfSome first (IsOneOf count) → IfSome second (IsOneOf count) → IfSome (lesser first second) (IsOneOf count)
lesser_within count None second a b = b
lesser_within count (Some x) None a b = a
lesser_within count (Some x) (Some y) a b = record { some = omega (arith, a.some, b.some); most = omega (arith, a.most) }

bytes_within : (t : Bool) (bytes : List ℕ) → nat_lt most_script_bytes (length bytes) ≡ t → IfSome (if t then Some (line_at bytes most_script_bytes) else None) (IsOneOf (length (lines bytes)))
bytes_within true bytes is = record { some = omega arith; most = line_within bytes most_script_bytes (grind (arith, nat_tests)) }
bytes_within false bytes is = tt

lines_within : (t : Bool) (bytes : List ℕ) → nat_lt most_lines (length (lines bytes)) ≡ t → IfSome (if t then Some (most_lines + 1) else None) (IsOneOf (length (lines bytes)))
lines_within true bytes is = record { some = omega arith; most = grind (arith, nat_tests) }
lines_within false bytes is = tt

over_within : (bytes : List ℕ) → IfSome (over_limit bytes) (IsOneOf (length (lines bytes)))
unfolding over_limit over_bytes over_lines
over_within bytes = lesser_within (length (lines bytes)) (over_bytes bytes) (over_lines bytes) (bytes_within (nat_lt most_script_bytes (length bytes)) bytes refl) (lines_within (nat_lt most_lines (length (lines bytes))) bytes refl)

pub over_at : (bytes : List ℕ) (line : ℕ) → over_limit bytes ≡ Some line → IsAtLine (length (lines bytes)) (OverLimit line)
over_at bytes line is = let within : IsOneOf (length (lines bytes)) line = subst (λ o. IfSome o (IsOneOf (length (lines bytes)))) is (over_within bytes) in
    record { some = within.some; most = omega (arith, within.most) }

-- A text that is over no limit has no more bytes and lines than a script may.
no_bytes_over : (t : Bool) (bytes : List ℕ) (second : Option ℕ) → nat_lt most_script_bytes (length bytes) ≡ t → lesser (if t then Some (line_at bytes most_script_bytes) else None) second ≡ None
    → length bytes ≤ most_script_bytes
no_bytes_over true bytes None is none = absurd (cc)
no_bytes_over true bytes (Some line) is none = absurd (cc)
no_bytes_over false bytes second is none = grind (arith, nat_tests)

no_lines_over : (t : Bool) (bytes : List ℕ) (first : Option ℕ) → nat_lt most_lines (length (lines bytes)) ≡ t → lesser first (if t then Some (most_lines + 1) else None) ≡ None
    → length (lines bytes) ≤ most_lines
no_lines_over true bytes None is none = absurd (cc)
no_lines_over true bytes (Some line) is none = absurd (cc)
no_lines_over false bytes first is none = grind (arith, nat_tests)

pub bytes_fit : (bytes : List ℕ) → over_limit bytes ≡ None → length bytes ≤ most_script_bytes
unfolding over_limit over_bytes over_lines
bytes_fit bytes none = no_bytes_over (nat_lt most_script_bytes (length bytes)) bytes (over_lines bytes) refl none

pub few_lines : (bytes : List ℕ) → over_limit bytes ≡ None → length (lines bytes) ≤ most_lines
unfolding over_limit over_bytes over_lines
few_lines bytes none = no_lines_over (nat_lt most_lines (length (lines bytes))) bytes (over_bytes bytes) refl none

pub lines_fit : (bytes : List ℕ) → over_limit bytes ≡ None → line_feeds bytes ≤ most_lines
lines_fit bytes none =
    let few = few_lines bytes none in
    let feeds = feeds_within bytes in
    omega arith
