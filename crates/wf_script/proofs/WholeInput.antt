-- No more than the beginning of an input is read: it means what the whole input means.
use Rattle.std.proofs.Common.{◌≡◌, ◌∙◌, ◌+◌, ◌<◌, ◌≤◌, zero, suc, ℕ, Bool, true, false, List, [], ◌∷◌, Option, Some, None, length, take, min, nat_lt, sym, ap, subst, refl, arith}
use Rattle.std.specs.Prelude.{Result, if◌then◌else◌}
use Rattle.std.proofs.lemmas.Bool.Decides.{nat_tests}
use Rattle.std.proofs.lemmas.List.{length-take, take_all, take-take}
use Rattle.wf_script.specs.Lines.{examined, lesser, line_at, line_feeds, lines, most_lines, most_script_bytes, over_bytes, over_limit, over_lines}
use Rattle.wf_script.specs.Script.{Script}
use Rattle.wf_script.specs.Text.{script, script_of, unless_over}
use Rattle.wf_script.specs.declared.fault.ScriptFault.{ScriptFault}
use Rattle.wf_script.proofs.LineCount.{line_more, line_within, no_lines, one_line, some_line}

-- a beginning has no more lines
lines_of_part : (k : ℕ) (bytes : List ℕ) → length (lines (take k bytes)) ≤ length (lines bytes)
lines_of_part zero bytes = let none = no_lines [] refl in omega (arith, none)
lines_of_part (suc k) [] = omega arith
lines_of_part (suc zero) (byte ∷ []) = omega arith
lines_of_part (suc zero) (byte ∷ next ∷ rest) = let one = one_line byte in let some = some_line byte (next ∷ rest) in omega (arith, one, some)
lines_of_part (suc (suc k)) (byte ∷ []) = omega arith
lines_of_part (suc (suc k)) (byte ∷ next ∷ rest) =
    let fewer = lines_of_part (suc k) (next ∷ rest) in
    let more = line_more byte next (take k rest) in
    let all = line_more byte next rest in
    omega (arith, fewer, more, all)

-- more lines after the byte over the limit don't matter
lesser_same : (x a b : ℕ) (few many : Bool) → nat_lt most_lines a ≡ few → nat_lt most_lines b ≡ many → x ≤ a → a ≤ b
    → lesser (Some x) (if few then Some (most_lines + 1) else None) ≡ lesser (Some x) (if many then Some (most_lines + 1) else None)
lesser_same x a b true true is are there fewer = refl
lesser_same x a b false false is are there fewer = refl
lesser_same x a b true false is are there fewer = absurd (grind (arith, nat_tests))
lesser_same x a b false true is are there fewer = let few : a ≤ most_lines = grind (arith, nat_tests) in let least : x ≡ min x (most_lines + 1) = omega (arith, few, there) in ap Some least

over_the_bytes : (bytes : List ℕ) → most_script_bytes < length bytes → over_bytes bytes ≡ Some (line_at bytes most_script_bytes)
unfolding over_bytes
over_the_bytes bytes long = let is : nat_lt most_script_bytes (length bytes) ≡ true = grind (arith, nat_tests) in rw is refl

over_the_same : (part whole : List ℕ) → most_script_bytes < length part → most_script_bytes < length whole → take most_script_bytes part ≡ take most_script_bytes whole
    → length (lines part) ≤ length (lines whole) → over_limit part ≡ over_limit whole
unfolding over_limit over_lines
over_the_same part whole long longer same fewer =
    let line : line_at part most_script_bytes ≡ line_at whole most_script_bytes = ap (λ bytes. line_feeds bytes + 1) same in
    let within = line_within part most_script_bytes long in
    let there : line_at whole most_script_bytes ≤ length (lines part) = subst (λ n. n ≤ length (lines part)) line within in
    ap (λ first. lesser first (over_lines part)) (over_the_bytes part long ∙ ap Some line)
    ∙ lesser_same (line_at whole most_script_bytes) (length (lines part)) (length (lines whole)) _ _ refl refl there fewer
    ∙ ap (λ first. lesser first (over_lines whole)) (sym (over_the_bytes whole longer))

-- a text over a limit means nothing else
some_line_over : (x : ℕ) (second : Option ℕ) → lesser (Some x) second ≡ None → ⊥
some_line_over x None is = absurd (cc)
some_line_over x (Some y) is = absurd (cc)

is_over : (bytes : List ℕ) → most_script_bytes < length bytes → over_limit bytes ≡ None → ⊥
unfolding over_limit
is_over bytes long is = some_line_over (line_at bytes most_script_bytes) (over_lines bytes) (ap (λ first. lesser first (over_lines bytes)) (sym (over_the_bytes bytes long)) ∙ is)

meant_alike : (over : Option ℕ) (part whole : Result Script ScriptFault) → (over ≡ None → ⊥) → unless_over over part ≡ unless_over over whole
meant_alike None part whole some = absurd (some refl)
meant_alike (Some line) part whole some = refl

long_alike : (text : List ℕ) → most_script_bytes < length text → script_of (examined text) ≡ script_of text
unfolding script_of
long_alike text long =
    let size = length-take (most_script_bytes + 1) text in
    let part : most_script_bytes < length (examined text) = omega (arith, size, long) in
    let over = over_the_same (examined text) text part long (take-take most_script_bytes (most_script_bytes + 1) text (omega arith)) (lines_of_part (most_script_bytes + 1) text) in
    ap (λ o. unless_over o (script (record { number = 0; left = lines (examined text) }))) over
    ∙ meant_alike (over_limit text) (script (record { number = 0; left = lines (examined text) })) (script (record { number = 0; left = lines text })) (is_over text long)

alike_where : (t : Bool) (text : List ℕ) → nat_lt most_script_bytes (length text) ≡ t → script_of (examined text) ≡ script_of text
alike_where true text is = long_alike text (grind (arith, nat_tests))
alike_where false text is = let short : length text ≤ most_script_bytes + 1 = grind (arith, nat_tests) in ap script_of (take_all (most_script_bytes + 1) text short)

pub examined_alike : (text : List ℕ) → script_of (examined text) ≡ script_of text
examined_alike text = alike_where (nat_lt most_script_bytes (length text)) text refl
