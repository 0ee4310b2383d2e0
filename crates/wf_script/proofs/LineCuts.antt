-- How a text is cut into its lines.
use Rattle.std.proofs.Common.{◌≡◌, ◌∙◌, ℕ, ◌+◌, ◌≤◌, suc, Bool, true, false, cond, List, [], ◌∷◌, ◌++◌, length, refl, sym, ap, arith, take, drop, subst, not, ◌&&◌}
use Rattle.std.specs.Prelude.{◌==◌, if◌then◌else◌}
use Rattle.std.specs.List.{prefix_len}
use Rattle.std.proofs.lemmas.Grind.{common_steps}
use Rattle.wf_script.specs.Lines.{Lines, IsNext, lines, before, is_in_line, total, without_return}

-- a carriage return at the end, another byte there, and nothing
dropped_if : (t : Bool) (byte : ℕ) → t ≡ true → (if t then [] else byte ∷ []) ≡ []
dropped_if true byte is = refl
dropped_if false byte is = absurd (cc)

kept_if : (t : Bool) (byte : ℕ) → t ≡ false → (if t then [] else byte ∷ []) ≡ byte ∷ []
kept_if true byte is = absurd (cc)
kept_if false byte is = refl

pub return_dropped : (front : List ℕ) (last : ℕ) → (last == 13) ≡ true → without_return (front ++ last ∷ []) ≡ front
unfolding without_return
return_dropped [] last is = dropped_if (last == 13) last is
return_dropped (byte ∷ []) last is = ap (λ xs. byte ∷ xs) (dropped_if (last == 13) last is)
return_dropped (byte ∷ next ∷ rest) last is = ap (λ xs. byte ∷ xs) (return_dropped (next ∷ rest) last is)

pub no_return : (front : List ℕ) (last : ℕ) → (last == 13) ≡ false → without_return (front ++ last ∷ []) ≡ front ++ last ∷ []
unfolding without_return
no_return [] last is = kept_if (last == 13) last is
no_return (byte ∷ []) last is = ap (λ xs. byte ∷ xs) (kept_if (last == 13) last is)
no_return (byte ∷ next ∷ rest) last is = ap (λ xs. byte ∷ xs) (no_return (next ∷ rest) last is)

pub nothing_dropped : (line : List ℕ) → length line ≡ 0 → line ≡ without_return line
unfolding without_return
nothing_dropped [] none = refl
nothing_dropped (byte ∷ rest) none = absurd (omega arith)

pub none_left : (bytes : List ℕ) → (length bytes == 0) ≡ true → lines bytes ≡ []
unfolding lines
none_left [] none = refl
none_left (byte ∷ rest) none = absurd (grind (arith, common_steps))

-- none of these bytes ends a line
abbrev InLine : List ℕ → Type 0
InLine [] = Unit {0}
InLine (byte ∷ rest) = ((byte == 10) ≡ false) × InLine rest

-- a byte that ends no line, before a text
before_of : (ends returns next : Bool) (byte : ℕ) (ls : List (List ℕ)) → ends ≡ false → next ≡ false
    → (if ends then [] ∷ ls else (if returns && next then ls else before byte ls)) ≡ before byte ls
before_of true returns next byte ls ends apart = absurd (cc)
before_of false true true byte ls ends apart = absurd (cc)
before_of false true false byte ls ends apart = refl
before_of false false next byte ls ends apart = refl

before_end : (ends returns : Bool) (byte : ℕ) (ls : List (List ℕ)) → ends ≡ false
    → (if ends then [] ∷ ([] ∷ ls) else (if returns && true then [] ∷ ls else before byte ([] ∷ ls))) ≡ (if returns then [] else byte ∷ []) ∷ ls
before_end true returns byte ls ends = absurd (cc)
before_end false true byte ls ends = refl
before_end false false byte ls ends = refl

line_ended : (line rest : List ℕ) → InLine line → lines (line ++ 10 ∷ rest) ≡ without_return line ∷ lines rest
unfolding lines without_return
line_ended [] rest all = refl
line_ended (byte ∷ []) rest all = before_end (byte == 10) (byte == 13) byte (lines rest) all.0
line_ended (byte ∷ next ∷ more) rest all =
    before_of (byte == 10) (byte == 13) (next == 10) byte (lines ((next ∷ more) ++ 10 ∷ rest)) all.0 all.1.0
    ∙ ap (before byte) (line_ended (next ∷ more) rest all.1)

line_alone : (byte : ℕ) (rest : List ℕ) → InLine (byte ∷ rest) → lines (byte ∷ rest) ≡ (byte ∷ rest) ∷ []
unfolding lines
line_alone byte [] all = before_of (byte == 10) (byte == 13) false byte (lines []) all.0 refl
line_alone byte (next ∷ rest) all =
    before_of (byte == 10) (byte == 13) (next == 10) byte (lines (next ∷ rest)) all.0 all.1.0
    ∙ ap (before byte) (line_alone next rest all.1)

-- The bytes before the first line feed, and what comes there.
front_of : (t : Bool) (byte n : ℕ) (bytes : List ℕ) → (byte == 10) ≡ t → InLine (take n bytes) → InLine (take (cond (not t) (1 + n) 0) (byte ∷ bytes))
front_of true byte n bytes is all = tt
front_of false byte n bytes is all =
    let more : suc n ≡ 1 + n = omega arith in
    subst (λ k. InLine (take k (byte ∷ bytes))) more (is, all)

front_in_line : (bytes : List ℕ) → InLine (take (prefix_len is_in_line bytes) bytes)
front_in_line [] = tt
front_in_line (byte ∷ bytes) = front_of (byte == 10) byte (prefix_len is_in_line bytes) bytes refl (front_in_line bytes)

-- a text whose line feed comes first is its line and what follows
record Cut (bytes : List ℕ) (n feed : ℕ) (rest : List ℕ) : Type 0 where
  parts : bytes ≡ take n bytes ++ 10 ∷ rest

cut_of : (t : Bool) (byte n feed : ℕ) (bytes rest : List ℕ) → (byte == 10) ≡ t → (drop n bytes ≡ feed ∷ rest → Cut bytes n feed rest)
    → drop (cond (not t) (1 + n) 0) (byte ∷ bytes) ≡ feed ∷ rest → Cut (byte ∷ bytes) (cond (not t) (1 + n) 0) feed rest
cut_of true byte n feed bytes rest is more end =
    let feeds : byte ≡ 10 = grind (arith, common_steps) in
    let same : bytes ≡ rest = cc in
    record { parts = cc }
cut_of false byte n feed bytes rest is more end =
    let one : 1 + n ≡ suc n = omega arith in
    let there : drop n bytes ≡ feed ∷ rest = subst (λ k. drop k (byte ∷ bytes) ≡ feed ∷ rest) one end in
    let parts = (more there).parts in
    record { parts = subst (λ k. byte ∷ bytes ≡ take k (byte ∷ bytes) ++ 10 ∷ rest) (sym one) (ap (λ xs. byte ∷ xs) parts) }

cut : (bytes : List ℕ) (feed : ℕ) (rest : List ℕ) → drop (prefix_len is_in_line bytes) bytes ≡ feed ∷ rest → Cut bytes (prefix_len is_in_line bytes) feed rest
cut [] feed rest end = absurd (cc)
cut (byte ∷ bytes) feed rest end = cut_of (byte == 10) byte (prefix_len is_in_line bytes) feed bytes rest refl (cut bytes feed rest) end

pub ended_line : (bytes : List ℕ) (feed : ℕ) (rest : List ℕ) → drop (prefix_len is_in_line bytes) bytes ≡ feed ∷ rest → lines bytes ≡ without_return (take (prefix_len is_in_line bytes) bytes) ∷ lines rest
ended_line bytes feed rest end =
    ap lines (cut bytes feed rest end).parts ∙ line_ended (take (prefix_len is_in_line bytes) bytes) rest (front_in_line bytes)

-- the last line has no line feed
whole_of : (t : Bool) (byte n : ℕ) (bytes : List ℕ) → (drop n bytes ≡ [] → take n bytes ≡ bytes) → drop (cond (not t) (1 + n) 0) (byte ∷ bytes) ≡ []
    → take (cond (not t) (1 + n) 0) (byte ∷ bytes) ≡ byte ∷ bytes
whole_of true byte n bytes more end = absurd (cc)
whole_of false byte n bytes more end =
    let one : 1 + n ≡ suc n = omega arith in
    let there : drop n bytes ≡ [] = subst (λ k. drop k (byte ∷ bytes) ≡ []) one end in
    subst (λ k. take k (byte ∷ bytes) ≡ byte ∷ bytes) (sym one) (ap (λ xs. byte ∷ xs) (more there))

whole : (bytes : List ℕ) → drop (prefix_len is_in_line bytes) bytes ≡ [] → take (prefix_len is_in_line bytes) bytes ≡ bytes
whole [] end = refl
whole (byte ∷ bytes) end = whole_of (byte == 10) byte (prefix_len is_in_line bytes) bytes (whole bytes) end

none_of : (xs : List ℕ) → length xs ≡ 0 → xs ≡ []
none_of [] none = refl
none_of (x ∷ xs) none = absurd (omega arith)

alone : (bytes line : List ℕ) → InLine bytes → line ≡ bytes → 1 ≤ length bytes → lines bytes ≡ line ∷ []
alone [] line all same some = absurd (omega arith)
alone (byte ∷ rest) line all same some = line_alone byte rest all ∙ ap (λ l. l ∷ []) (sym same)

pub last_line : (bytes : List ℕ) → (length bytes == 0) ≡ false → length (drop (prefix_len is_in_line bytes) bytes) ≡ 0 → lines bytes ≡ take (prefix_len is_in_line bytes) bytes ∷ []
last_line bytes some end =
    let all = whole bytes (none_of (drop (prefix_len is_in_line bytes) bytes) end) in
    alone bytes (take (prefix_len is_in_line bytes) bytes) (subst InLine all (front_in_line bytes)) all (grind (arith, common_steps))

-- the line that is returned is one of those that were left
pub one_less : (line : List ℕ) (old new : Lines) → IsNext line old new → total new ≡ total old
one_less line old new next = let shorter = ap length next.left in let later = next.number in omega arith
