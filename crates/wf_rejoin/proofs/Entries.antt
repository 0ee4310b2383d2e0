-- The lines of the file `replaced`, as they are written and read.
use Rattle.std.proofs.Common.{◌≡◌, ◌≢◌, ◌∙◌, ℕ, suc, List, [], ◌∷◌, ◌++◌, length, append_assoc, get_or, Result, Ok, refl, sym, ap, arith}
use Rattle.std.specs.Prelude.{Option, Some, None, codes}
use Rattle.std.proofs.lemmas.List.{append_cancel_left}
use Rattle.hex.specs.Hex.{encode_lower}
use Rattle.wf_folder.specs.Number.{number_digits}
use Rattle.wf_folder.specs.Words.{mark_then, number_then}
use Rattle.wf_folder.proofs.WordLemmas.{both_marks, both_numbers, digits_then}
use Rattle.wf_rejoin.specs.Lines.{AreAll, ReadsLines, lines_of}
use Rattle.wf_rejoin.specs.ReplacementsText.{IsEntry, IsReplacementInRange, entry_line, replaced_text}
use Rattle.wf_rejoin.specs.declared.fault.ReplacementsFault.{ReplacementsFault}
use Rattle.wf_rejoin.specs.declared.replacement.Replacement.{Replacement}
use Rattle.wf_rejoin.proofs.Lines as lines

-- ---- one line is written

pub entry_parts : (t0 t1 t2 t3 : List ℕ) (r : Replacement) → t1 ≡ t0 ++ number_then (codes "count ") r.count [] → t2 ≡ t1 ++ mark_then (codes " mark ") r.mark [] →
    t3 ≡ t2 ++ codes "\n" → t3 ≡ t0 ++ entry_line (Some r) []
unfolding entry_line
entry_parts t0 t1 t2 t3 r e1 e2 e3 =
    e3 ∙ digits_then t1 t2 (codes " mark ") (encode_lower r.mark) (codes "\n") e2
    ∙ digits_then t0 t1 (codes "count ") (number_digits r.count) _ e1

pub entry_before : (x : Option Replacement) (rest : List ℕ) → entry_line x [] ++ rest ≡ entry_line x rest
unfolding entry_line
entry_before None rest = refl
entry_before (Some r) rest =
    append_assoc (codes "count ") _ rest ∙ ap (λ (l : List ℕ). codes "count " ++ l) (append_assoc (number_digits r.count) _ rest
    ∙ ap (λ (l : List ℕ). number_digits r.count ++ l) (append_assoc (codes " mark ") _ rest
    ∙ ap (λ (l : List ℕ). codes " mark " ++ l) (append_assoc (encode_lower r.mark) _ rest)))

-- ---- one line is read

pub is_entry : (bytes r1 r2 rest mark : List ℕ) (count : ℕ) → bytes ≡ number_then (codes "count ") count r1 → r1 ≡ mark_then (codes " mark ") mark r2 → r2 ≡ codes "\n" ++ rest →
    bytes ≡ entry_line (Some (record { count = count; mark = mark })) rest
unfolding entry_line
is_entry bytes r1 r2 rest mark count e1 e2 e3 = e1 ∙ ap (number_then (codes "count ") count) (e2 ∙ ap (mark_then (codes " mark ") mark) e3)

pub not_an_entry : (bytes : List ℕ) → ((rest : List ℕ) → bytes ≢ codes "nothing\n" ++ rest) → ((r : Replacement) (rest : List ℕ) → IsReplacementInRange r → bytes ≢ entry_line (Some r) rest) →
    (x : Option Replacement) (rest : List ℕ) → IsEntry x → bytes ≢ entry_line x rest
unfolding entry_line
not_an_entry bytes nothing none None rest is e = nothing rest e
not_an_entry bytes nothing none (Some r) rest is e = none r rest is e

-- ---- a line, and what follows it, are determined by the bytes

pub same_replacement : (r s : Replacement) → r.count ≡ s.count → r.mark ≡ s.mark → r ≡ s
same_replacement r s count mark =
    let made : ℕ → List ℕ → Replacement = λ c m. record { count = c; mark = m } in
    ap (λ (c : ℕ). made c r.mark) count ∙ ap (λ (m : List ℕ). made s.count m) mark

both_replacements : (p q : Replacement) (r s : List ℕ) → IsReplacementInRange p → IsReplacementInRange q → entry_line (Some p) r ≡ entry_line (Some q) s → (p ≡ q) × (r ≡ s)
unfolding entry_line
both_replacements p q r s of_p of_q e =
    let count = both_numbers (codes "count ") p.count q.count _ _ of_p.fits of_q.fits e in
    let mark = both_marks (codes " mark ") p.mark q.mark _ _ of_p.size of_q.size of_p.bytes of_q.bytes count.1 in
    (same_replacement p q count.0 mark.0, append_cancel_left (codes "\n") r s mark.1)

not_both : (p : Replacement) (r s : List ℕ) → entry_line None r ≡ entry_line (Some p) s → ⊥
unfolding entry_line
not_both p r s e =
    let letters : 110 ≡ 99 = ap (λ (l : List ℕ). get_or l 0 0) e in
    omega (arith, letters)

nothing_more : (r s : List ℕ) → entry_line None r ≡ entry_line None s → r ≡ s
unfolding entry_line
nothing_more r s e = append_cancel_left (codes "nothing\n") r s e

pub both_entries : (x y : Option Replacement) (r s : List ℕ) → IsEntry x → IsEntry y → entry_line x r ≡ entry_line y s → (x ≡ y) × (r ≡ s)
both_entries None None r s of_x of_y e = (refl, nothing_more r s e)
both_entries None (Some q) r s of_x of_y e = absurd (not_both q r s e)
both_entries (Some p) None r s of_x of_y e = absurd (not_both p s r (sym e))
both_entries (Some p) (Some q) r s of_x of_y e =
    let parts = both_replacements p q r s of_x of_y e in (ap (λ (z : Replacement). Some z) parts.0, parts.1)

-- ---- all lines

pub no_entry : (bytes : List ℕ) (nodes : List (Option Replacement)) → length nodes ≡ 0 → length bytes ≡ 0 → ReadsLines {E = ReplacementsFault} IsEntry entry_line bytes (length nodes) nodes (Ok tt)
no_entry bytes nodes none end = lines.no_line ReplacementsFault IsEntry entry_line bytes nodes none end

pub one_entry : (bytes rest : List ℕ) (node : Option Replacement) (count : ℕ) (new : List (Option Replacement)) (result : Result Unit ReplacementsFault) → IsEntry node →
    bytes ≡ entry_line node rest → ReadsLines IsEntry entry_line rest count new result → ReadsLines IsEntry entry_line bytes (suc count) (node ∷ new) result
one_entry bytes rest node count new result is e reads = lines.one_line IsEntry entry_line both_entries bytes rest node count new result is e reads

pub only_these : (bytes rest : List ℕ) (known : List (Option Replacement)) → bytes ≡ codes "wfarm replaced 1\n" ++ rest → ReadsLines {E = ReplacementsFault} IsEntry entry_line rest 64 known (Ok tt) →
    (others : List (Option Replacement)) → length others ≡ 64 → AreAll IsEntry others → bytes ≡ replaced_text others → ◌≡◌ {A = Result (List (Option Replacement)) ReplacementsFault} (Ok known) (Ok others)
only_these bytes rest known marked (size, are, e) others count are_others same =
    ap (λ (l : List (Option Replacement)). Ok l)
    (lines.same_lines IsEntry entry_line both_entries known others (size ∙ sym count) are are_others (sym e ∙ append_cancel_left (codes "wfarm replaced 1\n") rest (lines_of entry_line others) (sym marked ∙ same)))

-- ---- all lines are written

pub one_entry_more : (old mid new : List ℕ) (xs rest : List (Option Replacement)) (x : Option Replacement) → xs ≡ x ∷ rest → mid ≡ old ++ entry_line x [] → new ≡ mid ++ lines_of entry_line rest → new ≡ old ++ lines_of entry_line xs
one_entry_more old mid new xs rest x is of_mid of_new = lines.one_line_more entry_line entry_before old mid new xs rest x is of_mid of_new

pub one_more_is_entry : (xs rest : List (Option Replacement)) (x : Option Replacement) → xs ≡ x ∷ rest → IsEntry x → AreAll IsEntry rest → AreAll IsEntry xs
one_more_is_entry xs rest x is first others = lines.one_more IsEntry xs rest x is first others

pub no_more_entries : (old : List ℕ) (xs : List (Option Replacement)) → length xs ≡ 0 → old ≡ old ++ lines_of entry_line xs
no_more_entries old xs none = lines.no_line_more entry_line old xs none

pub none_are_entries : (xs : List (Option Replacement)) → length xs ≡ 0 → AreAll IsEntry xs
none_are_entries xs none = lines.none_are IsEntry xs none
