-- The lines of the file `joins`, as they are written and read.
use Rattle.std.proofs.Common.{◌≡◌, ◌≢◌, ◌∙◌, ℕ, suc, ◌<◌, ◌^◌, List, [], ◌∷◌, ◌++◌, length, append_assoc, get_or, Result, Ok, refl, sym, ap, arith}
use Rattle.std.specs.Prelude.{codes}
use Rattle.std.proofs.lemmas.List.{append_cancel_left}
use Rattle.hex.specs.Hex.{encode_lower}
use Rattle.wf_folder.specs.FarmFile.{IsNumberOfNodes}
use Rattle.wf_folder.specs.Number.{number_digits}
use Rattle.wf_folder.specs.Words.{mark_then, number_then}
use Rattle.wf_folder.proofs.WordLemmas.{both_marks, both_numbers, digits_then}
use Rattle.wf_rejoin.specs.JoiningText.{IsAnswerInRange, IsJoins, IsStage, joins_text, own_line, stage_line, told}
use Rattle.wf_rejoin.specs.Lines.{AreAll, ReadsLines, lines_of}
use Rattle.wf_rejoin.specs.ReplacementsText.{IsReplacementInRange}
use Rattle.wf_rejoin.specs.declared.answer.Answer.{Answer}
use Rattle.wf_rejoin.specs.declared.fault.JoiningFault.{JoiningFault}
use Rattle.wf_rejoin.specs.declared.joining.Joining.{Joining}
use Rattle.wf_rejoin.specs.declared.joining.Stage.{Stage}
use Rattle.wf_rejoin.specs.declared.joining.Stage.TheVariants.{Unasked, Agreed, Answered}
use Rattle.wf_rejoin.specs.declared.replacement.Replacement.{Replacement}
use Rattle.wf_rejoin.proofs.Entries.{same_replacement}
use Rattle.wf_rejoin.proofs.Lines as lines

-- ---- one line is written

pub own_parts : (t0 t1 t2 t3 t4 t5 : List ℕ) (node nodes : ℕ) (r : Replacement) → t1 ≡ t0 ++ number_then (codes "node ") node [] → t2 ≡ t1 ++ number_then (codes " of ") nodes [] →
    t3 ≡ t2 ++ number_then (codes " count ") r.count [] → t4 ≡ t3 ++ mark_then (codes " mark ") r.mark [] → t5 ≡ t4 ++ codes "\n" → t5 ≡ t0 ++ own_line node nodes r []
unfolding own_line
own_parts t0 t1 t2 t3 t4 t5 node nodes r e1 e2 e3 e4 e5 =
    e5 ∙ digits_then t3 t4 (codes " mark ") (encode_lower r.mark) (codes "\n") e4
    ∙ digits_then t2 t3 (codes " count ") (number_digits r.count) _ e3
    ∙ digits_then t1 t2 (codes " of ") (number_digits nodes) _ e2
    ∙ digits_then t0 t1 (codes "node ") (number_digits node) _ e1

own_before : (node nodes : ℕ) (r : Replacement) (rest : List ℕ) → own_line node nodes r [] ++ rest ≡ own_line node nodes r rest
unfolding own_line
own_before node nodes r rest =
    append_assoc (codes "node ") _ rest ∙ ap (λ (l : List ℕ). codes "node " ++ l) (append_assoc (number_digits node) _ rest
    ∙ ap (λ (l : List ℕ). number_digits node ++ l) (append_assoc (codes " of ") _ rest
    ∙ ap (λ (l : List ℕ). codes " of " ++ l) (append_assoc (number_digits nodes) _ rest
    ∙ ap (λ (l : List ℕ). number_digits nodes ++ l) (append_assoc (codes " count ") _ rest
    ∙ ap (λ (l : List ℕ). codes " count " ++ l) (append_assoc (number_digits r.count) _ rest
    ∙ ap (λ (l : List ℕ). number_digits r.count ++ l) (append_assoc (codes " mark ") _ rest
    ∙ ap (λ (l : List ℕ). codes " mark " ++ l) (append_assoc (encode_lower r.mark) _ rest)))))))

pub answer_parts : (t0 t1 t2 t3 : List ℕ) (a : Answer) → t1 ≡ t0 ++ number_then (codes "published ") a.published [] → t2 ≡ t1 ++ number_then (codes " voted ") a.voted [] →
    t3 ≡ t2 ++ codes "\n" → t3 ≡ t0 ++ stage_line (Answered a) []
unfolding stage_line
answer_parts t0 t1 t2 t3 a e1 e2 e3 =
    e3 ∙ digits_then t1 t2 (codes " voted ") (number_digits a.voted) (codes "\n") e2
    ∙ digits_then t0 t1 (codes "published ") (number_digits a.published) _ e1

pub stage_before : (x : Stage) (rest : List ℕ) → stage_line x [] ++ rest ≡ stage_line x rest
unfolding stage_line
stage_before Unasked rest = refl
stage_before Agreed rest = refl
stage_before (Answered a) rest =
    append_assoc (codes "published ") _ rest ∙ ap (λ (l : List ℕ). codes "published " ++ l) (append_assoc (number_digits a.published) _ rest
    ∙ ap (λ (l : List ℕ). number_digits a.published ++ l) (append_assoc (codes " voted ") _ rest
    ∙ ap (λ (l : List ℕ). codes " voted " ++ l) (append_assoc (number_digits a.voted) _ rest)))

-- the first line, that of the folder itself, and the others
pub whole_text : (t1 t2 t3 first : List ℕ) (n ns node nodes : ℕ) (r : Replacement) (stages : List Stage) → t1 ≡ first → t2 ≡ t1 ++ own_line n ns r [] → n ≡ node → ns ≡ nodes → t3 ≡ t2 ++ lines_of stage_line stages →
    t3 ≡ first ++ own_line node nodes r (lines_of stage_line stages)
whole_text t1 t2 t3 first n ns node nodes r stages e1 of_own same_node same_nodes e3 =
    let e2 : t2 ≡ t1 ++ own_line node nodes r [] = of_own ∙ ap (λ (k : ℕ). t1 ++ own_line k ns r []) same_node ∙ ap (λ (k : ℕ). t1 ++ own_line node k r []) same_nodes in
    e3 ∙ ap (λ (l : List ℕ). l ++ lines_of stage_line stages) (e2 ∙ ap (λ (l : List ℕ). l ++ own_line node nodes r []) e1) ∙ append_assoc first _ (lines_of stage_line stages)
    ∙ ap (λ (l : List ℕ). first ++ l) (own_before node nodes r (lines_of stage_line stages))

-- ---- one line is read

pub is_own : (bytes r1 r2 r3 r4 rest mark : List ℕ) (n ns count node nodes : ℕ) → bytes ≡ number_then (codes "node ") n r1 → r1 ≡ number_then (codes " of ") ns r2 →
    r2 ≡ number_then (codes " count ") count r3 → r3 ≡ mark_then (codes " mark ") mark r4 → r4 ≡ codes "\n" ++ rest → node ≡ n → nodes ≡ ns →
    bytes ≡ own_line node nodes (record { count = count; mark = mark }) rest
unfolding own_line
is_own bytes r1 r2 r3 r4 rest mark n ns count node nodes e1 e2 e3 e4 e5 same_node same_nodes =
    e1 ∙ ap (number_then (codes "node ") n) (e2 ∙ ap (number_then (codes " of ") ns) (e3 ∙ ap (number_then (codes " count ") count) (e4 ∙ ap (mark_then (codes " mark ") mark) e5)))
    ∙ ap (λ (k : ℕ). number_then (codes "node ") k (number_then (codes " of ") ns (number_then (codes " count ") count (mark_then (codes " mark ") mark (codes "\n" ++ rest))))) (sym same_node)
    ∙ ap (λ (k : ℕ). number_then (codes "node ") node (number_then (codes " of ") k (number_then (codes " count ") count (mark_then (codes " mark ") mark (codes "\n" ++ rest))))) (sym same_nodes)

pub is_answered : (bytes r1 r2 rest : List ℕ) (published voted : ℕ) (a : Answer) → bytes ≡ number_then (codes "published ") published r1 → r1 ≡ number_then (codes " voted ") voted r2 → r2 ≡ codes "\n" ++ rest →
    a.published ≡ published → a.voted ≡ voted → bytes ≡ stage_line (Answered a) rest
unfolding stage_line
is_answered bytes r1 r2 rest published voted a e1 e2 e3 same_published same_voted =
    e1 ∙ ap (number_then (codes "published ") published) (e2 ∙ ap (number_then (codes " voted ") voted) e3)
    ∙ ap (λ (k : ℕ). number_then (codes "published ") k (number_then (codes " voted ") voted (codes "\n" ++ rest))) (sym same_published)
    ∙ ap (λ (k : ℕ). number_then (codes "published ") a.published (number_then (codes " voted ") k (codes "\n" ++ rest))) (sym same_voted)

pub not_a_stage : (bytes : List ℕ) → ((rest : List ℕ) → bytes ≢ codes "nothing\n" ++ rest) → ((rest : List ℕ) → bytes ≢ codes "agreed\n" ++ rest) →
    ((a : Answer) (rest : List ℕ) → IsAnswerInRange a → bytes ≢ stage_line (Answered a) rest) → (x : Stage) (rest : List ℕ) → IsStage x → bytes ≢ stage_line x rest
unfolding stage_line
not_a_stage bytes nothing agreed none Unasked rest is e = nothing rest e
not_a_stage bytes nothing agreed none Agreed rest is e = agreed rest e
not_a_stage bytes nothing agreed none (Answered a) rest is e = none a rest is e

-- ---- a line, and what follows it, are determined by the bytes

pub both_own : (n m ns ms : ℕ) (p q : Replacement) (r s : List ℕ) → n < 2 ^ 32 → m < 2 ^ 32 → ns < 2 ^ 32 → ms < 2 ^ 32 → IsReplacementInRange p → IsReplacementInRange q →
    own_line n ns p r ≡ own_line m ms q s → (n ≡ m) × (ns ≡ ms) × (p ≡ q) × (r ≡ s)
unfolding own_line
both_own n m ns ms p q r s fits_n fits_m fits_ns fits_ms of_p of_q e =
    let node = both_numbers (codes "node ") n m _ _ fits_n fits_m e in
    let nodes = both_numbers (codes " of ") ns ms _ _ fits_ns fits_ms node.1 in
    let count = both_numbers (codes " count ") p.count q.count _ _ of_p.fits of_q.fits nodes.1 in
    let mark = both_marks (codes " mark ") p.mark q.mark _ _ of_p.size of_q.size of_p.bytes of_q.bytes count.1 in
    (node.0, nodes.0, same_replacement p q count.0 mark.0, append_cancel_left (codes "\n") r s mark.1)

same_answer : (a b : Answer) → a.published ≡ b.published → a.voted ≡ b.voted → a ≡ b
same_answer a b published voted =
    let made : ℕ → ℕ → Answer = λ p v. record { published = p; voted = v } in
    ap (λ (p : ℕ). made p a.voted) published ∙ ap (λ (v : ℕ). made b.published v) voted

both_answered : (a b : Answer) (r s : List ℕ) → IsAnswerInRange a → IsAnswerInRange b → stage_line (Answered a) r ≡ stage_line (Answered b) s → (a ≡ b) × (r ≡ s)
unfolding stage_line
both_answered a b r s of_a of_b e =
    let published = both_numbers (codes "published ") a.published b.published _ _ (omega (arith, of_a.published)) (omega (arith, of_b.published)) e in
    let voted = both_numbers (codes " voted ") a.voted b.voted _ _ (omega (arith, of_a.voted)) (omega (arith, of_b.voted)) published.1 in
    (same_answer a b published.0 voted.0, append_cancel_left (codes "\n") r s voted.1)

abbrev letter_of : Stage → ℕ
letter_of Unasked = 110
letter_of Agreed = 97
letter_of (Answered a) = 112

first_letter : (x : Stage) (rest : List ℕ) → get_or (stage_line x rest) 0 0 ≡ letter_of x
unfolding stage_line
first_letter Unasked rest = refl
first_letter Agreed rest = refl
first_letter (Answered a) rest = refl

same_letter : (x y : Stage) (r s : List ℕ) → stage_line x r ≡ stage_line y s → letter_of x ≡ letter_of y
same_letter x y r s e = sym (first_letter x r) ∙ ap (λ (l : List ℕ). get_or l 0 0) e ∙ first_letter y s

nothing_more : (r s : List ℕ) → stage_line Unasked r ≡ stage_line Unasked s → r ≡ s
unfolding stage_line
nothing_more r s e = append_cancel_left (codes "nothing\n") r s e

agreed_more : (r s : List ℕ) → stage_line Agreed r ≡ stage_line Agreed s → r ≡ s
unfolding stage_line
agreed_more r s e = append_cancel_left (codes "agreed\n") r s e

pub both_stages : (x y : Stage) (r s : List ℕ) → IsStage x → IsStage y → stage_line x r ≡ stage_line y s → (x ≡ y) × (r ≡ s)
both_stages Unasked Unasked r s of_x of_y e = (refl, nothing_more r s e)
both_stages Agreed Agreed r s of_x of_y e = (refl, agreed_more r s e)
both_stages (Answered a) (Answered b) r s of_x of_y e =
    let parts = both_answered a b r s of_x of_y e in (ap (λ (z : Answer). Answered z) parts.0, parts.1)
both_stages Unasked Agreed r s of_x of_y e = absurd (omega (arith, same_letter Unasked Agreed r s e))
both_stages Unasked (Answered b) r s of_x of_y e = absurd (omega (arith, same_letter Unasked (Answered b) r s e))
both_stages Agreed Unasked r s of_x of_y e = absurd (omega (arith, same_letter Agreed Unasked r s e))
both_stages Agreed (Answered b) r s of_x of_y e = absurd (omega (arith, same_letter Agreed (Answered b) r s e))
both_stages (Answered a) Unasked r s of_x of_y e = absurd (omega (arith, same_letter (Answered a) Unasked r s e))
both_stages (Answered a) Agreed r s of_x of_y e = absurd (omega (arith, same_letter (Answered a) Agreed r s e))

-- ---- all lines

pub no_stage : (bytes : List ℕ) (stages : List Stage) → length stages ≡ 0 → length bytes ≡ 0 → ReadsLines {E = JoiningFault} IsStage stage_line bytes (length stages) stages (Ok tt)
no_stage bytes stages none end = lines.no_line JoiningFault IsStage stage_line bytes stages none end

pub one_stage : (bytes rest : List ℕ) (stage : Stage) (count : ℕ) (new : List Stage) (result : Result Unit JoiningFault) → IsStage stage →
    bytes ≡ stage_line stage rest → ReadsLines IsStage stage_line rest count new result → ReadsLines IsStage stage_line bytes (suc count) (stage ∷ new) result
one_stage bytes rest stage count new result is e reads = lines.one_line IsStage stage_line both_stages bytes rest stage count new result is e reads

-- ---- the whole text

pub is_text : (bytes rest others : List ℕ) (node nodes : ℕ) (r : Replacement) (stages : List Stage) → bytes ≡ codes "wfarm joins 1\n" ++ rest → rest ≡ own_line node nodes r others →
    ReadsLines {E = JoiningFault} IsStage stage_line others 64 stages (Ok tt) → bytes ≡ codes "wfarm joins 1\n" ++ own_line node nodes r (lines_of stage_line stages)
is_text bytes rest others node nodes r stages marked own (size, are, e) =
    marked ∙ ap (λ (l : List ℕ). codes "wfarm joins 1\n" ++ l) (own ∙ ap (own_line node nodes r) e)

pub are_joins : (others : List ℕ) (node nodes : ℕ) (r : Replacement) (stages : List Stage) → IsNumberOfNodes nodes → node < nodes → IsReplacementInRange r →
    ReadsLines {E = JoiningFault} IsStage stage_line others 64 stages (Ok tt) → IsJoins (told node nodes r stages)
are_joins others node nodes r stages farm below is (size, are, e) =
    record { joins = record { of_farm = farm; member = below; stages = size }; replacement = is; each = are }

own_parts_of : (bytes rest others : List ℕ) (node nodes : ℕ) (r : Replacement) (j : Joining) → bytes ≡ codes "wfarm joins 1\n" ++ rest → rest ≡ own_line node nodes r others →
    IsNumberOfNodes nodes → node < nodes → IsReplacementInRange r → IsJoins j → bytes ≡ joins_text j →
    (node ≡ j.node) × (nodes ≡ j.nodes) × (r ≡ j.replacement) × (others ≡ lines_of stage_line j.stages)
own_parts_of bytes rest others node nodes r j marked own farm below is joins same =
    both_own node j.node nodes j.nodes r j.replacement others (lines_of stage_line j.stages) (omega (arith, farm.1, below)) (omega (arith, joins.joins.of_farm.1, joins.joins.member))
    (omega (arith, farm.1)) (omega (arith, joins.joins.of_farm.1)) is joins.replacement
    (sym own ∙ append_cancel_left (codes "wfarm joins 1\n") rest (own_line j.node j.nodes j.replacement (lines_of stage_line j.stages)) (sym marked ∙ same))

same_told : (node nodes : ℕ) (r : Replacement) (stages : List Stage) (j : Joining) → node ≡ j.node → nodes ≡ j.nodes → r ≡ j.replacement → stages ≡ j.stages → told node nodes r stages ≡ j
same_told node nodes r stages j e1 e2 e3 e4 =
    ap (λ (k : ℕ). told k nodes r stages) e1 ∙ ap (λ (k : ℕ). told j.node k r stages) e2 ∙ ap (λ (k : Replacement). told j.node j.nodes k stages) e3 ∙ ap (λ (k : List Stage). told j.node j.nodes j.replacement k) e4

pub only_this : (bytes rest others : List ℕ) (node nodes : ℕ) (r : Replacement) (stages : List Stage) → bytes ≡ codes "wfarm joins 1\n" ++ rest → rest ≡ own_line node nodes r others →
    IsNumberOfNodes nodes → node < nodes → IsReplacementInRange r → ReadsLines {E = JoiningFault} IsStage stage_line others 64 stages (Ok tt) →
    (k : Joining) → k ≡ told node nodes r stages → (j : Joining) → IsJoins j → bytes ≡ joins_text j → ◌≡◌ {A = Result Joining JoiningFault} (Ok k) (Ok j)
only_this bytes rest others node nodes r stages marked own farm below is (size, are, e) k is_told j joins same =
    let parts = own_parts_of bytes rest others node nodes r j marked own farm below is joins same in
    let all : stages ≡ j.stages = lines.same_lines IsStage stage_line both_stages stages j.stages (size ∙ sym joins.joins.stages) are joins.each (sym e ∙ parts.3) in
    ap (λ (x : Joining). Ok x) (is_told ∙ same_told node nodes r stages j parts.0 parts.1 parts.2 all)

pub none_such : (bytes rest others : List ℕ) (node nodes : ℕ) (r : Replacement) → bytes ≡ codes "wfarm joins 1\n" ++ rest → rest ≡ own_line node nodes r others →
    IsNumberOfNodes nodes → node < nodes → IsReplacementInRange r → ((stages : List Stage) → length stages ≡ 64 → AreAll IsStage stages → others ≢ lines_of stage_line stages) →
    (j : Joining) → IsJoins j → bytes ≢ joins_text j
none_such bytes rest others node nodes r marked own farm below is none j joins same =
    let parts = own_parts_of bytes rest others node nodes r j marked own farm below is joins same in
    none j.stages joins.joins.stages joins.each parts.3

pub no_own : (bytes rest : List ℕ) → bytes ≡ codes "wfarm joins 1\n" ++ rest →
    ((node nodes : ℕ) (r : Replacement) (others : List ℕ) → IsNumberOfNodes nodes → node < nodes → IsReplacementInRange r → rest ≢ own_line node nodes r others) →
    (j : Joining) → IsJoins j → bytes ≢ joins_text j
no_own bytes rest marked none j joins same =
    none j.node j.nodes j.replacement (lines_of stage_line j.stages) joins.joins.of_farm joins.joins.member joins.replacement
    (append_cancel_left (codes "wfarm joins 1\n") rest (own_line j.node j.nodes j.replacement (lines_of stage_line j.stages)) (sym marked ∙ same))

-- ---- all lines are written

pub one_stage_more : (old mid new : List ℕ) (xs rest : List Stage) (x : Stage) → xs ≡ x ∷ rest → mid ≡ old ++ stage_line x [] → new ≡ mid ++ lines_of stage_line rest → new ≡ old ++ lines_of stage_line xs
one_stage_more old mid new xs rest x is of_mid of_new = lines.one_line_more stage_line stage_before old mid new xs rest x is of_mid of_new

pub one_more_is_stage : (xs rest : List Stage) (x : Stage) → xs ≡ x ∷ rest → IsStage x → AreAll IsStage rest → AreAll IsStage xs
one_more_is_stage xs rest x is first others = lines.one_more IsStage xs rest x is first others

pub no_more_stages : (old : List ℕ) (xs : List Stage) → length xs ≡ 0 → old ≡ old ++ lines_of stage_line xs
no_more_stages old xs none = lines.no_line_more stage_line old xs none

pub none_are_stages : (xs : List Stage) → length xs ≡ 0 → AreAll IsStage xs
none_are_stages xs none = lines.none_are IsStage xs none
