-- The lines of what was heard, as they are written and read.
use Rattle.std.proofs.Common.{◌≡◌, ◌≢◌, ◌∙◌, ℕ, suc, ◌<◌, ◌≤◌, ◌-◌, ◌^◌, inl, inr, List, [], ◌∷◌, ◌++◌, length, take, drop, take_all, append_assoc, append-nil, get_or, Result, Ok, Err, refl, sym, ap, subst, arith}
use Rattle.std.specs.Prelude.{Option, Some, None, codes, slice_index_or}
use Rattle.std.proofs.lemmas.List.{append_cancel_left}
use Rattle.hex.specs.Hex.{IsBytes, encode_lower}
use Rattle.wf_folder.specs.Number.{number_digits}
use Rattle.wf_folder.specs.Reach.{IsReach}
use Rattle.wf_folder.specs.Words.{mark_then, number_then, reach_then}
use Rattle.wf_folder.specs.declared.reach.Reach.{Reach}
use Rattle.wf_folder.proofs.WordLemmas.{digits_then, reach_after, reach_before}
use Rattle.wf_peer.specs.GreetingReply.{rejection_byte}
use Rattle.wf_peer.specs.PeerProgressText.{ArePeerProgress, IsPeerProgress, IsProgressTextOf, ReadsLines, accusation_then, line_then, lines_of}
use Rattle.wf_peer.specs.Progress.{reach_of}
use Rattle.wf_peer.specs.declared.fault.PeerProgressFault.{PeerProgressFault}
use Rattle.wf_peer.specs.declared.heard.Heard.{Heard}
use Rattle.wf_peer.specs.declared.rejection.PeerRejection.{PeerRejection}
use Rattle.wf_peer.proofs.Same.{both_lines, same_lines}

-- ---- what is written, part by part

accusation_before : (a : Option PeerRejection) (rest : List ℕ) → accusation_then a [] ++ rest ≡ accusation_then a rest
unfolding accusation_then
accusation_before None rest = refl
accusation_before (Some why) rest =
    append_assoc (codes " accused ") _ rest ∙ ap (λ (l : List ℕ). codes " accused " ++ l) (append_assoc (number_digits (rejection_byte why)) (codes "\n") rest)

pub two_parts : (t0 t1 t2 : List ℕ) (why : PeerRejection) → t1 ≡ t0 ++ number_then (codes " accused ") (rejection_byte why) [] → t2 ≡ t1 ++ codes "\n" → t2 ≡ t0 ++ accusation_then (Some why) []
unfolding accusation_then
two_parts t0 t1 t2 why e1 e2 = e2 ∙ digits_then t0 t1 (codes " accused ") (number_digits (rejection_byte why)) (codes "\n") e1

pub five_parts : (t0 t1 t2 t3 t4 t5 : List ℕ) (h : Heard) → t1 ≡ t0 ++ mark_then (codes "mark ") h.progress.mark [] → t2 ≡ t1 ++ number_then (codes " starts ") h.progress.starts [] →
    t3 ≡ t2 ++ mark_then (codes " life ") h.progress.life [] → t4 ≡ t3 ++ reach_then (reach_of h.progress) [] → t5 ≡ t4 ++ accusation_then h.accusation [] → t5 ≡ t0 ++ line_then (Some h) []
unfolding line_then
five_parts t0 t1 t2 t3 t4 t5 h e1 e2 e3 e4 e5 =
    e5 ∙ reach_after t3 t4 (reach_of h.progress) (accusation_then h.accusation []) e4
    ∙ digits_then t2 t3 (codes " life ") (encode_lower h.progress.life) _ e3
    ∙ digits_then t1 t2 (codes " starts ") (number_digits h.progress.starts) _ e2
    ∙ digits_then t0 t1 (codes "mark ") (encode_lower h.progress.mark) _ e1

pub peer_progress_parts : (h : Heard) → IsBytes h.progress.mark → length h.progress.mark ≡ 16 → h.progress.starts < 2 ^ 32 → IsBytes h.progress.life → length h.progress.life ≡ 16 → IsReach (reach_of h.progress) →
    IsPeerProgress (Some h)
peer_progress_parts h mark size starts life life_size reach =
    (record { mark = size; starts = starts; life = life_size; round = reach.of_round; promise = reach.of_promise; vote = reach.of_vote; published = reach.of_published }, mark, life)

-- ---- a line and those of the others

nothing_before : (rest : List ℕ) → line_then None [] ++ rest ≡ line_then None rest
unfolding line_then
nothing_before rest = refl

peer_progress_before : (h : Heard) (rest : List ℕ) → line_then (Some h) [] ++ rest ≡ line_then (Some h) rest
unfolding line_then
peer_progress_before h rest =
    append_assoc (codes "mark ") _ rest ∙ ap (λ (l : List ℕ). codes "mark " ++ l) (append_assoc (encode_lower h.progress.mark) _ rest
    ∙ ap (λ (l : List ℕ). encode_lower h.progress.mark ++ l) (append_assoc (codes " starts ") _ rest
    ∙ ap (λ (l : List ℕ). codes " starts " ++ l) (append_assoc (number_digits h.progress.starts) _ rest
    ∙ ap (λ (l : List ℕ). number_digits h.progress.starts ++ l) (append_assoc (codes " life ") _ rest
    ∙ ap (λ (l : List ℕ). codes " life " ++ l) (append_assoc (encode_lower h.progress.life) _ rest
    ∙ ap (λ (l : List ℕ). encode_lower h.progress.life ++ l) (reach_before (reach_of h.progress) (accusation_then h.accusation []) rest
    ∙ ap (reach_then (reach_of h.progress)) (accusation_before h.accusation rest)))))))

before_others : (node : Option Heard) (rest : List ℕ) → line_then node [] ++ rest ≡ line_then node rest
before_others None rest = nothing_before rest
before_others (Some p) rest = peer_progress_before p rest

range_rest : (rest : List (Option Heard)) → take (suc (length rest) - 1) rest ≡ rest
range_rest rest = take_all (suc (length rest) - 1) rest (omega arith)

front_line : (old mid new : List ℕ) (node : Option Heard) (rest : List (Option Heard)) → mid ≡ old ++ line_then node [] → new ≡ mid ++ lines_of rest → new ≡ old ++ lines_of (node ∷ rest)
unfolding lines_of
front_line old mid new node rest of_mid of_new =
    of_new ∙ ap (λ (l : List ℕ). l ++ lines_of rest) of_mid ∙ append_assoc old (line_then node []) (lines_of rest) ∙ ap (λ (l : List ℕ). old ++ l) (before_others node (lines_of rest))

pub one_line_more : (old mid new : List ℕ) (nodes : List (Option Heard)) (first : Option Heard) → 1 ≤ length nodes → first ≡ slice_index_or nodes 0 first → mid ≡ old ++ line_then first [] →
    new ≡ mid ++ lines_of (take (length nodes - 1) (drop 1 nodes)) → new ≡ old ++ lines_of nodes
one_line_more old mid new [] first some is of_mid of_new = absurd (omega (arith, some))
one_line_more old mid new (x ∷ rest) first some is of_mid of_new =
    front_line old mid new x rest (of_mid ∙ ap (λ (n : Option Heard). old ++ line_then n []) is) (of_new ∙ ap (λ (l : List (Option Heard)). mid ++ lines_of l) (range_rest rest))

pub one_more : (nodes : List (Option Heard)) (first : Option Heard) → 1 ≤ length nodes → first ≡ slice_index_or nodes 0 first → IsPeerProgress first → ArePeerProgress (take (length nodes - 1) (drop 1 nodes)) → ArePeerProgress nodes
unfolding ArePeerProgress
one_more [] first some is known are = tt
one_more (x ∷ rest) first some is known are = (subst IsPeerProgress is known, subst ArePeerProgress (range_rest rest) are)

pub no_line_more : (old : List ℕ) (nodes : List (Option Heard)) → length nodes < 1 → old ≡ old ++ lines_of nodes
unfolding lines_of
no_line_more old [] none = sym (append-nil old)
no_line_more old (x ∷ rest) none = absurd (omega (arith, none))

pub none_are : (nodes : List (Option Heard)) → length nodes < 1 → ArePeerProgress nodes
unfolding ArePeerProgress
none_are [] none = tt
none_are (x ∷ rest) none = absurd (omega (arith, none))

-- ---- what is read

pub no_accusation : (bytes : List ℕ) → ((rest : List ℕ) → bytes ≢ codes "\n" ++ rest) → ((why : PeerRejection) (rest : List ℕ) → bytes ≢ accusation_then (Some why) rest) →
    (a : Option PeerRejection) (rest : List ℕ) → bytes ≢ accusation_then a rest
unfolding accusation_then
no_accusation bytes nothing no_cause None rest e = nothing rest e
no_accusation bytes nothing no_cause (Some why) rest e = no_cause why rest e

pub is_accused : (bytes r1 rest : List ℕ) (number : ℕ) (why : PeerRejection) → bytes ≡ number_then (codes " accused ") number r1 → r1 ≡ codes "\n" ++ rest → number ≡ rejection_byte why → bytes ≡ accusation_then (Some why) rest
unfolding accusation_then
is_accused bytes r1 rest number why e1 e2 same = e1 ∙ ap (number_then (codes " accused ") number) e2 ∙ ap (λ (n : ℕ). number_then (codes " accused ") n (codes "\n" ++ rest)) same

pub no_peer_progress : (bytes : List ℕ) → ((rest : List ℕ) → bytes ≢ codes "nothing\n" ++ rest) → ((h : Heard) (rest : List ℕ) → IsPeerProgress (Some h) → bytes ≢ line_then (Some h) rest) →
    (x : Option Heard) (rest : List ℕ) → IsPeerProgress x → bytes ≢ line_then x rest
unfolding line_then
no_peer_progress bytes nothing no_progress None rest is e = nothing rest e
no_peer_progress bytes nothing no_progress (Some h) rest is e = no_progress h rest is e

pub is_line : (b r1 r2 r3 r4 rest : List ℕ) (h : Heard) (mark life : List ℕ) (starts : ℕ) (r : Reach) → b ≡ mark_then (codes "mark ") mark r1 → r1 ≡ number_then (codes " starts ") starts r2 →
    r2 ≡ mark_then (codes " life ") life r3 → r3 ≡ reach_then r r4 → r4 ≡ accusation_then h.accusation rest → h.progress.mark ≡ mark → h.progress.starts ≡ starts → h.progress.life ≡ life → reach_of h.progress ≡ r →
    b ≡ line_then (Some h) rest
unfolding line_then
is_line b r1 r2 r3 r4 rest h mark life starts r e1 e2 e3 e4 e5 same_mark same_starts same_life same_reach =
    e1 ∙ ap (mark_then (codes "mark ") mark) (e2 ∙ ap (number_then (codes " starts ") starts) (e3 ∙ ap (mark_then (codes " life ") life) (e4 ∙ ap (reach_then r) e5)))
    ∙ ap (λ (m : List ℕ). mark_then (codes "mark ") m (number_then (codes " starts ") starts (mark_then (codes " life ") life (reach_then r (accusation_then h.accusation rest))))) (sym same_mark)
    ∙ ap (λ (n : ℕ). mark_then (codes "mark ") h.progress.mark (number_then (codes " starts ") n (mark_then (codes " life ") life (reach_then r (accusation_then h.accusation rest))))) (sym same_starts)
    ∙ ap (λ (m : List ℕ). mark_then (codes "mark ") h.progress.mark (number_then (codes " starts ") h.progress.starts (mark_then (codes " life ") m (reach_then r (accusation_then h.accusation rest))))) (sym same_life)
    ∙ ap (λ (x : Reach). mark_then (codes "mark ") h.progress.mark (number_then (codes " starts ") h.progress.starts (mark_then (codes " life ") h.progress.life (reach_then x (accusation_then h.accusation rest))))) (sym same_reach)

-- no node has no line
no_bytes : (nodes : List (Option Heard)) → length nodes ≡ 0 → lines_of nodes ≡ []
unfolding lines_of
no_bytes [] count = refl
no_bytes (x ∷ nodes) count = absurd (omega (arith, count))

no_nodes : (nodes : List (Option Heard)) → length nodes ≡ 0 → ArePeerProgress nodes
unfolding ArePeerProgress
no_nodes [] count = tt
no_nodes (x ∷ nodes) count = absurd (omega (arith, count))

none_left : (bytes : List ℕ) → length bytes ≡ 0 → bytes ≡ []
none_left [] count = refl
none_left (x ∷ bytes) count = absurd (omega (arith, count))

pub no_line : (bytes : List ℕ) (nodes : List (Option Heard)) → length nodes ≡ 0 → length bytes ≡ 0 → ReadsLines bytes (length nodes) nodes (Ok tt)
no_line bytes nodes none end = (refl, no_nodes nodes none, none_left bytes end ∙ sym (no_bytes nodes none))

pub some_bytes : (bytes : List ℕ) (nodes : List (Option Heard)) → length nodes ≡ 0 → length bytes ≢ 0 →
    (others : List (Option Heard)) → length others ≡ length nodes → ArePeerProgress others → bytes ≢ lines_of others
some_bytes bytes nodes none some = λ others count are e. some (ap length (e ∙ no_bytes others (count ∙ none)))

-- bytes that no line begins
pub not_one_line : (bytes : List ℕ) (count : ℕ) → 0 < count → ((node : Option Heard) (rest : List ℕ) → IsPeerProgress node → bytes ≢ line_then node rest) →
    (others : List (Option Heard)) → length others ≡ count → ArePeerProgress others → bytes ≢ lines_of others
unfolding lines_of ArePeerProgress
not_one_line bytes count some none [] size are = absurd (omega (arith, size, some))
not_one_line bytes count some none (x ∷ more) size are = none x (lines_of more) are.0

-- a line, and what is read of the others
no_others : (bytes rest : List ℕ) (first : Option Heard) (count : ℕ) → IsPeerProgress first → bytes ≡ line_then first rest →
    ((more : List (Option Heard)) → length more ≡ count → ArePeerProgress more → rest ≢ lines_of more) →
    (others : List (Option Heard)) → length others ≡ suc count → ArePeerProgress others → bytes ≢ lines_of others
unfolding lines_of ArePeerProgress
no_others bytes rest first count is e none [] size are same = absurd (omega (arith, size))
no_others bytes rest first count is e none (x ∷ more) size are same =
    none more (omega (arith, size)) are.1 (both_lines first x rest (lines_of more) is are.0 (sym e ∙ same)).1

pub one_line : (bytes rest : List ℕ) (node : Option Heard) (count : ℕ) (new : List (Option Heard)) (result : Result Unit PeerProgressFault) → IsPeerProgress node →
    bytes ≡ line_then node rest → ReadsLines rest count new result → ReadsLines bytes (suc count) (node ∷ new) result
unfolding lines_of ArePeerProgress
one_line bytes rest node count new (Ok done) is e (size, are, same) = (ap suc size, (is, are), e ∙ ap (line_then node) same)
one_line bytes rest node count new (Err fault) is e none = no_others bytes rest node count is e none

-- ---- the whole text

not_both : (bytes a b : List ℕ) → bytes ≡ codes "wfarm heard 2\n" ++ a → bytes ≡ codes "wfarm heard 1\n" ++ b → ⊥
not_both bytes a b now before =
    let numbers : 50 ≡ 49 = ap (λ (l : List ℕ). get_or l 12 0) (sym now ∙ before) in
    omega (arith, numbers)

same_text : (line rest bytes : List ℕ) (known others : List (Option Heard)) → bytes ≡ line ++ rest → ReadsLines rest 64 known (Ok tt) → length others ≡ 64 → ArePeerProgress others → bytes ≡ line ++ lines_of others → known ≡ others
same_text line rest bytes known others marked (size, are, e) count are_others same =
    same_lines known others (size ∙ sym count) are are_others (sym e ∙ append_cancel_left line rest (lines_of others) (sym marked ∙ same))

pub only_these : (bytes rest : List ℕ) (known : List (Option Heard)) → bytes ≡ codes "wfarm heard 2\n" ++ rest → ReadsLines rest 64 known (Ok tt) →
    (others : List (Option Heard)) → length others ≡ 64 → ArePeerProgress others → IsProgressTextOf bytes others → ◌≡◌ {A = Result (List (Option Heard)) PeerProgressFault} (Ok known) (Ok others)
only_these bytes rest known marked read others count are text = elim text [
  | inl same ↦ ap (λ (l : List (Option Heard)). Ok l) (same_text (codes "wfarm heard 2\n") rest bytes known others marked read count are same)
  | inr old ↦ absurd (not_both bytes rest (lines_of others) marked old)
]

pub only_these_old : (bytes rest : List ℕ) (known : List (Option Heard)) → bytes ≡ codes "wfarm heard 1\n" ++ rest → ReadsLines rest 64 known (Ok tt) →
    (others : List (Option Heard)) → length others ≡ 64 → ArePeerProgress others → IsProgressTextOf bytes others → ◌≡◌ {A = Result (List (Option Heard)) PeerProgressFault} (Ok known) (Ok others)
only_these_old bytes rest known marked read others count are text = elim text [
  | inl same ↦ absurd (not_both bytes (lines_of others) rest same marked)
  | inr old ↦ ap (λ (l : List (Option Heard)). Ok l) (same_text (codes "wfarm heard 1\n") rest bytes known others marked read count are old)
]

pub is_text : (bytes rest : List ℕ) (known : List (Option Heard)) → bytes ≡ codes "wfarm heard 2\n" ++ rest → ReadsLines rest 64 known (Ok tt) → IsProgressTextOf bytes known
is_text bytes rest known marked (size, are, e) = inl (marked ∙ ap (λ (l : List ℕ). codes "wfarm heard 2\n" ++ l) e)

pub is_old_text : (bytes rest : List ℕ) (known : List (Option Heard)) → bytes ≡ codes "wfarm heard 1\n" ++ rest → ReadsLines rest 64 known (Ok tt) → IsProgressTextOf bytes known
is_old_text bytes rest known marked (size, are, e) = inr (marked ∙ ap (λ (l : List ℕ). codes "wfarm heard 1\n" ++ l) e)

pub not_lines : (bytes rest : List ℕ) (new : List (Option Heard)) (fault : PeerProgressFault) → bytes ≡ codes "wfarm heard 2\n" ++ rest → ReadsLines rest 64 new (Err fault) →
    (others : List (Option Heard)) → length others ≡ 64 → ArePeerProgress others → ¬ IsProgressTextOf bytes others
not_lines bytes rest new fault marked none others count are text = elim text [
  | inl same ↦ none others count are (append_cancel_left (codes "wfarm heard 2\n") rest (lines_of others) (sym marked ∙ same))
  | inr old ↦ not_both bytes rest (lines_of others) marked old
]

pub not_old_lines : (bytes rest : List ℕ) (new : List (Option Heard)) (fault : PeerProgressFault) → bytes ≡ codes "wfarm heard 1\n" ++ rest → ReadsLines rest 64 new (Err fault) →
    (others : List (Option Heard)) → length others ≡ 64 → ArePeerProgress others → ¬ IsProgressTextOf bytes others
not_old_lines bytes rest new fault marked none others count are text = elim text [
  | inl same ↦ not_both bytes (lines_of others) rest same marked
  | inr old ↦ none others count are (append_cancel_left (codes "wfarm heard 1\n") rest (lines_of others) (sym marked ∙ old))
]
