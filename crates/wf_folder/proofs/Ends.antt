-- The lines of a node's file after its numbers, as they are written and read.
use Rattle.std.proofs.Common.{◌≡◌, ◌≢◌, ◌∙◌, ℕ, List, [], ◌++◌, length, append_assoc, append-nil, get_or, refl, sym, ap, arith}
use Rattle.std.specs.Prelude.{Option, Some, None, codes}
use Rattle.std.proofs.lemmas.List.{append_cancel_left}
use Rattle.hex.specs.Hex.{IsBytes, encode_lower}
use Rattle.wf_folder.specs.FarmFile.{first_line, mark_line}
use Rattle.wf_folder.specs.NodeFile.{farm_and_mark, farm_line, known_then, node_end, node_first_line, suspended_then}
use Rattle.wf_folder.specs.Number.{number_digits}
use Rattle.wf_folder.specs.Reach.{IsKnown}
use Rattle.wf_folder.specs.Name.{IsFarmName}
use Rattle.wf_folder.specs.Suspension.{IsSuspension, IsSuspensionOrNone}
use Rattle.wf_folder.specs.Words.{mark_then, number_then, reach_then}
use Rattle.wf_folder.specs.declared.reach.Known.{Known}
use Rattle.wf_folder.specs.declared.suspension.Suspension.{Suspension}
use Rattle.wf_folder.proofs.Numbers.{same_fronts}
use Rattle.wf_folder.specs.NumberTheorems.{digits_of_digest}
use Rattle.wf_folder.proofs.WordLemmas.{after_mark, after_number, both_reaches, digits_then, reach_after, reach_before}

-- ---- what is written

known_before : (k : Known) (a b : List ℕ) → known_then k a ++ b ≡ known_then k (a ++ b)
unfolding known_then
known_before k a b =
    ap (λ (l : List ℕ). codes "\nknown" ++ l) (reach_before k.reach (mark_then (codes " digest ") k.digest a) b
    ∙ ap (reach_then k.reach) (append_assoc (codes " digest ") (encode_lower k.digest ++ a) b ∙ ap (λ (l : List ℕ). codes " digest " ++ l) (append_assoc (encode_lower k.digest) a b)))

known_after : (old new : List ℕ) (k : Known) (rest : List ℕ) → new ≡ old ++ known_then k [] → new ++ rest ≡ old ++ known_then k rest
known_after old new k rest e =
    ap (λ (l : List ℕ). l ++ rest) e ∙ append_assoc old (known_then k []) rest ∙ ap (λ (l : List ℕ). old ++ l) (known_before k [] rest)

suspended_before : (s : Option Suspension) (a b : List ℕ) → suspended_then s a ++ b ≡ suspended_then s (a ++ b)
unfolding suspended_then
suspended_before None a b = refl
suspended_before (Some s) a b =
    append_assoc (codes "\nsuspended by ") _ b ∙ ap (λ (l : List ℕ). codes "\nsuspended by " ++ l) (append_assoc (number_digits s.accuser) _ b
    ∙ ap (λ (l : List ℕ). number_digits s.accuser ++ l) (append_assoc (codes " at ") _ b
    ∙ ap (λ (l : List ℕ). codes " at " ++ l) (append_assoc (encode_lower s.address.ip) _ b
    ∙ ap (λ (l : List ℕ). encode_lower s.address.ip ++ l) (append_assoc (codes " port ") _ b
    ∙ ap (λ (l : List ℕ). codes " port " ++ l) (append_assoc (number_digits s.address.port) _ b
    ∙ ap (λ (l : List ℕ). number_digits s.address.port ++ l) (append_assoc (codes " cause ") _ b
    ∙ ap (λ (l : List ℕ). codes " cause " ++ l) (append_assoc (number_digits s.cause) a b)))))))

suspended_after : (old new : List ℕ) (s : Option Suspension) (rest : List ℕ) → new ≡ old ++ suspended_then s [] → new ++ rest ≡ old ++ suspended_then s rest
suspended_after old new s rest e =
    ap (λ (l : List ℕ). l ++ rest) e ∙ append_assoc old (suspended_then s []) rest ∙ ap (λ (l : List ℕ). old ++ l) (suspended_before s [] rest)

pub known_parts : (t0 t1 t2 t3 t4 : List ℕ) (k : Known) → t1 ≡ t0 ++ codes "\nknown" → t2 ≡ t1 ++ reach_then k.reach [] → t3 ≡ t2 ++ codes " digest " → t4 ≡ t3 ++ encode_lower k.digest →
    t4 ≡ t0 ++ known_then k []
unfolding known_then
known_parts t0 t1 t2 t3 t4 k e1 e2 e3 e4 =
    e4 ∙ ap (λ (l : List ℕ). l ++ encode_lower k.digest) e3 ∙ append_assoc t2 (codes " digest ") (encode_lower k.digest)
    ∙ reach_after t1 t2 k.reach (codes " digest " ++ encode_lower k.digest) e2
    ∙ ap (λ (l : List ℕ). t1 ++ reach_then k.reach (codes " digest " ++ l)) (sym (append-nil (encode_lower k.digest)))
    ∙ ap (λ (l : List ℕ). l ++ reach_then k.reach (mark_then (codes " digest ") k.digest [])) e1 ∙ append_assoc t0 (codes "\nknown") _

pub suspension_parts : (t0 t1 t2 t3 t4 : List ℕ) (s : Suspension) → t1 ≡ t0 ++ number_then (codes "\nsuspended by ") s.accuser [] → t2 ≡ t1 ++ mark_then (codes " at ") s.address.ip [] →
    t3 ≡ t2 ++ number_then (codes " port ") s.address.port [] → t4 ≡ t3 ++ number_then (codes " cause ") s.cause [] → t4 ≡ t0 ++ suspended_then (Some s) []
unfolding suspended_then
suspension_parts t0 t1 t2 t3 t4 s e1 e2 e3 e4 =
    e4 ∙ digits_then t2 t3 (codes " port ") (number_digits s.address.port) (number_then (codes " cause ") s.cause []) e3
    ∙ digits_then t1 t2 (codes " at ") (encode_lower s.address.ip) _ e2
    ∙ digits_then t0 t1 (codes "\nsuspended by ") (number_digits s.accuser) _ e1

pub end_parts : (t0 t1 t2 t3 t4 : List ℕ) (k : Known) (s : Option Suspension) (name mark : List ℕ) → t1 ≡ t0 ++ known_then k [] → t2 ≡ t1 ++ suspended_then s [] → t3 ≡ t2 ++ farm_line name →
    t4 ≡ t3 ++ mark_line mark → t4 ≡ t0 ++ known_then k (node_end s name mark)
end_parts t0 t1 t2 t3 t4 k s name mark e1 e2 e3 e4 =
    e4 ∙ ap (λ (l : List ℕ). l ++ mark_line mark) e3 ∙ append_assoc t2 (farm_line name) (mark_line mark)
    ∙ suspended_after t1 t2 s (farm_line name ++ mark_line mark) e2
    ∙ known_after t0 t1 k (node_end s name mark) e1

-- ---- what is read

pub is_known_line : (b r1 r2 r3 rest : List ℕ) (k : Known) → b ≡ codes "\nknown" ++ r1 → r1 ≡ reach_then k.reach r2 → r2 ≡ codes " digest " ++ r3 → r3 ≡ encode_lower k.digest ++ rest →
    b ≡ known_then k rest
unfolding known_then
is_known_line b r1 r2 r3 rest k e1 e2 e3 e4 =
    e1 ∙ ap (λ (l : List ℕ). codes "\nknown" ++ l) (e2 ∙ ap (reach_then k.reach) (e3 ∙ ap (λ (l : List ℕ). codes " digest " ++ l) e4))

pub after_known : (k h : Known) (r s : List ℕ) → IsKnown k → IsKnown h → known_then k r ≡ known_then h s → r ≡ s
unfolding known_then
after_known k h r s of_k of_h e =
    let reaches = both_reaches k.reach h.reach _ _ of_k.of_reach of_h.of_reach (append_cancel_left (codes "\nknown") _ _ e) in
    let digests = append_cancel_left (codes " digest ") (encode_lower k.digest ++ r) (encode_lower h.digest ++ s) reaches.1 in
    (same_fronts (encode_lower k.digest) (encode_lower h.digest) r s (digits_of_digest k.digest of_k.size ∙ sym (digits_of_digest h.digest of_h.size)) digests).1

pub is_accuser : (b r1 r2 r3 rest : List ℕ) (accuser port cause : ℕ) (ip : List ℕ) (s : Suspension) → b ≡ number_then (codes "\nsuspended by ") accuser r1 → r1 ≡ mark_then (codes " at ") ip r2 →
    r2 ≡ number_then (codes " port ") port r3 → r3 ≡ number_then (codes " cause ") cause rest → s.accuser ≡ accuser → s.address.ip ≡ ip → s.address.port ≡ port → s.cause ≡ cause →
    b ≡ suspended_then (Some s) rest
unfolding suspended_then
is_accuser b r1 r2 r3 rest accuser port cause ip s e1 e2 e3 e4 by at to of =
    e1 ∙ ap (number_then (codes "\nsuspended by ") accuser) (e2 ∙ ap (mark_then (codes " at ") ip) (e3 ∙ ap (number_then (codes " port ") port) e4))
    ∙ ap (λ (n : ℕ). number_then (codes "\nsuspended by ") n (mark_then (codes " at ") ip (number_then (codes " port ") port (number_then (codes " cause ") cause rest)))) (sym by)
    ∙ ap (λ (l : List ℕ). number_then (codes "\nsuspended by ") s.accuser (mark_then (codes " at ") l (number_then (codes " port ") port (number_then (codes " cause ") cause rest)))) (sym at)
    ∙ ap (λ (n : ℕ). number_then (codes "\nsuspended by ") s.accuser (mark_then (codes " at ") s.address.ip (number_then (codes " port ") n (number_then (codes " cause ") cause rest)))) (sym to)
    ∙ ap (λ (n : ℕ). number_then (codes "\nsuspended by ") s.accuser (mark_then (codes " at ") s.address.ip (number_then (codes " port ") s.address.port (number_then (codes " cause ") n rest)))) (sym of)

pub after_suspended : (a b : Suspension) (r s : List ℕ) → IsSuspension a → IsSuspension b → suspended_then (Some a) r ≡ suspended_then (Some b) s → r ≡ s
unfolding suspended_then
after_suspended a b r s of_a of_b e =
    after_number (codes " cause ") a.cause b.cause r s (after_number (codes " port ") a.address.port b.address.port _ _
    (after_mark (codes " at ") a.address.ip b.address.ip _ _ of_a.size of_b.size (after_number (codes "\nsuspended by ") a.accuser b.accuser _ _ e)))

-- who suspended a node isn't its farm's name
pub not_a_farm : (bytes name mark rest : List ℕ) (s : Suspension) → bytes ≡ suspended_then (Some s) rest → bytes ≡ farm_and_mark name mark → ⊥
unfolding suspended_then
not_a_farm bytes name mark rest s suspended farm =
    let letters : 115 ≡ 102 = ap (λ (l : List ℕ). get_or l 1 0) (sym suspended ∙ farm) in
    omega (arith, letters)

-- bytes that don't end so, by who suspended the node, are of no file that ends so
pub no_end : (bytes rest : List ℕ) (found : Option Suspension) → IsSuspensionOrNone found → bytes ≡ suspended_then found rest →
    (found ≡ None → (s : Suspension) (r : List ℕ) → IsSuspension s → bytes ≢ suspended_then (Some s) r) →
    ((name mark : List ℕ) → IsFarmName name → IsBytes mark → length mark ≡ 16 → rest ≢ farm_and_mark name mark) →
    (s : Option Suspension) (name mark : List ℕ) → IsSuspensionOrNone s → IsFarmName name → IsBytes mark → length mark ≡ 16 → bytes ≢ node_end s name mark
unfolding suspended_then
no_end bytes rest None is e other none None name mark of_s farm are size same = none name mark farm are size (sym e ∙ same)
no_end bytes rest None is e other none (Some s) name mark of_s farm are size same = other refl s (farm_and_mark name mark) of_s same
no_end bytes rest (Some f) is e other none None name mark of_s farm are size same = not_a_farm bytes name mark rest f e same
no_end bytes rest (Some f) is e other none (Some s) name mark of_s farm are size same =
    none name mark farm are size (after_suspended f s rest (farm_and_mark name mark) is of_s (sym e ∙ same))

pub is_end : (bytes rest name mark : List ℕ) (s : Option Suspension) → bytes ≡ suspended_then s rest → rest ≡ farm_and_mark name mark → bytes ≡ node_end s name mark
is_end bytes rest name mark s e1 e2 = e1 ∙ ap (suspended_then s) e2

-- the first lines of the versions differ
pub not_both : (bytes a b : List ℕ) → bytes ≡ node_first_line ++ a → bytes ≡ first_line ++ b → ⊥
not_both bytes a b now before =
    let numbers : 50 ≡ 49 = ap (λ (l : List ℕ). get_or l 13 0) (sym now ∙ before) in
    omega (arith, numbers)
