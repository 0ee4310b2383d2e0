-- What a line says, and what follows it, are determined by the bytes.
use Rattle.std.proofs.Common.{◌≡◌, ◌∙◌, ℕ, ◌<◌, ◌^◌, ◌==◌, cond, List, [], ◌∷◌, length, get_or, refl, sym, ap, arith}
use Rattle.std.specs.Prelude.{Option, Some, None, codes}
use Rattle.std.proofs.lemmas.List.{append_cancel_left}
use Rattle.wf_folder.proofs.WordLemmas.{both_marks, both_numbers, both_reaches}
use Rattle.wf_folder.specs.Reach.{IsReach}
use Rattle.wf_folder.specs.declared.reach.Reach.{Reach}
use Rattle.wf_peer.specs.Greeting.{IsProgress}
use Rattle.wf_peer.specs.GreetingReply.{rejection_byte}
use Rattle.wf_peer.specs.PeerProgressText.{ArePeerProgress, IsPeerProgress, accusation_then, line_then, lines_of}
use Rattle.wf_peer.specs.Progress.{reach_of}
use Rattle.wf_peer.specs.declared.heard.Heard.{Heard}
use Rattle.wf_peer.specs.declared.progress.Progress.{Progress}
use Rattle.wf_peer.specs.declared.rejection.PeerRejection.{PeerRejection}
use Rattle.wf_peer.specs.declared.rejection.PeerRejection.TheVariants as causes
use Rattle.wf_peer.proofs.Parts.{same_progress}

pub is_reach : (p : Progress) → IsProgress p → IsReach (reach_of p)
is_reach p is = record { of_round = is.round; of_promise = is.promise; of_vote = is.vote; of_published = is.published }

-- a number is that of one rejection
abbrev rejection_at : ℕ → PeerRejection
rejection_at n = cond (n == 1) causes.OtherFarm (cond (n == 2) causes.OtherNodes (cond (n == 3) causes.OtherNode (cond (n == 4) causes.OtherMark (cond (n == 5) causes.OlderStart (cond (n == 6) causes.OtherLife (cond (n == 7) causes.LowerRound (cond (n == 8) causes.LowerPromise (cond (n == 9) causes.LowerSequence (cond (n == 10) causes.OtherHistory (cond (n == 11) causes.LowerVote (cond (n == 12) causes.NotBegun (cond (n == 13) causes.NotTold causes.Retired))))))))))))

at_byte : (why : PeerRejection) → rejection_at (rejection_byte why) ≡ why
at_byte causes.OtherFarm = refl
at_byte causes.OtherNodes = refl
at_byte causes.OtherNode = refl
at_byte causes.OtherMark = refl
at_byte causes.OlderStart = refl
at_byte causes.OtherLife = refl
at_byte causes.LowerRound = refl
at_byte causes.LowerPromise = refl
at_byte causes.LowerSequence = refl
at_byte causes.OtherHistory = refl
at_byte causes.LowerVote = refl
at_byte causes.NotBegun = refl
at_byte causes.NotTold = refl
at_byte causes.Retired = refl

same_rejection : (a b : PeerRejection) → rejection_byte a ≡ rejection_byte b → a ≡ b
same_rejection a b e = sym (at_byte a) ∙ ap rejection_at e ∙ at_byte b

pub byte_fits : (why : PeerRejection) → rejection_byte why < 2 ^ 8
byte_fits causes.OtherFarm = omega arith
byte_fits causes.OtherNodes = omega arith
byte_fits causes.OtherNode = omega arith
byte_fits causes.OtherMark = omega arith
byte_fits causes.OlderStart = omega arith
byte_fits causes.OtherLife = omega arith
byte_fits causes.LowerRound = omega arith
byte_fits causes.LowerPromise = omega arith
byte_fits causes.LowerSequence = omega arith
byte_fits causes.OtherHistory = omega arith
byte_fits causes.LowerVote = omega arith
byte_fits causes.NotBegun = omega arith
byte_fits causes.NotTold = omega arith
byte_fits causes.Retired = omega arith

-- the end of a line is no accusation
not_accused : (why : PeerRejection) (r s : List ℕ) → accusation_then None r ≡ accusation_then (Some why) s → ⊥
unfolding accusation_then
not_accused why r s e =
    let letters : 10 ≡ 32 = ap (λ (l : List ℕ). get_or l 0 0) e in
    omega (arith, letters)

both_accused : (a b : PeerRejection) (r s : List ℕ) → accusation_then (Some a) r ≡ accusation_then (Some b) s → (a ≡ b) × (r ≡ s)
unfolding accusation_then
both_accused a b r s e =
    let numbers = both_numbers (codes " accused ") (rejection_byte a) (rejection_byte b) _ _ (omega (arith, byte_fits a)) (omega (arith, byte_fits b)) e in
    (same_rejection a b numbers.0, append_cancel_left (codes "\n") r s numbers.1)

nobody_accused : (r s : List ℕ) → accusation_then None r ≡ accusation_then None s → r ≡ s
unfolding accusation_then
nobody_accused r s e = append_cancel_left (codes "\n") r s e

both_accusations : (a b : Option PeerRejection) (r s : List ℕ) → accusation_then a r ≡ accusation_then b s → (a ≡ b) × (r ≡ s)
both_accusations None None r s e = (refl, nobody_accused r s e)
both_accusations None (Some b) r s e = absurd (not_accused b r s e)
both_accusations (Some a) None r s e = absurd (not_accused a s r (sym e))
both_accusations (Some a) (Some b) r s e =
    let parts = both_accused a b r s e in (ap (λ (x : PeerRejection). Some x) parts.0, parts.1)

same_heard : (a b : Heard) → a.progress ≡ b.progress → a.accusation ≡ b.accusation → a ≡ b
same_heard a b progress accusation =
    let made : Progress → Option PeerRejection → Heard = λ p w. record { progress = p; accusation = w } in
    ap (λ (p : Progress). made p a.accusation) progress ∙ ap (λ (w : Option PeerRejection). made b.progress w) accusation

both_peer_progress : (p q : Heard) (r s : List ℕ) → IsPeerProgress (Some p) → IsPeerProgress (Some q) → line_then (Some p) r ≡ line_then (Some q) s → (p ≡ q) × (r ≡ s)
unfolding line_then
both_peer_progress p q r s (of_p, mark_p, life_p) (of_q, mark_q, life_q) e =
    let mark = both_marks (codes "mark ") p.progress.mark q.progress.mark _ _ of_p.mark of_q.mark mark_p mark_q e in
    let starts = both_numbers (codes " starts ") p.progress.starts q.progress.starts _ _ of_p.starts of_q.starts mark.1 in
    let life = both_marks (codes " life ") p.progress.life q.progress.life _ _ of_p.life of_q.life life_p life_q starts.1 in
    let reach = both_reaches (reach_of p.progress) (reach_of q.progress) _ _ (is_reach p.progress of_p) (is_reach q.progress of_q) life.1 in
    let accusation = both_accusations p.accusation q.accusation r s reach.1 in
    let progress = same_progress p.progress q.progress mark.0 starts.0 life.0 (ap (λ (x : Reach). x.round) reach.0) (ap (λ (x : Reach). x.promise) reach.0) (ap (λ (x : Reach). x.vote) reach.0) (ap (λ (x : Reach). x.published) reach.0) in
    (same_heard p q progress accusation.0, accusation.1)

-- a line of a node of which nothing was heard isn't that of another one
pub not_peer_progress : (p : Heard) (r s : List ℕ) → line_then None r ≡ line_then (Some p) s → ⊥
unfolding line_then
not_peer_progress p r s e =
    let letters : 110 ≡ 109 = ap (λ (l : List ℕ). get_or l 0 0) e in
    omega (arith, letters)

nothing_more : (r s : List ℕ) → line_then None r ≡ line_then None s → r ≡ s
unfolding line_then
nothing_more r s e = append_cancel_left (codes "nothing\n") r s e

pub both_lines : (x y : Option Heard) (r s : List ℕ) → IsPeerProgress x → IsPeerProgress y → line_then x r ≡ line_then y s → (x ≡ y) × (r ≡ s)
both_lines None None r s of_x of_y e = (refl, nothing_more r s e)
both_lines None (Some q) r s of_x of_y e = absurd (not_peer_progress q r s e)
both_lines (Some p) None r s of_x of_y e = absurd (not_peer_progress p s r (sym e))
both_lines (Some p) (Some q) r s of_x of_y e =
    let parts = both_peer_progress p q r s of_x of_y e in (ap (λ (z : Heard). Some z) parts.0, parts.1)

pub same_lines : (a b : List (Option Heard)) → length a ≡ length b → ArePeerProgress a → ArePeerProgress b → lines_of a ≡ lines_of b → a ≡ b
unfolding lines_of ArePeerProgress
same_lines [] [] size of_a of_b e = refl
same_lines [] (y ∷ b) size of_a of_b e = absurd (omega (arith, size))
same_lines (x ∷ a) [] size of_a of_b e = absurd (omega (arith, size))
same_lines (x ∷ a) (y ∷ b) size (of_x, of_a) (of_y, of_b) e =
    let parts = both_lines x y (lines_of a) (lines_of b) of_x of_y e in
    ap (λ (z : Option Heard). z ∷ a) parts.0 ∙ ap (λ (l : List (Option Heard)). y ∷ l) (same_lines a b (omega (arith, size)) of_a of_b parts.1)
