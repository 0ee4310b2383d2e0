-- What follows a word in a text, and the number, mark, promise or vote before it, are determined by
-- the bytes.
use Rattle.std.proofs.Common.{◌≡◌, ◌≢◌, ◌∙◌, ℕ, ◌<◌, ◌^◌, List, [], ◌++◌, length, append_assoc, get_or, Result, Ok, refl, sym, ap, arith}
use Rattle.std.specs.Prelude.{Option, Some, None, IfNone, codes}
use Rattle.std.specs.Int.{w32, to_be_bytes, from_be_bytes}
use Rattle.std.proofs.lemmas.List.{append_cancel_left}
use Rattle.std.proofs.lemmas.Nat.{from_be_bytes-to_be_bytes_4}
use Rattle.hex.specs.Hex.{IsBytes, decode_sized, encode_lower}
use Rattle.hex.proofs.HexLemmas.{decode_sized-encode_lower}
use Rattle.hex.specs.declared.error.FromHexError.{FromHexError}
use Rattle.wf_ballot.specs.Ballot.{Ballot, IsBallot}
use Rattle.wf_ballot.specs.OrderTheorems.{same_ballot}
use Rattle.wf_ballot.specs.Sequence.{IsSequence}
use Rattle.wf_folder.specs.Number.{number_digits}
use Rattle.wf_folder.specs.NumberTheorems.{digits_of_mark, eight}
use Rattle.wf_folder.specs.Reach.{IsPromise, IsReach, IsVote, IsVoteOrNone}
use Rattle.wf_folder.specs.Words.{end_then, mark_then, number_then, promise_then, reach_then, vote_then}
use Rattle.wf_folder.specs.declared.reach.HighestVote.{HighestVote}
use Rattle.wf_folder.specs.declared.reach.Reach.{Reach}
use Rattle.wf_folder.proofs.Numbers.{are_bytes, same_fronts}

-- ---- what is written, part by part: a text that has a part at its end, and what follows

pub digits_then : (old new word digits rest : List ℕ) → new ≡ old ++ (word ++ (digits ++ [])) → new ++ rest ≡ old ++ (word ++ (digits ++ rest))
digits_then old new word digits rest e =
    ap (λ (l : List ℕ). l ++ rest) e ∙ append_assoc old (word ++ (digits ++ [])) rest
    ∙ ap (λ (l : List ℕ). old ++ l) (append_assoc word (digits ++ []) rest ∙ ap (λ (l : List ℕ). word ++ l) (append_assoc digits [] rest))

number_before : (word : List ℕ) (n : ℕ) (a b : List ℕ) → number_then word n a ++ b ≡ number_then word n (a ++ b)
number_before word n a b = append_assoc word (number_digits n ++ a) b ∙ ap (λ (l : List ℕ). word ++ l) (append_assoc (number_digits n) a b)

promise_before : (p : Option Ballot) (a b : List ℕ) → promise_then p a ++ b ≡ promise_then p (a ++ b)
unfolding promise_then
promise_before None a b = append_assoc (codes " nothing promised") a b
promise_before (Some ballot) a b =
    number_before (codes " promised ") ballot.round _ b ∙ ap (number_then (codes " promised ") ballot.round) (number_before (codes " of ") ballot.node a b)

vote_before : (v : Option HighestVote) (a b : List ℕ) → vote_then v a ++ b ≡ vote_then v (a ++ b)
unfolding vote_then
vote_before None a b = refl
vote_before (Some v) a b =
    number_before (codes " voted ") v.ballot.round _ b ∙ ap (number_then (codes " voted ") v.ballot.round) (number_before (codes " of ") v.ballot.node _ b
    ∙ ap (number_then (codes " of ") v.ballot.node) (number_before (codes " at ") v.sequence a b))

end_before : (v : Option HighestVote) (s : ℕ) (a b : List ℕ) → end_then v s a ++ b ≡ end_then v s (a ++ b)
unfolding end_then
end_before v s a b = vote_before v _ b ∙ ap (vote_then v) (number_before (codes " published ") s a b)

pub reach_before : (r : Reach) (a b : List ℕ) → reach_then r a ++ b ≡ reach_then r (a ++ b)
unfolding reach_then
reach_before r a b =
    number_before (codes " tried ") r.round _ b ∙ ap (number_then (codes " tried ") r.round) (promise_before r.promise _ b ∙ ap (promise_then r.promise) (end_before r.vote r.published a b))

pub reach_after : (old new : List ℕ) (r : Reach) (rest : List ℕ) → new ≡ old ++ reach_then r [] → new ++ rest ≡ old ++ reach_then r rest
reach_after old new r rest e =
    ap (λ (l : List ℕ). l ++ rest) e ∙ append_assoc old (reach_then r []) rest ∙ ap (λ (l : List ℕ). old ++ l) (reach_before r [] rest)

promise_after : (old new : List ℕ) (p : Option Ballot) (rest : List ℕ) → new ≡ old ++ promise_then p [] → new ++ rest ≡ old ++ promise_then p rest
promise_after old new p rest e =
    ap (λ (l : List ℕ). l ++ rest) e ∙ append_assoc old (promise_then p []) rest ∙ ap (λ (l : List ℕ). old ++ l) (promise_before p [] rest)

vote_after : (old new : List ℕ) (v : Option HighestVote) (rest : List ℕ) → new ≡ old ++ vote_then v [] → new ++ rest ≡ old ++ vote_then v rest
vote_after old new v rest e =
    ap (λ (l : List ℕ). l ++ rest) e ∙ append_assoc old (vote_then v []) rest ∙ ap (λ (l : List ℕ). old ++ l) (vote_before v [] rest)

pub two_parts : (t0 t1 t2 : List ℕ) (b : Ballot) → t1 ≡ t0 ++ number_then (codes " promised ") b.round [] → t2 ≡ t1 ++ number_then (codes " of ") b.node [] →
    t2 ≡ t0 ++ promise_then (Some b) []
unfolding promise_then
two_parts t0 t1 t2 b e1 e2 = e2 ∙ digits_then t0 t1 (codes " promised ") (number_digits b.round) (number_then (codes " of ") b.node []) e1

pub three_parts : (t0 t1 t2 t3 : List ℕ) (v : HighestVote) → t1 ≡ t0 ++ number_then (codes " voted ") v.ballot.round [] → t2 ≡ t1 ++ number_then (codes " of ") v.ballot.node [] →
    t3 ≡ t2 ++ number_then (codes " at ") v.sequence [] → t3 ≡ t0 ++ vote_then (Some v) []
unfolding vote_then
three_parts t0 t1 t2 t3 v e1 e2 e3 =
    e3 ∙ digits_then t1 t2 (codes " of ") (number_digits v.ballot.node) (number_then (codes " at ") v.sequence []) e2
    ∙ digits_then t0 t1 (codes " voted ") (number_digits v.ballot.round) _ e1

pub four_parts : (t0 t1 t2 t3 t4 : List ℕ) (r : Reach) → t1 ≡ t0 ++ number_then (codes " tried ") r.round [] → t2 ≡ t1 ++ promise_then r.promise [] → t3 ≡ t2 ++ vote_then r.vote [] →
    t4 ≡ t3 ++ number_then (codes " published ") r.published [] → t4 ≡ t0 ++ reach_then r []
unfolding reach_then end_then
four_parts t0 t1 t2 t3 t4 r e1 e2 e3 e4 =
    e4 ∙ vote_after t2 t3 r.vote (number_then (codes " published ") r.published []) e3
    ∙ promise_after t1 t2 r.promise _ e2
    ∙ digits_then t0 t1 (codes " tried ") (number_digits r.round) _ e1

-- ---- what is read: no number, and no mark, follows a word that bytes begin with

pub no_number_after : {A : Type 0} (result : Option A) (bytes word rest : List ℕ) → bytes ≡ word ++ rest →
    IfNone result ((n : ℕ) (r : List ℕ) → n < 2 ^ 32 → rest ≢ number_digits n ++ r) → IfNone result ((n : ℕ) (r : List ℕ) → n < 2 ^ 32 → bytes ≢ number_then word n r)
no_number_after None bytes word rest e none = λ n r fits same. none n r fits (append_cancel_left word rest (number_digits n ++ r) (sym e ∙ same))
no_number_after (Some x) bytes word rest e none = none

pub no_mark_after : {A : Type 0} (result : Option A) (bytes word rest : List ℕ) → bytes ≡ word ++ rest →
    IfNone result ((mark r : List ℕ) → IsBytes mark → length mark ≡ 16 → rest ≢ encode_lower mark ++ r) →
    IfNone result ((mark r : List ℕ) → IsBytes mark → length mark ≡ 16 → bytes ≢ mark_then word mark r)
no_mark_after None bytes word rest e none = λ mark r are size same. none mark r are size (append_cancel_left word rest (encode_lower mark ++ r) (sym e ∙ same))
no_mark_after (Some x) bytes word rest e none = none

pub if_none : {A P : Type 0} (result : Option A) → P → IfNone result P
if_none None p = p
if_none (Some x) p = tt

pub none_weaker : {A P Q : Type 0} (result : Option A) → (P → Q) → IfNone result P → IfNone result Q
none_weaker None weaker p = weaker p
none_weaker (Some x) weaker p = tt

pub is_promised : (bytes r1 r2 : List ℕ) (round node : ℕ) (b : Ballot) → bytes ≡ number_then (codes " promised ") round r1 → r1 ≡ number_then (codes " of ") node r2 →
    b.round ≡ round → b.node ≡ node → bytes ≡ promise_then (Some b) r2
unfolding promise_then
is_promised bytes r1 r2 round node b e1 e2 same_round same_node =
    e1 ∙ ap (number_then (codes " promised ") round) (e2 ∙ ap (λ (n : ℕ). number_then (codes " of ") n r2) (sym same_node)) ∙ ap (λ (n : ℕ). number_then (codes " promised ") n (number_then (codes " of ") b.node r2)) (sym same_round)

pub no_promise : (bytes : List ℕ) → ((rest : List ℕ) → bytes ≢ codes " nothing promised" ++ rest) → ((b : Ballot) (rest : List ℕ) → IsBallot b → bytes ≢ promise_then (Some b) rest) →
    (p : Option Ballot) (rest : List ℕ) → IsPromise p → bytes ≢ promise_then p rest
unfolding promise_then
no_promise bytes nothing no_ballot None rest is e = nothing rest e
no_promise bytes nothing no_ballot (Some b) rest is e = no_ballot b rest is e

pub is_voted : (bytes r1 r2 r3 : List ℕ) (round node number : ℕ) (v : HighestVote) → bytes ≡ number_then (codes " voted ") round r1 → r1 ≡ number_then (codes " of ") node r2 →
    r2 ≡ number_then (codes " at ") number r3 → v.ballot.round ≡ round → v.ballot.node ≡ node → v.sequence ≡ number → bytes ≡ vote_then (Some v) r3
unfolding vote_then
is_voted bytes r1 r2 r3 round node number v e1 e2 e3 same_round same_node same_number =
    e1 ∙ ap (number_then (codes " voted ") round) (e2 ∙ ap (number_then (codes " of ") node) (e3 ∙ ap (λ (n : ℕ). number_then (codes " at ") n r3) (sym same_number))
    ∙ ap (λ (n : ℕ). number_then (codes " of ") n (number_then (codes " at ") v.sequence r3)) (sym same_node))
    ∙ ap (λ (n : ℕ). number_then (codes " voted ") n (number_then (codes " of ") v.ballot.node (number_then (codes " at ") v.sequence r3))) (sym same_round)

pub is_unvoted_end : (bytes rest : List ℕ) (s : ℕ) → bytes ≡ number_then (codes " published ") s rest → bytes ≡ end_then None s rest
unfolding end_then vote_then
is_unvoted_end bytes rest s e = e

pub is_voted_end : (bytes r1 rest : List ℕ) (v : HighestVote) (s : ℕ) → bytes ≡ vote_then (Some v) r1 → r1 ≡ number_then (codes " published ") s rest → bytes ≡ end_then (Some v) s rest
unfolding end_then
is_voted_end bytes r1 rest v s e1 e2 = e1 ∙ ap (vote_then (Some v)) e2

pub no_end : (bytes : List ℕ) → ((s : ℕ) (rest : List ℕ) → IsSequence s → bytes ≢ number_then (codes " published ") s rest) →
    ((v : HighestVote) (s : ℕ) (rest : List ℕ) → IsVote v → IsSequence s → bytes ≢ end_then (Some v) s rest) →
    (v : Option HighestVote) (s : ℕ) (rest : List ℕ) → IsVoteOrNone v → IsSequence s → bytes ≢ end_then v s rest
unfolding end_then vote_then
no_end bytes unvoted voted None s rest is seq e = unvoted s rest seq e
no_end bytes unvoted voted (Some v) s rest is seq e = voted v s rest is seq e

pub is_reach : (b r1 r2 rest : List ℕ) (r : Reach) → b ≡ number_then (codes " tried ") r.round r1 → r1 ≡ promise_then r.promise r2 → r2 ≡ end_then r.vote r.published rest → b ≡ reach_then r rest
unfolding reach_then
is_reach b r1 r2 rest r e1 e2 e3 = e1 ∙ ap (number_then (codes " tried ") r.round) (e2 ∙ ap (promise_then r.promise) e3)

-- ---- one value has one text

same_ok : (a b : List ℕ) → ◌≡◌ {A = Result (List ℕ) FromHexError} (Ok a) (Ok b) → a ≡ b
same_ok a b e = cc

same_bytes : (a b : List ℕ) (n : ℕ) → length a ≡ n → length b ≡ n → IsBytes a → IsBytes b → encode_lower a ≡ encode_lower b → a ≡ b
same_bytes a b n of_a of_b are_a are_b e =
    same_ok a b (sym (decode_sized-encode_lower a n of_a are_a) ∙ ap (λ (t : List ℕ). decode_sized t n) e ∙ decode_sized-encode_lower b n of_b are_b)

same_number : (n m : ℕ) → n < 2 ^ 32 → m < 2 ^ 32 → number_digits n ≡ number_digits m → n ≡ m
unfolding number_digits
same_number n m of_n of_m e =
    let same : to_be_bytes w32 n ≡ to_be_bytes w32 m = same_bytes (to_be_bytes w32 n) (to_be_bytes w32 m) 4 refl refl (are_bytes n) (are_bytes m) e in
    sym (from_be_bytes-to_be_bytes_4 n of_n) ∙ ap (from_be_bytes w32) same ∙ from_be_bytes-to_be_bytes_4 m of_m

pub after_number : (word : List ℕ) (n m : ℕ) (r s : List ℕ) → number_then word n r ≡ number_then word m s → r ≡ s
after_number word n m r s e = (same_fronts (number_digits n) (number_digits m) r s (eight n ∙ sym (eight m)) (append_cancel_left word _ _ e)).1

pub after_mark : (word a b r s : List ℕ) → length a ≡ 16 → length b ≡ 16 → mark_then word a r ≡ mark_then word b s → r ≡ s
after_mark word a b r s of_a of_b e =
    (same_fronts (encode_lower a) (encode_lower b) r s (digits_of_mark a of_a ∙ sym (digits_of_mark b of_b)) (append_cancel_left word _ _ e)).1

pub both_numbers : (word : List ℕ) (n m : ℕ) (r s : List ℕ) → n < 2 ^ 32 → m < 2 ^ 32 → number_then word n r ≡ number_then word m s → (n ≡ m) × (r ≡ s)
both_numbers word n m r s of_n of_m e =
    let parts = same_fronts (number_digits n) (number_digits m) r s (eight n ∙ sym (eight m)) (append_cancel_left word _ _ e) in
    (same_number n m of_n of_m parts.0, parts.1)

pub both_marks : (word a b r s : List ℕ) → length a ≡ 16 → length b ≡ 16 → IsBytes a → IsBytes b → mark_then word a r ≡ mark_then word b s → (a ≡ b) × (r ≡ s)
both_marks word a b r s of_a of_b are_a are_b e =
    let parts = same_fronts (encode_lower a) (encode_lower b) r s (digits_of_mark a of_a ∙ sym (digits_of_mark b of_b)) (append_cancel_left word _ _ e) in
    (same_bytes a b 16 of_a of_b are_a are_b parts.0, parts.1)

both_ballots : (a b : Ballot) (r s : List ℕ) → IsBallot a → IsBallot b → promise_then (Some a) r ≡ promise_then (Some b) s → (a ≡ b) × (r ≡ s)
unfolding promise_then
both_ballots a b r s of_a of_b e =
    let rounds = both_numbers (codes " promised ") a.round b.round _ _ (omega (arith, of_a.to_last)) (omega (arith, of_b.to_last)) e in
    let nodes = both_numbers (codes " of ") a.node b.node r s (omega (arith, of_a.by_node)) (omega (arith, of_b.by_node)) rounds.1 in
    (same_ballot a b rounds.0 nodes.0, nodes.1)

-- nothing promised isn't a promise
not_promised : (b : Ballot) (r s : List ℕ) → promise_then None r ≡ promise_then (Some b) s → ⊥
unfolding promise_then
not_promised b r s e =
    let letters : 110 ≡ 112 = ap (λ (l : List ℕ). get_or l 1 0) e in
    omega (arith, letters)

pub after_promise : (a b : Option Ballot) (r s : List ℕ) → promise_then a r ≡ promise_then b s → r ≡ s
unfolding promise_then
after_promise None None r s e = append_cancel_left (codes " nothing promised") r s e
after_promise None (Some b) r s e = absurd (not_promised b r s e)
after_promise (Some a) None r s e = absurd (not_promised a s r (sym e))
after_promise (Some a) (Some b) r s e = after_number (codes " of ") a.node b.node r s (after_number (codes " promised ") a.round b.round _ _ e)

both_promises : (a b : Option Ballot) (r s : List ℕ) → IsPromise a → IsPromise b → promise_then a r ≡ promise_then b s → (a ≡ b) × (r ≡ s)
unfolding promise_then
both_promises None None r s of_a of_b e = (refl, append_cancel_left (codes " nothing promised") r s e)
both_promises None (Some b) r s of_a of_b e = absurd (not_promised b r s e)
both_promises (Some a) None r s of_a of_b e = absurd (not_promised a s r (sym e))
both_promises (Some a) (Some b) r s of_a of_b e =
    let parts = both_ballots a b r s of_a of_b e in (ap (λ (x : Ballot). Some x) parts.0, parts.1)

same_vote : (a b : HighestVote) → a.ballot ≡ b.ballot → a.sequence ≡ b.sequence → a ≡ b
same_vote a b ballot sequence =
    let made : Ballot → ℕ → HighestVote = λ x s. record { ballot = x; sequence = s } in
    ap (λ (x : Ballot). made x a.sequence) ballot ∙ ap (λ (s : ℕ). made b.ballot s) sequence

pub both_votes : (a b : HighestVote) (r s : List ℕ) → IsVote a → IsVote b → vote_then (Some a) r ≡ vote_then (Some b) s → (a ≡ b) × (r ≡ s)
unfolding vote_then
both_votes a b r s of_a of_b e =
    let rounds = both_numbers (codes " voted ") a.ballot.round b.ballot.round _ _ (omega (arith, of_a.of_ballot.to_last)) (omega (arith, of_b.of_ballot.to_last)) e in
    let nodes = both_numbers (codes " of ") a.ballot.node b.ballot.node _ _ (omega (arith, of_a.of_ballot.by_node)) (omega (arith, of_b.of_ballot.by_node)) rounds.1 in
    let numbers = both_numbers (codes " at ") a.sequence b.sequence r s (omega (arith, of_a.of_slot.to_last)) (omega (arith, of_b.of_slot.to_last)) nodes.1 in
    (same_vote a b (same_ballot a.ballot b.ballot rounds.0 nodes.0) numbers.0, numbers.1)

-- what a node published isn't a vote
not_voted : (b : HighestVote) (s t : ℕ) (p q : List ℕ) → end_then None s p ≡ end_then (Some b) t q → ⊥
unfolding end_then vote_then
not_voted b s t p q e =
    let letters : 112 ≡ 118 = ap (λ (l : List ℕ). get_or l 1 0) e in
    omega (arith, letters)

both_unvoted : (s t : ℕ) (p q : List ℕ) → IsSequence s → IsSequence t → end_then None s p ≡ end_then None t q → (s ≡ t) × (p ≡ q)
unfolding end_then vote_then
both_unvoted s t p q of_s of_t e = both_numbers (codes " published ") s t p q (omega (arith, of_s)) (omega (arith, of_t)) e

both_ends : (a b : Option HighestVote) (s t : ℕ) (p q : List ℕ) → IsVoteOrNone a → IsVoteOrNone b → IsSequence s → IsSequence t → end_then a s p ≡ end_then b t q →
    (a ≡ b) × (s ≡ t) × (p ≡ q)
unfolding end_then
both_ends None None s t p q of_a of_b of_s of_t e =
    let parts = both_unvoted s t p q of_s of_t e in (refl, parts.0, parts.1)
both_ends None (Some b) s t p q of_a of_b of_s of_t e = absurd (not_voted b s t p q e)
both_ends (Some a) None s t p q of_a of_b of_s of_t e = absurd (not_voted a t s q p (sym e))
both_ends (Some a) (Some b) s t p q of_a of_b of_s of_t e =
    let votes = both_votes a b _ _ of_a of_b e in
    let published = both_numbers (codes " published ") s t p q (omega (arith, of_s)) (omega (arith, of_t)) votes.1 in
    (ap (λ (v : HighestVote). Some v) votes.0, published.0, published.1)

same_reach : (a b : Reach) → a.round ≡ b.round → a.promise ≡ b.promise → a.vote ≡ b.vote → a.published ≡ b.published → a ≡ b
same_reach a b round promise vote published =
    let made : ℕ → Option Ballot → Option HighestVote → ℕ → Reach = λ r p v s. record { round = r; promise = p; vote = v; published = s } in
    ap (λ (r : ℕ). made r a.promise a.vote a.published) round ∙ ap (λ (p : Option Ballot). made b.round p a.vote a.published) promise
    ∙ ap (λ (v : Option HighestVote). made b.round b.promise v a.published) vote ∙ ap (λ (s : ℕ). made b.round b.promise b.vote s) published

pub both_reaches : (a b : Reach) (p q : List ℕ) → IsReach a → IsReach b → reach_then a p ≡ reach_then b q → (a ≡ b) × (p ≡ q)
unfolding reach_then
both_reaches a b p q of_a of_b e =
    let round = both_numbers (codes " tried ") a.round b.round _ _ of_a.of_round of_b.of_round e in
    let promise = both_promises a.promise b.promise _ _ of_a.of_promise of_b.of_promise round.1 in
    let ends = both_ends a.vote b.vote a.published b.published p q of_a.of_vote of_b.of_vote of_a.of_published of_b.of_published promise.1 in
    (same_reach a b round.0 promise.0 ends.0 ends.1, ends.2)
