-- The digests of a list that grows.
use Rattle.std.proofs.Common.{◌≡◌, ◌∙◌, ℕ, ◌+◌, ◌≤◌, ◌<◌, ◌-◌, suc, List, [], ◌∷◌, ◌++◌, length, take, refl, sym, ap, subst, arith, length-append}
use Rattle.std.specs.Prelude.{min, Result, Ok, Err, OnOk, OnErr}
use Rattle.std.proofs.lemmas.List.{take-append-le, length-take}
use Rattle.std.proofs.Math.Seq.{take-length}
use Rattle.wf_execution.specs.Replica.{after_learning}
use Rattle.wf_def.specs.Definition.{Definition}
use Rattle.wf_digest.specs.Digest.{AreDigestsOf, digest_after, digest_at, digests_after, first_digest, next_digest}
use Rattle.wf_learner.specs.History.{History}
use Rattle.wf_model.specs.Message.{Message}
use Rattle.wf_replica.proofs.Reported.{receives_on}
use Rattle.wf_replica.specs.Fit.{AreDigestsOfFront}

count_of_digests : (digest : List ℕ) (list : List Definition) → length (digests_after digest list) ≡ suc (length list)
unfolding digests_after
count_of_digests digest [] = refl
count_of_digests digest (d ∷ list) = ap suc (count_of_digests (next_digest digest d) list)

digest_on : (digest : List ℕ) (list more : List Definition) → digest_after digest (list ++ more) ≡ digest_after (digest_after digest list) more
unfolding digest_after
digest_on digest [] more = refl
digest_on digest (d ∷ list) more = digest_on (next_digest digest d) list more

-- the front is no longer than the list
front_within : (list : List Definition) (digests : List (List ℕ)) → AreDigestsOfFront list digests → length digests - 1 ≤ length list
front_within list digests are =
    let count : length digests ≡ suc (length (take (length digests - 1) list)) = ap length are ∙ count_of_digests first_digest (take (length digests - 1) list) in
    let cut : length (take (length digests - 1) list) ≡ min (length digests - 1) (length list) = length-take (length digests - 1) list in
    omega (arith, count, cut)

-- the digests of the whole are those of a front
pub whole_digested : (list : List Definition) (digests : List (List ℕ)) → AreDigestsOf list digests → AreDigestsOfFront list digests
whole_digested list digests are =
    let count : length digests - 1 ≡ length list = omega (arith, ap length are, count_of_digests first_digest list) in
    subst (λ (l : List Definition). AreDigestsOf l digests) (sym (ap (λ (n : ℕ). take n list) count ∙ take-length list)) are

-- where the list has grown, they are still those of a front of it
pub front_on : (old new more : List Definition) (digests : List (List ℕ)) → new ≡ old ++ more → AreDigestsOfFront old digests → AreDigestsOfFront new digests
front_on old new more digests is are =
    subst (λ (l : List Definition). AreDigestsOf l digests)
    (sym (ap (λ (l : List Definition). take (length digests - 1) l) is ∙ take-append-le (length digests - 1) old more (front_within old digests are))) are

-- a digest at the list's last sequence: so they are those of the whole
pub all_digested : (list : List Definition) (digests : List (List ℕ)) → AreDigestsOfFront list digests → length list < length digests → AreDigestsOf list digests
all_digested list digests are there =
    let count : length digests - 1 ≡ length list = omega (arith, there, front_within list digests are) in
    subst (λ (l : List Definition). AreDigestsOf l digests) (ap (λ (n : ℕ). take n list) count ∙ take-length list) are

-- the digest of a list with more after it
pub digest_within : (list more : List Definition) (s : ℕ) → s ≤ length list → digest_at (list ++ more) s ≡ digest_at list s
digest_within list more s le = ap (digest_after first_digest) (take-append-le s list more le)

pub digest_to_end : (list more : List Definition) (s : ℕ) → s ≡ length list + length more → digest_at (list ++ more) s ≡ digest_after (digest_at list (length list)) more
digest_to_end list more s is =
    ap (λ (n : ℕ). digest_after first_digest (take n (list ++ more))) (is ∙ sym (length-append list more))
    ∙ ap (digest_after first_digest) (take-length (list ++ more)) ∙ digest_on first_digest list more
    ∙ ap (λ (l : List Definition). digest_after (digest_after first_digest l) more) (sym (take-length list))

-- ---- where they were extended, and where a message was heard

extended : {X : Type 0} {E : Type 0} (r : Result X E) (list : List Definition) (old new : List (List ℕ)) → OnOk r ((k : ℕ) → AreDigestsOf (take k list) old → AreDigestsOf list new) →
    OnErr r (new ≡ old) → AreDigestsOfFront list old → AreDigestsOfFront list new
extended (Ok x) list old new ok err front = whole_digested list new (ok (length old - 1) front)
extended (Err e) list old new ok err front = subst (AreDigestsOfFront list) (sym err) front

pub extended_by : {X : Type 0} {E : Type 0} (r : Result X E) (history shelf : History) (old new : List (List ℕ)) → history ≡ shelf →
    OnOk r ((k : ℕ) → AreDigestsOf (take k history.definitions) old → AreDigestsOf history.definitions new) → OnErr r (new ≡ old) → AreDigestsOfFront shelf.definitions old → AreDigestsOfFront shelf.definitions new
extended_by r history shelf old new is ok err front =
    subst (λ (h : History). AreDigestsOfFront h.definitions new) is
    (extended r history.definitions old new ok err (subst (λ (h : History). AreDigestsOfFront h.definitions old) (sym is) front))

pub received_front : (old new : List Definition) (m : Message Definition) (digests : List (List ℕ)) → new ≡ after_learning old m → AreDigestsOfFront old digests → AreDigestsOfFront new digests
received_front old new m digests is front =
    let grown = receives_on old m in
    front_on old new grown.0 digests (is ∙ sym grown.1) front
