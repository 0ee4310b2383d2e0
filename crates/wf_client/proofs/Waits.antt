-- Which request has waited longest.
use Rattle.std.proofs.Common.{◌≡◌, ◌≤◌, ◌<◌, ◌+◌, ℕ, suc, zero, List, [], ◌∷◌, Option, None, Some, length, IfSome, arith, inl, inr, refl, sym, subst, slice_index_or}
use Rattle.std.proofs.lemmas.Bool.{cases_eq, cases_lt}
use Rattle.wf_client.specs.Client.{Client}
use Rattle.wf_client.specs.Slots.{IsBest, IsLongestWaiting, NoneIsWaiting, WaitsSince, waiting_since}
use Rattle.wf_client.specs.declared.slots.PendingRequest.{PendingRequest}

-- an empty slot holds no request
pub none_waits : (since : ℕ) → ¬ (waiting_since None ≡ Some since)
unfolding waiting_since
none_waits since h = cc

-- no request waits past the end
pub waits_within : (slots : List (Option Client)) (j since : ℕ) → WaitsSince slots j since → j < length slots
waits_within [] j since h = absurd (none_waits since h)
waits_within (x ∷ slots) zero since h = omega arith
waits_within (x ∷ slots) (suc j) since h = let l : j < length slots = waits_within slots j since h in omega arith

pub longest_of : (slots : List (Option Client)) (one : PendingRequest) → IsBest slots (length slots) (Some one) → IsLongestWaiting slots one.index
longest_of slots one h = record {
  since = one.since;
  waits = h.1;
  longest = λ j other w. h.2 j other (waits_within slots j other w) w;
}

pub none_of : (slots : List (Option Client)) → IsBest slots (length slots) None → NoneIsWaiting slots
none_of slots h = λ i since w. h i since (waits_within slots i since w) w

-- a slot with no request that waits
pub no_waiter : (slots : List (Option Client)) (n j since : ℕ) → waiting_since (slice_index_or slots n None) ≡ None → j ≡ n → ¬ WaitsSince slots j since
no_waiter slots n j since e same w = let e2 : waiting_since (slice_index_or slots j None) ≡ None = subst (λ k. waiting_since (slice_index_or slots k None) ≡ None) (sym same) e in cc

pub more_without : (slots : List (Option Client)) (n : ℕ) (found : Option PendingRequest) → waiting_since (slice_index_or slots n None) ≡ None → IsBest slots n found → IsBest slots (n + 1) found
more_without slots n None e h = λ j since l w. elim (cases_eq j n) [ inl same ↦ no_waiter slots n j since e same w | inr other ↦ h j since (omega arith) w ]
more_without slots n (Some one) e h = (
  omega arith,
  h.1,
  λ j since l w. elim (cases_eq j n) [ inl same ↦ absurd (no_waiter slots n j since e same w) | inr other ↦ h.2 j since (omega arith) w ],
)

-- one slot holds one request
pub at_once : (slots : List (Option Client)) (n j since other : ℕ) → WaitsSince slots n since → WaitsSince slots j other → j ≡ n → since ≤ other
at_once slots n j since other w v e =
    let v2 : waiting_since (slice_index_or slots n None) ≡ Some other = subst (λ k. waiting_since (slice_index_or slots k None) ≡ Some other) e v in
    let same : since ≡ other = cc in
    omega arith

-- the request in slot n began before all in the slots before it
pub new_best : (slots : List (Option Client)) (n since : ℕ) → WaitsSince slots n since
    → ((j other : ℕ) → j < n → WaitsSince slots j other → since ≤ other)
    → IsBest slots (n + 1) (Some (record { index = n; since = since }))
new_best slots n since w before = (
  omega arith,
  w,
  λ j other l v. elim (cases_eq j n) [ inl e ↦ at_once slots n j since other w v e | inr o ↦ before j other (omega arith) v ],
)

-- the request that was found began no later than that in slot n
pub old_best : (slots : List (Option Client)) (n since : ℕ) (one : PendingRequest) → WaitsSince slots n since → one.since ≤ since
    → IsBest slots n (Some one) → IsBest slots (n + 1) (Some one)
old_best slots n since one w le h = (
  let l : one.index < n = h.0 in omega arith,
  h.1,
  λ j other l v. elim (cases_eq j n) [
    | inl e ↦ (let q : since ≤ other = at_once slots n j since other w v e in omega arith)
    | inr o ↦ h.2 j other (omega arith) v
  ],
)

-- one more slot, whose request isn't whole: the earlier one is the best
pub more_with : (slots : List (Option Client)) (n since : ℕ) (found : Option PendingRequest) (best : PendingRequest)
    → waiting_since (slice_index_or slots n None) ≡ Some since → IsBest slots n found
    → (found ≡ None → best ≡ record { index = n; since = since })
    → IfSome found (λ one. one.since ≤ since → best ≡ one)
    → IfSome found (λ one. since < one.since → best ≡ record { index = n; since = since })
    → IsBest slots (n + 1) (Some best)
more_with slots n since None best w h none same later =
    subst (λ b. IsBest slots (n + 1) (Some b)) (sym (none refl)) (new_best slots n since w (λ j other l v. absurd (h j other l v)))
more_with slots n since (Some one) best w h none same later = elim (cases_lt since one.since) [
  | inl before ↦ subst (λ b. IsBest slots (n + 1) (Some b)) (sym (later before))
      (new_best slots n since w (λ j other l v. let q : one.since ≤ other = h.2 j other l v in omega arith))
  | inr after ↦ subst (λ b. IsBest slots (n + 1) (Some b)) (sym (same after)) (old_best slots n since one w after h)
]
