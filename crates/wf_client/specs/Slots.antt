-- Which slot is a newcomer's.
use Rattle.std.specs.Prelude.{◌≡◌, ◌≤◌, ◌<◌, ℕ, List, Option, None, Some, length, MatchOption, if◌then◌else◌, slice_index_or}
use Rattle.wf_client.specs.Client.{Client, is_asking}
use Rattle.wf_client.specs.declared.slots.PendingRequest.{PendingRequest}

-- when the request in a slot began, if it isn't whole
unfoldable pub waiting_since : Option Client → Option ℕ
waiting_since None = None
waiting_since (Some client) = if is_asking client.phase then Some client.since else None

-- slot i is free; none is past the end
abbrev pub IsFree : List (Option Client) → ℕ → Type 0
IsFree slots i = (i < length slots) × (slice_index_or slots i None ≡ None)

-- slot i is the first free one
pub record IsFirstFree (slots : List (Option Client)) (i : ℕ) : Type 0 where
  pub free : IsFree slots i
  pub first : (k : ℕ) → k < i → ¬ IsFree slots k

abbrev pub NoneIsFree : List (Option Client) → Type 0
NoneIsFree slots = (i : ℕ) → ¬ IsFree slots i

-- the request in slot i isn't whole, and began then
abbrev pub WaitsSince : List (Option Client) → ℕ → ℕ → Type 0
WaitsSince slots i since = waiting_since (slice_index_or slots i None) ≡ Some since

-- of the requests in the first n slots that aren't whole, this one has waited longest; None: there
-- is none
abbrev pub IsBest : List (Option Client) → ℕ → Option PendingRequest → Type 0
IsBest slots n None = (j since : ℕ) → j < n → ¬ WaitsSince slots j since
IsBest slots n (Some one) =
    (one.index < n) × WaitsSince slots one.index one.since × ((j since : ℕ) → j < n → WaitsSince slots j since → one.since ≤ since)

-- the request in slot i isn't whole, and no such request began before it
pub record IsLongestWaiting (slots : List (Option Client)) (i : ℕ) : Type 0 where
  pub since : ℕ
  pub waits : WaitsSince slots i since
  pub longest : (j other : ℕ) → WaitsSince slots j other → since ≤ other

abbrev pub NoneIsWaiting : List (Option Client) → Type 0
NoneIsWaiting slots = (i since : ℕ) → ¬ WaitsSince slots i since

-- A newcomer's slot is the first free one; if there is none, that of the request that has waited
-- longest.
abbrev pub IsSlotIndex : List (Option Client) → Option ℕ → Type 0
IsSlotIndex slots index =
    MatchOption index (NoneIsFree slots × NoneIsWaiting slots)
    (λ i. (NoneIsFree slots → IsLongestWaiting slots i) × ((j : ℕ) → IsFree slots j → IsFirstFree slots i))
