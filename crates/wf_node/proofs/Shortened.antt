-- The records of a shortened tape fold to the durable state from which they were written.
use Rattle.std.proofs.Common.{◌≡◌, ℕ, zero, suc, ◌+◌, ◌<◌, ◌≤◌, nat_lt, ◌==◌, Bool, true, false, List, [], ◌∷◌, ◌++◌, length, take, slice_get, Option, Some, None, refl, sym, ap, subst, ◌∙◌, inl, inr, arith, length-append, length-take-le}
use Rattle.std.specs.Prelude.{⊤}
use Rattle.std.proofs.Math.Path.{fun_ext}
use Rattle.std.proofs.lemmas.Bool.{cases_eq, cases_lt, and_parts, eqb-true, lt-ltb, eq-eqb, false≢true}
use Rattle.std.proofs.lemmas.List.{take_all, take_more}
use Rattle.std.proofs.lemmas.Option.{none-some, same_Some, slice_get_within, slice_get_cases, get_or_from_slice_get}
use Rattle.wf_ballot.specs.Ballot.{Ballot, below}
use Rattle.wf_ballot.specs.OrderTheorems as order
use Rattle.wf_ballot.specs.Sequence.{last_sequence, IsSlot}
use Rattle.wf_def.specs.Definition.{Definition}
use Rattle.wf_model.specs.Fits.{IsOpenAlone, NotBelow, FoldsAreOpen, VotesArePromised}
use Rattle.wf_model.specs.Message.{Vote}
use Rattle.wf_model.specs.PutTheorems.{put-same, put-other, at_put}
use Rattle.wf_model.specs.DurableState.{DurableState, Record, Tried, Promised, Accepted, Published, nothing_stored, published, next_sequence, definition_at, put, raised, with_record, fits, fold_from, fold}
use Rattle.wf_model.specs.Table.{votes_at}
use Rattle.wf_model.specs.VolatileState.{same_ballot}
use Rattle.wf_journal.specs.Journal.{Follows, IsSameOrReads}
use Rattle.wf_journal.specs.Record.{IsRecord}
use Rattle.wf_journal.specs.Records.{Splits}
use Rattle.wf_node.specs.Images.{StandsFor, AllStandFor}
use Rattle.wf_node.specs.Compaction.{tried_records, vote_records, is_voted, promised_sequence, promise_record, promise_records, records_by, records_at, records_from, short_records}

-- ---- lists of records are folded in turn

fold_next : (r : Record Definition) (rest : List (Record Definition)) (start folded : DurableState Definition) (fit : Bool) → fits start r ≡ fit →
    fold_from start (r ∷ rest) ≡ Some folded → (fits start r ≡ true) × (fold_from (with_record start r) rest ≡ Some folded)
unfolding fold_from
fold_next r rest start folded true is_fit e = (is_fit, rw is_fit at e)
fold_next r rest start folded false is_fit e = absurd (none-some folded (rw is_fit at e))

fold_first : (start : DurableState Definition) (r : Record Definition) (rest : List (Record Definition)) → fits start r ≡ true → fold_from start (r ∷ rest) ≡ fold_from (with_record start r) rest
unfolding fold_from
fold_first start r rest fit = rw fit refl

fold_none : (start : DurableState Definition) → fold_from start [] ≡ Some start
unfolding fold_from
fold_none start = refl

fold_from-append : (start mid : DurableState Definition) (xs ys : List (Record Definition)) → fold_from start xs ≡ Some mid → fold_from start (xs ++ ys) ≡ fold_from mid ys
unfolding fold_from
fold_from-append start mid [] ys folds = ap (λ (s : DurableState Definition). fold_from s ys) (same_Some start mid folds)
fold_from-append start mid (x ∷ xs) ys folds =
    let (fit, rest) = fold_next x xs start mid (fits start x) refl folds in
    fold_first start x (xs ++ ys) fit ∙ fold_from-append (with_record start x) mid xs ys rest

-- ---- functions that are changed at one argument

put-none : {A : Type 0} (f : ℕ → Option A) (s : ℕ) → f s ≡ None → f ≡ put f s None
put-none f s none = fun_ext (λ t. elim (cases_eq t s) [
  | inl same ↦ ap f same ∙ none ∙ sym (put-same f s None t same)
  | inr differs ↦ sym (put-other f s None t differs)
])

-- The function's values at 1 to n, and None elsewhere.
unfoldable up_to : {A : Type 0} → (ℕ → Option A) → ℕ → ℕ → Option A
up_to f zero = λ t. None
up_to f (suc n) = put (up_to f n) (suc n) (f (suc n))

lower : (t n : ℕ) → t ≤ suc n → (t ≡ suc n → ⊥) → t ≤ n
lower t n below differs = elim (cases_lt n t) [ inl above ↦ absurd (differs (omega arith)) | inr within ↦ within ]

up_to-within : {A : Type 0} (f : ℕ → Option A) (n t : ℕ) → f 0 ≡ None → t ≤ n → up_to f n t ≡ f t
unfolding up_to
up_to-within f zero t none within = let first : t ≡ 0 = omega arith in sym (ap f first ∙ none)
up_to-within f (suc n) t none within =
    elim (cases_eq t (suc n)) [
      | inl same ↦ put-same (up_to f n) (suc n) (f (suc n)) t same ∙ ap f (sym same)
      | inr differs ↦ put-other (up_to f n) (suc n) (f (suc n)) t differs ∙ up_to-within f n t none (lower t n within differs)
    ]

up_to-past : {A : Type 0} (f : ℕ → Option A) (n t : ℕ) → n < t → up_to f n t ≡ None
unfolding up_to
up_to-past f zero t past = refl
up_to-past f (suc n) t past = put-other (up_to f n) (suc n) (f (suc n)) t (λ same. omega (arith, same)) ∙ up_to-past f n t (omega arith)

up_to-all : {A : Type 0} (f : ℕ → Option A) (n : ℕ) → f 0 ≡ None → ((t : ℕ) → n < t → f t ≡ None) → up_to f n ≡ f
up_to-all f n none past = fun_ext (λ t. elim (cases_lt n t) [
  | inl beyond ↦ up_to-past f n t beyond ∙ sym (past t beyond)
  | inr within ↦ up_to-within f n t none within
])

-- ---- a promise that is raised to votes

-- the promise raised to the ballot of the vote, if there is one
abbrev raised_to : Option Ballot → Option (Vote Definition) → Option Ballot
raised_to promise None = promise
raised_to promise (Some vote) = raised promise vote.ballot

-- the promise that the votes at 1 to n leave
unfoldable raised_by : (ℕ → Option (Vote Definition)) → ℕ → Option Ballot
raised_by votes zero = None
raised_by votes (suc n) = raised_to (raised_by votes n) (votes (suc n))

-- the promise, if there is one, isn't above the ballot
abbrev IsWithin : Option Ballot → Ballot → Type 0
IsWithin None b = ⊤
IsWithin (Some promise) b = below b promise ≡ false

-- the vote, if there is one, isn't above the ballot
abbrev IsVoteWithin : Ballot → Option (Vote Definition) → Type 0
IsVoteWithin b vote = (v : Vote Definition) → vote ≡ Some v → below b v.ballot ≡ false

within_by : (q c b : Ballot) (is_below : Bool) → below q c ≡ is_below → below b q ≡ false → below b c ≡ false → IsWithin (raised (Some q) c) b
unfolding raised
within_by q c b true e old new = rw e new
within_by q c b false e old new = rw e old

within_raised : (promise : Option Ballot) (c b : Ballot) → IsWithin promise b → below b c ≡ false → IsWithin (raised promise c) b
unfolding raised
within_raised None c b old new = new
within_raised (Some q) c b old new = within_by q c b (below q c) refl old new

within_next : (promise : Option Ballot) (vote : Option (Vote Definition)) (b : Ballot) → IsWithin promise b → IsVoteWithin b vote → IsWithin (raised_to promise vote) b
within_next promise None b old new = old
within_next promise (Some vote) b old new = within_raised promise vote.ballot b old (new vote refl)

-- A promise that isn't above the ballot is raised to it.
reached_by : (q b : Ballot) (is_below : Bool) → below q b ≡ is_below → below b q ≡ false → raised (Some q) b ≡ Some b
unfolding raised
reached_by q b true e within = rw e refl
reached_by q b false e within = rw e (ap Some (order.not_below-antisymmetric q b e within))

reached : (promise : Option Ballot) (b : Ballot) → IsWithin promise b → raised promise b ≡ Some b
unfolding raised
reached None b within = refl
reached (Some q) b within = reached_by q b (below q b) refl within

-- A vote that isn't above the promise leaves it.
left_at : (b : Ballot) (vote : Option (Vote Definition)) → IsVoteWithin b vote → raised_to (Some b) vote ≡ Some b
unfolding raised
left_at b None within = refl
left_at b (Some vote) within = rw (within vote refl) refl

same_ballot-true : (a b : Ballot) → same_ballot a b ≡ true → a ≡ b
unfolding same_ballot
same_ballot-true a b same =
    let parts = and_parts (a.round == b.round) (a.node == b.node) same in
    order.same_ballot a b (eqb-true a.round b.round parts.0) (eqb-true a.node b.node parts.1)

-- A vote at the ballot raises the promise to it.
voted_reaches : (promise : Option Ballot) (vote : Option (Vote Definition)) (b : Ballot) → IsWithin promise b → votes_at vote b ≡ true → raised_to promise vote ≡ Some b
unfolding votes_at
voted_reaches promise None b within voted = absurd (false≢true voted)
voted_reaches promise (Some vote) b within voted = ap (raised promise) (same_ballot-true vote.ballot b voted) ∙ reached promise b within

module _ (votes : ℕ → Option (Vote Definition)) (b : Ballot) (all_within : (s : ℕ) → IsVoteWithin b (votes s)) where
  by_within : (n : ℕ) → IsWithin (raised_by votes n) b
  unfolding raised_by
  by_within zero = tt
  by_within (suc n) = within_next (raised_by votes n) (votes (suc n)) b (by_within n) (all_within (suc n))

  -- If one of the votes is at the ballot, they raise the promise to it.
  by_reaches : (n : ℕ) (before here : Bool) → is_voted votes b n ≡ before → votes_at (votes (suc n)) b ≡ here → is_voted votes b (suc n) ≡ true →
      (is_voted votes b n ≡ true → raised_by votes n ≡ Some b) → raised_by votes (suc n) ≡ Some b
  unfolding raised_by is_voted
  by_reaches n before true is_before is_here voted earlier = voted_reaches (raised_by votes n) (votes (suc n)) b (by_within n) is_here
  by_reaches n true false is_before is_here voted earlier =
      ap (λ (promise : Option Ballot). raised_to promise (votes (suc n))) (earlier is_before) ∙ left_at b (votes (suc n)) (all_within (suc n))
  by_reaches n false false is_before is_here voted earlier = absurd (false≢true (rw (is_before, is_here) at voted))

  reached_by_votes : (n : ℕ) → is_voted votes b n ≡ true → raised_by votes n ≡ Some b
  unfolding is_voted
  reached_by_votes zero voted = absurd (false≢true voted)
  reached_by_votes (suc n) voted = by_reaches n (is_voted votes b n) (votes_at (votes (suc n)) b) refl refl voted (reached_by_votes n)

-- Without votes there is no promise.
not_raised : (promise : Option Ballot) (vote : Option (Vote Definition)) → promise ≡ None → ((v : Vote Definition) → vote ≡ Some v → ⊥) → raised_to promise vote ≡ None
not_raised promise None none no_vote = none
not_raised promise (Some vote) none no_vote = absurd (no_vote vote refl)

none_by_none : (votes : ℕ → Option (Vote Definition)) (n : ℕ) → ((s : ℕ) (v : Vote Definition) → votes s ≡ Some v → ⊥) → raised_by votes n ≡ None
unfolding raised_by
none_by_none votes zero no_votes = refl
none_by_none votes (suc n) no_votes = not_raised (raised_by votes n) (votes (suc n)) (none_by_none votes n no_votes) (no_votes (suc n))

-- ---- the records of a sequence that isn't published

accept_here : (stored : DurableState Definition) (s : ℕ) (vote : Vote Definition) → nat_lt (published stored) s ≡ true →
    with_record stored (Accepted s vote.ballot vote.definition) ≡ record stored { promise = raised stored.promise vote.ballot; votes = put stored.votes s (Some vote) }
unfolding with_record
accept_here stored s vote is_open = rw is_open refl

-- They raise the promise, and set the vote, if there was none.
open_fold : (stored : DurableState Definition) (s : ℕ) (vote : Option (Vote Definition)) → nat_lt (published stored) s ≡ true → stored.votes s ≡ None →
    fold_from stored (vote_records s vote) ≡ Some (record stored { promise = raised_to stored.promise vote; votes = put stored.votes s vote })
unfolding fits
open_fold stored s None is_open no_vote =
    let same : stored ≡ record stored { votes = put stored.votes s None } = λ i. record stored { votes = put-none stored.votes s no_vote i } in
    fold_none stored ∙ ap Some same
open_fold stored s (Some vote) is_open no_vote =
    fold_first stored (Accepted s vote.ballot vote.definition) [] refl ∙ fold_none (with_record stored (Accepted s vote.ballot vote.definition))
    ∙ ap Some (accept_here stored s vote is_open)

-- ---- sequence by sequence

-- the state with the first n sequences alone, and the promise that their votes leave
abbrev so_far : DurableState Definition → ℕ → DurableState Definition
so_far stored n =
    record {
      tried = stored.tried;
      promise = raised_by stored.votes n;
      votes = up_to stored.votes n;
      history = take n stored.history;
    }

-- A state that records fold to, up to this last sequence: a published sequence has no vote, no vote
-- is above the promise, and there is nothing past the last sequence.
record IsFolded (stored : DurableState Definition) (last : ℕ) : Type 0 where
  is_open : IsOpenAlone stored
  promised : (s : ℕ) (vote : Vote Definition) → stored.votes s ≡ Some vote → NotBelow stored.promise vote.ballot
  no_vote : (s : ℕ) → last < s → stored.votes s ≡ None
  short : length stored.history ≤ last

next_taken : {X : Type 0} (xs : List X) (n : ℕ) (x : X) → slice_get xs n ≡ Some x → take (suc n) xs ≡ take n xs ++ x ∷ []
next_taken xs n x here =
    let next : suc n ≡ n + 1 = omega arith in
    ap (λ k. take k xs) next ∙ take_more xs n x (slice_get_within xs n x here) ∙ ap (λ y. take n xs ++ y ∷ []) (get_or_from_slice_get xs n x x here)

past_end : {X : Type 0} (xs : List X) (n : ℕ) → slice_get xs n ≡ None → length xs ≤ n
past_end xs n none =
    elim ((slice_get_cases xs n).1) [
      | inl here ↦ absurd (none-some here.0 (sym none ∙ here.2))
      | inr past ↦ past.0
    ]

-- Of a published sequence.
published_step : (stored : DurableState Definition) (n : ℕ) (d : Definition) → IsOpenAlone stored → slice_get stored.history n ≡ Some d →
    fold_from (so_far stored n) (Published (suc n) d ∷ []) ≡ Some (so_far stored (suc n))
unfolding fits next_sequence published with_record up_to raised_by
published_step stored n d known here =
    let within : n < length stored.history = slice_get_within stored.history n d here in
    let taken : length (take n stored.history) ≡ n = length-take-le n stored.history (omega arith) in
    let more = next_taken stored.history n d here in
    let no_vote : stored.votes (suc n) ≡ None = known (suc n) (omega arith) in
    let same : with_record (so_far stored n) (Published (suc n) d) ≡ so_far stored (suc n) = λ i. record {
      tried = stored.tried;
      promise = raised_to (raised_by stored.votes n) (sym no_vote i);
      votes = put (up_to stored.votes n) (suc n) (sym no_vote i);
      history = sym more i;
    } in
    fold_first (so_far stored n) (Published (suc n) d) [] (eq-eqb (suc n) (length (take n stored.history) + 1) (omega (arith, taken)))
    ∙ fold_none (with_record (so_far stored n) (Published (suc n) d)) ∙ ap Some same

-- Of one that isn't.
open_step : (stored : DurableState Definition) (n : ℕ) → slice_get stored.history n ≡ None →
    fold_from (so_far stored n) (vote_records (suc n) (stored.votes (suc n))) ≡ Some (so_far stored (suc n))
unfolding published up_to raised_by
open_step stored n none =
    let past : length stored.history ≤ n = past_end stored.history n none in
    let all : take n stored.history ≡ stored.history = take_all n stored.history past in
    let all_next : take (suc n) stored.history ≡ stored.history = take_all (suc n) stored.history (omega arith) in
    let is_open : nat_lt (length (take n stored.history)) (suc n) ≡ true = lt-ltb (length (take n stored.history)) (suc n) (omega (arith, ap length all)) in
    let same : record (so_far stored n) {
      promise = raised_to (raised_by stored.votes n) (stored.votes (suc n));
      votes = put (up_to stored.votes n) (suc n) (stored.votes (suc n));
    } ≡ so_far stored (suc n) = λ i. record {
      tried = stored.tried;
      promise = raised_to (raised_by stored.votes n) (stored.votes (suc n));
      votes = put (up_to stored.votes n) (suc n) (stored.votes (suc n));
      history = (all ∙ sym all_next) i;
    } in
    open_fold (so_far stored n) (suc n) (stored.votes (suc n)) is_open (up_to-past stored.votes n (suc n) (omega arith)) ∙ ap Some same

step_by : (stored : DurableState Definition) (n last : ℕ) (here : Option Definition) → IsFolded stored last → slice_get stored.history n ≡ here →
    fold_from (so_far stored n) (records_by (suc n) here (stored.votes (suc n))) ≡ Some (so_far stored (suc n))
step_by stored n last (Some d) known is = published_step stored n d known.is_open is
step_by stored n last None known is = open_step stored n is

step : (stored : DurableState Definition) (n last : ℕ) → IsFolded stored last → fold_from (so_far stored n) (records_at stored (suc n)) ≡ Some (so_far stored (suc n))
unfolding records_at definition_at
step stored n last known = step_by stored n last (slice_get stored.history n) known refl

steps_from : (stored : DurableState Definition) (n count last : ℕ) → IsFolded stored last → fold_from (so_far stored n) (records_from stored (suc n) count) ≡ Some (so_far stored (n + count))
unfolding records_from
steps_from stored n zero last known = let same : n ≡ n + 0 = omega arith in fold_none (so_far stored n) ∙ ap (λ (k : ℕ). Some (so_far stored k)) same
steps_from stored n (suc count) last known =
    let same : suc n + count ≡ n + suc count = omega arith in
    fold_from-append (so_far stored n) (so_far stored (suc n)) (records_at stored (suc n)) (records_from stored (suc (suc n)) count) (step stored n last known)
    ∙ steps_from stored (suc n) count last known ∙ ap (λ (k : ℕ). Some (so_far stored k)) same

-- ---- the promise

promise_here : (stored : DurableState Definition) (s : ℕ) (b : Ballot) → fold_from stored (Promised s b ∷ []) ≡ Some (record stored { promise = raised stored.promise b })
unfolding fits with_record
promise_here stored s b = fold_first stored (Promised s b) [] refl ∙ fold_none (with_record stored (Promised s b))

-- the state with another promise
abbrev with_promise : DurableState Definition → Option Ballot → DurableState Definition
with_promise stored promise = record stored { promise = promise }

-- Its record raises the promise that the votes left, unless one of them is at its ballot.
promise_by : (stored : DurableState Definition) (s : ℕ) (b : Ballot) (last : ℕ) (voted : Bool) → ((t : ℕ) → IsVoteWithin b (stored.votes t)) → is_voted stored.votes b last ≡ voted →
    fold_from (with_promise stored (raised_by stored.votes last)) (promise_record s b voted) ≡ Some (with_promise stored (Some b))
promise_by stored s b last true all_within voted =
    fold_none (with_promise stored (raised_by stored.votes last)) ∙ ap (λ (promise : Option Ballot). Some (with_promise stored promise)) (reached_by_votes stored.votes b all_within last voted)
promise_by stored s b last false all_within voted =
    promise_here (with_promise stored (raised_by stored.votes last)) s b
    ∙ ap (λ (promise : Option Ballot). Some (with_promise stored promise)) (reached (raised_by stored.votes last) b (by_within stored.votes b all_within last))

promise_folds : (stored : DurableState Definition) (promise : Option Ballot) → ((s : ℕ) (vote : Vote Definition) → stored.votes s ≡ Some vote → NotBelow promise vote.ballot) →
    fold_from (with_promise stored (raised_by stored.votes last_sequence)) (promise_records stored promise) ≡ Some (with_promise stored promise)
promise_folds stored None promised =
    fold_none (with_promise stored (raised_by stored.votes last_sequence))
    ∙ ap (λ (promise : Option Ballot). Some (with_promise stored promise)) (none_by_none stored.votes last_sequence promised)
promise_folds stored (Some b) promised =
    promise_by stored (promised_sequence stored) b last_sequence (is_voted stored.votes b last_sequence) promised refl

-- ---- the whole list

-- the state that has tried this round, and has nothing else
abbrev begun : ℕ → DurableState Definition
begun round = record { tried = round; promise = None; votes = λ s. None; history = [] }

tried_fold : (tried : ℕ) → fold_from nothing_stored (tried_records tried) ≡ Some (begun tried)
unfolding fold_from nothing_stored fits with_record
tried_fold zero = refl
tried_fold (suc r) = refl

none_so_far : (stored : DurableState Definition) → so_far stored 0 ≡ begun stored.tried
unfolding up_to raised_by
none_so_far stored = refl

all_so_far : (stored : DurableState Definition) (last : ℕ) → IsFolded stored last → so_far stored last ≡ with_promise stored (raised_by stored.votes last)
all_so_far stored last known =
    let votes = up_to-all stored.votes last (known.is_open 0 (omega arith)) known.no_vote in
    let history = take_all last stored.history known.short in
    λ i. record { tried = stored.tried; promise = raised_by stored.votes last; votes = votes i; history = history i }

-- the sequences' records, and those that follow
sequences_fold : (stored : DurableState Definition) (last : ℕ) (rest : List (Record Definition)) → IsFolded stored last →
    fold_from (so_far stored 0) (records_from stored 1 last ++ rest) ≡ fold_from (with_promise stored (raised_by stored.votes last)) rest
sequences_fold stored last rest known =
    let none_yet : 0 + last ≡ last = omega arith in
    fold_from-append (so_far stored 0) (so_far stored last) (records_from stored 1 last) rest (steps_from stored 0 last last known ∙ ap (λ (k : ℕ). Some (so_far stored k)) none_yet)
    ∙ ap (λ (s : DurableState Definition). fold_from s rest) (all_so_far stored last known)

folds_back : (stored : DurableState Definition) → IsFolded stored last_sequence →
    fold_from nothing_stored (tried_records stored.tried ++ (records_from stored 1 last_sequence ++ promise_records stored stored.promise)) ≡ Some stored
folds_back stored known =
    let promise = promise_records stored stored.promise in
    fold_from-append nothing_stored (so_far stored 0) (tried_records stored.tried) (records_from stored 1 last_sequence ++ promise) (tried_fold stored.tried ∙ ap Some (sym (none_so_far stored)))
    ∙ sequences_fold stored last_sequence promise known ∙ promise_folds stored stored.promise known.promised

-- ---- records on a tape are of slots, so there is nothing past the last sequence

record IsToLast (stored : DurableState Definition) : Type 0 where
  votes : (s : ℕ) → last_sequence < s → stored.votes s ≡ None
  short : length stored.history ≤ last_sequence

module _ (stored : DurableState Definition) (known : IsToLast stored) where
  accepted_to_last : (s : ℕ) (b : Ballot) (d : Definition) (is_open : Bool) → IsSlot s → nat_lt (published stored) s ≡ is_open → IsToLast (with_record stored (Accepted s b d))
  unfolding with_record
  accepted_to_last s b d true slot e = rw e (record {
    votes = λ t past. at_put (λ o. o ≡ None) stored.votes s (Some (record { ballot = b; definition = d })) t (λ same. absurd (omega (arith, slot.to_last))) (λ _. known.votes t past);
    short = known.short;
  })
  accepted_to_last s b d false slot e = rw e known

  published_to_last : (s : ℕ) (d : Definition) → IsSlot s → s ≡ length stored.history + 1 → IsToLast (with_record stored (Published s d))
  unfolding with_record
  published_to_last s d slot is_next = record {
    votes = λ t past. at_put (λ o. o ≡ None) stored.votes s None t (λ same. refl) (λ _. known.votes t past);
    short = omega (arith, slot.to_last, length-append stored.history (d ∷ []));
  }

  record_to_last : (r : Record Definition) → IsRecord r → fits stored r ≡ true → IsToLast (with_record stored r)
  unfolding with_record fits next_sequence published
  record_to_last (Tried round) is fit = record { votes = known.votes; short = known.short }
  record_to_last (Promised s b) is fit = record { votes = known.votes; short = known.short }
  record_to_last (Accepted s b d) is fit = accepted_to_last s b d (nat_lt (length stored.history) s) is.0 refl
  record_to_last (Published s d) is fit = published_to_last s d is.0 (eqb-true s (length stored.history + 1) fit)

all_to_last : (bytes : List ℕ) (records : List (Record Definition)) (rest : List ℕ) (start stored : DurableState Definition) → Splits bytes records rest → IsToLast start →
    fold_from start records ≡ Some stored → IsToLast stored
unfolding fold_from
all_to_last bytes [] rest start stored splits known folds = subst IsToLast (same_Some start stored folds) known
all_to_last bytes (r ∷ records) rest start stored splits known folds =
    let (fit, later) = fold_next r records start stored (fits start r) refl folds in
    all_to_last splits.1 records rest (with_record start r) stored splits.4 (record_to_last start known r splits.2.is_record fit) later

nothing_to_last : IsToLast nothing_stored
unfolding nothing_stored
nothing_to_last = record { votes = λ s past. refl; short = omega arith }

-- ---- a tape

-- The records of a shortened tape fold to what the tape stands for.
pub shortened_folds : FoldsAreOpen Definition → VotesArePromised Definition → (stored : DurableState Definition) (bytes : List ℕ) → StandsFor stored bytes → fold (short_records stored) ≡ Some stored
unfolding fold short_records
shortened_folds are_open are_promised stored bytes stands =
    let to_last = all_to_last bytes stands.records stands.reads.0 nothing_stored stored stands.reads.1.splits nothing_to_last stands.folds in
    folds_back stored (record {
      is_open = are_open stands.records stored stands.folds;
      promised = λ s vote has. are_promised stands.records stored s vote stands.folds has;
      no_vote = to_last.votes;
      short = to_last.short;
    })

-- So each image after it is rewritten stands for what each stood for before.
pub stands_on : FoldsAreOpen Definition → VotesArePromised Definition → (stored : DurableState Definition) (old new : List ℕ → Type 0) → Follows (IsSameOrReads (short_records stored)) old new →
    AllStandFor stored old → AllStandFor stored new
stands_on are_open are_promised stored old new follows stands image left =
    let earlier = follows image left in
    let stood = stands earlier.0 earlier.1 in
    elim earlier.2 [
      | inl same ↦ subst (λ (t : List ℕ). StandsFor stored t) (sym same) stood
      | inr reads ↦ record { records = short_records stored; reads = reads; folds = shortened_folds are_open are_promised stored earlier.0 stood }
    ]
