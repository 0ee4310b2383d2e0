-- Lists of entries, one for each process, of which the items of one order of time are seen, are one
-- list.
use Rattle.std.proofs.Common.{◌≡◌, ◌≢◌, ℕ, zero, suc, ◌<◌, ◌≤◌, ◌==◌, Bool, List, [], ◌∷◌, ◌++◌, refl, sym, ap, subst, ◌∙◌, inl, inr, append-nil, arith, eq-eqb, ne_eqb, if◌then◌else◌}
use Rattle.std.specs.Prelude.{⊤}
use Rattle.std.proofs.lemmas.Bool.{cases_eq, cases_lt}
use Rattle.wf_model.specs.Message.{Message}
use Rattle.wf_model.specs.World.{Node}
use Rattle.wf_trace.specs.Deed.{Deed, Takes, Crashes, Stops, Restarts, IsDone, new_node}
use Rattle.wf_trace.specs.Trace.{Entry, of_process, outputs_by, IsLifeByEntries, IsInputOf, DeliversOneOf, AreReceived, AreMembers}
use Rattle.wf_trace.specs.Order.{Item, seen_of, seen, items_of, outputs_in, AreCausal, AreOf, LivesAreOneTrace, AreLivesFrom, GoOnAsOne, LivesGoOn}
use Rattle.wf_trace.proofs.Entries.{own_first, other_first}

-- ---- entries of which nothing is seen

-- a deed that isn't seen sends nothing
abbrev IsQuiet : {V : Type 0} → List (Message V) → Deed V → Type 0
IsQuiet outputs (Takes input) = ⊤
IsQuiet outputs (Crashes input kept) = ⊤
IsQuiet outputs Stops = outputs ≡ []
IsQuiet outputs Restarts = outputs ≡ []

abbrev AreQuiet : {V : Type 0} → List (Entry V) → Type 0
AreQuiet [] = ⊤
AreQuiet (entry ∷ entries) = IsQuiet entry.outputs entry.deed × AreQuiet entries

done_quiet : {V : Type 0} (same : V → V → Bool) (n i : ℕ) (before after : Node V) (deed : Deed V) (outputs : List (Message V)) → IsDone same n i before deed outputs after → IsQuiet outputs deed
done_quiet same n i before after (Takes input) outputs is = tt
done_quiet same n i before after (Crashes input kept) outputs is = tt
done_quiet same n i before after Stops outputs is = is.silent
done_quiet same n i before after Restarts outputs is = is.silent

life_quiet : {V : Type 0} (same : V → V → Bool) (n i : ℕ) (before after : Node V) (entries : List (Entry V)) → IsLifeByEntries same n i before entries after → AreQuiet entries
life_quiet same n i before after [] life = tt
life_quiet same n i before after (entry ∷ entries) life =
    (done_quiet same n i before life.0 entry.deed entry.outputs life.1, life_quiet same n i life.0 after entries life.2)

-- the deed is a stop or a restart
abbrev IsUnseen : {V : Type 0} → Deed V → Type 0
IsUnseen (Takes input) = ⊥
IsUnseen (Crashes input kept) = ⊥
IsUnseen Stops = ⊤
IsUnseen Restarts = ⊤

abbrev AreUnseen : {V : Type 0} → List (Entry V) → Type 0
AreUnseen [] = ⊤
AreUnseen (entry ∷ entries) = IsUnseen entry.deed × (entry.outputs ≡ []) × AreUnseen entries

unseen_received : {V : Type 0} (sent : List (Message V)) (deed : Deed V) → IsUnseen deed → DeliversOneOf sent deed
unseen_received sent (Takes input) unseen = absurd unseen
unseen_received sent (Crashes input kept) unseen = absurd unseen
unseen_received sent Stops unseen = tt
unseen_received sent Restarts unseen = tt

-- ---- the first entry that is seen

-- Entries of process i are some of which nothing is seen, then one that is seen as the item, and
-- then those that are seen as the rest.
record Split {V : Type 0} (i : ℕ) (entries : List (Entry V)) (item : Item V) (items : List (Item V)) : Type 0 where
  front : List (Entry V)
  it : Entry V
  rest : List (Entry V)
  whole : entries ≡ front ++ it ∷ rest
  unseen : AreUnseen front
  front_own : AreOf i front
  it_own : it.process ≡ i
  received : (sent : List (Message V)) → IsInputOf sent item.input → DeliversOneOf sent it.deed
  outputs : it.outputs ≡ item.outputs
  rest_own : AreOf i rest
  rest_quiet : AreQuiet rest
  rest_seen : seen rest ≡ items

module _ {A : Type 0} (x y : A) (xs ys : List A) (e : x ∷ xs ≡ y ∷ ys) where
  same_head : x ≡ y
  same_head = cc

  same_tail : xs ≡ ys
  same_tail = cc

module _ {V : Type 0} (i : ℕ) (item : Item V) (items : List (Item V)) where
  -- the first one is seen
  seen_first : (entry : Entry V) (entries : List (Entry V)) (seen_as : Item V) → entry.process ≡ i → AreOf i entries → AreQuiet entries →
      ((sent : List (Message V)) → IsInputOf sent seen_as.input → DeliversOneOf sent entry.deed) → entry.outputs ≡ seen_as.outputs → seen_as ∷ seen entries ≡ item ∷ items → Split i (entry ∷ entries) item items
  seen_first entry entries seen_as own rest quiet received outputs e =
      let first : seen_as ≡ item = same_head seen_as item (seen entries) items e in
      record {
        front = [];
        it = entry;
        rest = entries;
        whole = refl;
        unseen = tt;
        front_own = tt;
        it_own = own;
        received = λ sent is. received sent (subst (λ (x : Item V). IsInputOf sent x.input) (sym first) is);
        outputs = outputs ∙ ap (λ (x : Item V). x.outputs) first;
        rest_own = rest;
        rest_quiet = quiet;
        rest_seen = same_tail seen_as item (seen entries) items e;
      }

  -- nothing is seen of the first one
  seen_later : (entry : Entry V) (entries : List (Entry V)) → entry.process ≡ i → IsUnseen entry.deed → entry.outputs ≡ [] → Split i entries item items → Split i (entry ∷ entries) item items
  seen_later entry entries own unseen silent split = record {
    front = entry ∷ split.front;
    it = split.it;
    rest = split.rest;
    whole = ap (λ es. entry ∷ es) split.whole;
    unseen = (unseen, silent, split.unseen);
    front_own = (own, split.front_own);
    it_own = split.it_own;
    received = split.received;
    outputs = split.outputs;
    rest_own = split.rest_own;
    rest_quiet = split.rest_quiet;
    rest_seen = split.rest_seen;
  }

  split_by : (p : ℕ) (deed : Deed V) (outputs : List (Message V)) (entries : List (Entry V)) → p ≡ i → AreOf i entries → IsQuiet outputs deed → AreQuiet entries →
      seen_of p outputs deed ++ seen entries ≡ item ∷ items → (seen entries ≡ item ∷ items → Split i entries item items) → Split i (record { process = p; deed = deed; outputs = outputs } ∷ entries) item items
  split_by p (Takes input) outputs entries own rest quiet later e on =
      seen_first (record { process = p; deed = Takes input; outputs = outputs }) entries (record { process = p; input = input; outputs = outputs }) own rest later (λ sent is. is) refl e
  split_by p (Crashes input kept) outputs entries own rest quiet later e on =
      seen_first (record { process = p; deed = Crashes input kept; outputs = outputs }) entries (record { process = p; input = input; outputs = outputs }) own rest later (λ sent is. is) refl e
  split_by p Stops outputs entries own rest quiet later e on = seen_later (record { process = p; deed = Stops; outputs = outputs }) entries own tt quiet (on e)
  split_by p Restarts outputs entries own rest quiet later e on = seen_later (record { process = p; deed = Restarts; outputs = outputs }) entries own tt quiet (on e)

  split : (entries : List (Entry V)) → AreOf i entries → AreQuiet entries → seen entries ≡ item ∷ items → Split i entries item items
  unfolding seen
  split [] own quiet e = absurd cc
  split (entry ∷ entries) own quiet e = split_by entry.process entry.deed entry.outputs entries own.0 own.1 quiet.0 quiet.1 e (λ h. split entries own.1 quiet.1 h)

-- entries of which nothing is seen
unseen_by : {V : Type 0} (p : ℕ) (deed : Deed V) (outputs : List (Message V)) (items : List (Item V)) → IsQuiet outputs deed → seen_of p outputs deed ++ items ≡ [] → IsUnseen deed × (outputs ≡ []) × (items ≡ [])
unseen_by p (Takes input) outputs items quiet e = absurd cc
unseen_by p (Crashes input kept) outputs items quiet e = absurd cc
unseen_by p Stops outputs items quiet e = (tt, quiet, e)
unseen_by p Restarts outputs items quiet e = (tt, quiet, e)

none_seen : {V : Type 0} (entries : List (Entry V)) → AreQuiet entries → seen entries ≡ [] → AreUnseen entries
unfolding seen
none_seen [] quiet e = tt
none_seen (entry ∷ entries) quiet e =
    let first = unseen_by entry.process entry.deed entry.outputs (seen entries) quiet.0 e in
    (first.0, first.1, none_seen entries quiet.1 first.2)

-- ---- entries of one process before others

module _ {V : Type 0} where
  own_before : (i : ℕ) (front more : List (Entry V)) → AreOf i front → of_process i (front ++ more) ≡ front ++ of_process i more
  own_before i [] more own = refl
  own_before i (entry ∷ front) more own = own_first i entry (front ++ more) own.0 ∙ ap (λ es. entry ∷ es) (own_before i front more own.1)

  other_before : (i j : ℕ) (front more : List (Entry V)) → AreOf j front → j ≢ i → of_process i (front ++ more) ≡ of_process i more
  other_before i j [] more own differs = refl
  other_before i j (entry ∷ front) more own differs = other_first i entry (front ++ more) (λ e. differs (sym own.0 ∙ e)) ∙ other_before i j front more own.1 differs

  members_before : (n i : ℕ) (front more : List (Entry V)) → i < n → AreOf i front → AreMembers n more → AreMembers n (front ++ more)
  members_before n i [] more less own are = are
  members_before n i (entry ∷ front) more less own are = (subst (λ k. k < n) (sym own.0) less, members_before n i front more less own.1 are)

  unseen_before : (sent : List (Message V)) (front more : List (Entry V)) → AreUnseen front → AreReceived sent more → AreReceived sent (front ++ more)
  unseen_before sent [] more unseen received = received
  unseen_before sent (entry ∷ front) more unseen received =
      (unseen_received sent entry.deed unseen.0, subst (λ ms. AreReceived ms (front ++ more)) (sym (ap (λ ms. sent ++ ms) unseen.1 ∙ append-nil sent)) (unseen_before sent front more unseen.2 received))

  silent_before : (front more : List (Entry V)) → AreUnseen front → outputs_by (front ++ more) ≡ outputs_by more
  unfolding outputs_by
  silent_before [] more unseen = refl
  silent_before (entry ∷ front) more unseen = ap (λ ms. ms ++ outputs_by (front ++ more)) unseen.1 ∙ silent_before front more unseen.2

-- ---- the items of one process

own_item : {V : Type 0} (i : ℕ) (item : Item V) (items : List (Item V)) → item.process ≡ i → items_of i (item ∷ items) ≡ item ∷ items_of i items
unfolding items_of
own_item i item items same = rw (eq-eqb item.process i same) refl

other_item : {V : Type 0} (i : ℕ) (item : Item V) (items : List (Item V)) → item.process ≢ i → items_of i (item ∷ items) ≡ items_of i items
unfolding items_of
other_item i item items differs = rw (ne_eqb item.process i differs) refl

-- ---- all of them

-- one list that has these of each process, in their order
record Merged {V : Type 0} (n : ℕ) (sent : List (Message V)) (lives : ℕ → List (Entry V)) (items : List (Item V)) : Type 0 where
  entries : List (Entry V)
  each : (i : ℕ) → i < n → of_process i entries ≡ lives i
  members : AreMembers n entries
  received : AreReceived sent entries
  messages : outputs_by entries ≡ outputs_in items

-- Each process's entries are its own, and are seen as its items.
record AreSeen {V : Type 0} (n : ℕ) (lives : ℕ → List (Entry V)) (items : List (Item V)) : Type 0 where
  own : (i : ℕ) → i < n → AreOf i (lives i)
  quiet : (i : ℕ) → i < n → AreQuiet (lives i)
  shown : (i : ℕ) → i < n → seen (lives i) ≡ items_of i items

-- no item is left
module _ {V : Type 0} (n : ℕ) (lives : ℕ → List (Entry V)) (are : AreSeen n lives []) where
  last_unseen : (i : ℕ) → i < n → AreUnseen (lives i)
  unfolding items_of
  last_unseen i less = none_seen (lives i) (are.quiet i less) (are.shown i less)

  -- those of the first k processes, one process after the other
  lasts : ℕ → List (Entry V)
  lasts zero = []
  lasts (suc k) = lives k ++ lasts k

  lasts_none : (k i : ℕ) → k ≤ n → k ≤ i → of_process i (lasts k) ≡ []
  unfolding lasts of_process
  lasts_none zero i within beyond = refl
  lasts_none (suc k) i within beyond =
      other_before i k (lives k) (lasts k) (are.own k (omega (arith, within))) (λ e. absurd (omega (arith, e, beyond))) ∙ lasts_none k i (omega (arith, within)) (omega (arith, beyond))

  lasts_each : (k i : ℕ) → k ≤ n → i < k → of_process i (lasts k) ≡ lives i
  unfolding lasts
  lasts_each zero i within less = absurd (omega (arith, less))
  lasts_each (suc k) i within less = elim (cases_lt i k) [
    | inl lower ↦
        other_before i k (lives k) (lasts k) (are.own k (omega (arith, within))) (λ e. absurd (omega (arith, e, lower))) ∙ lasts_each k i (omega (arith, within)) lower
    | inr last ↦
        let it : k ≡ i = omega (arith, less, last) in
        let here : of_process k (lives k ++ lasts k) ≡ lives k =
        own_before k (lives k) (lasts k) (are.own k (omega (arith, within))) ∙ ap (λ es. lives k ++ es) (lasts_none k k (omega (arith, within)) (omega arith)) ∙ append-nil (lives k) in
        subst (λ j. of_process j (lives k ++ lasts k) ≡ lives j) it here
  ]

  lasts_members : (k : ℕ) → k ≤ n → AreMembers n (lasts k)
  unfolding lasts
  lasts_members zero within = tt
  lasts_members (suc k) within = members_before n k (lives k) (lasts k) (omega (arith, within)) (are.own k (omega (arith, within))) (lasts_members k (omega (arith, within)))

  lasts_received : (sent : List (Message V)) (k : ℕ) → k ≤ n → AreReceived sent (lasts k)
  unfolding lasts
  lasts_received sent zero within = tt
  lasts_received sent (suc k) within = unseen_before sent (lives k) (lasts k) (last_unseen k (omega (arith, within))) (lasts_received sent k (omega (arith, within)))

  lasts_silent : (k : ℕ) → k ≤ n → outputs_by (lasts k) ≡ []
  unfolding lasts outputs_by
  lasts_silent zero within = refl
  lasts_silent (suc k) within = silent_before (lives k) (lasts k) (last_unseen k (omega (arith, within))) ∙ lasts_silent k (omega (arith, within))

  merge_last : (sent : List (Message V)) → Merged n sent lives []
  unfolding outputs_in
  merge_last sent = record {
    entries = lasts n;
    each = λ i less. lasts_each n i (omega arith) less;
    members = lasts_members n (omega arith);
    received = lasts_received sent n (omega arith);
    messages = lasts_silent n (omega arith);
  }

-- ---- one item

put_life : {V : Type 0} → (ℕ → List (Entry V)) → ℕ → List (Entry V) → ℕ → List (Entry V)
put_life lives i life j = if j == i then life else lives j

put_own : {V : Type 0} (lives : ℕ → List (Entry V)) (i j : ℕ) (life : List (Entry V)) → j ≡ i → put_life lives i life j ≡ life
unfolding put_life
put_own lives i j life same = rw (eq-eqb j i same) refl

put_other : {V : Type 0} (lives : ℕ → List (Entry V)) (i j : ℕ) (life : List (Entry V)) → j ≢ i → put_life lives i life j ≡ lives j
unfolding put_life
put_other lives i j life differs = rw (ne_eqb j i differs) refl

-- a property of the list that was put, and of each other one
at_put : {V : Type 0} (P : ℕ → List (Entry V) → Type 0) (lives : ℕ → List (Entry V)) (i j : ℕ) (life : List (Entry V)) → P i life → (j ≢ i → P j (lives j)) → P j (put_life lives i life j)
at_put P lives i j life here elsewhere = elim (cases_eq j i) [
  | inl same ↦ subst (λ es. P j es) (sym (put_own lives i j life same)) (subst (λ k. P k life) (sym same) here)
  | inr differs ↦ subst (λ es. P j es) (sym (put_other lives i j life differs)) (elsewhere differs)
]

module _ {V : Type 0} (n : ℕ) (sent : List (Message V)) (lives : ℕ → List (Entry V)) (item : Item V) (items : List (Item V)) (are : AreSeen n lives (item ∷ items)) (taken : AreCausal n sent (item ∷ items)) where
  abbrev p : ℕ
  p = item.process

  first : Split p (lives p) item (items_of p items)
  first = split p item (items_of p items) (lives p) (are.own p taken.0) (are.quiet p taken.0) (are.shown p taken.0 ∙ own_item p item items refl)

  -- the entries that are left of each process
  left : ℕ → List (Entry V)
  left = put_life lives p first.rest

  left_seen : AreSeen n left items
  unfolding left
  left_seen = record {
    own = λ i less. at_put (λ j es. AreOf j es) lives p i first.rest first.rest_own (λ differs. are.own i less);
    quiet = λ i less. at_put (λ j es. AreQuiet es) lives p i first.rest first.rest_quiet (λ differs. are.quiet i less);
    shown = λ i less. at_put (λ j es. seen es ≡ items_of j items) lives p i first.rest first.rest_seen
        (λ differs. are.shown i less ∙ other_item i item items (λ e. differs (sym e)));
  }

  module _ (merged : Merged n (sent ++ item.outputs) left items) where
    abbrev more : List (Entry V)
    more = first.it ∷ merged.entries

    own_each : of_process p (first.front ++ more) ≡ lives p
    unfolding left
    own_each =
        own_before p first.front more first.front_own
        ∙ ap (λ es. first.front ++ es) (own_first p first.it merged.entries first.it_own ∙ ap (λ es. first.it ∷ es) (merged.each p taken.0 ∙ put_own lives p p first.rest refl))
        ∙ sym first.whole

    other_each : (i : ℕ) → i < n → i ≢ p → of_process i (first.front ++ more) ≡ lives i
    unfolding left
    other_each i less differs =
        other_before i p first.front more first.front_own (λ e. differs (sym e))
        ∙ other_first i first.it merged.entries (λ e. differs (sym e ∙ first.it_own))
        ∙ merged.each i less
        ∙ put_other lives p i first.rest differs

    each_of : (i : ℕ) → i < n → of_process i (first.front ++ more) ≡ lives i
    each_of i less = elim (cases_eq i p) [
      | inl same ↦ subst (λ j. of_process j (first.front ++ more) ≡ lives j) (sym same) own_each
      | inr differs ↦ other_each i less differs
    ]

    more_received : AreReceived sent more
    more_received = (first.received sent taken.1, subst (λ ms. AreReceived (sent ++ ms) merged.entries) (sym first.outputs) merged.received)

    more_outputs : outputs_by more ≡ outputs_in (item ∷ items)
    unfolding outputs_by outputs_in
    more_outputs = ap (λ ms. ms ++ outputs_by merged.entries) first.outputs ∙ ap (λ ms. item.outputs ++ ms) merged.messages

    merge_one : Merged n sent lives (item ∷ items)
    merge_one = record {
      entries = first.front ++ more;
      each = each_of;
      members = members_before n p first.front more taken.0 first.front_own (subst (λ k. k < n) (sym first.it_own) taken.0, merged.members);
      received = unseen_before sent first.front more first.unseen more_received;
      messages = silent_before first.front more first.unseen ∙ more_outputs;
    }

merge : {V : Type 0} (n : ℕ) (items : List (Item V)) (sent : List (Message V)) (lives : ℕ → List (Entry V)) → AreSeen n lives items → AreCausal n sent items → Merged n sent lives items
merge n [] sent lives are taken = merge_last n lives are sent
merge n (item ∷ items) sent lives are taken =
    merge_one n sent lives item items are taken (merge n items (sent ++ item.outputs) (left n sent lives item items are taken) (left_seen n sent lives item items are taken) taken.2)

module _ {V : Type 0} (same : V → V → Bool) (n : ℕ) (sent : List (Message V)) (nodes after : ℕ → Node V) (items : List (Item V)) (lives : ℕ → List (Entry V)) (are : AreLivesFrom same n nodes items lives after) (taken : AreCausal n sent items) where
  merged_lives : Merged n sent lives items
  merged_lives = merge n items sent lives (record {
    own = are.own;
    quiet = λ i less. life_quiet same n i (nodes i) (after i) (lives i) (are.life i less);
    shown = are.shown;
  }) taken

  go_on : GoOnAsOne same n sent nodes items lives after
  go_on = record {
    entries = merged_lives.entries;
    goes_on = record {
      members = merged_lives.members;
      lives = λ i less. subst (λ (es : List (Entry V)). IsLifeByEntries same n i (nodes i) es (after i)) (sym (merged_lives.each i less)) (are.life i less);
      received = merged_lives.received;
    };
    each = merged_lives.each;
    messages = merged_lives.messages;
  }

pub lives_go_on : (V : Type 0) → LivesGoOn V
lives_go_on V = λ same n sent nodes after items lives are taken. go_on same n sent nodes after items lives are taken

pub lives_are_one_trace : (V : Type 0) → LivesAreOneTrace V
lives_are_one_trace V = λ same n items lives nodes are taken.
    let one = go_on same n [] (λ i. new_node) nodes items lives (record { own = are.own; life = are.life; shown = are.shown }) taken in
    record { entries = one.entries; trace = one.goes_on; each = one.each; messages = one.messages }
