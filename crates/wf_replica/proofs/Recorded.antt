-- A tape that has a replica's maps.
use Rattle.std.proofs.Common.{◌≡◌, ◌∙◌, ℕ, suc, ◌+◌, ◌<◌, true, false, List, [], ◌∷◌, ◌++◌, length, map, take, drop, get_or, refl, sym, ap, subst, arith, append_assoc, append-nil, inl, inr}
use Rattle.std.specs.Prelude.{Option, Some, None, Result, Ok, Err, IfOk}
use Rattle.std.proofs.lemmas.List.{drop_at, map-append, take-append-drop, take_more}
use Rattle.std.proofs.Math.Logic.{∥∥₁_map}
use Rattle.std.proofs.Math.Seq.{take-length}
use Rattle.wf_def.specs.Definition.{Definition}
use Rattle.wf_journal.specs.Encoding.{Encodes, Spells}
use Rattle.wf_journal.specs.EncodingTheorems.{length_of_encoding, written_encodes}
use Rattle.wf_journal.specs.Journal.{IsBadAt}
use Rattle.wf_journal.specs.Records.{AreReadOneWay, AreRecords, IsBad, IsTapeOf, IsTorn, Splits}
use Rattle.wf_learner.specs.History.{next_of}
use Rattle.wf_model.specs.DurableState.{Record, Tried, Promised, Accepted, Published}
use Rattle.wf_safety.specs.Replacement.{published_from}
use Rattle.wf_tape.specs.declared.tape.Tape.{Ghosts as Tape}
use Rattle.wf_replica.specs.Recorded.{AreLearned, HasAppended, HasRecorded, HasStayedOrGone, IsRecordedStart, IsBegunAnew, IsFoundOn, IsNextLearned, IsRecorded}
use Rattle.wf_replica.specs.declared.start.FoundTape.{FoundTape}
use Rattle.wf_replica.specs.declared.start.FoundTape.TheVariants as found

-- ---- the records of maps

-- one map more
records_push : (s : ℕ) (list : List Definition) (d : Definition) → published_from s (list ++ d ∷ []) ≡ published_from s list ++ Published (s + length list) d ∷ []
unfolding published_from
records_push s [] d =
    let here : s ≡ s + 0 = omega arith in
    ap (λ (n : ℕ). Published n d ∷ []) here
records_push s (e ∷ list) d =
    let later : suc s + length list ≡ s + length (e ∷ list) = omega arith in
    ap (λ (l : List (Record Definition)). Published s e ∷ l) (records_push (suc s) list d ∙ ap (λ (n : ℕ). published_from (suc s) list ++ Published n d ∷ []) later)

next_record : (list : List Definition) (d : Definition) → published_from 1 (list ++ d ∷ []) ≡ published_from 1 list ++ Published (next_of list) d ∷ []
next_record list d =
    let next : 1 + length list ≡ next_of list = omega arith in
    records_push 1 list d ∙ ap (λ (n : ℕ). published_from 1 list ++ Published n d ∷ []) next

records_length : (s : ℕ) (list : List Definition) → length (published_from s list) ≡ length list
unfolding published_from
records_length s [] = refl
records_length s (d ∷ list) = ap (λ (n : ℕ). suc n) (records_length (suc s) list)

-- a record among those of maps is that of the map at its place
record_at : (s : ℕ) (list : List Definition) (front : List (Record Definition)) (r : Record Definition) (back : List (Record Definition)) →
    published_from s list ≡ front ++ r ∷ back → (d : Definition) × (r ≡ Published (s + length front) d)
unfolding published_from
record_at s [] [] r back is = absurd cc
record_at s [] (x ∷ front) r back is = absurd cc
record_at s (d ∷ list) [] r back is =
    let first : r ≡ Published s d = cc in
    let here : s ≡ s + 0 = omega arith in
    (d, first ∙ ap (λ (n : ℕ). Published n d) here)
record_at s (d ∷ list) (x ∷ front) r back is =
    let rest : published_from (suc s) list ≡ front ++ r ∷ back = cc in
    let later = record_at (suc s) list front r back rest in
    let place : suc s + length front ≡ s + length (x ∷ front) = omega arith in
    (later.0, later.1 ∙ ap (λ (n : ℕ). Published n later.0) place)

-- ---- their bytes

-- a record behind whole ones
pub bytes_push : (bytes : List ℕ) (records : List (Record Definition)) (r : Record Definition) (spelled : List ℕ) → AreRecords bytes records → Encodes r spelled →
    AreRecords (bytes ++ spelled) (records ++ r ∷ [])
bytes_push bytes [] r spelled are is = (spelled, [], is, ap (λ (t : List ℕ). t ++ spelled) are ∙ sym (append-nil spelled), refl)
bytes_push bytes (q ∷ records) r spelled are is =
    (are.0, are.1 ++ spelled, are.2, ap (λ (t : List ℕ). t ++ spelled) are.3 ∙ append_assoc are.0 are.1 spelled, bytes_push are.1 records r spelled are.4 is)

-- what is behind the same records in the same bytes is the same
same_rest : (bytes : List ℕ) (records : List (Record Definition)) (a b : List ℕ) → Splits bytes records a → Splits bytes records b → a ≡ b
same_rest bytes [] a b x y = sym x ∙ y
same_rest bytes (r ∷ records) a b x y =
    let size : length x.0 ≡ length y.0 = length_of_encoding r x.0 x.2 ∙ sym (length_of_encoding r y.0 y.2) in
    let after : x.1 ≡ y.1 = sym (drop_at x.0 x.1 (length y.0) size) ∙ ap (drop (length y.0)) (sym x.3 ∙ y.3) ∙ drop_at y.0 y.1 (length y.0) refl in
    same_rest x.1 records a b x.4 (subst (λ (t : List ℕ). Splits t records b) (sym after) y.4)

-- what is bad isn't the end of a tape
bad_end : AreReadOneWay → (bytes rest : List ℕ) (records : List (Record Definition)) → Splits bytes records rest → IsBad rest → (others : List (Record Definition)) (end : List ℕ) →
    IsTapeOf bytes others end → ⊥
bad_end one bytes rest records splits bad others end is =
    let same : records ≡ others = one bytes records others (rest, record { splits = splits; longest = bad.longest }) (end, is.reads) in
    let ends : rest ≡ end = same_rest bytes records rest end splits (subst (λ (rs : List (Record Definition)). Splits bytes rs end) (sym same) is.reads.splits) in
    elim is.clean_or_torn [
      | inl empty ↦ bad.not_clean (ends ∙ empty)
      | inr torn ↦ bad.not_torn (subst IsTorn (sym ends) torn)
    ]

-- ---- a tape

module _ {T : Type 0} (tapes : Tape T) where
  -- there is no tape
  pub recorded_bare : (tape : Option T) (list : List Definition) → tape ≡ None → IsRecorded tapes tape list
  recorded_bare tape list bare = ∣ (λ durable. subst (λ (t : Option T). HasRecorded tapes t list) (sym bare) tt) ∣₁

  -- the tape began anew
  anew : (tape : T) → tapes.content tape ≡ [] → HasRecorded tapes (Some tape) []
  unfolding published_from
  anew tape empty = empty

  pub recorded_begun : (tape : T) (list : List Definition) → list ≡ [] → (tapes.durable → tapes.content tape ≡ []) → IsRecorded tapes (Some tape) list
  recorded_begun tape list none empty = ∣ (λ durable. subst (λ (l : List Definition). HasRecorded tapes (Some tape) l) (sym none) (anew tape (empty durable))) ∣₁

  -- one map more
  more : (list : List Definition) (old new : Option T) (s : ℕ) (d : Definition) (bytes : List ℕ) → s ≡ next_of list → Spells (Published s d) bytes → HasRecorded tapes old list →
      HasAppended tapes bytes old new → HasRecorded tapes new (list ++ d ∷ [])
  more list None None s d bytes next spells recorded appended = tt
  more list (Some old) None s d bytes next spells recorded appended = tt
  more list None (Some new) s d bytes next spells recorded appended = absurd appended
  more list (Some old) (Some new) s d bytes next spells recorded appended =
      let written : Encodes (Published (next_of list) d) bytes = subst (λ (n : ℕ). Encodes (Published n d) bytes) next (written_encodes (Published s d) bytes spells) in
      subst (λ (t : List ℕ). AreRecords t (published_from 1 (list ++ d ∷ []))) (sym appended)
      (subst (λ (rs : List (Record Definition)). AreRecords (tapes.content old ++ bytes) rs) (sym (next_record list d))
      (bytes_push (tapes.content old) (published_from 1 list) (Published (next_of list) d) bytes recorded written))

  pub recorded_more : (list grown : List Definition) (was old new : Option T) (s : ℕ) (d : Definition) (bytes : List ℕ) → IsRecorded tapes was list → old ≡ was → s ≡ next_of list →
      Spells (Published s d) bytes → (tapes.durable → HasAppended tapes bytes old new) → grown ≡ list ++ d ∷ [] → IsRecorded tapes new grown
  recorded_more list grown was old new s d bytes recorded same next spells appended is =
      ∥∥₁_map recorded (λ has durable.
      let before : HasRecorded tapes old list = subst (λ (t : Option T). HasRecorded tapes t list) (sym same) (has durable) in
      subst (λ (l : List Definition). HasRecorded tapes new l) (sym is) (more list old new s d bytes next spells before (appended durable)))

  stays : (list : List Definition) (old new : Option T) → HasRecorded tapes old list → HasStayedOrGone tapes old new → HasRecorded tapes new list
  stays list None None recorded stayed = tt
  stays list (Some old) None recorded stayed = tt
  stays list None (Some new) recorded stayed = absurd stayed
  stays list (Some old) (Some new) recorded stayed = subst (λ (t : List ℕ). AreRecords t (published_from 1 list)) (sym stayed) recorded

  pub recorded_still : (list : List Definition) (old new : Option T) → IsRecorded tapes old list → (tapes.durable → HasStayedOrGone tapes old new) → IsRecorded tapes new list
  recorded_still list old new recorded stayed = ∥∥₁_map recorded (λ has durable. stays list old new (has durable) (stayed durable))

  -- list and tape are as they were
  pub recorded_same : (list same : List Definition) (was tape : Option T) → IsRecorded tapes was list → tape ≡ was → same ≡ list → IsRecorded tapes tape same
  recorded_same list same was tape recorded stays is =
      ∥∥₁_map recorded (λ has durable.
      subst (λ (t : Option T). HasRecorded tapes t same) (sym stays) (subst (λ (l : List Definition). HasRecorded tapes was l) (sym is) (has durable)))

  -- what was read of the tape was learned
  pub recorded_read : (list : List Definition) (records : List (Record Definition)) (tape : T) → (tapes.durable → AreRecords (tapes.content tape) records) → AreLearned true records list →
      IsRecorded tapes (Some tape) list
  recorded_read list records tape are learned = ∣ (λ durable. subst (λ (rs : List (Record Definition)). AreRecords (tapes.content tape) rs) learned (are durable)) ∣₁

-- ---- what was found

pub found_begun : AreReadOneWay → (bytes rest : List ℕ) (records : List (Record Definition)) (found : FoundTape) (list : List Definition) → IsTapeOf bytes records rest →
    IsRecordedStart found records list → IsFoundOn bytes found list
found_begun one bytes rest records found.Published list tape begun = (rest, subst (λ (rs : List (Record Definition)). IsTapeOf bytes rs rest) begun tape)
found_begun one bytes rest records found.Damaged list tape begun =
    (λ other end is. begun.0 other (one bytes records (published_from 1 other) (rest, tape.reads) (end, is.reads)), begun.1)
found_begun one bytes rest records found.Failed list tape begun = begun

pub found_bad : AreReadOneWay → (bytes : List ℕ) (offset : ℕ) (found : FoundTape) (list : List Definition) → IsBadAt bytes offset → IsBegunAnew found list → IsFoundOn bytes found list
found_bad one bytes offset found.Published list bad anew = absurd anew
found_bad one bytes offset found.Damaged list bad anew = (λ other end is. bad_end one bytes (drop offset bytes) bad.0 bad.1 bad.2 (published_from 1 other) end is, anew)
found_bad one bytes offset found.Failed list bad anew = anew

pub all_bad : {A E : Type 0} → AreReadOneWay → (bytes : List ℕ) (offset : ℕ) (result : Result A E) (kind : A → FoundTape) (list : A → List Definition) → IsBadAt bytes offset →
    IfOk result (λ x. IsBegunAnew (kind x) (list x)) → IfOk result (λ x. IsFoundOn bytes (kind x) (list x))
all_bad one bytes offset (Ok x) kind list bad anew = found_bad one bytes offset (kind x) (list x) bad anew
all_bad one bytes offset (Err e) kind list bad anew = tt

pub begun_anew : (records : List (Record Definition)) (found : FoundTape) (list learned : List Definition) → AreLearned false records learned → IsBegunAnew found list → IsRecordedStart found records list
begun_anew records found.Published list learned none anew = absurd anew
begun_anew records found.Damaged list learned none anew = (none, anew)
begun_anew records found.Failed list learned none anew = anew

-- ---- record after record

-- no record of something else is a map's
pub tried_is_none : (round : ℕ) (list : List Definition) → IsNextLearned false (Tried round) list list
tried_is_none round list = λ d is. absurd cc

pub promised_is_none : (s : ℕ) (b : _) (list : List Definition) → IsNextLearned false (Promised s b) list list
promised_is_none s b list = λ d is. absurd cc

pub accepted_is_none : (s : ℕ) (b : _) (e : Definition) (list : List Definition) → IsNextLearned false (Accepted s b e) list list
accepted_is_none s b e list = λ d is. absurd cc

pub other_is_none : (s n : ℕ) (e : Definition) (list : List Definition) → n ≡ length list → (s ≡ n + 1 → ⊥) → IsNextLearned false (Published s e) list list
other_is_none s n e list size other = λ d is.
    let same : s ≡ next_of list = cc in
    other (omega (arith, same, size))

pub next_is_learned : (s n : ℕ) (d : Definition) (old new : List Definition) → n ≡ length old → s ≡ n + 1 → new ≡ old ++ d ∷ [] → IsNextLearned true (Published s d) old new
next_is_learned s n d old new size is learned =
    let next : s ≡ next_of old = omega (arith, size, is) in
    (d, ap (λ (k : ℕ). Published k d) next, learned)

module _ {X : Type 0} (view : X → Record Definition) where
  -- the first records are those of maps
  pub none_read : (xs : List X) (list : List Definition) → list ≡ [] → map view (take 0 xs) ≡ published_from 1 list
  unfolding published_from
  none_read xs list empty = sym (ap (published_from 1) empty)

  one_read : (xs : List X) (i : ℕ) (x : X) → i < length xs → x ≡ get_or xs i x → map view (take (i + 1) xs) ≡ map view (take i xs) ++ view x ∷ []
  one_read xs i x within is =
      ap (map view) (take_more xs i x within ∙ ap (λ (y : X). take i xs ++ y ∷ []) (sym is)) ∙ map-append view (take i xs) (x ∷ [])

  pub more_read : (xs : List X) (i : ℕ) (x : X) (old new : List Definition) → i < length xs → x ≡ get_or xs i x → IsNextLearned true (view x) old new →
      map view (take i xs) ≡ published_from 1 old → map view (take (i + 1) xs) ≡ published_from 1 new
  more_read xs i x old new within is learned before =
      one_read xs i x within is ∙ ap (λ (l : List (Record Definition)). l ++ view x ∷ []) before ∙ ap (λ (r : Record Definition). published_from 1 old ++ r ∷ []) learned.1
      ∙ sym (next_record old learned.0) ∙ sym (ap (published_from 1) learned.2)

  -- all were read
  pub all_read : (xs : List X) (i : ℕ) (list : List Definition) → i ≡ length xs → map view (take i xs) ≡ published_from 1 list → AreLearned true (map view xs) list
  all_read xs i list size before = sym (ap (map view) (ap (λ (n : ℕ). take n xs) size ∙ take-length xs)) ∙ before

  -- one of them isn't the next map's
  pub other_read : (xs : List X) (i : ℕ) (x : X) (old new : List Definition) → i < length xs → x ≡ get_or xs i x → IsNextLearned false (view x) old new →
      map view (take i xs) ≡ published_from 1 old → AreLearned false (map view xs) new
  other_read xs i x old new within is other before = λ list all.
      let parts : map view xs ≡ map view (take (i + 1) xs) ++ map view (drop (i + 1) xs) =
      sym (ap (map view) (take-append-drop (i + 1) xs)) ∙ map-append view (take (i + 1) xs) (drop (i + 1) xs) in
      let split : published_from 1 list ≡ map view (take i xs) ++ view x ∷ map view (drop (i + 1) xs) =
      sym all ∙ parts ∙ ap (λ (l : List (Record Definition)). l ++ map view (drop (i + 1) xs)) (one_read xs i x within is)
      ∙ append_assoc (map view (take i xs)) (view x ∷ []) (map view (drop (i + 1) xs)) in
      let at = record_at 1 list (map view (take i xs)) (view x) (map view (drop (i + 1) xs)) split in
      let place : 1 + length (map view (take i xs)) ≡ next_of old = omega (arith, ap length before, records_length 1 old) in
      other at.0 (at.1 ∙ ap (λ (n : ℕ). Published n at.0) place)
