-- The notes of a tape in memory on its changes, and its moments.
use Rattle.std.proofs.Common.{◌≡◌, ℕ, ◌<◌, List, [], ◌∷◌, ◌++◌, length, take, reverse, nat_lt, Bool, true, false, Option, Vec, if◌then◌else◌, refl, sym, ap, subst, ◌∙◌, arith, inl, inr, le_refl}
use Rattle.std.proofs.lemmas.List.{reverse-append, take_all, take_at}
use Rattle.std.proofs.lemmas.Bool.Decides.{nat_tests}
use Rattle.wf_tape.specs.declared.memory.Earlier.{Earlier}
use Rattle.wf_tape.specs.declared.memory.Earlier.TheVariants.{Front, Replaced}
use Rattle.wf_tape.specs.declared.memory.Fuse.{Fuse}
use Rattle.wf_tape.specs.Tape.{LeavesNoOther, LeavesOldOr, LeavesOldOrNew, Elapses}
use Rattle.wf_tape.specs.MemoryTape.{TapeState, TapeValue, IsImageNow, WasLeft, state_of, moment_of, IsLeftSince, states_before, appended, replaced, settled}
use Rattle.wf_tape.specs.MemoryMoments.{none_later}
use Rattle.wf_tape.proofs.Images.{only_synced, sync_leaves}

-- ---- the notes of a tape in memory

-- A change is noted: the state before it is the latest of the earlier ones.
pub noted_front : (bytes content : List ℕ) (synced : ℕ) (notes : List Earlier) → content ≡ take (length content) bytes →
    states_before bytes (reverse (notes ++ Front (length content) synced ∷ [])) ≡ record { bytes = content; synced = synced } ∷ states_before content (reverse notes)
unfolding states_before
noted_front bytes content synced notes is =
    ap (states_before bytes) (reverse-append notes (Front (length content) synced ∷ [])) ∙
    ap (λ (t : List ℕ). record { bytes = t; synced = synced } ∷ states_before t (reverse notes)) (sym is)

pub noted_replaced : (bytes : List ℕ) (content : Vec ℕ _) (synced : ℕ) (notes : List Earlier) →
    states_before bytes (reverse (notes ++ Replaced content synced ∷ [])) ≡ record { bytes = content.items; synced = synced } ∷ states_before content.items (reverse notes)
unfolding states_before
noted_replaced bytes content synced notes = ap (states_before bytes) (reverse-append notes (Replaced content synced ∷ []))

-- After a replacement the state before it is the latest of the earlier ones.
pub past_replaced : (now bytes : List ℕ) (content : Vec ℕ _) (synced : ℕ) (notes kept noted : List Earlier) → content.items ≡ bytes → kept ≡ notes → noted ≡ kept ++ Replaced content synced ∷ [] →
    states_before now (reverse noted) ≡ record { bytes = bytes; synced = synced } ∷ states_before bytes (reverse notes)
past_replaced now bytes content synced notes kept noted content_is kept_is noted_is =
    ap (λ (es : List Earlier). states_before now (reverse es)) (noted_is ∙ ap (λ (es : List Earlier). es ++ Replaced content synced ∷ []) kept_is) ∙
    noted_replaced now content synced notes ∙ ap (λ (t : List ℕ). record { bytes = t; synced = synced } ∷ states_before t (reverse notes)) content_is

-- After an append the state before it is the latest of the earlier ones.
pub past_appended : (bytes more longer : List ℕ) (n synced : ℕ) (notes kept noted : List Earlier) → longer ≡ bytes ++ more → n ≡ length bytes → kept ≡ notes → noted ≡ kept ++ Front n synced ∷ [] →
    states_before longer (reverse noted) ≡ record { bytes = bytes; synced = synced } ∷ states_before bytes (reverse notes)
past_appended bytes more longer n synced notes kept noted longer_is n_is kept_is noted_is =
    let all : noted ≡ notes ++ Front (length bytes) synced ∷ [] = noted_is ∙ ap (λ (es : List Earlier). es ++ Front n synced ∷ []) kept_is ∙ ap (λ (k : ℕ). notes ++ Front k synced ∷ []) n_is in
    let front : bytes ≡ take (length bytes) longer = sym (ap (take (length bytes)) longer_is ∙ take_at bytes more (length bytes) refl) in
    ap (λ (es : List Earlier). states_before longer (reverse es)) all ∙ noted_front longer bytes synced notes front

-- So is it after a sync.
pub past_synced : (bytes : List ℕ) (n synced : ℕ) (notes noted : List Earlier) → n ≡ length bytes → noted ≡ notes ++ Front n synced ∷ [] →
    states_before bytes (reverse noted) ≡ record { bytes = bytes; synced = synced } ∷ states_before bytes (reverse notes)
past_synced bytes n synced notes noted n_is noted_is =
    let all : noted ≡ notes ++ Front (length bytes) synced ∷ [] = noted_is ∙ ap (λ (k : ℕ). notes ++ Front k synced ∷ []) n_is in
    ap (λ (es : List Earlier). states_before bytes (reverse es)) all ∙ noted_front bytes bytes synced notes (sym (take_all (length bytes) bytes (le_refl (length bytes))))

-- ---- the moments of a tape in memory

-- A call that changes the tape ends a moment.
pub time_changed : (old new : TapeValue) → new.past ≡ state_of old ∷ old.past → Elapses (moment_of old) (moment_of new) (IsLeftSince old) (IsLeftSince new)
unfolding WasLeft
time_changed old new ended = record {
  later = omega (arith, ap length ended);
  kept = λ moment image before left. inr (subst (λ (states : List TapeState). WasLeft states moment image) (sym ended) left);
  nothing_else = λ moment image before left. elim left [
    | inl now ↦ inr (inl (omega (arith, ap length ended), now.1))
    | inr past ↦ inl (subst (λ (states : List TapeState). WasLeft states moment image) ended past)
  ];
}

-- Inside it a crash leaves what one could before, or what one can after.
pub inside_changed : (old new : TapeValue) → new.past ≡ state_of old ∷ old.past → LeavesOldOrNew (IsImageNow old) (IsImageNow new) (IsLeftSince new (moment_of old))
unfolding WasLeft
inside_changed old new ended image left = elim left [
  | inl now ↦ inr now.1
  | inr past ↦ elim (subst (λ (states : List TapeState). WasLeft states (moment_of old) image) ended past) [
    | inl was ↦ inl was.1
    | inr before ↦ absurd (none_later old.past (moment_of old) image (le_refl (moment_of old)) before)
  ]
]

-- Inside a sync it leaves what one could before.
pub inside_synced : (old new : TapeValue) → new.past ≡ state_of old ∷ old.past → new.bytes ≡ old.bytes → new.synced ≡ length new.bytes → LeavesNoOther (IsImageNow old) (IsLeftSince new (moment_of old))
inside_synced old new ended same all image left = elim (inside_changed old new ended image left) [
  | inl was ↦ was
  | inr is ↦ sync_leaves old new same all image is
]

-- Inside a replacement it leaves what one could before, or the new content.
pub inside_replaced : (old new : TapeValue) → new.past ≡ state_of old ∷ old.past → new.synced ≡ length new.bytes → LeavesOldOr new.bytes (IsImageNow old) (IsLeftSince new (moment_of old))
inside_replaced old new ended all image left = elim (inside_changed old new ended image left) [
  | inl was ↦ inl was
  | inr is ↦ inr ((only_synced new all).no_other image is)
]

-- A call that changes nothing ends none.
pub time_same : (old new : TapeValue) → new ≡ old → Elapses (moment_of old) (moment_of new) (IsLeftSince old) (IsLeftSince new)
time_same old new same = record {
  later = omega (arith, ap moment_of same);
  kept = λ moment image before left. subst (λ (k : TapeValue). IsLeftSince k moment image) (sym same) left;
  nothing_else = λ moment image before left. inl (subst (λ (k : TapeValue). IsLeftSince k moment image) same left);
}

pub inside_same : (old new : TapeValue) → new ≡ old → LeavesNoOther (IsImageNow old) (IsLeftSince new (moment_of old))
unfolding WasLeft
inside_same old new same image left = elim (subst (λ (k : TapeValue). IsLeftSince k (moment_of old) image) same left) [
  | inl now ↦ now.1
  | inr before ↦ absurd (none_later old.past (moment_of old) image (le_refl (moment_of old)) before)
]

-- ---- the tape after a change

-- the tape of these parts
abbrev kept_of : List ℕ → ℕ → List TapeState → Option Fuse → ℕ → TapeValue
kept_of bytes synced past fuse failures = record { bytes = bytes; synced = synced; past = past; fuse = fuse; failures = failures }

same_kept : (a b : List ℕ) (m n : ℕ) (p q : List TapeState) (fuse : Option Fuse) (failures : ℕ) → a ≡ b → m ≡ n → p ≡ q → kept_of a m p fuse failures ≡ kept_of b n q fuse failures
same_kept a b m n p q fuse failures bytes synced past =
    ap (λ (t : List ℕ). kept_of t m p fuse failures) bytes ∙ ap (λ (k : ℕ). kept_of b k p fuse failures) synced ∙ ap (λ (states : List TapeState). kept_of b n states fuse failures) past

pub appended_is : (bytes more longer : List ℕ) (n synced : ℕ) (fuse : Option Fuse) (failures : ℕ) (notes kept noted : List Earlier) → longer ≡ bytes ++ more → n ≡ length bytes → kept ≡ notes → noted ≡ kept ++ Front n synced ∷ [] →
    kept_of longer synced (states_before longer (reverse noted)) fuse failures ≡ appended (kept_of bytes synced (states_before bytes (reverse notes)) fuse failures) more
appended_is bytes more longer n synced fuse failures notes kept noted longer_is n_is kept_is noted_is =
    same_kept longer (bytes ++ more) synced synced (states_before longer (reverse noted)) (record { bytes = bytes; synced = synced } ∷ states_before bytes (reverse notes)) fuse failures
    longer_is refl (past_appended bytes more longer n synced notes kept noted longer_is n_is kept_is noted_is)

pub replaced_is : (now bytes content : List ℕ) (vector : Vec ℕ _) (n synced : ℕ) (fuse : Option Fuse) (failures : ℕ) (notes kept noted : List Earlier) → now ≡ content → n ≡ length now → vector.items ≡ bytes → kept ≡ notes → noted ≡ kept ++ Replaced vector synced ∷ [] →
    kept_of now n (states_before now (reverse noted)) fuse failures ≡ replaced (kept_of bytes synced (states_before bytes (reverse notes)) fuse failures) content
replaced_is now bytes content vector n synced fuse failures notes kept noted now_is n_is vector_is kept_is noted_is =
    same_kept now content n (length content) (states_before now (reverse noted)) (record { bytes = bytes; synced = synced } ∷ states_before bytes (reverse notes)) fuse failures
    now_is (n_is ∙ ap length now_is) (past_replaced now bytes vector synced notes kept noted vector_is kept_is noted_is)

-- A sync that had something to do notes the state before it.
pub settled_is : (bytes : List ℕ) (n synced : ℕ) (fuse : Option Fuse) (failures : ℕ) (notes noted : List Earlier) → n ≡ length bytes → nat_lt synced (length bytes) ≡ true → noted ≡ notes ++ Front n synced ∷ [] →
    kept_of bytes n (states_before bytes (reverse noted)) fuse failures ≡ settled (kept_of bytes synced (states_before bytes (reverse notes)) fuse failures)
settled_is bytes n synced fuse failures notes noted n_is some noted_is =
    let before : List TapeState = states_before bytes (reverse notes) in
    same_kept bytes bytes n (length bytes) (states_before bytes (reverse noted)) (if nat_lt synced (length bytes) then record { bytes = bytes; synced = synced } ∷ before else before) fuse failures
    refl n_is
    (past_synced bytes n synced notes noted n_is noted_is ∙ sym (ap (λ (b : Bool). if b then record { bytes = bytes; synced = synced } ∷ before else before) some))

-- A sync that had nothing to do changes nothing.
pub settled_same : (tape : TapeValue) → tape.synced ≡ length tape.bytes → nat_lt tape.synced (length tape.bytes) ≡ false → tape ≡ settled tape
settled_same tape all none =
    same_kept tape.bytes tape.bytes tape.synced (length tape.bytes) tape.past (if nat_lt tape.synced (length tape.bytes) then state_of tape ∷ tape.past else tape.past) tape.fuse tape.failures
    refl all (sym (ap (λ (b : Bool). if b then state_of tape ∷ tape.past else tape.past) none))

pub is_less : (a b : ℕ) → a < b → nat_lt a b ≡ true
is_less a b less = grind (arith, nat_tests, less)

pub is_not_less : (a b : ℕ) → a ≡ b → nat_lt a b ≡ false
is_not_less a b same = grind (arith, nat_tests, same)
