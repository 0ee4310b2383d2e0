-- The effect of a read or a write on known bytes.
use Rattle.std.proofs.Common.{◌≡◌, ◌∙◌, ◌+◌, ◌-◌, ◌≤◌, ◌<◌, ℕ, List, [], ◌∷◌, refl, sym, ap, subst, ◌++◌, length, take, drop, arith, inl, inr}
use Rattle.std.specs.Prelude.{Option, Some, None, IfSome, Result, Ok, Err}
use Rattle.std.proofs.lemmas.List.{append-nil, append_assoc, take_all, take_at, take-append-drop, take-append-le, length-append}
use Rattle.std.proofs.lemmas.Bool.{cases_lt}
use Rattle.wf_stream.specs.Effects.{ReadsPiece, TakesUpTo}
use Rattle.std.specs.Io.{WritesAtMost}
use Rattle.std.specs.Io.KnownBytes.{Keeps, Appends, Consumes, IsAtEnd, ReadConsumes, WriteAppends}

pub keeps_same : (known : Option (List ℕ)) → Keeps known known
keeps_same None = tt
keeps_same (Some xs) = refl

pub keeps_twice : (a b c : Option (List ℕ)) → Keeps a b → Keeps b c → Keeps a c
keeps_twice None b c first second = tt
keeps_twice (Some xs) None c first second = absurd first
keeps_twice (Some xs) (Some ys) None first second = absurd second
keeps_twice (Some xs) (Some ys) (Some zs) first second = second ∙ first

consumes_after : (a b c : Option (List ℕ)) (bs : List ℕ) → Keeps a b → Consumes b c bs → Consumes a c bs
consumes_after None b c bs keeps consumes = tt
consumes_after (Some xs) None c bs keeps consumes = absurd keeps
consumes_after (Some xs) (Some ys) None bs keeps consumes = absurd consumes
consumes_after (Some xs) (Some ys) (Some zs) bs keeps consumes = sym keeps ∙ consumes

appends_after : (a b c : Option (List ℕ)) (bs : List ℕ) → Keeps a b → Appends b c bs → Appends a c bs
appends_after None b c bs keeps appends = tt
appends_after (Some xs) None c bs keeps appends = absurd keeps
appends_after (Some xs) (Some ys) None bs keeps appends = absurd appends
appends_after (Some xs) (Some ys) (Some zs) bs keeps appends = appends ∙ ap (λ front. front ++ bs) keeps

pub reads_after : {E : Type 0} (a b c : Option (List ℕ)) (r : Result ℕ E) (buf : List ℕ) → Keeps a b → ReadConsumes b c r buf → ReadConsumes a c r buf
reads_after a b c (Ok n) buf keeps reads = (consumes_after a b c _ keeps reads.0, reads.1)
reads_after a b c (Err e) buf keeps reads = keeps_twice a b c keeps reads

pub writes_after : {E : Type 0} (a b c : Option (List ℕ)) (r : Result ℕ E) (buf : List ℕ) → Keeps a b → WriteAppends b c r buf → WriteAppends a c r buf
writes_after a b c (Ok n) buf keeps writes = appends_after a b c _ keeps writes
writes_after a b c (Err e) buf keeps writes = keeps_twice a b c keeps writes

-- a write of the first of two buffers is one of both
pub writes_first : {E : Type 0} (a b : Option (List ℕ)) (r : Result ℕ E) (one two : List ℕ) → WritesAtMost r one → WriteAppends a b r one → WriteAppends a b r (one ++ two)
writes_first a b (Ok n) one two within writes = subst (λ (bytes : List ℕ). Appends a b bytes) (sym (take-append-le n one two within)) writes
writes_first a b (Err e) one two within writes = writes

pub writes_second : {E : Type 0} (a b : Option (List ℕ)) (r : Result ℕ E) (one two : List ℕ) → length one ≡ 0 → WriteAppends a b r two → WriteAppends a b r (one ++ two)
writes_second a b r [] two none writes = writes
writes_second a b r (x ∷ xs) two none writes = absurd (omega arith)

pub most_first : {E : Type 0} (r : Result ℕ E) (one two : List ℕ) → WritesAtMost r one → WritesAtMost r (one ++ two)
most_first (Ok n) one two within = rw (length-append one two) (omega arith)
most_first (Err e) one two within = tt

pub most_second : {E : Type 0} (r : Result ℕ E) (one two : List ℕ) → length one ≡ 0 → WritesAtMost r two → WritesAtMost r (one ++ two)
most_second r [] two none within = within
most_second r (x ∷ xs) two none within = absurd (omega arith)

-- ---- reading piece by piece

pub consumes_none : (a : Option (List ℕ)) (bytes : List ℕ) → bytes ≡ [] → Consumes a a bytes
consumes_none None bytes empty = tt
consumes_none (Some xs) bytes empty = rw empty refl

pub consumes_more : (a b c : Option (List ℕ)) (front piece : List ℕ) → Consumes a b front → Consumes b c piece → Consumes a c (front ++ piece)
consumes_more None b c front piece first second = tt
consumes_more (Some xs) None c front piece first second = absurd first
consumes_more (Some xs) (Some ys) None front piece first second = absurd second
consumes_more (Some xs) (Some ys) (Some zs) front piece first second =
    first ∙ ap (λ rest. front ++ rest) second ∙ sym (append_assoc front piece zs)

-- at the end everything is read
pub first_at_end : (a b : Option (List ℕ)) (bytes : List ℕ) (limit : ℕ) → Consumes a b bytes → IsAtEnd b → length bytes ≤ limit
    → IfSome a (λ known. bytes ≡ take limit known)
first_at_end None b bytes limit consumed end short = tt
first_at_end (Some xs) None bytes limit consumed end short = absurd consumed
first_at_end (Some xs) (Some ys) bytes limit consumed end short =
    let whole : xs ≡ bytes = consumed ∙ rw end (append-nil bytes) in
    rw whole (sym (take_all limit bytes short))

-- at the limit a prefix is read
pub first_at_limit : (a b : Option (List ℕ)) (bytes : List ℕ) (limit : ℕ) → Consumes a b bytes → length bytes ≡ limit
    → IfSome a (λ known. bytes ≡ take limit known)
first_at_limit None b bytes limit consumed full = tt
first_at_limit (Some xs) None bytes limit consumed full = absurd consumed
first_at_limit (Some xs) (Some ys) bytes limit consumed full = sym (ap (take limit) consumed ∙ take_at bytes ys limit full)

pub piece_length : (b c : Option (List ℕ)) (count : ℕ) (before after : List ℕ) → ReadsPiece count b c before after → length after ≡ length before + count
piece_length b c count before after (piece, size, second, is) = rw (is, ← size) (length-append before piece)

-- nothing is read before the first piece
pub nothing_read : (a : Option (List ℕ)) (bytes : List ℕ) → ReadsPiece 0 a a bytes bytes
nothing_read a bytes = ([], refl, consumes_none a [] refl, sym (append-nil bytes))

-- a piece more is read
pub reads_more : (a b c : Option (List ℕ)) (count more : ℕ) (first before after : List ℕ) → ReadsPiece count a b first before → ReadsPiece more b c before after
    → ReadsPiece (count + more) a c first after
reads_more a b c count more first before after (front, front_size, one, is) (piece, size, two, also) = (
  front ++ piece,
  rw (length-append front piece, front_size, size) refl,
  consumes_more a b c front piece one two,
  also ∙ ap (λ bytes. bytes ++ piece) is ∙ append_assoc first front piece,
)

-- the bytes read so far, and at most this many more
pub takes_after : (a b c : Option (List ℕ)) (count room limit : ℕ) (first before : List ℕ) → ReadsPiece count a b first before → TakesUpTo room b c → count + room ≤ limit
    → TakesUpTo limit a c
takes_after a b c count room limit first before (front, size, one, is) (piece, short, two) most =
    (front ++ piece, rw (length-append front piece) (omega arith), consumes_more a b c front piece one two)

pub takes_read : (a b : Option (List ℕ)) (count limit : ℕ) (first before : List ℕ) → ReadsPiece count a b first before → count ≤ limit → TakesUpTo limit a b
takes_read a b count limit first before (front, size, one, is) short = (front, omega arith, one)

-- what is read into an empty buffer is the front of what was left, and all of that where fewer than
-- the limit are read
pub all_read : (a b : Option (List ℕ)) (count : ℕ) (bytes : List ℕ) → ReadsPiece count a b [] bytes → Consumes a b bytes
all_read a b count bytes (front, size, one, is) = rw is one

pub first_read : (a b : Option (List ℕ)) (count limit : ℕ) (bytes : List ℕ) → ReadsPiece count a b [] bytes → count ≤ limit → (count < limit → IsAtEnd b)
    → IfSome a (λ known. bytes ≡ take limit known)
first_read a b count limit bytes read short ends =
    let size = piece_length a b count [] bytes read in
    elim (cases_lt count limit) [
      | inl fewer ↦ first_at_end a b bytes limit (all_read a b count bytes read) (ends fewer) (omega arith)
      | inr full ↦ first_at_limit a b bytes limit (all_read a b count bytes read) (omega arith)
    ]

-- ---- writing piece by piece

pub appends_none : (a : Option (List ℕ)) → Appends a a []
appends_none None = tt
appends_none (Some xs) = sym (append-nil xs)

pub appends_more : (a b c : Option (List ℕ)) (front piece : List ℕ) → Appends a b front → Appends b c piece → Appends a c (front ++ piece)
appends_more None b c front piece first second = tt
appends_more (Some xs) None c front piece first second = absurd first
appends_more (Some xs) (Some ys) None front piece first second = absurd second
appends_more (Some xs) (Some ys) (Some zs) front piece first second = second ∙ ap (λ ys. ys ++ piece) first ∙ append_assoc xs front piece

pub appends_keeps : (a b c : Option (List ℕ)) (bytes : List ℕ) → Appends a b bytes → Keeps b c → Appends a c bytes
appends_keeps None b c bytes appends keeps = tt
appends_keeps (Some xs) None c bytes appends keeps = absurd appends
appends_keeps (Some xs) (Some ys) None bytes appends keeps = absurd keeps
appends_keeps (Some xs) (Some ys) (Some zs) bytes appends keeps = keeps ∙ appends

-- a write of some of the remaining bytes
pub write_step : (a b c : Option (List ℕ)) (bytes front rest : List ℕ) (count : ℕ) → bytes ≡ front ++ rest → Appends a b front
    → Appends b c (take count rest) → (longer : List ℕ) × (bytes ≡ longer ++ drop count rest) × Appends a c longer
write_step a b c bytes front rest count split first second = (
  front ++ take count rest,
  split ∙ ap (λ xs. front ++ xs) (sym (take-append-drop count rest)) ∙ sym (append_assoc front (take count rest) (drop count rest)),
  appends_more a b c front (take count rest) first second,
)

-- this many bytes were written before a call failed, if the bytes left are known
pub reported_before : (a b c : Option (List ℕ)) (bytes rest : List ℕ) → ((front : List ℕ) × (bytes ≡ front ++ rest) × Appends a b front) → Keeps b c
    → (length bytes - length rest ≤ length bytes) × Appends a c (take (length bytes - length rest) bytes)
reported_before a b c bytes rest (front, split, appends) keeps =
    let size : length bytes ≡ length front + length rest = rw split (length-append front rest) in
    let count : length bytes - length rest ≡ length front = omega arith in
    let part : take (length bytes - length rest) bytes ≡ front = rw (count, split) (take_at front rest (length front) refl) in
    (omega arith, subst (λ xs. Appends a c xs) (sym part) (appends_keeps a b c front appends keeps))
