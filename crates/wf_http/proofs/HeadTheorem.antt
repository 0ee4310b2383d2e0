-- From the result of the head parser to the head of an input.
use Rattle.std.proofs.Common.{◌≡◌, ◌≢◌, ◌∙◌, ◌+◌, ◌-◌, ◌≤◌, ◌<◌, ℕ, List, [], ◌∷◌, ◌++◌, length, take, drop, min, refl, sym, ap, subst, arith}
use Rattle.std.specs.Prelude.{Option, Some, None, IfSome}
use Rattle.std.specs.Io.KnownBytes.{Consumes, Keeps, IsAtEnd}
use Rattle.std.proofs.lemmas.List.{append-nil, take_at, take-append-drop, take-append-le, length-append, length-map, length-take, take_min}
use Rattle.httparse.specs.Grammar.{RequestHead, ReadsRequest, HasNoRequest, print_request}
use Rattle.httparse.specs.Spans.{IsRequestOf, RequestOverflows, name_and_value, header_bytes}
use Rattle.httparse.specs.declared.spans.HeaderSpan.{HeaderSpan}
use Rattle.httparse.specs.declared.spans.RequestSpans.{RequestSpans}
use Rattle.wf_http.specs.Head.{Head, Begins, HasNoSmallRequest, most_fields, most_head_bytes}
use Rattle.wf_stream.specs.Effects.{ReadsPiece}
use Rattle.wf_http.specs.Front.{front_of, IsHeadError, IsHeadFault, HasNoHead, TakesPiece, TakesHead}
use Rattle.wf_http.specs.declared.http_error.HttpError.{HttpError}
use Rattle.wf_http.specs.declared.http_error.HttpError.TheVariants as http_error
use Rattle.wf_http.specs.declared.fault.RequestFault.{RequestFault}
use Rattle.wf_http.specs.declared.fault.RequestFault.TheVariants as fault
use Rattle.wf_stream.specs.KnownTheorems.{consumes_more}

-- ---- the parser's result

abbrev made : List ℕ → List ℕ → List (List ℕ × List ℕ) → Head
made m t fs = record { method = m; target = t; fields = fs }

pub same_head : (m n t u : List ℕ) (fs gs : List (List ℕ × List ℕ)) → m ≡ n → t ≡ u → fs ≡ gs → made m t fs ≡ made n u gs
same_head m n t u fs gs same_method same_target same_fields = rw (same_method, same_target, same_fields) refl

-- a head that the parser found in this many bytes, with this much room for fields, is within the
-- limits
pub small : (bytes : List ℕ) (fields : List HeaderSpan) (spans : RequestSpans) → length bytes ≤ most_head_bytes → length fields ≡ most_fields
    → IsRequestOf bytes fields spans → Begins bytes (front_of bytes fields spans).head (front_of bytes fields spans).behind
small bytes fields spans short room (h, at) = record {
  printed = h;
  reads = at.reads;
  small = record {
    bytes = let size : length bytes ≡ length (print_request h) + length (drop spans.len bytes) =
        ap length at.reads.1 ∙ length-append (print_request h) (drop spans.len bytes) in omega arith;
    fields = let count : length (take spans.headers fields) ≡ length h.fields =
        sym (length-map (take spans.headers fields) (header_bytes bytes)) ∙ ap length at.fields ∙ length-map h.fields name_and_value in
        let most : length (take spans.headers fields) ≡ min spans.headers (length fields) = length-take spans.headers fields in
        omega arith;
  };
  is = same_head _ _ _ _ _ _ at.method at.path at.fields;
}

-- a head with too many fields isn't within the limits, whatever bytes follow
pub overflows : (bytes : List ℕ) → RequestOverflows most_fields bytes → (more : List ℕ) → HasNoSmallRequest (bytes ++ more)
overflows bytes over more h rest reads within = let many = over more h rest reads in let few = within.fields in absurd (omega arith)

-- ---- how much is taken

-- a number smaller than one within a limit is within the limit too
still_small : (piece : Option ℕ) (count less : ℕ) → less ≤ count → IfSome piece (λ most. count ≤ most) → IfSome piece (λ most. less ≤ most)
still_small None count less within small = tt
still_small (Some most) count less within small = omega arith

none_is_small : (piece : Option ℕ) → IfSome piece (λ most. 0 ≤ most)
none_is_small None = tt
none_is_small (Some most) = omega arith

-- a call that fails takes nothing
pub piece_kept : (piece : Option ℕ) (room : ℕ) (old new : Option (List ℕ)) → Keeps old new → TakesPiece piece room old new
piece_kept piece room old new keeps = ([], omega arith, none_is_small piece, none old new keeps)
  where
    none : (old new : Option (List ℕ)) → Keeps old new → Consumes old new []
    none None new keeps = tt
    none (Some xs) None keeps = absurd keeps
    none (Some xs) (Some ys) keeps = sym keeps

-- a call takes the bytes that it returns
pub piece_taken : (piece : Option ℕ) (room count : ℕ) (old new : Option (List ℕ)) (given : List ℕ) → Consumes old new (take count given) → count ≤ room
    → IfSome piece (λ most. count ≤ most) → TakesPiece piece room old new
piece_taken piece room count old new given taken within small =
    let size : length (take count given) ≡ min count (length given) = length-take count given in
    (take count given, omega arith, still_small piece count (length (take count given)) (omega arith) small, taken)

-- one more piece is taken if no head is complete yet
pub head_looked_for : (here piece : Option ℕ) (start old new : Option (List ℕ)) (bytes : List ℕ) → here ≡ piece → HasNoHead bytes → length bytes < most_head_bytes
    → Consumes start old bytes → TakesPiece here (most_head_bytes - length bytes) old new → TakesHead piece start new
head_looked_for here piece start old new bytes same unfinished room first (more, within, small, second) = record {
  before = bytes;
  last = more;
  unfinished = unfinished;
  most = rw (length-append bytes more) (omega arith);
  small = subst (λ p. IfSome p (λ most. length more ≤ most)) same small;
  taken = consumes_more start old new bytes more first second;
}

-- no more is taken once as much was as a head may have
pub taken_at_limit : (piece : Option ℕ) (start left : Option (List ℕ)) (bytes : List ℕ) → Consumes start left bytes → HasNoHead bytes → length bytes ≤ most_head_bytes
    → TakesHead piece start left
taken_at_limit piece start left bytes taken unfinished within = record {
  before = bytes;
  last = [];
  unfinished = unfinished;
  most = rw (append-nil bytes) within;
  small = none_is_small piece;
  taken = subst (λ xs. Consumes start left xs) (sym (append-nil bytes)) taken;
}

-- ---- the input that was read

-- the bytes read are a prefix of the input
input_is : (start left : Option (List ℕ)) (bytes : List ℕ) (P : List ℕ → Type 0) → Consumes start left bytes → ((more : List ℕ) → P (bytes ++ more)) → IfSome start P
input_is None left bytes P taken all = tt
input_is (Some input) None bytes P taken all = absurd taken
input_is (Some input) (Some more) bytes P taken all = subst P (sym taken) (all more)

-- at its end the bytes read are the input
pub at_end : (start left : Option (List ℕ)) (bytes : List ℕ) (P : List ℕ → Type 0) → Consumes start left bytes → IsAtEnd left → P bytes → IfSome start P
at_end None left bytes P taken end here = tt
at_end (Some input) None bytes P taken end here = absurd taken
at_end (Some input) (Some more) bytes P taken end here =
    let is : input ≡ bytes = taken ∙ ap (λ rest. bytes ++ rest) end ∙ append-nil bytes in subst P (sym is) here

not_empty : (bytes more : List ℕ) → 0 < length bytes → bytes ++ more ≢ []
not_empty bytes more some is = let size : length bytes + length more ≡ 0 = sym (length-append bytes more) ∙ ap length is in absurd (omega arith)

-- nothing was read
pub nothing_more : (old new : Option (List ℕ)) (before after : List ℕ) → ReadsPiece 0 old new before after → after ≡ before
nothing_more old new before after (piece, size, taken, is) = is ∙ ap (λ xs. before ++ xs) (none piece size) ∙ append-nil before
  where
    none : (xs : List ℕ) → length xs ≡ 0 → xs ≡ []
    none [] e = refl
    none (x ∷ xs) e = absurd (omega arith)

-- the input ended
pub fault_at_end : (start old new : Option (List ℕ)) (before after : List ℕ) (why : RequestFault) → Consumes start old before
    → ReadsPiece 0 old new before after → IsAtEnd new → IsHeadFault after why → IfSome start (λ input. IsHeadFault input why)
fault_at_end start old new before after why first (piece, size, second, is) end here =
    at_end start new after (λ input. IsHeadFault input why) (rw is (consumes_more start old new before piece first second)) end here

-- the head was rejected, whatever bytes follow
pub fault_of_http_error : (start old new : Option (List ℕ)) (before after : List ℕ) (count : ℕ) (r : HttpError) → Consumes start old before
    → ReadsPiece count old new before after → 0 < count → ((more : List ℕ) → IsHeadError (after ++ more) r)
    → IfSome start (λ input. IsHeadFault input (fault.Rejected r))
fault_of_http_error start old new before after count r first (piece, size, second, is) some refused =
    let long : 0 < length after = rw (is, length-append before piece) (omega arith) in
    input_is start new after (λ input. IsHeadFault input (fault.Rejected r)) (rw is (consumes_more start old new before piece first second))
    (λ more. (not_empty after more long, refused more))

-- a head in the bytes and those that follow, no longer than the bytes, is a head in the bytes
shorter : (bytes more : List ℕ) (h : RequestHead) (rest : List ℕ) → ReadsRequest (bytes ++ more) h rest → length (print_request h) ≤ length bytes
    → ReadsRequest bytes h (drop (length (print_request h)) bytes)
shorter bytes more h rest reads short =
    let size = length (print_request h) in
    let front : take size bytes ≡ print_request h =
    sym (take-append-le size bytes more short) ∙ ap (take size) reads.1 ∙ take_at (print_request h) rest size refl in
    (reads.0, sym (take-append-drop size bytes) ∙ ap (λ xs. xs ++ drop size bytes) front)

-- the limit was read, and no head is complete
pub fault_at_limit : (start left : Option (List ℕ)) (bytes : List ℕ) → Consumes start left bytes → length bytes ≡ most_head_bytes → HasNoHead bytes
    → IfSome start (λ input. IsHeadFault input (fault.Rejected http_error.HeadTooLarge))
fault_at_limit start left bytes taken full unfinished =
    let none : HasNoRequest bytes = unfinished (omega arith) in
    input_is start left bytes (λ input. IsHeadFault input (fault.Rejected http_error.HeadTooLarge)) taken
    (λ more. (
      not_empty bytes more (omega arith),
      λ h rest reads within.
          let size = within.bytes in none h _ (shorter bytes more h rest reads (omega arith)),
    ))

-- more than all isn't taken
pub taken_within : (spans : List HeaderSpan) (count : ℕ) → take (min count (length spans)) spans ≡ take count spans
taken_within spans count = take_min count spans
