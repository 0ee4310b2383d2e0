-- What is written piece by piece, and what came out of it.
use Rattle.std.proofs.Common.{◌≡◌, ◌∙◌, ◌-◌, ℕ, zero, suc, List, [], ◌∷◌, ◌++◌, length, take, drop, refl, sym, ap, subst, arith}
use Rattle.std.specs.Prelude.{Option, Some, None, Result, Ok, Err, OnErr, OnOk, min}
use Rattle.std.specs.Io.KnownBytes.{Appends, Consumes}
use Rattle.std.proofs.lemmas.List.{append-nil, append_assoc, length-append, take-append-drop}
use Rattle.wf_codec.specs.Encoding.{spelling}
use Rattle.wf_codec.specs.Message.{IsMessage}
use Rattle.wf_def.specs.Definition.{Definition}
use Rattle.wf_model.specs.Message.{Message}
use Rattle.wf_stream.specs.KnownTheorems.{appends_more, appends_none}
use Rattle.wf_mail.proofs.Split.{split_one_way}
use Rattle.wf_mail.proofs.WholeMessages.{nothing_is_part}
use Rattle.wf_mail.specs.Stream.{Reads}
use Rattle.wf_link.specs.Arrival.{Arrives, HaveArrived}
use Rattle.wf_link.specs.MessageCrossing.{AppendsPart, ComeOut, IsSentIfLooped, front_of}
use Rattle.wf_link.specs.declared.receiver.Arrival.{Arrival}
use Rattle.wf_link.proofs.Arrived.{arrived_more, arrived_none}

-- ---- prefixes

prefix_of_prefix : (count n : ℕ) (rest : List ℕ) → (k : ℕ) × (take count (take n rest) ≡ take k rest)
prefix_of_prefix zero n rest = (0, refl)
prefix_of_prefix (suc count) zero rest = (0, refl)
prefix_of_prefix (suc count) (suc n) [] = (0, refl)
prefix_of_prefix (suc count) (suc n) (x ∷ rest) = let part = prefix_of_prefix count n rest in (suc part.0, ap (λ xs. x ∷ xs) part.1)

prefix_behind : (k : ℕ) (front rest : List ℕ) → (n : ℕ) × (take n (front ++ rest) ≡ front ++ take k rest)
prefix_behind k [] rest = (k, refl)
prefix_behind k (x ∷ front) rest = let part = prefix_behind k front rest in (suc part.0, ap (λ xs. x ∷ xs) part.1)

whole : (bytes : List ℕ) → take (length bytes) bytes ≡ bytes
whole [] = refl
whole (x ∷ bytes) = ap (λ xs. x ∷ xs) (whole bytes)

-- nothing is a prefix
pub none_written : (written : Option (List ℕ)) (bytes : List ℕ) → AppendsPart written written bytes
none_written written bytes = (0, appends_none written)

pub all_written : (old new : Option (List ℕ)) (bytes : List ℕ) → Appends old new bytes → AppendsPart old new bytes
all_written old new bytes appends = (length bytes, subst (λ (xs : List ℕ). Appends old new xs) (sym (whole bytes)) appends)

-- ---- pieces

-- The front of the bytes was written, as many bytes have arrived, and no call failed.
pub record HavePassed (bytes rest : List ℕ) (old new left left_after : Option (List ℕ)) (writes writes_after reads reads_after : ℕ) (before after : Arrival) : Type 0 where
  pub front : List ℕ
  pub split : bytes ≡ front ++ rest
  pub written : Appends old new front
  pub arrives : Arrives (length front) left left_after before after
  pub calm : (writes_after ≡ writes) × (reads_after ≡ reads)

pub none_passed : (bytes : List ℕ) (written left : Option (List ℕ)) (writes reads : ℕ) (arrival : Arrival) → HavePassed bytes bytes written written left left writes writes reads reads arrival arrival
none_passed bytes written left writes reads arrival = record { front = []; split = refl; written = appends_none written; arrives = arrived_none left arrival; calm = (refl, refl) }

pub piece_passed : (bytes rest : List ℕ) (n : ℕ) (old now new left between left_after : Option (List ℕ)) (writes between_writes writes_after reads between_reads reads_after : ℕ) (before middle after : Arrival)
    → HavePassed bytes rest old now left between writes between_writes reads between_reads before middle → Appends now new (take n rest) → Arrives (length (take n rest)) between left_after middle after
    → (writes_after ≡ between_writes) × (reads_after ≡ between_reads) → HavePassed bytes (drop n rest) old new left left_after writes writes_after reads reads_after before after
piece_passed bytes rest n old now new left between left_after writes between_writes writes_after reads between_reads reads_after before middle after passed appends arrives calm = record {
  front = passed.front ++ take n rest;
  split = passed.split ∙ ap (λ xs. passed.front ++ xs) (sym (take-append-drop n rest)) ∙ sym (append_assoc passed.front (take n rest) (drop n rest));
  written = appends_more old now new passed.front (take n rest) passed.written appends;
  arrives = arrived_more (length passed.front) (length (take n rest)) (length (passed.front ++ take n rest)) left between left_after before middle after (length-append passed.front (take n rest)) passed.arrives arrives;
  calm = (calm.0 ∙ passed.calm.0, calm.1 ∙ passed.calm.1);
}

whole_front : (bytes rest front : List ℕ) → length rest ≡ 0 → bytes ≡ front ++ rest → front ≡ bytes
whole_front bytes [] front none split = sym (append-nil front) ∙ sym split
whole_front bytes (x ∷ rest) front none split = absurd (omega (arith, none))

pub all_passed_written : (bytes rest : List ℕ) (old new left left_after : Option (List ℕ)) (writes writes_after reads reads_after : ℕ) (before after : Arrival) → length rest ≡ 0
    → HavePassed bytes rest old new left left_after writes writes_after reads reads_after before after → Appends old new bytes
all_passed_written bytes rest old new left left_after writes writes_after reads reads_after before after none passed =
    subst (λ (xs : List ℕ). Appends old new xs) (whole_front bytes rest passed.front none passed.split) passed.written

pub all_passed_arrive : (bytes rest : List ℕ) (old new left left_after : Option (List ℕ)) (writes writes_after reads reads_after : ℕ) (before after : Arrival) → length rest ≡ 0
    → HavePassed bytes rest old new left left_after writes writes_after reads reads_after before after → Arrives (length bytes) left left_after before after
all_passed_arrive bytes rest old new left left_after writes writes_after reads reads_after before after none passed =
    subst (λ (xs : List ℕ). Arrives (length xs) left left_after before after) (whole_front bytes rest passed.front none passed.split) passed.arrives

-- a prefix of the next piece
pub part_passed : (bytes rest : List ℕ) (n : ℕ) (old now new left between : Option (List ℕ)) (writes writes_after reads reads_after : ℕ) (before middle : Arrival)
    → HavePassed bytes rest old now left between writes writes_after reads reads_after before middle → AppendsPart now new (take n rest) → AppendsPart old new bytes
part_passed bytes rest n old now new left between writes writes_after reads reads_after before middle passed (count, appends) =
    let inner = prefix_of_prefix count n rest in
    let outer = prefix_behind inner.0 passed.front rest in
    let all : passed.front ++ take count (take n rest) ≡ take outer.0 bytes =
    ap (λ xs. passed.front ++ xs) inner.1 ∙ sym outer.1 ∙ ap (take outer.0) (sym passed.split) in
    (outer.0, subst (λ (xs : List ℕ). Appends old new xs) all (appends_more old now new passed.front (take count (take n rest)) passed.written appends))

-- ---- what came out

-- an encoding is read as its message
reads_itself : (m : Message Definition) → IsMessage m → Reads (spelling m) (m ∷ []) []
reads_itself m is = record {
  splits = (spelling m, [], record { is_message = is; spelled = refl }, sym (append-nil (spelling m)), refl);
  part = nothing_is_part;
}

same_front : (a b c d : List ℕ) → a ++ c ≡ b ++ d → length a ≡ length b → a ≡ b
same_front [] [] c d is long = refl
same_front [] (y ∷ b) c d is long = absurd (omega (arith, long))
same_front (x ∷ a) [] c d is long = absurd (omega (arith, long))
same_front (x ∷ a) (y ∷ b) c d is long =
    let first : x ≡ y = cc in
    let rest : a ++ c ≡ b ++ d = cc in
    let both : a ≡ b = same_front a b c d rest (omega (arith, long)) in
    rw (first, both) refl

came_back : (known left_after : Option (List ℕ)) (sent more bytes : List ℕ) → known ≡ Some (sent ++ more) → Consumes known left_after bytes → length bytes ≡ length sent → sent ≡ bytes
came_back known None sent more bytes is consumed long = absurd (rw is at consumed)
came_back known (Some left) sent more bytes is consumed long =
    let both : sent ++ more ≡ bytes ++ left = rw is at consumed in
    same_front sent bytes more left both (sym long)

first_of_one : {A : Type 0} (x y : A) → x ∷ [] ≡ y ∷ [] → x ≡ y
first_of_one x y is = cc

pub sent_if_looped : (sent arrived : Message Definition) (left left_after : Option (List ℕ)) → IsMessage sent → ComeOut (length (spelling sent)) left left_after (arrived ∷ []) []
    → IsSentIfLooped sent left arrived
sent_if_looped sent arrived left left_after is out = λ more known.
    let same : spelling sent ≡ out.bytes = came_back left left_after (spelling sent) more out.bytes known out.taken out.as_long in
    let itself : Reads out.bytes (sent ∷ []) [] = subst (λ (xs : List ℕ). Reads xs (sent ∷ []) []) same (reads_itself sent is) in
    first_of_one arrived sent (split_one_way out.bytes (arrived ∷ []) (sent ∷ []) [] [] out.reads itself).0

-- of the bytes that were written, as many have come out, and what arrived are these messages
pub came_out_of : (sent piece : List ℕ) (left left_after : Option (List ℕ)) (arrival : Arrival) (messages : List (Message Definition)) (rest : List ℕ) → piece ≡ sent
    → (arrived : HaveArrived (length piece) left left_after arrival) → Reads arrived.bytes messages rest → ComeOut (length sent) left left_after messages rest
came_out_of sent piece left left_after arrival messages rest is arrived reads = record {
  bytes = arrived.bytes;
  as_long = arrived.size ∙ ap length is;
  taken = arrived.consumed;
  reads = reads;
}

-- ---- outcomes

pub on_each_ok : {T E P : Type 0} (r : Result T E) → P → OnOk r P
on_each_ok (Ok x) p = p
on_each_ok (Err e) p = tt

pub on_each_err : {T E P : Type 0} (r : Result T E) → P → OnErr r P
on_each_err (Ok x) p = tt
on_each_err (Err e) p = p

pub part_of_all : (old new : Option (List ℕ)) (sent piece : List ℕ) → piece ≡ sent → Appends old new piece → AppendsPart old new sent
part_of_all old new sent piece is appends = all_written old new sent (subst (λ (xs : List ℕ). Appends old new xs) is appends)

pub is_front : (m : Message Definition) (count : ℕ) (piece bytes : List ℕ) → bytes ≡ spelling m → piece ≡ take (min count (length bytes - 1)) bytes → piece ≡ front_of m count
unfolding front_of
is_front m count piece bytes is cut = cut ∙ ap (λ (xs : List ℕ). take (min count (length xs - 1)) xs) is
