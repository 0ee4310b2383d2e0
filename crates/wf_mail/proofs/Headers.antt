-- A header tells how long its message is: part of a message is shorter than that, and stays part of
-- it until it is that long.
use Rattle.std.proofs.Common.{◌≡◌, ◌⊎◌, ℕ, ◌+◌, ◌<◌, ◌≤◌, List, [], ◌∷◌, ◌++◌, length, take, drop, min, true, Some, refl, sym, ap, subst, ◌∙◌, append_assoc, length-append, length-drop, arith, inl, inr}
use Rattle.std.proofs.Math.Seq.{take-append_seam}
use Rattle.std.proofs.lemmas.List.{append-nil, nil_from_length, take-append-le, take-append-drop, length-take-le}
use Rattle.std.proofs.lemmas.Nat.{from_be_bytes-to_be_bytes_4}
use Rattle.std.specs.Int.{w32, from_be_bytes, to_be_bytes}
use Rattle.wf_ballot.specs.Field.{frame}
use Rattle.wf_def.specs.Definition.{Definition}
use Rattle.wf_model.specs.Message.{Message}
use Rattle.wf_frame.specs.Layout.{Layout, fits}
use Rattle.wf_frame.specs.Row.{row_bytes, layout_of}
use Rattle.wf_frame.specs.Frame.{LacksBody, stated_length}
use Rattle.wf_codec.specs.KindTable.{kinds, most_body_bytes}
use Rattle.wf_codec.specs.Message.{texts}
use Rattle.wf_codec.specs.FormatTheorems.{is_format}
use Rattle.wf_codec.specs.Encoding.{message_version, header_length, text_spelling, Spells}
use Rattle.wf_codec.specs.Theorem.{BeginsWithNone, IsUnfinished}
use Rattle.wf_mail.specs.Header.{known_length, IsFilled}
use Rattle.wf_mail.specs.Stream.{most_message_bytes, IsUnfinishedPart}

-- ---- the length that a header tells

-- it is known once the header is whole
known_on : (bytes more : List ℕ) → header_length ≤ length bytes → known_length (bytes ++ more) ≡ known_length bytes
unfolding known_length
known_on [] more whole = absurd (omega (arith, whole))
known_on (v ∷ []) more whole = absurd (omega (arith, whole))
known_on (v ∷ k ∷ []) more whole = absurd (omega (arith, whole))
known_on (v ∷ k ∷ a ∷ []) more whole = absurd (omega (arith, whole))
known_on (v ∷ k ∷ a ∷ b ∷ []) more whole = absurd (omega (arith, whole))
known_on (v ∷ k ∷ a ∷ b ∷ c ∷ []) more whole = absurd (omega (arith, whole))
known_on (v ∷ k ∷ a ∷ b ∷ c ∷ d ∷ bytes) more whole = refl

-- it is no longer than the longest message
known_within : (bytes : List ℕ) → known_length bytes ≤ most_message_bytes
unfolding known_length
known_within [] = omega arith
known_within (v ∷ []) = omega arith
known_within (v ∷ k ∷ []) = omega arith
known_within (v ∷ k ∷ a ∷ []) = omega arith
known_within (v ∷ k ∷ a ∷ b ∷ []) = omega arith
known_within (v ∷ k ∷ a ∷ b ∷ c ∷ []) = omega arith
known_within (v ∷ k ∷ a ∷ b ∷ c ∷ d ∷ bytes) = omega arith

-- a body is no longer than the longest
pub body_within : (kind : ℕ) (layout : Layout) (n : ℕ) → layout_of kinds kind ≡ Some layout → fits layout n ≡ true → n ≤ most_body_bytes
body_within kind layout n = is_format.within message_version kind layout n

lacks_known : (kind : ℕ) (layout : Layout) (a b c d : ℕ) (bytes : List ℕ) → layout_of kinds kind ≡ Some layout → LacksBody layout (a ∷ b ∷ c ∷ d ∷ bytes) →
    length bytes < min (from_be_bytes w32 (a ∷ b ∷ c ∷ d ∷ [])) most_body_bytes
lacks_known kind layout a b c d bytes known (inl few) = absurd (omega (arith, few))
lacks_known kind layout a b c d bytes known (inr lacks) =
    omega (arith, lacks.1, body_within kind layout (from_be_bytes w32 (a ∷ b ∷ c ∷ d ∷ [])) known lacks.0)

-- part of a message is shorter
pub part_is_shorter : (bytes : List ℕ) → IsUnfinished bytes → length bytes < known_length bytes
unfolding known_length
part_is_shorter [] unfinished = omega arith
part_is_shorter (v ∷ []) unfinished = omega arith
part_is_shorter (v ∷ k ∷ []) unfinished = omega arith
part_is_shorter (v ∷ k ∷ a ∷ []) unfinished = omega arith
part_is_shorter (v ∷ k ∷ a ∷ b ∷ []) unfinished = omega arith
part_is_shorter (v ∷ k ∷ a ∷ b ∷ c ∷ []) unfinished = omega arith
part_is_shorter (v ∷ k ∷ a ∷ b ∷ c ∷ d ∷ bytes) unfinished = omega (arith, lacks_known k unfinished.1.0 a b c d bytes unfinished.1.1 unfinished.1.2)

-- so it is shorter than the longest message
pub part_within : (bytes : List ℕ) → IsUnfinished bytes → length bytes < most_message_bytes
part_within bytes unfinished = omega (arith, part_is_shorter bytes unfinished, known_within bytes)

lacks_on : (layout : Layout) (a b c d : ℕ) (bytes more : List ℕ) → LacksBody layout (a ∷ b ∷ c ∷ d ∷ bytes) →
    length (bytes ++ more) < min (from_be_bytes w32 (a ∷ b ∷ c ∷ d ∷ [])) most_body_bytes → LacksBody layout (a ∷ b ∷ c ∷ d ∷ (bytes ++ more))
lacks_on layout a b c d bytes more (inl few) short = absurd (omega (arith, few))
lacks_on layout a b c d bytes more (inr lacks) short = inr (lacks.0, omega (arith, short))

-- with more bytes, it stays part of the message while it is shorter
unfinished_on : (bytes more : List ℕ) → IsUnfinished bytes → header_length ≤ length bytes → length (bytes ++ more) < known_length (bytes ++ more) →
    IsUnfinished (bytes ++ more)
unfolding known_length
unfinished_on [] more unfinished whole short = absurd (omega (arith, whole))
unfinished_on (v ∷ []) more unfinished whole short = absurd (omega (arith, whole))
unfinished_on (v ∷ k ∷ []) more unfinished whole short = absurd (omega (arith, whole))
unfinished_on (v ∷ k ∷ a ∷ []) more unfinished whole short = absurd (omega (arith, whole))
unfinished_on (v ∷ k ∷ a ∷ b ∷ []) more unfinished whole short = absurd (omega (arith, whole))
unfinished_on (v ∷ k ∷ a ∷ b ∷ c ∷ []) more unfinished whole short = absurd (omega (arith, whole))
unfinished_on (v ∷ k ∷ a ∷ b ∷ c ∷ d ∷ bytes) more unfinished whole short =
    (unfinished.0, (unfinished.1.0, unfinished.1.1, lacks_on unfinished.1.0 a b c d bytes more unfinished.1.2 (omega (arith, short))))

-- ---- part of a message begins with none

-- a message's encoding, followed by other bytes: the version, the kind, the length of the body, the
-- body
spelled_parts : (m : Message Definition) (spelled after bytes : List ℕ) → Spells m spelled → bytes ≡ spelled ++ after →
    bytes ≡ message_version ∷ (texts m).byte ∷ (to_be_bytes w32 (length (row_bytes (texts m))) ++ (row_bytes (texts m) ++ after))
unfolding text_spelling frame
spelled_parts m spelled after bytes spells e =
    e ∙ ap (λ (t : List ℕ). t ++ after) spells.spelled
    ∙ ap (λ (t : List ℕ). message_version ∷ (texts m).byte ∷ t) (append_assoc (to_be_bytes w32 (length (row_bytes (texts m)))) (row_bytes (texts m)) after)

-- bytes that lack their body don't have as many as the length states
lacks_some : (kind : ℕ) (layout : Layout) (n : ℕ) (behind : List ℕ) → layout_of kinds kind ≡ Some layout → n ≤ length behind → LacksBody layout (to_be_bytes w32 n ++ behind) → ⊥
lacks_some kind layout n behind known enough (inl few) = omega (arith, few, length-append (to_be_bytes w32 n) behind)
lacks_some kind layout n behind known enough (inr lacks) =
    let front : take 4 (to_be_bytes w32 n ++ behind) ≡ to_be_bytes w32 n = take-append_seam (to_be_bytes w32 n) behind in
    let most = body_within kind layout (stated_length (to_be_bytes w32 n ++ behind)) known lacks.0 in
    let long = length-append (to_be_bytes w32 n) behind in
    let again : from_be_bytes w32 (to_be_bytes w32 n) ≡ n = from_be_bytes-to_be_bytes_4 n (omega (arith, lacks.1, most, long, enough)) in
    let stated : stated_length (to_be_bytes w32 n ++ behind) ≡ n = ap (from_be_bytes w32) front ∙ again in
    omega (arith, lacks.1, stated, long, enough)

begins_with_none : (bytes : List ℕ) → IsUnfinished bytes → BeginsWithNone bytes
begins_with_none bytes unfinished m spelled after spells e =
    let n : ℕ = length (row_bytes (texts m)) in
    let lacks = subst (λ (t : List ℕ). IsUnfinished t) (spelled_parts m spelled after bytes spells e) unfinished in
    lacks_some (texts m).byte lacks.1.0 n (row_bytes (texts m) ++ after) lacks.1.1 (omega (arith, length-append (row_bytes (texts m)) after)) lacks.1.2

-- ---- bytes moved from a piece behind the rest

-- the rest is at the front of the new one
pub front_stays : (rest piece new left : List ℕ) (wanted : ℕ) → IsFilled rest piece new left wanted → take (length rest) new ≡ rest
front_stays rest piece new left wanted filled =
    sym (take-append-le (length rest) new left filled.longer) ∙ ap (take (length rest)) (sym filled.moved) ∙ take-append_seam rest piece

-- the new one is the rest followed by other bytes
parts_of : (rest piece new left : List ℕ) (wanted : ℕ) → IsFilled rest piece new left wanted → new ≡ rest ++ drop (length rest) new
parts_of rest piece new left wanted filled =
    sym (take-append-drop (length rest) new) ∙ ap (λ (t : List ℕ). t ++ drop (length rest) new) (front_stays rest piece new left wanted filled)

-- nothing is left of nothing
none_left : (mid new left : List ℕ) (wanted : ℕ) → IsFilled mid [] new left wanted → left ≡ []
none_left mid new left wanted filled =
    nil_from_length left (omega (arith, ap length filled.moved, ap length (append-nil mid), length-append new left, filled.longer))

whole_on : (mid between new left : List ℕ) → header_length ≤ length mid → IsFilled mid between new left (known_length mid) → (left ≡ []) ⊎ (known_length mid ≤ length new) →
    (left ≡ []) ⊎ (known_length new ≤ length new)
whole_on mid between new left whole filled (inl nothing) = inl nothing
whole_on mid between new left whole filled (inr enough) =
    let same : known_length new ≡ known_length mid = ap known_length (parts_of mid between new left (known_length mid) filled) ∙ known_on mid (drop (length mid) new) whole in
    inr (omega (arith, same, enough))

enough_on : (mid between new left : List ℕ) → (between ≡ []) ⊎ (header_length ≤ length mid) → IsFilled mid between new left (known_length mid) →
    (left ≡ []) ⊎ (known_length new ≤ length new)
enough_on mid between new left (inl nothing) filled =
    inl (none_left mid new left (known_length mid) (subst (λ (t : List ℕ). IsFilled mid t new left (known_length mid)) nothing filled))
enough_on mid between new left (inr whole) filled = whole_on mid between new left whole filled filled.enough

-- first to the header, then to the body
pub filled_on : (rest piece mid between new left : List ℕ) → IsFilled rest piece mid between header_length → IsFilled mid between new left (known_length mid) →
    IsFilled rest piece new left (known_length new)
filled_on rest piece mid between new left first second =
    record { moved = first.moved ∙ second.moved; longer = omega (arith, first.longer, second.longer); enough = enough_on mid between new left first.enough second }

-- ---- the rest with the bytes moved behind it

-- Part of a message, with bytes behind it, that is still shorter than its header tells: all of the
-- piece was moved.
pub all_moved : (rest piece new left : List ℕ) → IsFilled rest piece new left (known_length new) → length new < known_length new → rest ++ piece ≡ new
all_moved rest piece new left filled short =
    elim filled.enough [
      | inl nothing ↦ filled.moved ∙ ap (λ (t : List ℕ). new ++ t) nothing ∙ append-nil new
      | inr enough ↦ absurd (omega (arith, short, enough))
    ]

-- Its header was whole before, so it is still part of the message.
pub part_on : (rest piece new left : List ℕ) → IsUnfinishedPart rest → IsFilled rest piece new left (known_length new) → header_length ≤ length rest →
    length new < known_length new → IsUnfinishedPart new
part_on rest piece new left part filled whole short =
    let parts = parts_of rest piece new left (known_length new) filled in
    let more : List ℕ = drop (length rest) new in
    let still : IsUnfinished (rest ++ more) = unfinished_on rest more part.unfinished whole (subst (λ (t : List ℕ). length t < known_length t) parts short) in
    let unfinished : IsUnfinished new = subst (λ (t : List ℕ). IsUnfinished t) (sym parts) still in
    record { longest = begins_with_none new unfinished; unfinished = unfinished }

-- the first bytes of the piece that are missing, or all
pub filled_by : (rest piece new : List ℕ) (n wanted : ℕ) → n ≤ length piece → ((n ≡ length piece) ⊎ (wanted ≤ length rest + n)) → new ≡ rest ++ take n piece → IsFilled rest piece new (drop n piece) wanted
filled_by rest piece new n wanted within enough moved =
    let count : length new ≡ length rest + n = ap length moved ∙ length-append rest (take n piece) ∙ ap (λ (k : ℕ). length rest + k) (length-take-le n piece within) in
    record {
      moved = ap (λ (t : List ℕ). rest ++ t) (sym (take-append-drop n piece)) ∙ sym (append_assoc rest (take n piece) (drop n piece)) ∙ ap (λ (t : List ℕ). t ++ drop n piece) (sym moved);
      longer = omega (arith, count);
      enough = elim enough [
        | inl all ↦ inl (nil_from_length (drop n piece) (omega (arith, length-drop n piece, all)))
        | inr more ↦ inr (omega (arith, more, count))
      ];
    }
