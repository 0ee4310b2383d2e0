-- What has arrived, piece by piece.
use Rattle.std.proofs.Common.{◌≡◌, ◌∙◌, ◌+◌, ℕ, List, [], ◌∷◌, ◌++◌, length, map, refl, sym, ap, subst, arith}
use Rattle.std.specs.Prelude.{Option}
use Rattle.std.proofs.lemmas.List.{append_assoc, append-nil, length-append, map-append}
use Rattle.wf_codec.specs.Message.{view}
use Rattle.wf_codec.specs.declared.message.Message as code
use Rattle.wf_def.specs.Definition.{Definition}
use Rattle.wf_model.specs.Message.{Message}
use Rattle.wf_stream.specs.KnownTheorems.{consumes_more, consumes_none}
use Rattle.wf_stream.specs.Effects.{ReadsPiece}
use Rattle.wf_mail.specs.Inbox.{InboxState, Open, Failed, IsFed, pending_bytes}
use Rattle.wf_mail.proofs.Split.{joined_reads}
use Rattle.wf_mail.proofs.WholeMessages.{nothing_is_part}
use Rattle.wf_mail.specs.Stream.{Reads, Splits}
use Rattle.wf_link.specs.Arrival.{Arrives, HasArrived, HasTaken, HaveArrived, came_out}
use Rattle.wf_link.specs.declared.receiver.Arrival.{Arrival}

pub nothing_received : (arrival : Arrival) → arrival.inbox ≡ Open [] → arrival.messages.items ≡ [] → HasArrived [] arrival
nothing_received arrival fresh none = record {
  rest = [];
  keeps = fresh;
  reads = record { splits = subst (λ ms. Splits [] (map view ms) []) (sym none) refl; part = nothing_is_part };
}

-- ---- a piece more

fed_open : (rest piece : List ℕ) (more : List (Message Definition)) (state : InboxState) → IsFed (Open rest) piece more state → (after : List ℕ) × (state ≡ Open after) × Reads (rest ++ piece) more after
fed_open rest piece more (Open after) fed = (after, refl, fed)
fed_open rest piece more (Failed fault) fed = absurd fed

pub piece_taken : (piece : List ℕ) (before after : Arrival) (more : List (Message Definition)) → IsFed before.inbox piece more after.inbox → came_out after ≡ came_out before ++ more
    → HasTaken piece before after
unfolding HasTaken
piece_taken piece before after more fed is = λ earlier had.
    let opened = fed_open had.rest piece more after.inbox (subst (λ (s : InboxState). IsFed s piece more after.inbox) had.keeps fed) in
    record {
      rest = opened.0;
      keeps = opened.1;
      reads = subst (λ (ms : List (Message Definition)). Reads (earlier ++ piece) ms opened.0) (sym is)
          (joined_reads [] earlier piece (came_out before) more had.rest opened.0 had.reads opened.2);
    }

pub kept : (old new more : List code.Message) → new ≡ old ++ more → map view new ≡ map view old ++ map view more
kept old new more is = ap (map view) is ∙ map-append view old more

-- ---- bytes that a reader gave

pub arrived_some : (count : ℕ) (left left_after : Option (List ℕ)) (piece empty : List ℕ) (before after : Arrival) → empty ≡ [] → ReadsPiece count left left_after empty piece → HasTaken piece before after
    → Arrives count left left_after before after
unfolding HasTaken
arrived_some count left left_after piece empty before after none (bytes, size, consumed, is) taken =
    let same : piece ≡ bytes = is ∙ ap (λ front. front ++ bytes) none in
    record { bytes = bytes; size = size; consumed = consumed; taken = subst (λ (xs : List ℕ). HasTaken xs before after) same taken }

pub arrived_none : (left : Option (List ℕ)) (arrival : Arrival) → Arrives 0 left left arrival arrival
unfolding HasTaken
arrived_none left arrival = record {
  bytes = [];
  size = refl;
  consumed = consumes_none left [] refl;
  taken = λ earlier had. subst (λ (xs : List ℕ). HasArrived xs arrival) (sym (append-nil earlier)) had;
}

pub arrived_more : (count some all : ℕ) (left between left_after : Option (List ℕ)) (before middle after : Arrival) → all ≡ count + some → Arrives count left between before middle → Arrives some between left_after middle after
    → Arrives all left left_after before after
unfolding HasTaken
arrived_more count some all left between left_after before middle after sum first second = record {
  bytes = first.bytes ++ second.bytes;
  size = length-append first.bytes second.bytes ∙ ap (λ n. n + length second.bytes) first.size ∙ ap (λ n. count + n) second.size ∙ sym sum;
  consumed = consumes_more left between left_after first.bytes second.bytes first.consumed second.consumed;
  taken = λ earlier had. subst (λ (xs : List ℕ). HasArrived xs after) (append_assoc earlier first.bytes second.bytes) (second.taken (earlier ++ first.bytes) (first.taken earlier had));
}

-- the first bytes of all
pub first_arrived : (count : ℕ) (left left_after : Option (List ℕ)) (fresh arrival : Arrival) → HasArrived [] fresh → Arrives count left left_after fresh arrival → HaveArrived count left left_after arrival
unfolding HasTaken
first_arrived count left left_after fresh arrival nothing arrives = record { bytes = arrives.bytes; size = arrives.size; consumed = arrives.consumed; received = arrives.taken [] nothing }

-- ---- what came out

pub one_left : (all front : List code.Message) (message : code.Message) → length front ≡ 0 → all ≡ front ++ message ∷ [] → all ≡ message ∷ []
one_left all [] message none is = is
one_left all (x ∷ front) message none is = absurd (omega (arith, none))

empty_list : {A : Type 0} (xs : List A) → length xs ≡ 0 → xs ≡ []
empty_list [] short = refl
empty_list (x ∷ xs) short = absurd (omega (arith, short))

-- an inbox that keeps no byte keeps nothing
keeps_nothing : (rest : List ℕ) (state : InboxState) → state ≡ Open rest → pending_bytes state ≡ 0 → rest ≡ []
keeps_nothing rest state is none = empty_list rest (sym (ap pending_bytes is) ∙ none)

pub none_came_out : (bytes : List ℕ) (arrival : Arrival) → length arrival.messages.items ≡ 0 → HasArrived bytes arrival → (rest : List ℕ) × Reads bytes [] rest
none_came_out bytes arrival none had =
    (had.rest, subst (λ (ms : List code.Message). Reads bytes (map view ms) had.rest) (empty_list arrival.messages.items none) had.reads)
