-- A piece joined to the rest before it: where the message that begins in the rest ends, the piece's
-- own messages begin.
use Rattle.std.proofs.Common.{◌≡◌, ℕ, ◌+◌, ◌-◌, ◌<◌, ◌≤◌, List, [], ◌∷◌, ◌++◌, length, map, take, drop, refl, sym, ap, subst, ◌∙◌, length-append, arith, inl, inr, Result, Ok, Err}
use Rattle.std.proofs.Math.Seq.{drop-append-add}
use Rattle.std.proofs.lemmas.List.{take-append-drop, take-append-le, take-take}
use Rattle.std.proofs.lemmas.Bool.{cases_lt}
use Rattle.std.specs.Prelude.{OnErr}
use Rattle.wf_def.specs.Definition.{Definition}
use Rattle.wf_model.specs.Message.{Message}
use Rattle.wf_codec.specs.Encoding.{header_length}
use Rattle.wf_codec.specs.declared.fault.DecodeFault.{DecodeFault}
use Rattle.wf_mail.specs.Header.{known_length, IsFilled}
use Rattle.wf_mail.specs.Stream.{Splits, IsUnfinishedPart, Reads, IsWrong, Breaks}
use Rattle.wf_mail.specs.FrontMessage.{TakesOne, TakesNone}
use Rattle.wf_mail.proofs.Faults.{wrong_on}
use Rattle.wf_mail.proofs.Headers.{all_moved, front_stays, part_is_shorter, part_on}

-- no messages so far
reads_part : (stream : List ℕ) (messages : List (Message Definition)) (rest : List ℕ) → messages ≡ [] → stream ≡ rest → IsUnfinishedPart rest → Reads stream messages rest
reads_part stream messages rest none e part = record { splits = subst (λ (ms : List (Message Definition)). Splits stream ms rest) (sym none) e; part = part }

-- the message that begins in the rest isn't whole yet, by its header
pub still_part : {X : Type 0} (view : X → Message Definition) (rest piece new left : List ℕ) (messages : List X) → IsUnfinishedPart rest →
    IsFilled rest piece new left (known_length new) → header_length ≤ length rest → length new < known_length new → messages ≡ [] → Reads (rest ++ piece) (map view messages) new
still_part view rest piece new left messages part filled whole short none =
    reads_part (rest ++ piece) (map view messages) new (ap (map view) none) (all_moved rest piece new left filled short) (part_on rest piece new left part filled whole short)

-- or as the decoder says
pub still_none : {X : Type 0} (view : X → Message Definition) (rest piece new left : List ℕ) (old messages : List X) →
    IsFilled rest piece new left (known_length new) → TakesNone new (map view old) (map view messages) → old ≡ [] → Reads (rest ++ piece) (map view messages) new
still_none view rest piece new left old messages filled takes none =
    let short = part_is_shorter new takes.part.unfinished in
    reads_part (rest ++ piece) (map view messages) new (takes.unchanged ∙ ap (map view) none) (all_moved rest piece new left filled short) takes.part

-- The message ends behind the rest, in which it wasn't whole.
pub ends_behind : (rest piece new left : List ℕ) (n : ℕ) (old messages : List (Message Definition)) → IsUnfinishedPart rest → IsFilled rest piece new left (known_length new) →
    TakesOne new n old messages → length rest < n
ends_behind rest piece new left n old messages part filled takes =
    elim (cases_lt (length rest) n) [
      | inl behind ↦ behind
      | inr within ↦
          let front : take n new ≡ take n rest = sym (take-take n (length rest) new within) ∙ ap (take n) (front_stays rest piece new left (known_length new) filled) in
          absurd (part.longest takes.taken (take n new) (drop n rest) takes.spells (sym (take-append-drop n rest) ∙ ap (λ (t : List ℕ). t ++ drop n rest) (sym front)))
    ]

-- it ends in the piece
pub ends_within : (rest piece new left : List ℕ) (n : ℕ) (old messages : List (Message Definition)) → IsFilled rest piece new left (known_length new) → TakesOne new n old messages →
    n ≤ length rest + length piece
ends_within rest piece new left n old messages filled takes =
    omega (arith, ap length filled.moved, length-append rest piece, length-append new left, takes.within)

-- So the stream is that message, followed by what stands behind it in the piece.
pub ends_there : {X : Type 0} (view : X → Message Definition) (rest piece new left : List ℕ) (n : ℕ) (old : List X) (messages : List (Message Definition)) → IsUnfinishedPart rest →
    IsFilled rest piece new left (known_length new) → TakesOne new n (map view old) messages → old ≡ [] → Splits (rest ++ piece) messages (drop (n - length rest) piece)
ends_there view rest piece new left n old messages part filled takes none =
    let behind = ends_behind rest piece new left n (map view old) messages part filled takes in
    let j : ℕ = n - length rest in
    let count : n ≡ length rest + j = omega (arith, behind) in
    let front : take n (rest ++ piece) ≡ take n new = ap (take n) filled.moved ∙ take-append-le n new left takes.within in
    let later : drop n (rest ++ piece) ≡ drop j piece = ap (λ (k : ℕ). drop k (rest ++ piece)) count ∙ drop-append-add rest piece j in
    let parts : rest ++ piece ≡ take n new ++ drop j piece =
    sym (take-append-drop n (rest ++ piece)) ∙ ap (λ (t : List ℕ). t ++ drop n (rest ++ piece)) front ∙ ap (λ (t : List ℕ). take n new ++ t) later in
    let one : messages ≡ takes.taken ∷ [] = takes.one_more ∙ ap (λ (xs : List _). map view xs ++ takes.taken ∷ []) none in
    subst (λ (ms : List (Message Definition)). Splits (rest ++ piece) ms (drop j piece)) (sym one) (take n new, drop j piece, takes.spells, parts, refl)

-- An error of the message that begins in the rest is one of the stream.
pub wrong_in : (rest piece new left : List ℕ) (fault : DecodeFault) → IsFilled rest piece new left (known_length new) → IsWrong new fault → Breaks (rest ++ piece) fault
wrong_in rest piece new left fault filled wrong =
    record { messages = []; rest = rest ++ piece; splits = refl; wrong = subst (λ (t : List ℕ). IsWrong t fault) (sym filled.moved) (wrong_on new left fault wrong) }

-- ---- after an error

-- what holds in any case
pub on_error : {T E P : Type 0} (r : Result T E) → P → OnErr r P
on_error (Ok x) p = tt
on_error (Err e) p = p

-- what follows from what holds
pub on_error_then : {T E P Q : Type 0} (r : Result T E) → OnErr r P → (P → Q) → OnErr r Q
on_error_then (Ok x) p then = tt
on_error_then (Err e) p then = then p
