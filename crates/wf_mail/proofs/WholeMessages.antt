-- A stream splits into messages one after the other, and in one way.
use Rattle.std.proofs.Common.{◌≡◌, ℕ, ◌<◌, ◌≤◌, List, [], ◌∷◌, ◌++◌, length, map, take, drop, refl, sym, ap, subst, ◌∙◌, length-append, length-drop, arith}
use Rattle.std.proofs.lemmas.List.{map-append, nil_from_length, take-append-drop}
use Rattle.wf_def.specs.Definition.{Definition}
use Rattle.wf_model.specs.Message.{Message}
use Rattle.wf_codec.specs.Encoding.{Spells}
use Rattle.wf_codec.proofs.Validated.{none_is_empty}
use Rattle.wf_codec.specs.Theorem.{BeginsWith, BeginsWithNone}
use Rattle.wf_codec.specs.declared.fault.DecodeFault.{DecodeFault}
use Rattle.wf_mail.specs.Stream.{Splits, IsUnfinishedPart, Reads, IsWrong, Breaks}
use Rattle.wf_mail.specs.FrontMessage.{TakesOne, TakesNone}

-- ---- one message after the other

-- one message more, split off the rest
splits_push : (stream : List ℕ) (messages : List (Message Definition)) (rest : List ℕ) (m : Message Definition) (spelled after : List ℕ) →
    Splits stream messages rest → Spells m spelled → rest ≡ spelled ++ after → Splits stream (messages ++ m ∷ []) after
splits_push stream [] rest m spelled after splits spells e = (spelled, after, spells, splits ∙ e, refl)
splits_push stream (q ∷ messages) rest m spelled after splits spells e =
    (splits.0, splits.1, splits.2, splits.3, splits_push splits.1 messages rest m spelled after splits.4 spells e)

-- the message at the front of the rest is taken off it
pub splits_one_more : (stream rest : List ℕ) (n : ℕ) (old new : List (Message Definition)) → Splits stream old rest → TakesOne rest n old new → Splits stream new (drop n rest)
splits_one_more stream rest n old new splits takes =
    subst (λ (ms : List (Message Definition)). Splits stream ms (drop n rest)) (sym takes.one_more)
    (splits_push stream old rest takes.taken (take n rest) (drop n rest) splits takes.spells (sym (take-append-drop n rest)))

-- the message that the decoder returns is appended
pub next_taken : {X : Type 0} (view : X → Message Definition) (bytes : List ℕ) (n : ℕ) (x : X) (old new : List X) → BeginsWith bytes (view x) n → (1 ≤ n) × (n ≤ length bytes) →
    new ≡ old ++ x ∷ [] → TakesOne bytes n (map view old) (map view new)
next_taken view bytes n x old new begins count e =
    record { taken = view x; not_empty = count.0; within = count.1; spells = begins.spells; one_more = ap (map view) e ∙ map-append view old (x ∷ []) }

-- the rest is shorter
pub left_is_less : (rest : List ℕ) (n : ℕ) (old new : List (Message Definition)) → TakesOne rest n old new → length (drop n rest) < length rest
left_is_less rest n old new takes = omega (arith, length-drop n rest, takes.not_empty, takes.within)

-- no message is left: the stream is read
pub read_to : (stream rest : List ℕ) (old new : List (Message Definition)) → Splits stream old rest → TakesNone rest old new → Reads stream new rest
read_to stream rest old new splits takes =
    record { splits = subst (λ (ms : List (Message Definition)). Splits stream ms rest) (sym takes.unchanged) splits; part = takes.part }

-- the error stands after whole messages
pub broken_at : (stream rest : List ℕ) (messages : List (Message Definition)) (fault : DecodeFault) → Splits stream messages rest → IsWrong rest fault → Breaks stream fault
broken_at stream rest messages fault splits wrong = record { messages = messages; rest = rest; splits = splits; wrong = wrong }

-- the empty bytes begin with no message
none_begins_nothing : BeginsWithNone []
none_begins_nothing m spelled after spells e = absurd (omega (arith, none_is_empty m spelled spells, ap length e, length-append spelled after))

-- no bytes are part of a message
pub nothing_is_part : IsUnfinishedPart []
nothing_is_part = record { longest = none_begins_nothing; unfinished = tt }

-- so empty bytes are
pub empty_is_part : (bytes : List ℕ) → bytes ≡ [] → IsUnfinishedPart bytes
empty_is_part bytes none = subst (λ (t : List ℕ). IsUnfinishedPart t) (sym none) nothing_is_part

-- nothing is left: the stream is read
pub read_to_end : (stream rest : List ℕ) (messages : List (Message Definition)) → Splits stream messages rest → length rest ≡ 0 → Reads stream messages rest
read_to_end stream rest messages splits none = record { splits = splits; part = empty_is_part rest (nil_from_length rest none) }
