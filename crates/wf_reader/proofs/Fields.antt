-- The parts of an answer.
use Rattle.std.proofs.Common.{◌≡◌, ◌∙◌, ℕ, List, ◌++◌, length, take, drop, sym, ap}
use Rattle.wf_ballot.specs.Sequence.{seq_bytes}
use Rattle.wf_def.specs.Definition.{Definition}
use Rattle.wf_reader.proofs.Parts.{drop_front, joined, length_of_sequence, take_front}
use Rattle.wf_reader.specs.ReaderAnswer.{ReaderAnswer}
use Rattle.wf_reader.specs.Reply.{answer_fields, texts_bytes}

pub fields_parts : (b r p d t : List ℕ) → p ≡ take 2 b → r ≡ drop 2 b → d ≡ take 32 r → t ≡ drop 32 r → (a : ReaderAnswer) → length a.digest ≡ 32 → b ≡ answer_fields a →
    (p ≡ seq_bytes a.published) × (d ≡ a.digest) × (t ≡ texts_bytes a.definitions)
unfolding answer_fields
fields_parts b r p d t ep er ed et a digest e =
    let behind : r ≡ a.digest ++ texts_bytes a.definitions = er ∙ drop_front 2 b (seq_bytes a.published) _ (length_of_sequence a.published) e in (
      ep ∙ take_front 2 b (seq_bytes a.published) _ (length_of_sequence a.published) e,
      ed ∙ take_front 32 r a.digest _ digest behind,
      et ∙ drop_front 32 r a.digest _ digest behind,
    )

pub fields_whole : (b r p d t : List ℕ) → p ≡ take 2 b → r ≡ drop 2 b → d ≡ take 32 r → t ≡ drop 32 r → (a : ReaderAnswer) → p ≡ seq_bytes a.published → a.digest ≡ d → t ≡ texts_bytes a.definitions → b ≡ answer_fields a
unfolding answer_fields
fields_whole b r p d t ep er ed et a published digest texts =
    joined 2 b p r ep er ∙ ap (λ (x : List ℕ). p ++ x) (joined 32 r d t ed et)
    ∙ ap (λ (x : List ℕ). x ++ (d ++ t)) published
    ∙ ap (λ (x : List ℕ). seq_bytes a.published ++ (x ++ t)) (sym digest)
    ∙ ap (λ (x : List ℕ). seq_bytes a.published ++ (a.digest ++ x)) texts

pub same_answer : (a b : ReaderAnswer) → a.distance ≡ b.distance → a.published ≡ b.published → a.digest ≡ b.digest → a.definitions ≡ b.definitions → a ≡ b
same_answer a b distance published digest definitions =
    let made : ℕ → ℕ → List ℕ → List Definition → ReaderAnswer = λ n p g l. record { distance = n; published = p; digest = g; definitions = l } in
    ap (λ (n : ℕ). made n a.published a.digest a.definitions) distance
    ∙ ap (λ (p : ℕ). made b.distance p a.digest a.definitions) published
    ∙ ap (λ (g : List ℕ). made b.distance b.published g a.definitions) digest
    ∙ ap (λ (l : List Definition). made b.distance b.published b.digest l) definitions
