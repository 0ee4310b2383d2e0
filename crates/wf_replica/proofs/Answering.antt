-- What an answer leaves.
use Rattle.std.proofs.Common.{◌≡◌, ◌∙◌, ℕ, ◌≤◌, List, ◌++◌, length, take, Option, Some, sym, ap}
use Rattle.std.specs.Prelude.{◌≢◌}
use Rattle.wf_ballot.specs.Sequence.{last_sequence}
use Rattle.wf_def.specs.Definition.{Definition}
use Rattle.wf_digest.specs.Digest.{digest_at}
use Rattle.wf_reader.specs.ReaderAnswer.{ReaderAnswer}
use Rattle.wf_reader.specs.declared.question.Question.{Question}
use Rattle.wf_replica.proofs.Digested.{digest_within}
use Rattle.wf_replica.specs.Fit.{FitsQuestion, IsLearnedInPart, IsOtherHistory}
use Rattle.wf_replica.specs.MapList.{Learns, maps_of}
use Rattle.wf_replica.specs.declared.maps.MapList.{MapList}

-- an answer's own digest at its last sequence is another one than that of the list with its
-- definitions
pub other_history : (list : List Definition) (a : ReaderAnswer) (digest : List ℕ) → a.published ≤ length list →
    (a.published ≤ length (list ++ a.definitions) → ◌≡◌ {A = Option (List ℕ)} (Some digest) (Some (digest_at (list ++ a.definitions) a.published))) →
    a.published ≤ length (list ++ a.definitions) → digest ≢ a.digest → IsOtherHistory list a
other_history list a digest both value within differ = record {
  both = both;
  differ = λ same.
      let at : ◌≡◌ {A = Option (List ℕ)} (Some digest) (Some (digest_at (list ++ a.definitions) a.published)) = value within in
      let own : digest ≡ digest_at (list ++ a.definitions) a.published = cc at in
      differ (own ∙ digest_within list a.definitions a.published both ∙ sym same);
}

pub whole : (list new definitions : List Definition) (q : Question) (a : ReaderAnswer) → FitsQuestion list q a → definitions ≡ a.definitions → new ≡ take last_sequence (list ++ definitions) →
    FitsQuestion list q a × (new ≡ take last_sequence (list ++ a.definitions))
whole list new definitions q a fits are is = (fits, is ∙ ap (λ (l : List Definition). take last_sequence (list ++ l)) are)

pub cut : (old new : MapList) (q : Question) (a : ReaderAnswer) (definitions : List Definition) → FitsQuestion (maps_of old) q a → definitions ≡ a.definitions →
    (k : ℕ) × Learns k old new definitions → IsLearnedInPart (maps_of old) q a (maps_of new)
cut old new q a definitions fits are learns =
    record { fits = fits; count = learns.0; goes_on = learns.1.list ∙ ap (λ (l : List Definition). maps_of old ++ take learns.0 l) are }
