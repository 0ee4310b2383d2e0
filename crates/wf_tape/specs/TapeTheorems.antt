-- What a crash may leave after an append.
use Rattle.std.specs.Prelude.{ℕ, List, [], ◌++◌}
use Rattle.std.proofs.Common.{sym, ap, ◌∙◌, append_assoc, inl, inr}
use Rattle.std.proofs.lemmas.List.{append-nil}
use Rattle.wf_tape.specs.declared.tape.Tape.{Ghosts as Tape}
use Rattle.wf_tape.specs.Tape.{IsPrefixOf, IsExtended, IsCutShort, LeavesOldOrCut}

-- Where each image before an append was a prefix of the content, each image after it is one of the
-- new content that begins with an image from before.
abbrev pub CutsShort : {T : Type 0} → Tape T → Type 0
CutsShort {T} tapes = (old new : T) (bytes : List ℕ) → ((image : List ℕ) → tapes.images old image → IsPrefixOf image (tapes.content old)) → IsExtended (tapes.content old) bytes (tapes.content new) →
    LeavesOldOrCut (tapes.content new) (tapes.images old) (tapes.images new) → IsCutShort (tapes.content new) (tapes.images old) (tapes.images new)

pub images_cut_short : (content bytes longer : List ℕ) (old new : List ℕ → Type 0) → ((image : List ℕ) → old image → IsPrefixOf image content) → IsExtended content bytes longer → LeavesOldOrCut longer old new → IsCutShort longer old new
images_cut_short content bytes longer old new within extended leaves image left = elim (leaves image left) [
  | inl was ↦
      let begins = within image was in (
        (begins.0 ++ extended.0, extended.2 ∙ ap (λ (t : List ℕ). t ++ extended.0) begins.1 ∙ append_assoc image begins.0 extended.0),
        (image, was, ([], sym (append-nil image))),
      )
  | inr cut ↦ cut
]

pub cuts_short : {T : Type 0} (tapes : Tape T) → CutsShort tapes
cuts_short tapes old new bytes = images_cut_short (tapes.content old) bytes (tapes.content new) (tapes.images old) (tapes.images new)
