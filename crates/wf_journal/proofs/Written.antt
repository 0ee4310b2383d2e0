-- The header and the body are the record's encoding.
use Rattle.std.proofs.Common.{◌≡◌, ℕ, ◌+◌, List, ◌++◌, length, sym, ap, ◌∙◌, append_assoc, length-append, arith}
use Rattle.wf_ballot.specs.Field.{frame}
use Rattle.wf_frame.specs.Row.{row_bytes}
use Rattle.wf_def.specs.Definition.{Definition}
use Rattle.wf_model.specs.DurableState.{Record}
use Rattle.wf_journal.specs.Record.{texts}
use Rattle.wf_journal.specs.Version.{version_byte, version_written}
use Rattle.wf_journal.specs.Encoding.{text_spelling, spelling}

pub written : (old reserved header mid new fields text : List ℕ) (r : Record Definition) (version kind : ℕ) → version ≡ version_byte version_written → kind ≡ (texts r).byte →
    row_bytes (texts r) ≡ fields ++ text → reserved ≡ old → header ++ row_bytes (texts r) ≡ reserved ++ frame version kind (row_bytes (texts r)) → mid ≡ header ++ fields → new ≡ mid ++ text →
    new ≡ old ++ spelling r
unfolding text_spelling
written old reserved header mid new fields text r version kind own same body same_old first second third =
    let bytes : List ℕ = row_bytes (texts r) in
    third ∙ ap (λ (t : List ℕ). t ++ text) second ∙ append_assoc header fields text ∙ ap (λ (t : List ℕ). header ++ t) (sym body) ∙ first
    ∙ ap (λ (t : List ℕ). t ++ frame version kind bytes) same_old ∙ ap (λ (v : ℕ). old ++ frame v kind bytes) own ∙ ap (λ (k : ℕ). old ++ frame (version_byte version_written) k bytes) same

-- the number of bytes of a body
pub counted : (fields text : List ℕ) (r : Record Definition) (n k : ℕ) → row_bytes (texts r) ≡ fields ++ text → n ≡ length fields → k ≡ length text → length (row_bytes (texts r)) ≡ n + k
counted fields text r n k body same same_text = omega (arith, ap length body, length-append fields text, same, same_text)
