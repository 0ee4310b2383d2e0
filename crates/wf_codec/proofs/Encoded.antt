-- The header and the body are the encoding, and its length.
use Rattle.std.proofs.Common.{◌≡◌, ℕ, ◌+◌, List, ◌++◌, length, sym, ap, ◌∙◌, append_assoc, length-append, Result, Ok, Err, arith}
use Rattle.std.specs.Prelude.{OnErr}
use Rattle.wf_ballot.specs.Field.{frame}
use Rattle.wf_frame.specs.Row.{Row, row_bytes}
use Rattle.wf_def.specs.Definition.{Definition}
use Rattle.wf_model.specs.Message.{Message}
use Rattle.wf_codec.specs.Message.{texts}
use Rattle.wf_codec.specs.Encoding.{message_version, header_length, text_spelling, spelling}

pub put_together : (old reserved header mid new fields end : List ℕ) (m : Message Definition) (kind : ℕ) → kind ≡ (texts m).byte → row_bytes (texts m) ≡ fields ++ end → reserved ≡ old →
    header ++ row_bytes (texts m) ≡ reserved ++ frame message_version kind (row_bytes (texts m)) → mid ≡ header ++ fields → new ≡ mid ++ end → new ≡ old ++ spelling m
unfolding text_spelling
put_together old reserved header mid new fields end m kind same body same_old first second third =
    let bytes : List ℕ = row_bytes (texts m) in
    third ∙ ap (λ (t : List ℕ). t ++ end) second ∙ append_assoc header fields end ∙ ap (λ (t : List ℕ). header ++ t) (sym body) ∙ first
    ∙ ap (λ (t : List ℕ). t ++ frame message_version kind bytes) same_old ∙ ap (λ (k : ℕ). old ++ frame message_version k bytes) same

pub length-text_spelling : (r : Row (List ℕ)) → length (text_spelling r) ≡ header_length + length (row_bytes r)
unfolding text_spelling frame
length-text_spelling r = omega arith

-- what holds in any case holds after an error
pub on_error : {T E P : Type 0} (r : Result T E) → P → OnErr r P
on_error (Ok x) p = tt
on_error (Err e) p = p

-- the number of bytes of a body
pub counted : (fields end : List ℕ) (m : Message Definition) (n k : ℕ) → row_bytes (texts m) ≡ fields ++ end → n ≡ length fields → k ≡ length end → length (row_bytes (texts m)) ≡ n + k
counted fields end m n k body same same_end = omega (arith, ap length body, length-append fields end, same, same_end)
