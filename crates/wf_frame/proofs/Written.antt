-- The header and the body behind it are the frame.
use Rattle.std.proofs.Common.{◌≡◌, ℕ, List, [], ◌∷◌, ◌++◌, length, sym, ap, ◌∙◌, append_assoc}
use Rattle.std.specs.Int.{w32, to_be_bytes}
use Rattle.wf_ballot.specs.Field.{frame}

pub put_together : (old head new body : List ℕ) (version kind n : ℕ) → head ≡ old ++ (version ∷ kind ∷ []) → new ≡ head ++ to_be_bytes w32 n → length body ≡ n →
    new ++ body ≡ old ++ frame version kind body
unfolding frame
put_together old head new body version kind n first second same =
    let size : List ℕ = to_be_bytes w32 (length body) in
    let header : new ≡ (old ++ (version ∷ kind ∷ [])) ++ size =
    second ∙ ap (λ (t : List ℕ). t ++ to_be_bytes w32 n) first ∙ ap (λ (x : ℕ). (old ++ (version ∷ kind ∷ [])) ++ to_be_bytes w32 x) (sym same) in
    ap (λ (t : List ℕ). t ++ body) header ∙ append_assoc (old ++ (version ∷ kind ∷ [])) size body ∙ append_assoc old (version ∷ kind ∷ []) (size ++ body)
