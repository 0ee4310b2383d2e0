-- The two lines of a replica are there, and the text is another.
use Rattle.std.proofs.Common.{◌≡◌, ◌∙◌, ◌++◌, ℕ, List, ap, sym, true, false, bytes_eq}
use Rattle.std.proofs.lemmas.Slice.Eq.{bytes_eq-Decides}
use Rattle.wf_folder.specs.FarmFile.{first_line}
use Rattle.wf_replica.specs.FarmFile.{kind_replica_line, replica_text}
use Rattle.wf_replica_command.proofs.folder.judge.Goals as goal

pub returns-in-Some-after-clause-other : goal.returns-in-Some-after-clause-other
returns-in-Some-after-clause-other c =
    let first : c.args.bytes.now ≡ first_line ++ c.in-Some.rest.now = c.in-Some.ensures in
    let second : c.in-Some.rest.now ≡ kind_replica_line ++ c.in-Some-after.field-0.now = c.in-Some-after.ensures in
    let ours : c.in_ok-text.text.items ≡ replica_text c.args.farm.now = c.in_ok-text.ensures in
    let other : bytes_eq c.as_slice.result.now c.args.bytes.now ≡ false = sym c.eq.ensures ∙ c.if-eq.false in (
      c.in-Some-after.field-0.now,
      first ∙ ap (λ (rest : List ℕ). first_line ++ rest) second,
      λ same. absurd (let clash : false ≡ true = sym other ∙ (bytes_eq-Decides c.as_slice.result.now c.args.bytes.now).1 (c.as_slice.ensures.value ∙ ours ∙ sym same) in cc),
    )
