use Rattle.std.proofs.Common.{◌≡◌, ◌++◌, Some}
use Rattle.std.specs.Prelude.{codes}
use Rattle.std.proofs.lemmas.Slice.Eq.{strip_prefix_is}
use Rattle.std.proofs.lemmas.Bool.Decides.{Decides-eqb}
use Rattle.wf_spelling.proofs.ScanSequences.{both}
use Rattle.wf_block.specs.Spelling.{line}
use Rattle.wf_spelling.proofs.scan.layer.scan_attribute_names.Goals as goal

pub returns-in-Ok : goal.returns-in-Ok
unfolding line
returns-in-Ok c =
    let split : c.in_ok-bytes.bytes.now ≡ codes "ITEMS=" ++ c.in_ok-names.names.now = strip_prefix_is Decides-eqb c.in_ok-bytes.bytes.now (codes "ITEMS=") (Some c.in_ok-names.names) c.in_ok-names.ensures.cases in
    rw c.in-Ok.ensures.value (both c.take.ensures (both (rw split at c.in_ok-bytes.ensures) c.take-2.ensures))
