-- Bytes are those of one list alone.
use Rattle.std.proofs.Common.{◌∙◌, sym, ap, List}
use Rattle.std.specs.Prelude.{Option, Some}
use Rattle.wf_peer.proofs.ToldReplacements.{same_entries}
use Rattle.wf_rejoin.specs.declared.replacement.Replacement.{Replacement}
use Rattle.wf_peer.proofs.replaced_decoder.replacements_of.Goals as goal

pub returns-then-read_entries-clause-each : goal.returns-then-read_entries-clause-each
returns-then-read_entries-clause-each c = λ known size are e.
    let read = c.if-read_entries.ensures in
    ap (λ (l : List (Option Replacement)). Some l) (c.of.ensures ∙ same_entries 0 c.read_entries.new.nodes known (read.0 ∙ sym size) read.1 are (sym read.2 ∙ e))
