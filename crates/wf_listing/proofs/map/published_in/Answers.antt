-- Each iteration goes on behind a record that publishes none.
use Rattle.std.proofs.Common.{◌∙◌, List, map, sym, ap}
use Rattle.std.proofs.lemmas.List.{drop_all}
use Rattle.wf_journal.specs.declared.record.Record.{Record}
use Rattle.wf_journal.specs.Record.{view}
use Rattle.wf_listing.specs.Map.{published_in}
use Rattle.wf_listing.proofs.Published.{behind, found}
use Rattle.wf_listing.proofs.map.published_in.Goals as goal

pub returns-in-Some : goal.returns-in-Some
returns-in-Some c =
    sym (found view c.args.sequence c.args.records.now c.loop-entry.entry-index c.entry-item.result c.loop-entry-test.true c.entry-item.is c.in-Some.map.now c.in-Some.ensures)
    ∙ c.loop-entry.invariant

pub loop-entry-preserved : goal.loop-entry-preserved
loop-entry-preserved c =
    sym (behind view c.args.sequence c.args.records.now c.loop-entry.entry-index c.entry-item.result c.loop-entry-test.true c.entry-item.is c.in_default.ensures)
    ∙ c.loop-entry.invariant

pub returns : goal.returns
unfolding published_in
returns c = ap (λ (rs : List Record). published_in c.args.sequence (map view rs)) (sym (drop_all c.loop-entry.entry-index c.args.records.now c.loop-entry-test.false)) ∙ c.loop-entry.invariant
