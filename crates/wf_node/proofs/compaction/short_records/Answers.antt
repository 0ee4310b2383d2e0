-- First the round tried, then each sequence, then the promise.
use Rattle.std.proofs.Common.{List, ◌++◌, map, ap, ◌∙◌, append_assoc}
use Rattle.wf_ballot.specs.Sequence.{last_sequence}
use Rattle.wf_def.specs.Definition.{Definition}
use Rattle.wf_model.specs.DurableState.{Record}
use Rattle.wf_journal.specs.Record.{view}
use Rattle.wf_node.specs.DurablePart.{stored_of}
use Rattle.wf_node.specs.Compaction.{tried_records, promise_records, records_from, short_records}
use Rattle.wf_node.proofs.compaction.short_records.Goals as goal

pub returns : goal.returns
unfolding short_records
returns c =
    let stored = stored_of c.args.persistent.now in
    let tried = c.in_ok-push_tried.ensures ∙ ap (λ records. map view records ++ tried_records c.last_round.result) c.new-records.ensures.items ∙ ap tried_records c.last_round.ensures in
    let sequences = c.in_ok-push_sequences.ensures ∙ ap (λ (rs : List (Record Definition)). rs ++ records_from stored 1 last_sequence) tried in
    c.in_ok-push_promise.ensures ∙ ap (λ (rs : List (Record Definition)). rs ++ promise_records stored stored.promise) sequences
    ∙ append_assoc (tried_records stored.tried) (records_from stored 1 last_sequence) (promise_records stored stored.promise)
