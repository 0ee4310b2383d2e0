-- The definition that is published there; else the vote.
use Rattle.std.proofs.Common.{◌≡◌, [], ◌∷◌, Some, None, map, sym, ap, ◌∙◌}
use Rattle.std.specs.Option.{option_copied}
use Rattle.wf_model.specs.DurableState.{Published, definition_at}
use Rattle.wf_journal.specs.Record.{view}
use Rattle.wf_node.specs.DurablePart.{stored_of}
use Rattle.wf_node.specs.Compaction.{vote_records, records_at}
use Rattle.wf_node.proofs.Pushed.{appends_as, published_here, open_here}
use Rattle.wf_node.proofs.compaction.push_sequence.Goals as goal

pub returns-in_ok-copy-in-Some : goal.returns-in_ok-copy-in-Some
returns-in_ok-copy-in-Some c =
    let here : definition_at c.args.persistent.now.parts.history c.args.slot ≡ Some c.in_ok-copy-in-Some.field-0 =
    ap (λ definitions. definition_at definitions c.args.slot) (sym c.history.ensures) ∙ sym c.canon.ensures ∙ ap option_copied c.in-Some.is ∙ ap Some (sym c.in_ok-copy-in-Some.ensures) in
    appends_as c.push.result (map view c.args.records.now.items) (map view c.push.new.records.items) (Published c.args.slot c.in_ok-copy-in-Some.field-0 ∷ []) (records_at (stored_of c.args.persistent.now) c.args.slot)
    c.push.ensures (published_here (stored_of c.args.persistent.now) c.args.slot c.in_ok-copy-in-Some.field-0 here)

pub returns-in-None : goal.returns-in-None
returns-in-None c =
    let none : definition_at c.args.persistent.now.parts.history c.args.slot ≡ None =
    ap (λ definitions. definition_at definitions c.args.slot) (sym c.history.ensures) ∙ sym c.canon.ensures ∙ ap option_copied c.in-None.is in
    appends_as c.push_vote.result (map view c.args.records.now.items) (map view c.push_vote.new.records.items) (vote_records c.args.slot ((stored_of c.args.persistent.now).votes c.args.slot)) (records_at (stored_of c.args.persistent.now) c.args.slot)
    c.push_vote.ensures (open_here (stored_of c.args.persistent.now) c.args.slot none)
