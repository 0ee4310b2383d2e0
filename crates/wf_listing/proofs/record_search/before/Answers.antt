-- What is read before the bad bytes is all that stands there, and none of it is bad.
use Rattle.std.proofs.Common.{List, ℕ, map, subst}
use Rattle.wf_journal.specs.Journal.{IsBadAt, IsWhereBad}
use Rattle.wf_journal.specs.Record.{view}
use Rattle.wf_journal.specs.Records.{IsTapeOf}
use Rattle.wf_journal.specs.declared.open_error.OpenFault.{OpenFault}
use Rattle.wf_listing.proofs.Splits.{bad_found, none_bad_before}
use Rattle.wf_listing.proofs.record_search.before.Goals as goal

pub unreachable-requires : goal.unreachable-requires
unreachable-requires c =
    let index = c.in-Err-BadRecord.field-0-0 in
    let bad : IsBadAt c.split_at.result.0.now index =
    subst (λ (fault : OpenFault). IsWhereBad fault c.split_at.result.0.now) c.in-Err-BadRecord.field-0-is c.in-Err-BadRecord.ensures.bad in
    none_bad_before c.records_are_read_one_way.ensures.one c.args.bytes.now c.args.offset index c.requires
    (subst (λ (t : List ℕ). IsBadAt t index) c.split_at.ensures.front bad)

pub returns-in-Ok-clause-found : goal.returns-in-Ok-clause-found
returns-in-Ok-clause-found c =
    let read = c.in-Ok.ensures.read in
    bad_found c.records_are_read_one_way.ensures.one c.args.bytes.now c.args.offset c.requires (map view c.in-Ok.records.items) read.0
    (subst (λ (t : List ℕ). IsTapeOf t (map view c.in-Ok.records.items) read.0) c.split_at.ensures.front read.1)
