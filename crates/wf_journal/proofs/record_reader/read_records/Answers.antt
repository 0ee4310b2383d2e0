use Rattle.std.proofs.Common.{rules, ◌≡◌, ℕ, List, map, length, sym, subst, inl, inr}
use Rattle.std.proofs.lemmas.List.{nil_from_length}
use Rattle.wf_journal.specs.Record.{view}
use Rattle.wf_journal.specs.Records.{Splits, BeginsWithNone, IsTorn}
use Rattle.wf_journal.proofs.Lists.{all_read, none_begins_nothing}
use Rattle.wf_journal.proofs.record_reader.read_records.Goals as goal

pub returns-in-Err-Torn-clause-ok : goal.returns-in-Err-Torn-clause-ok
returns-in-Err-Torn-clause-ok c =
    let torn : IsTorn c.loop-alloc.rest.now = search rules in
    let none : BeginsWithNone c.loop-alloc.rest.now = c.in-Err-Torn.ensures.none_yet (cc (c.in-Err-Torn.field-0-is)) in
    let splits = subst (λ items. Splits c.args.bytes.now (map view items) c.loop-alloc.rest.now) (sym c.in-Err-Torn.ensures.err) c.loop-alloc.invariant in
    all_read c.args.bytes.now (map view c.read_next.new.records.items) c.loop-alloc.rest.now splits none (inr torn)

pub returns-clause-ok : goal.returns-clause-ok
returns-clause-ok c =
    let zero : length c.loop-alloc.rest.now ≡ 0 = search rules in
    let nothing = nil_from_length c.loop-alloc.rest.now zero in
    let none = subst (λ (t : List ℕ). BeginsWithNone t) (sym nothing) none_begins_nothing in
    all_read c.args.bytes.now (map view c.loop-alloc.records.items) c.loop-alloc.rest.now c.loop-alloc.invariant none (inl nothing)
