-- The calls so far are those of the notes, and one more.
use Rattle.std.proofs.Common.{List, subst}
use Rattle.wf_store.specs.Call.{Call, IsAfter, OnlyReads}
use Rattle.wf_store.specs.contracts.calls.Calls.{the_view}
use Rattle.wf_store.proofs.Noted.{noted_after, noted_reads}
use Rattle.wf_store.proofs.calls.Calls.and.Goals as goal

pub returns-clause-after : goal.returns-clause-after
returns-clause-after c = subst (λ (calls : List Call). IsAfter calls (the_view (record { notes = c.and.result }))) c.self.view_is
    (noted_after c.self.inside.notes.items c.and.result.items c.args.bytes.now c.args.kind c.and.ensures)

pub returns-clause-reads : goal.returns-clause-reads
returns-clause-reads c = λ reads. subst (λ (calls : List Call). OnlyReads calls (the_view (record { notes = c.and.result }))) c.self.view_is
    (noted_reads c.self.inside.notes.items c.and.result.items c.args.bytes.now c.args.kind c.and.ensures reads)
