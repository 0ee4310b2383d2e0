-- What is appended so far is the listings of the tapes before this one that are there, and the
-- check has taken them.
use Rattle.std.specs.String.{string_bytes}
use Rattle.wf_commands.specs.Folder.{AreTakenUpTo}
use Rattle.wf_commands.proofs.folder.push_tapes.Given as goal
use Rattle.wf_store.specs.Call.{OnlyReads}

abbrev pub invariant-loop-number : goal.invariant-loop-number
invariant-loop-number g l = record {
  have : AreTakenUpTo l.fn.survey.tapes l.number l.fn.owner l.check (g.S.Store.calls l.fn.store) (g.S.Store.calls l.store) (string_bytes l.text);
  reads : OnlyReads (g.S.Store.calls l.fn.store) (g.S.Store.calls l.store);
}
