use Rattle.std.proofs.lemmas.Result.{err_from_is_err_and}
use Rattle.wf_journal.proofs.record_reader.read_next.Goals as goal

pub returns-in_err-record-clause-none_yet : goal.returns-in_err-record-clause-none_yet
returns-in_err-record-clause-none_yet c = λ torn.
    let reported = err_from_is_err_and c.from_residual.result c.from_residual.ensures.1 in
    c.in_err-record.ensures.none_yet (cc (torn, reported.1, reported.2))
