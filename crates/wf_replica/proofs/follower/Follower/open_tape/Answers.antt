-- What came of the tape's records, and of a tape that is bad somewhere.
use Rattle.std.proofs.Common.{subst}
use Rattle.wf_journal.specs.Journal.{IsWhereBad}
use Rattle.wf_replica.proofs.Recorded.{all_bad}
use Rattle.wf_replica.specs.Follower.{list_of}
use Rattle.wf_replica.proofs.follower.Follower.open_tape.Goals as goal

pub returns-in-Err-default-BadRecord-clause-found : goal.returns-in-Err-default-BadRecord-clause-found
returns-in-Err-default-BadRecord-clause-found g c = λ durable.
    let bytes = g.T.Tape.content c.args.tape in
    let here = c.in-Err-default-BadRecord in
    let bad = subst (λ fault. IsWhereBad fault bytes) here.field-0-1-is (here.ensures.bad durable) in
    all_bad c.records_are_read_one_way.ensures.one bytes here.field-0-1-0 c.begin_anew.result (λ x. x.1) (λ x. list_of x.0) bad c.begin_anew.ensures.found
