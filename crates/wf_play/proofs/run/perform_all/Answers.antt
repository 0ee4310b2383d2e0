-- Each order is performed on the farm that the ones before left, and its text is written after
-- theirs.
use Rattle.std.proofs.Common.{◌∙◌, refl}
use Rattle.std.specs.String.{string_bytes}
use Rattle.wf_play.proofs.PlayEnd.{breaks_there, ends_there}
use Rattle.wf_play.proofs.Last.{order_is_not_last, written_last}
use Rattle.wf_play.proofs.ScriptRun.{none_played, one_played}
use Rattle.wf_play.proofs.run.perform_all.Goals as goal

pub loop-number-init : goal.loop-number-init
loop-number-init g c = record {
  plays = none_played c.args.session.now.script c.args.session.now.farm (g.K.Sink.written c.args.sink.now);
  script = refl;
  empty = c.new-out.ensures.bytes;
  writes = refl;
}

pub loop-number-preserved : goal.loop-number-preserved
loop-number-preserved g c = record {
  plays =
      one_played c.loop-number.number c.args.session.now.script c.loop-number.session.script c.args.session.now.farm c.loop-number.session.farm c.perform.new.self.farm
      (g.K.Sink.written c.args.sink.now) (g.K.Sink.written c.loop-number.sink) (g.K.Sink.written c.write_all.new.sink) (string_bytes c.loop-number.out) (string_bytes c.perform.new.out)
      c.loop-number.invariant.script c.loop-number.invariant.plays c.in_default.ensures.does c.loop-number.invariant.empty c.in_default.ensures.reports
      (rw c.as_bytes.ensures.value at c.in-Ok.ensures.whole);
  script = c.in_default.ensures.script ∙ c.loop-number.invariant.script;
  empty = c.clear.ensures.bytes;
  writes = c.in-Ok.ensures.calm ∙ c.loop-number.invariant.writes;
}

-- an allocation failed at the order, or a message wasn't carried
pub returns-in-Err-clause-ended : goal.returns-in-Err-clause-ended
returns-in-Err-clause-ended g c =
    ends_there c.loop-number.number c.args.session.now.script c.loop-number.session.script c.args.session.now.farm c.loop-number.session.farm (g.K.Sink.written c.args.sink.now) (g.K.Sink.written c.loop-number.sink) c.loop-number.invariant.script c.loop-number.invariant.plays
    c.in-Err.fault c.in-Err.ensures.fault

-- the write of its text failed
pub returns-in-Err-write_all-clause-ended : goal.returns-in-Err-write_all-clause-ended
returns-in-Err-write_all-clause-ended g c =
    breaks_there c.loop-number.number c.args.session.now.script c.loop-number.session.script c.args.session.now.farm c.loop-number.session.farm (g.K.Sink.written c.args.sink.now) (g.K.Sink.written c.loop-number.sink) c.loop-number.invariant.script c.loop-number.invariant.plays
    c.perform.new.self.farm (g.K.Sink.written c.write_all.new.sink) (string_bytes c.loop-number.out) (string_bytes c.perform.new.out) c.in-Err-write_all.field-0 c.in_default.ensures.does c.loop-number.invariant.empty
    c.in_default.ensures.reports (rw c.as_bytes.ensures.value at c.in-Err-write_all.ensures.part.1)

pub returns-in-Err-clause-last : goal.returns-in-Err-clause-last
returns-in-Err-clause-last g c = order_is_not_last g.K.Sink _ _ c.args.sink.now c.loop-number.sink c.in-Err.fault c.in-Err.ensures.fault

pub returns-in-Err-write_all-clause-last : goal.returns-in-Err-write_all-clause-last
returns-in-Err-write_all-clause-last g c =
    written_last g.K.Sink c.loop-number.number c.args.session.now.script c.args.session.now.farm c.loop-number.session.farm c.args.sink.now c.loop-number.sink c.write_all.new.sink _
    c.loop-number.invariant.plays c.loop-number.invariant.writes c.in-Err-write_all.ensures.last
