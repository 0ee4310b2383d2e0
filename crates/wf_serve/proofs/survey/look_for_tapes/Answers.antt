-- One tape more is looked for.
use Rattle.std.proofs.Common.{◌≡◌, ◌<◌, ◌∙◌, length, arith, rules}
use Rattle.std.proofs.lemmas.List.{length-set}
use Rattle.wf_serve.proofs.Surveyed.{looked_for_all, no_look, one_more_look, unseen}
use Rattle.wf_serve.proofs.survey.look_for_tapes.Goals as goal
use Rattle.wf_store.specs.CallTheorems.{reads_both, reads_none}

pub loop-number-init : goal.loop-number-init
loop-number-init g c = record { size = search rules; seen = no_look _ _; reads = reads_none _ }

pub loop-number-preserved : goal.loop-number-preserved
loop-number-preserved g c =
    let within : c.loop-number.number < length c.loop-number.tapes = omega (arith, c.loop-number.invariant.size, c.loop-number-test.true) in
    record {
      size = length-set c.loop-number.tapes c.loop-number.number c.in-Ok.there ∙ c.loop-number.invariant.size;
      seen = one_more_look c.loop-number.tapes c.in-Ok.there c.loop-number.number _ _ _ within c.loop-number.invariant.seen c.in-Ok.ensures.ok;
      reads = reads_both _ _ _ c.loop-number.invariant.reads c.presence.ensures.reads;
    }

pub returns-clause-seen : goal.returns-clause-seen
returns-clause-seen g c =
    let all : c.loop-number.number ≡ 64 = omega (arith, c.loop-number.auto.number-end, c.loop-number-test.false) in
    looked_for_all c.loop-number.number c.loop-number.tapes _ _ all c.loop-number.invariant.seen

pub returns-in-Err-clause-reads : goal.returns-in-Err-clause-reads
returns-in-Err-clause-reads g c = reads_both _ _ _ c.loop-number.invariant.reads c.presence.ensures.reads

pub returns-in-Err-clause-cause : goal.returns-in-Err-clause-cause
returns-in-Err-clause-cause g c =
    let within : c.loop-number.number < 64 = omega (arith, c.loop-number-test.true) in
    unseen c.loop-number.number c.in-Err.fault _ _ _ within c.loop-number.invariant.reads c.in-Err.ensures.err c.in-Err.ensures.cause
