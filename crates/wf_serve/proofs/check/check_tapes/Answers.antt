-- One tape more is read.
use Rattle.std.proofs.Common.{◌≡◌, arith, refl}
use Rattle.wf_serve.proofs.Causes.{cause_later}
use Rattle.wf_serve.proofs.Checked.{all_checked, none_checked, one_more_checked}
use Rattle.wf_serve.proofs.check.check_tapes.Goals as goal
use Rattle.wf_store.specs.CallTheorems.{reads_both, reads_none}

pub loop-number-init : goal.loop-number-init
loop-number-init g c = record { have = none_checked _ _; reads = reads_none _ }

pub loop-number-preserved : goal.loop-number-preserved
loop-number-preserved g c = record {
  have = one_more_checked c.args.tapes.now c.loop-number.number _ _ _ _ _ _ refl c.loop-number.invariant.have c.in-Ok.ensures.next;
  reads = reads_both _ _ _ c.loop-number.invariant.reads c.check_next.ensures.reads;
}

pub returns-clause-checked : goal.returns-clause-checked
returns-clause-checked g c =
    let all : c.loop-number.number ≡ c.args.n = omega (arith, c.loop-number.auto.number-end, c.loop-number-test.false) in
    all_checked c.args.n c.loop-number.number c.args.tapes.now c.loop-number.longest _ _ all c.loop-number.invariant.have

pub returns-in-Err-clause-reads : goal.returns-in-Err-clause-reads
returns-in-Err-clause-reads g c = reads_both _ _ _ c.loop-number.invariant.reads c.check_next.ensures.reads

pub returns-in-Err-clause-cause : goal.returns-in-Err-clause-cause
returns-in-Err-clause-cause g c = cause_later c.args.n c.in-Err.cause _ _ _ c.loop-number.invariant.reads.after c.in-Err.ensures.cause
