use Rattle.std.proofs.Common.{◌≡◌, ℕ, length, refl, subst, arith}
use Rattle.std.specs.String.{string_bytes}
use Rattle.wf_commands.specs.Folder.{AreTakenUpTo}
use Rattle.wf_commands.proofs.Folders.{no_tapes, one_more}
use Rattle.wf_commands.proofs.folder.push_tapes.Goals as goal
use Rattle.wf_store.specs.CallTheorems.{reads_both, reads_none}

pub loop-number-init : goal.loop-number-init
loop-number-init g c = record {
  have = no_tapes c.args.survey.now.tapes c.args.owner.now (g.S.Store.calls c.args.store.now) _ _ c.new-check.ensures c.requires.empty;
  reads = reads_none _;
}

pub loop-number-preserved : goal.loop-number-preserved
loop-number-preserved g c = record {
  have = one_more c.args.survey.now.tapes c.args.owner.now (g.S.Store.calls c.args.store.now) c.loop-number.number _ _ _ _ _ _ _ refl c.loop-number.invariant.have c.in-Ok.ensures.taken;
  reads = reads_both _ _ _ c.loop-number.invariant.reads c.push_next.ensures.reads;
}

pub returns-clause-taken : goal.returns-clause-taken
returns-clause-taken g c =
    let all : c.loop-number.number ≡ length c.args.survey.now.tapes = omega (arith, c.requires.size) in
    subst (λ (n : ℕ). AreTakenUpTo c.args.survey.now.tapes n c.args.owner.now c.loop-number.check (g.S.Store.calls c.args.store.now) (g.S.Store.calls c.loop-number.store) (string_bytes c.loop-number.text)) all
    c.loop-number.invariant.have

pub returns-in-Err-clause-reads : goal.returns-in-Err-clause-reads
returns-in-Err-clause-reads g c = reads_both _ _ _ c.loop-number.invariant.reads c.push_next.ensures.reads
