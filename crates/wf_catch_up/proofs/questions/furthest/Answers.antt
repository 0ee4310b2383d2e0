-- The node that has come furthest of those so far.
use Rattle.std.proofs.Common.{◌≡◌, arith, ap, inl, inr}
use Rattle.wf_catch_up.proofs.Common.{cases_lt, rank_at, nodes_of}
use Rattle.wf_catch_up.proofs.Level.{all_ranked}
use Rattle.wf_catch_up.proofs.questions.furthest.Goals as goal

pub loop-number-init : goal.loop-number-init
loop-number-init g c = record { within = c.requires.some; most = λ k less. absurd (omega (arith, less)) }

pub loop-number-preserved : goal.loop-number-preserved
loop-number-preserved g c = record {
  within = c.further-most.ensures.within;
  most = λ k less. elim (cases_lt k c.loop-number.number) [
    | inl before ↦ omega (arith, c.loop-number.invariant.most k before, c.further-most.ensures.first)
    | inr last ↦
        let it : k ≡ c.loop-number.number = omega (arith, last, less) in
        omega (arith, ap (rank_at (nodes_of c.args.hosts.now)) it, c.further-most.ensures.second)
  ];
}

pub returns-clause-most : goal.returns-clause-most
returns-clause-most g c = all_ranked c.args.hosts.now c.loop-number.most (λ k less. c.loop-number.invariant.most k (omega (arith, less, c.loop-number-test.false)))
