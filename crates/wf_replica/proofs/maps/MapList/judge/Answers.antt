-- The answerer's digest at its last sequence, which the replica has published too, is another one.
use Rattle.std.proofs.Common.{rules, ◌≤◌, ◌++◌, arith, length, length-append}
use Rattle.std.specs.Prelude.{◌≢◌}
use Rattle.wf_replica.proofs.Answering.{other_history}
use Rattle.wf_replica.specs.Fit.{IsQuestionOf}
use Rattle.wf_replica.specs.MapList.{maps_of}
use Rattle.wf_replica.proofs.maps.MapList.judge.Goals as goal

pub returns-in-Some-clause-differs : goal.returns-in-Some-clause-differs
returns-in-Some-clause-differs c = λ other.
    let asked : IsQuestionOf (maps_of c.args.self.now) c.args.question.now = search rules in
    let differ : c.in-Some.digest ≢ c.args.answer.now.digest = search rules in
    let both : c.args.answer.now.published ≤ length (maps_of c.args.self.now) = omega (arith, c.misfit_of.ensures other, asked.published) in
    let within : c.args.answer.now.published ≤ length (maps_of c.args.self.now ++ c.args.answer.now.definitions) =
    omega (arith, both, length-append (maps_of c.args.self.now) c.args.answer.now.definitions) in
    other_history (maps_of c.args.self.now) c.args.answer.now c.in-Some.digest both c.in-Some.ensures.within within differ
