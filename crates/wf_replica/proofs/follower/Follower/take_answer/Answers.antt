-- What was taken of the answer was heard.
use Rattle.std.proofs.Common.{sym, take}
use Rattle.wf_replica.proofs.Hearing.{heard_more, part_of}
use Rattle.wf_replica.specs.Follower.{answers_of, read_by}
use Rattle.wf_replica.proofs.follower.Follower.take_answer.Goals as goal

pub invariant_of-self : goal.invariant_of-self
invariant_of-self g c =
    let old = c.args.self.now in record {
      recorded = c.learn_fitting-taken.ensures.recorded old.recorded;
      heard = heard_more (read_by old) (answers_of old) c.and-self.result.items c.args.question.now c.args.answer.now old.maps c.learn_fitting-taken.new.self c.and-self.ensures
          c.learn_fitting-taken.ensures.learns old.heard;
    }

pub returns-clause-grows : goal.returns-clause-grows
returns-clause-grows g c =
    let learns = c.learn_fitting-taken.ensures.learns in
    record { begins = (take learns.count c.args.answer.now.definitions, sym learns.learns.list) }

pub returns-clause-received : goal.returns-clause-received
returns-clause-received g c =
    let part = part_of c.args.question.now c.args.answer.now c.args.self.now.maps c.learn_fitting-taken.new.self c.learn_fitting-taken.ensures.learns in
    (part.0, part.2)

pub returns-clause-taken : goal.returns-clause-taken
returns-clause-taken g c = part_of c.args.question.now c.args.answer.now c.args.self.now.maps c.learn_fitting-taken.new.self c.learn_fitting-taken.ensures.learns
