use Rattle.wf_voter.proofs.Answered.{one_more_answered}
use Rattle.wf_voter.proofs.Continuation.{responded, stayed}
use Rattle.wf_voter.proofs.Earlier.{stay_answered, stay_on}
use Rattle.wf_voter.proofs.clients.Clients.answer.Goals as goal

pub invariant_of-self : goal.invariant_of-self
invariant_of-self g c =
    let one = rw c.if-answer.true at c.answer.ensures in
    record {
      answered = one_more_answered g.T.Tape c.args.self.now.before.items c.and-before.result.items _ _ c.args.self.now.after.items c.and-self.result.items c.args.voter.now one.0 c.answer.new.server 0 0 0
          one.2.answers c.and-before.ensures one.1 c.and-self.ensures c.args.self.now.answered;
    }

pub returns-then-answer-clause-earlier : goal.returns-then-answer-clause-earlier
returns-then-answer-clause-earlier g c =
    let one = rw c.if-answer.true at c.answer.ensures in
    stay_answered g.T.Tape _ _ c.args.voter.now _ c.and-before.ensures (responded g.T.Tape _ _ _ _ c.requires.awake c.requires.agrees c.requires.votes one.2).process

pub returns-else-answer-clause-earlier : goal.returns-else-answer-clause-earlier
returns-else-answer-clause-earlier g c =
    let none = rw c.if-answer.false at c.answer.ensures in
    stay_on g.T.Tape _ c.args.voter.now.process _ (stayed g.T.Tape _ _ c.requires.awake c.requires.agrees c.requires.votes none.1).process
