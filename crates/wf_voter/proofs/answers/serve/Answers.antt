use Rattle.wf_voter.proofs.Answered.{answered_as}
use Rattle.wf_voter.proofs.Continuation.{answered}
use Rattle.wf_voter.proofs.answers.serve.Goals as goal

pub returns-clause-sent : goal.returns-clause-sent
returns-clause-sent g c =
    let served = c.serve.ensures.served in
    record {
      outputs = served.outputs;
      is_outcome = answered_as g.T.Tape c.args.process.now.actor.node c.serve.new.self.actor.node served.outputs c.serve.result c.reader.result.rest.now c.args.incoming.now.bytes c.args.outgoing.now c.serve.new.sink
          c.reader.ensures.rest c.requires served.outcome_is;
      emitted = served.emitted;
      given = served.given;
      goes_on = served.goes_on;
    }

pub returns-clause-on : goal.returns-clause-on
returns-clause-on g c = answered g.T.Tape _ _ _ _ _ (returns-clause-sent g c)
