use Rattle.std.proofs.Common.{◌≡◌, true, [], ◌∷◌, rules}
use Rattle.wf_client.specs.Client.{is_asking}
use Rattle.wf_visitors.proofs.Answered.{logged, may_answer, responses_along}
use Rattle.wf_visitors.proofs.visitors.Visitors.answer.Goals as goal

pub invariant_of-self : goal.invariant_of-self
invariant_of-self g c = record {
  answered = responses_along g.N.Connection.Connection c.take.new.self.responses.items c.and-self.result.items ((c.respond.new.client, 0) ∷ [])
      c.take.new.self.connections.items c.take.new.self.slots.items c.and-self.ensures c.take.new.self.answered;
}

pub put-requires-in-Sent : goal.put-requires-in-Sent
put-requires-in-Sent g c =
    let asks : is_asking c.in-Some.client.phase ≡ true = search rules in
    may_answer c.args.self.now.responses.items c.note.new.self.responses.items 0 _ _ c.in-Some.client c.respond.new.client c.settle.new.client
    asks c.in-Some.ensures.may c.respond.ensures.incoming c.respond.ensures.done
    (logged c.args.self.now.responses.items c.take.new.self.responses.items c.and-self.result.items c.note.new.self.responses.items ((c.respond.new.client, 0) ∷ [])
    c.take.ensures.responses c.and-self.ensures c.note.ensures)
    c.settle.ensures.phase c.settle.ensures.outgoing
