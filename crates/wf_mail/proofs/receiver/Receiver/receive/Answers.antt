use Rattle.wf_mail.specs.Receiver.{logged}
use Rattle.wf_mail.proofs.Received.{stays_receiver, received_now, takes_now, closed_now, same_error}
use Rattle.wf_mail.proofs.receiver.Receiver.receive.Goals as goal

pub invariant_of-self : goal.invariant_of-self
invariant_of-self c =
    stays_receiver c.self.inside.log.items c.and-self-inside.result.items c.in-Ok.messages _ c.self.inside.inbox c.feed.new.self c.args.piece.now c.and-self-inside.ensures c.in-Ok.ensures.ok c.self.invariant

pub returns-in-Ok-clause-ok : goal.returns-in-Ok-clause-ok
returns-in-Ok-clause-ok c =
    received_now c.self.inside.is_out_of_memory c.self.inside.log.items c.and-self-inside.result.items c.in-Ok.messages _ c.self.inside.inbox c.feed.new.self c.args.piece.now c.args.self.now
    c.if-self.false c.self.view_is c.and-self-inside.ensures c.in-Ok.ensures.ok

pub returns-in-Ok-clause-bytes : goal.returns-in-Ok-clause-bytes
returns-in-Ok-clause-bytes c =
    takes_now c.self.inside.is_out_of_memory c.self.inside.log.items c.and-self-inside.result.items c.in-Ok.messages _ c.self.inside.inbox c.feed.new.self c.args.piece.now c.args.self.now
    c.if-self.false c.self.view_is c.and-self-inside.ensures c.in-Ok.ensures.ok

pub returns-in-Err : goal.returns-in-Err
returns-in-Err c = record {
  ok = tt;
  bytes = tt;
  err = closed_now c.self.inside.is_out_of_memory c.is_memory-self-inside.result (logged c.self.inside.log.items) c.self.inside.inbox c.feed.new.self c.args.piece.now c.in-Err.fault c.args.self.now
      c.if-self.false c.self.view_is c.is_memory-self-inside.ensures c.self.invariant.messages c.in-Err.ensures.broken
      (λ earlier failed. same_error c.in-Err.fault earlier (c.in-Err.ensures.again earlier failed).0);
}
