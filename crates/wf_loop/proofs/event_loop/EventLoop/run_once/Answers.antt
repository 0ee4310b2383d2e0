use Rattle.std.proofs.Common.{ap, ◌∙◌}
use Rattle.wf_voter.proofs.Continuation.{keeps_going, turned, turned_asked, turned_heard, turned_learning, turned_learnt, turned_membership, turned_suspended, turned_unanswered}
use Rattle.wf_loop.proofs.event_loop.EventLoop.run_once.Goals as goal
use Rattle.wf_voter.specs.declared.clients.Clients.{Clients}
use Rattle.wf_voter.specs.declared.voter.Voter.{Voter}
use Rattle.wf_membership.specs.declared.membership.Membership.{Membership}

pub returns-clause-on : goal.returns-clause-on
returns-clause-on g c = turned g.T.Tape _ _ c.args.self.now.voter _ _ _ c.judge.ensures.process c.act_unless-self.ensures.on c.keep.ensures.voter

pub returns-clause-earlier : goal.returns-clause-earlier
returns-clause-earlier g c = keeps_going g.T.Tape _ _ (returns-clause-on g c)

pub returns-clause-suspended : goal.returns-clause-suspended
returns-clause-suspended g c = turned_suspended g.T.Tape _ _ _ _ _ _ c.judge.ensures.process c.judge.ensures.suspended c.act_unless-self.ensures.on c.keep.ensures.voter

pub returns-clause-outvoted : goal.returns-clause-outvoted
returns-clause-outvoted g c = λ is. record {
  given = turned_asked g.T.Tape _ _ c.args.self.now.voter _ _ _ c.judge.ensures.process c.act_unless-self.ensures.on c.keep.ensures.voter is;
  answered =
      turned_unanswered g.T.Tape _ _ _ _ _ _ _ _ _ c.judge.ensures.befores c.act_unless-self.ensures.on c.act_unless-self.ensures.outvoted c.keep.ensures.voter
      (ap (λ (served : Clients _ _ _ _ g.T.Tape _). served.before.items) c.keep.ensures.clients) is;
}

pub returns-clause-heard : goal.returns-clause-heard
returns-clause-heard g c = turned_heard g.T.Tape _ _ _ _ _ _ _ c.judge.ensures.process c.judge.ensures.kept c.act_unless-self.ensures.on c.keep.ensures.voter c.keep.ensures.stands

pub returns-clause-membership : goal.returns-clause-membership
returns-clause-membership g c = turned_membership g.T.Tape _ _ c.args.self.now.voter _ _ _ c.judge.ensures.membership c.act_unless-self.ensures.on c.keep.ensures.voter

pub returns-clause-joins : goal.returns-clause-joins
returns-clause-joins g c = λ is. record {
  joins = ap (λ (m : Membership). m.joins) (returns-clause-membership g c) ∙ is;
  learnt = turned_learnt g.T.Tape _ _ c.args.self.now.voter _ _ _ c.judge.ensures.process c.judge.ensures.membership c.act_unless-self.ensures.on c.keep.ensures.voter is;
  answered =
      turned_learning g.T.Tape c.args.self.now.voter.membership _ _ _ _ _ c.judge.ensures.befores c.judge.ensures.membership c.act_unless-self.ensures.joins
      (ap (λ (served : Clients _ _ _ _ g.T.Tape _). served.before.items) c.keep.ensures.clients) is;
}

pub returns-clause-over : goal.returns-clause-over
returns-clause-over g c = λ is. ap (λ (v : Voter _ g.T.Tape). v.process) c.keep.ensures.voter ∙ (c.act_unless-self.ensures.over is ∙ c.judge.ensures.process)
