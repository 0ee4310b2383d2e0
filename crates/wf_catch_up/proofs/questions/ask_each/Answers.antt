-- One node after the other asks.
use Rattle.std.proofs.Common.{◌+◌, refl, subst, sym, arith}
use Rattle.wf_catch_up.proofs.Common.{FirstEndUp, HaveAsked, Rests, nodes_of}
use Rattle.wf_catch_up.proofs.Asked.{asked_twice}
use Rattle.wf_catch_up.proofs.Changes.{first_end, has_most_at, most_on}
use Rattle.wf_farm.proofs.Nodes.{entries_themselves, entries_twice}
use Rattle.wf_catch_up.proofs.questions.ask_each.Goals as goal

pub loop-requester-init : goal.loop-requester-init
loop-requester-init g c = record {
  asked = Rests;
  most = c.requires.most;
  ends = λ k less. absurd (omega (arith, less));
  entries = entries_themselves g.T.Tape c.args.hosts.now;
}

pub ask_while_behind-requires : goal.ask_while_behind-requires
ask_while_behind-requires g c = record { within = has_most_at (nodes_of c.loop-requester.hosts) c.args.asked c.loop-requester.invariant.most c.loop-requester.requester }

pub loop-requester-preserved : goal.loop-requester-preserved
loop-requester-preserved g c =
    let so_far = c.loop-requester.invariant in
    let one = c.ask_while_behind in
    let nodes = nodes_of c.loop-requester.hosts in
    let after = nodes_of one.new.hosts in
    record {
      asked = subst (λ b. HaveAsked g.T.Tape c.args.asked (nodes_of c.args.hosts.now) b after) (sym c.either-lost.ensures)
          (asked_twice g.T.Tape c.args.asked (nodes_of c.args.hosts.now) c.loop-requester.lost nodes one.result after so_far.asked one.ensures.have_asked);
      most = most_on c.args.asked c.loop-requester.requester nodes after one.ensures.one so_far.most;
      ends = subst (λ b. FirstEndUp c.args.asked (c.loop-requester.requester + 1) b after) (sym c.either-lost.ensures)
          (first_end c.args.asked c.loop-requester.requester nodes after one.ensures.one c.loop-requester.lost one.result (c.loop-requester.requester + 1) refl so_far.ends one.ensures.ends);
      entries = entries_twice g.T.Tape c.args.hosts.now c.loop-requester.hosts one.new.hosts so_far.entries one.ensures.entries;
    }

pub returns-clause-ends : goal.returns-clause-ends
returns-clause-ends g c =
    subst (λ k. FirstEndUp c.args.asked k c.loop-requester.lost (nodes_of c.loop-requester.hosts)) (omega (arith, c.loop-requester-test.false)) c.loop-requester.invariant.ends
