-- One more question; in the end the node is level, or a delivery was lost.
use Rattle.std.proofs.Common.{false, subst}
use Rattle.wf_catch_up.proofs.Common.{Asks, BringsOn, HaveAsked, Rests, nodes_of}
use Rattle.wf_catch_up.proofs.Changes.{changes_twice, ends_level, lacks_fewer, no_change}
use Rattle.wf_farm.proofs.Nodes.{entries_themselves, entries_twice}
use Rattle.wf_catch_up.proofs.questions.ask_while_behind.Goals as goal

pub loop-alloc-init : goal.loop-alloc-init
loop-alloc-init g c = record {
  asked = Rests;
  one = no_change c.args.asked c.args.requester (nodes_of c.args.hosts.now) c.requires.within;
  entries = entries_themselves g.T.Tape c.args.hosts.now;
}

pub loop-alloc-preserved : goal.loop-alloc-preserved
loop-alloc-preserved g c =
    let so_far = c.loop-alloc.invariant in
    let before = nodes_of c.args.hosts.now in
    let nodes = nodes_of c.loop-alloc.hosts in
    let after = nodes_of c.ask.new.hosts in
    record {
      asked = subst (λ b. HaveAsked g.T.Tape c.args.asked before b after) c.if-ask.false (Asks c.args.requester false c.ask.result nodes after so_far.asked c.ask.ensures.question);
      one = changes_twice c.args.asked c.args.requester before nodes after so_far.one c.ask.ensures.one;
      entries = entries_twice g.T.Tape c.args.hosts.now c.loop-alloc.hosts c.ask.new.hosts so_far.entries c.ask.ensures.entries;
    }

pub loop-alloc-smaller : goal.loop-alloc-smaller
loop-alloc-smaller g c =
    let nodes = nodes_of c.loop-alloc.hosts in
    let after = nodes_of c.ask.new.hosts in
    lacks_fewer c.args.asked c.args.requester nodes after c.ask.ensures.one (c.is_behind.ensures.behind c.loop-alloc-test.true) (subst (λ b. BringsOn c.args.asked c.args.requester nodes b after) c.if-ask.false c.ask.ensures.on)

pub returns-then-ask-clause-have_asked : goal.returns-then-ask-clause-have_asked
returns-then-ask-clause-have_asked g c =
    let before = nodes_of c.args.hosts.now in
    let after = nodes_of c.ask.new.hosts in
    subst (λ b. HaveAsked g.T.Tape c.args.asked before b after) c.if-ask.true (Asks c.args.requester false c.ask.result (nodes_of c.loop-alloc.hosts) after c.loop-alloc.invariant.asked c.ask.ensures.question)

pub returns-then-ask-clause-one : goal.returns-then-ask-clause-one
returns-then-ask-clause-one g c = changes_twice c.args.asked c.args.requester (nodes_of c.args.hosts.now) (nodes_of c.loop-alloc.hosts) (nodes_of c.ask.new.hosts) c.loop-alloc.invariant.one c.ask.ensures.one

pub returns-then-ask-clause-ends : goal.returns-then-ask-clause-ends
returns-then-ask-clause-ends g c = subst (λ b. BringsOn c.args.asked c.args.requester (nodes_of c.loop-alloc.hosts) b (nodes_of c.ask.new.hosts)) c.if-ask.true c.ask.ensures.on

pub returns-then-ask-clause-entries : goal.returns-then-ask-clause-entries
returns-then-ask-clause-entries g c = entries_twice g.T.Tape c.args.hosts.now c.loop-alloc.hosts c.ask.new.hosts c.loop-alloc.invariant.entries c.ask.ensures.entries

pub returns-clause-ends : goal.returns-clause-ends
returns-clause-ends g c =
    ends_level c.args.asked c.args.requester (nodes_of c.args.hosts.now) (nodes_of c.loop-alloc.hosts) c.loop-alloc.invariant.one (c.is_behind.ensures.level c.loop-alloc-test.false)
