-- The answer is lost, or the requester hears it.
use Rattle.std.proofs.Common.{subst}
use Rattle.wf_catch_up.proofs.Common.{slice_get_within, Running, ReceivesAt, nodes_of}
use Rattle.wf_catch_up.proofs.Changes.{IsAsked, asked_answered, asked_unanswered}
use Rattle.wf_catch_up.proofs.Level.{running_there}
use Rattle.wf_farm.proofs.Nodes.{entries_themselves}
use Rattle.wf_catch_up.proofs.questions.ask.Given as given
use Rattle.wf_catch_up.proofs.questions.ask.Goals as goal

pub consume_at-lost-requires-clause-within : goal.consume_at-lost-requires-clause-within
consume_at-lost-requires-clause-within g c =
    let found = running_there c.args.hosts.now c.args.requester c.requires.behind.0 in
    slice_get_within c.args.hosts.now c.args.requester (Running found.0) found.1

pub consume_at-lost-requires-clause-runs : goal.consume_at-lost-requires-clause-runs
consume_at-lost-requires-clause-runs g c = running_there c.args.hosts.now c.args.requester c.requires.behind.0

receives : (g : given.Over) (c : goal.After-drop g) → ReceivesAt g.T.Tape c.args.requester c.in-Ok.answer.items c.consume_at-lost.result c.args.hosts.now c.consume_at-lost.new.hosts
receives g c = subst (λ ms. ReceivesAt g.T.Tape c.args.requester ms c.consume_at-lost.result c.args.hosts.now c.consume_at-lost.new.hosts) c.deref.ensures.value c.consume_at-lost.ensures.receives

answered : (g : given.Over) (c : goal.After-drop g) → IsAsked g.T.Tape c.args.hosts.now c.args.asked c.args.requester c.requires.behind c.answer_at.ensures.most c.consume_at-lost.result (nodes_of c.consume_at-lost.new.hosts)
answered g c =
    asked_answered g.T.Tape c.args.hosts.now c.args.asked c.args.requester c.requires.behind c.answer_at.ensures.most c.in-Ok.answer.items c.consume_at-lost.result c.consume_at-lost.new.hosts
    c.in-Ok.ensures.answer (receives g c)

pub returns-in-Ok-clause-question : goal.returns-in-Ok-clause-question
returns-in-Ok-clause-question g c = (answered g c).question

pub returns-in-Ok-clause-one : goal.returns-in-Ok-clause-one
returns-in-Ok-clause-one g c = (answered g c).one

pub returns-in-Ok-clause-on : goal.returns-in-Ok-clause-on
returns-in-Ok-clause-on g c = (answered g c).on

pub returns-in-Err-clause-question : goal.returns-in-Err-clause-question
returns-in-Err-clause-question g c = (asked_unanswered g.T.Tape c.args.hosts.now c.args.asked c.args.requester c.requires.behind c.answer_at.ensures.most).question

pub returns-in-Err-clause-one : goal.returns-in-Err-clause-one
returns-in-Err-clause-one g c = (asked_unanswered g.T.Tape c.args.hosts.now c.args.asked c.args.requester c.requires.behind c.answer_at.ensures.most).one

pub returns-in-Err-clause-entries : goal.returns-in-Err-clause-entries
returns-in-Err-clause-entries g c = entries_themselves g.T.Tape c.args.hosts.now
