-- Both nodes run, and the one that is asked has published more.
use Rattle.std.proofs.Common.{◌≡◌, ◌+◌, ◌∙◌, map, length, sym, arith, Vec}
use Rattle.wf_catch_up.proofs.Common.{Global, slice_get_within, Message, most_reports, reports_from, Running, AreAnswersTo, nodes_of}
use Rattle.wf_codec.specs.Message.{view}
use Rattle.wf_farm.proofs.Events.{ok_map}
use Rattle.wf_catch_up.proofs.Changes.{answer_to, fewer_published, other_rank}
use Rattle.wf_farm.proofs.Exchanges.{index_running, not_stopped}
use Rattle.wf_catch_up.proofs.Level.{running_there}
use Rattle.wf_catch_up.proofs.questions.answer_at.Goals as goal

pub offset_bounds-hosts-requester : goal.offset_bounds-hosts-requester
offset_bounds-hosts-requester g c =
    let found = running_there c.args.hosts.now c.args.requester c.requires.behind.0 in
    omega (arith, slice_get_within c.args.hosts.now c.args.requester (Running found.0) found.1)

pub bounds-hosts-requester : goal.bounds-hosts-requester
bounds-hosts-requester g c =
    let found = running_there c.args.hosts.now c.args.requester c.requires.behind.0 in
    slice_get_within c.args.hosts.now c.args.requester (Running found.0) found.1

pub unreachable-requires : goal.unreachable-requires
unreachable-requires g c =
    let found = running_there c.args.hosts.now c.args.requester c.requires.behind.0 in
    not_stopped c.args.hosts.now c.args.requester c.index-hosts-requester.result found.0 c.in_default.field-0 found.1 (sym c.index-hosts-requester.is ∙ c.in_default.is)

pub offset_bounds-hosts-asked : goal.offset_bounds-hosts-asked
offset_bounds-hosts-asked g c =
    let found = running_there c.args.hosts.now c.args.asked (omega (arith, c.requires.behind.0, c.requires.behind.1)) in
    omega (arith, slice_get_within c.args.hosts.now c.args.asked (Running found.0) found.1)

pub bounds-hosts-asked : goal.bounds-hosts-asked
bounds-hosts-asked g c =
    let found = running_there c.args.hosts.now c.args.asked (omega (arith, c.requires.behind.0, c.requires.behind.1)) in
    slice_get_within c.args.hosts.now c.args.asked (Running found.0) found.1

pub unreachable-requires-in_default-hosts : goal.unreachable-requires-in_default-hosts
unreachable-requires-in_default-hosts g c =
    let found = running_there c.args.hosts.now c.args.asked (omega (arith, c.requires.behind.0, c.requires.behind.1)) in
    not_stopped c.args.hosts.now c.args.asked c.index-hosts-asked.result found.0 c.in_default-hosts.field-0 found.1 (sym c.index-hosts-asked.is ∙ c.in_default-hosts.is)

pub answer-requires : goal.answer-requires
answer-requires g c =
    let requester = running_there c.args.hosts.now c.args.requester c.requires.behind.0 in
    let asked = running_there c.args.hosts.now c.args.asked (omega (arith, c.requires.behind.0, c.requires.behind.1)) in
    let at = index_running c.args.hosts.now c.args.requester c.index-hosts-requester.result requester.0 c.in-Running.node requester.1 (sym c.index-hosts-requester.is ∙ c.in-Running.is) in
    let there = index_running c.args.hosts.now c.args.asked c.index-hosts-asked.result asked.0 c.in-Running-hosts.other asked.1 (sym c.index-hosts-asked.is ∙ c.in-Running-hosts.is) in
    record { behind = fewer_published c.args.hosts.now c.args.asked c.args.requester c.requires.behind c.in-Running.node c.in-Running-hosts.other at there }

pub returns-clause-answer : goal.returns-clause-answer
returns-clause-answer g c =
    let requester = running_there c.args.hosts.now c.args.requester c.requires.behind.0 in
    let asked = running_there c.args.hosts.now c.args.asked (omega (arith, c.requires.behind.0, c.requires.behind.1)) in
    let at = index_running c.args.hosts.now c.args.requester c.index-hosts-requester.result requester.0 c.in-Running.node requester.1 (sym c.index-hosts-requester.is ∙ c.in-Running.is) in
    let there = index_running c.args.hosts.now c.args.asked c.index-hosts-asked.result asked.0 c.in-Running-hosts.other asked.1 (sym c.index-hosts-asked.is ∙ c.in-Running-hosts.is) in
    ok_map (λ (answer : Vec Message Global). map view answer.items ≡ reports_from c.in-Running-hosts.other.parts.history (length c.in-Running.node.parts.history + 1) most_reports)
    (λ (answer : Vec Message Global). AreAnswersTo (nodes_of c.args.hosts.now) c.args.asked c.args.requester answer.items) c.answer.result
    (λ answer is. answer_to c.args.hosts.now c.args.asked c.args.requester c.requires.behind c.in-Running.node c.in-Running-hosts.other at there answer.items is) c.answer.ensures.answer

pub returns-clause-most : goal.returns-clause-most
returns-clause-most g c =
    let requester = running_there c.args.hosts.now c.args.requester c.requires.behind.0 in
    let asked = running_there c.args.hosts.now c.args.asked (omega (arith, c.requires.behind.0, c.requires.behind.1)) in
    let at = index_running c.args.hosts.now c.args.requester c.index-hosts-requester.result requester.0 c.in-Running.node requester.1 (sym c.index-hosts-requester.is ∙ c.in-Running.is) in
    let there = index_running c.args.hosts.now c.args.asked c.index-hosts-asked.result asked.0 c.in-Running-hosts.other asked.1 (sym c.index-hosts-asked.is ∙ c.in-Running-hosts.is) in
    omega (arith, other_rank c.args.hosts.now c.args.asked c.args.requester c.requires.behind c.in-Running.node c.in-Running-hosts.other at there, c.answer.ensures.most)
