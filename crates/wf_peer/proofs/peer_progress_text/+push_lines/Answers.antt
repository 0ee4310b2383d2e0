-- The first node's line and those of the others are the lines of all.
use Rattle.std.proofs.Common.{arith}
use Rattle.std.proofs.lemmas.Result.{on_ok_weaker}
use Rattle.wf_peer.proofs.Lines.{no_line_more, none_are, one_line_more, one_more}
use Rattle.wf_peer.proofs.peer_progress_text.+push_lines.Goals as goal

pub returns-in-empty-clause-items : goal.returns-in-empty-clause-items
returns-in-empty-clause-items t c = no_line_more c.args.text.now.items c.args.nodes.now c.in-empty.len_below

pub returns-in-empty-clause-known : goal.returns-in-empty-clause-known
returns-in-empty-clause-known t c = none_are c.args.nodes.now c.in-empty.len_below

pub returns-in_ok-push_line-in-len1-up-clause-items : goal.returns-in_ok-push_line-in-len1-up-clause-items
returns-in_ok-push_line-in-len1-up-clause-items t c =
    on_ok_weaker c.push_lines.result (one_line_more c.args.text.now.items c.push_line.new.text.items c.push_lines.new.text.items c.args.nodes.now c.node-item.result (omega (arith, c.in-len1-up.len_at_least)) c.node-item.is
    c.in_ok-push_line-in-len1-up.ensures.items) c.push_lines.ensures.items

pub returns-in_ok-push_line-in-len1-up-clause-known : goal.returns-in_ok-push_line-in-len1-up-clause-known
returns-in_ok-push_line-in-len1-up-clause-known t c =
    on_ok_weaker c.push_lines.result (one_more c.args.nodes.now c.node-item.result (omega (arith, c.in-len1-up.len_at_least)) c.node-item.is c.in_ok-push_line-in-len1-up.ensures.known) c.push_lines.ensures.known
