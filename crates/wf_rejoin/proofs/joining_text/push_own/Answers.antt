-- The parts of the line are appended, one after the other.
use Rattle.std.proofs.Common.{◌≡◌, ◌++◌, codes, rules}
use Rattle.wf_rejoin.proofs.Stages.{own_parts}
use Rattle.wf_rejoin.proofs.joining_text.push_own.Goals as goal

pub returns-clause-items : goal.returns-clause-items
returns-clause-items c =
    let end : c.extend_from_slice.new.self.items ≡ c.push_mark_after.new.text.items ++ codes "\n" = search rules in
    own_parts c.args.text.now.items c.push_word.new.text.items c.push_word-2.new.text.items c.push_word-3.new.text.items c.push_mark_after.new.text.items c.extend_from_slice.new.self.items
    c.args.node c.args.nodes c.args.replacement.now
    c.in_ok-push_word.ensures.items c.in_ok-push_word-2.ensures.items c.in_ok-push_word-3.ensures.items c.in_ok-push_mark_after.ensures.items end
