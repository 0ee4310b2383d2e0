-- The parts of a line are appended, one after the other.
use Rattle.std.proofs.Common.{◌≡◌, ◌++◌, codes, rules}
use Rattle.wf_rejoin.proofs.Entries.{entry_parts}
use Rattle.wf_rejoin.proofs.replacements_text.push_replacement.Goals as goal

pub returns-clause-items : goal.returns-clause-items
returns-clause-items c =
    let end : c.extend_from_slice.new.self.items ≡ c.push_mark_after.new.text.items ++ codes "\n" = search rules in
    entry_parts c.args.text.now.items c.push_word.new.text.items c.push_mark_after.new.text.items c.extend_from_slice.new.self.items c.args.replacement.now
    c.in_ok-push_word.ensures.items c.in_ok-push_mark_after.ensures.items end
