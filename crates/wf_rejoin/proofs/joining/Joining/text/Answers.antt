-- The lines are appended, one after the other.
use Rattle.std.proofs.Common.{◌≡◌, codes, rules}
use Rattle.wf_rejoin.proofs.Stages.{whole_text}
use Rattle.wf_rejoin.proofs.joining.Joining.text.Goals as goal

pub returns-clause-text : goal.returns-clause-text
returns-clause-text c =
    let first : c.extend_from_slice.new.self.items ≡ codes "wfarm joins 1\n" = search rules in
    let node : c.from.result ≡ c.args.self.now.node = search rules in
    let nodes : c.from-2.result ≡ c.args.self.now.nodes = search rules in
    whole_text c.extend_from_slice.new.self.items c.push_own.new.text.items c.push_stages.new.text.items (codes "wfarm joins 1\n") c.from.result c.from-2.result c.args.self.now.node c.args.self.now.nodes
    c.args.self.now.replacement c.args.self.now.stages first c.in_ok-push_own.ensures.items node nodes c.in_ok-push_stages.ensures.items
