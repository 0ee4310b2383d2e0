-- The first node has what its bytes say, and the others what follows says.
use Rattle.std.proofs.Common.{◌≡◌, ◌<◌, suc, length, rules}
use Rattle.wf_peer.proofs.ToldReplacements.{read_end, read_first, read_none}
use Rattle.wf_peer.proofs.replaced_decoder.+read_entries.Goals as goal

pub returns-in_default : goal.returns-in_default
returns-in_default t c =
    let none : length c.args.nodes.now ≡ 0 = search rules in
    read_end c.args.bytes.now c.args.nodes.now c.is_empty.result none c.is_empty.ensures

pub returns-in_default-split_entry : goal.returns-in_default-split_entry
returns-in_default-split_entry t c =
    let some : 0 < length c.args.nodes.now = search rules in
    read_none c.args.bytes.now (length c.args.nodes.now) c.args.nodes.now some c.requires c.in_default-split_entry.ensures.none

pub returns : goal.returns
returns t c =
    let counted : length c.args.nodes.now ≡ suc (length c.in-Some.others.now) = search rules in
    read_first c.args.bytes.now c.in-Some-split_entry.rest.now c.in-Some-split_entry.told (length c.in-Some.others.now) (length c.args.nodes.now) c.read_entries.new.nodes c.read_entries.result counted c.requires
    c.in-Some-split_entry.ensures.told c.in-Some-split_entry.ensures.other c.in-Some-split_entry.ensures.some c.read_entries.ensures
