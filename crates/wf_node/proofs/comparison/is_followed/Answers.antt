-- The definitions are the same, and one more follows.
use Rattle.std.proofs.Common.{◌≡◌, ◌+◌, length, arith}
use Rattle.wf_node.proofs.Histories.{followed_where_alike}
use Rattle.wf_node.proofs.comparison.is_followed.Goals as goal

pub returns : goal.returns
returns c = λ alike.
    let next : c.args.slot ≡ length c.args.other.now.definitions + 1 =
    omega (arith, c.number.ensures.value, c.if-number-next.false, c.number-next.ensures.value, c.published.ensures.value) in
    let last : length c.args.history.now.definitions ≡ c.args.slot =
    omega (arith, next, c.if-last-next.false, c.number-next.ensures.value, c.published.ensures.value, c.number-last.ensures.value, c.published-2.ensures.value) in
    followed_where_alike c.args.history.now.definitions c.args.other.now.definitions (c.begins_with.ensures alike) c.args.slot c.args.canon.now next last (c.is_at.ensures c.if-not-is_at.false)
