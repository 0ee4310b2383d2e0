-- The better of the two first votes, and then those of the others.
use Rattle.std.proofs.Common.{sym}
use Rattle.wf_codec.proofs.Better.{both_better}
use Rattle.wf_codec.proofs.best.+put_better.Goals as goal

pub returns-in-Some-pop_at : goal.returns-in-Some-pop_at
returns-in-Some-pop_at t c =
    both_better c.args.best.now.items c.args.votes.now.items c.args.out.now.items c.push-in-Some-pop_at.new.self.items c.put_better.new.out.items c.in-Some.first c.in-Some-pop_at.vote c.better_vote.result
    (sym c.in-Some.ensures.value) (sym c.in-Some-pop_at.ensures.value) c.better_vote.ensures c.push-in-Some-pop_at.ensures.items
    (rw (c.in-Some.ensures.items, c.in-Some-pop_at.ensures.items) at c.put_better.ensures)
