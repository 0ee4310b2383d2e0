-- The messages get fewer.
use Rattle.std.proofs.Common.{length}
use Rattle.wf_catch_up.proofs.questions.+consume.Given as goal

abbrev pub decreases-consume : goal.decreases-consume
decreases-consume g l = length l.messages.now
