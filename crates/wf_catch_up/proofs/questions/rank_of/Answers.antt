-- A halted node has come nowhere.
use Rattle.std.proofs.Common.{◌∙◌, sym}
use Rattle.wf_catch_up.proofs.Level.{rank_halted}
use Rattle.wf_catch_up.proofs.questions.rank_of.Goals as goal

pub returns-then-is_halted : goal.returns-then-is_halted
returns-then-is_halted g c = sym (rank_halted c.args.node.now (sym c.is_halted.ensures ∙ c.if-is_halted.true))
