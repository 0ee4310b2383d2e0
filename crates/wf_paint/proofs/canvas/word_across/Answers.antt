use Rattle.wf_paint.proofs.WindowLemmas.{joined_first, joined_last}
use Rattle.wf_paint.proofs.canvas.word_across.Goals as goal

pub returns-clause-first : goal.returns-clause-first
returns-clause-first c = joined_first c.args.first c.args.last c.args.bit c.requires

pub returns-clause-last : goal.returns-clause-last
returns-clause-last c = joined_last c.args.first c.args.last c.args.bit c.requires
