use Rattle.wf_paint.proofs.CellsLemmas.{mask_of}
use Rattle.wf_paint.proofs.canvas.ones.Goals as goal

pub returns-clause-below : goal.returns-clause-below
returns-clause-below c = let mask = mask_of c.args.from c.args.to c.requires.from c.requires.most in mask.below

pub returns-clause-within : goal.returns-clause-within
returns-clause-within c = let mask = mask_of c.args.from c.args.to c.requires.from c.requires.most in mask.within

pub returns-clause-above : goal.returns-clause-above
returns-clause-above c = let mask = mask_of c.args.from c.args.to c.requires.from c.requires.most in mask.above
