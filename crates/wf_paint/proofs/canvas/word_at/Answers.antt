use Rattle.std.proofs.lemmas.List.{get_or_read}
use Rattle.wf_paint.proofs.canvas.word_at.Goals as goal

pub returns-clause-value : goal.returns-clause-value
returns-clause-value c = get_or_read c.args.free.now.items _ _ c.requires c.index.ensures 0
