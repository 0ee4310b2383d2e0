use Rattle.std.proofs.Common.{length}
use Rattle.wf_reader.proofs.reply_encoder.+texts_length.Given as goal

abbrev pub decreases-texts_length : goal.decreases-texts_length
decreases-texts_length l = length l.definitions.now
