use Rattle.wf_reader.proofs.reply_decoder.+push_texts.Given as goal

abbrev pub decreases-push_texts : goal.decreases-push_texts
decreases-push_texts l = l.most
