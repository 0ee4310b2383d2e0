-- The tape holds the records, or what it held.
use Rattle.wf_node.proofs.compaction.replace.Goals as goal

pub returns-in-Ok-clause-replacement : goal.returns-in-Ok-clause-replacement
returns-in-Ok-clause-replacement g c = record { running = c.in-Ok.ensures.running; held = c.in-Ok.ensures.ok; follows = c.in-Ok.ensures.images; still = c.in-Ok.ensures.sturdy }

pub returns-in-Err-TapeFailed-clause-replacement : goal.returns-in-Err-TapeFailed-clause-replacement
returns-in-Err-TapeFailed-clause-replacement g c = record {
  halted = c.in-Err-TapeFailed.ensures.halted (cc (c.in-Err-TapeFailed.field-0-is));
  risen = c.in-Err-TapeFailed.ensures.failed (cc (c.in-Err-TapeFailed.field-0-is));
  follows = c.in-Err-TapeFailed.ensures.images;
  weak = λ sound. c.in-Err-TapeFailed.ensures.sound sound (cc (c.in-Err-TapeFailed.field-0-is));
}
