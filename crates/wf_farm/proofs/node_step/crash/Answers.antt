-- What the crash kept shows in the length of the tape.
use Rattle.std.proofs.Common.{ap, length, sym, subst, ◌∙◌}
use Rattle.wf_farm.proofs.Common.{stored_of, TapeValue, IsCutTape, kept_beyond, stored_by}
use Rattle.wf_model.specs.Kept.{view as view_kept}
use Rattle.wf_farm.proofs.CutTapes.{cut_opened}
use Rattle.wf_farm.proofs.node_step.crash.Goals as goal

pub returns-in-Ok-clause-torn : goal.returns-in-Ok-clause-torn
returns-in-Ok-clause-torn c = λ entry before after cut. (
  cut_opened c.args.long c.args.keep entry before after (stored_of c.in-Ok.again) c.close-tape.result c.crash.new.self c.in-Ok.again.tape c.crash.ensures.bytes c.crash.ensures.synced
      (c.in-Ok.ensures.stored tt) (c.in-Ok.ensures.images tt) (c.tape.ensures.settled tt c.in-Ok.ensures.running)
      (subst (IsCutTape c.args.long entry before after) (sym c.close-tape.ensures.tape) cut)
      ∙ ap (λ kept. stored_by (view_kept kept) before after) (ap (kept_beyond c.args.long) (sym (ap length (c.bytes-now.ensures ∙ ap (λ (t : TapeValue). t.bytes) c.tape.ensures.value))) ∙ sym c.kept_beyond.ensures),
  c.in-Ok.ensures.volatile,
)
