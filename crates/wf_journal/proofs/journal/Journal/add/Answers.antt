use Rattle.std.proofs.Common.{◌≡◌, ℕ, false, List, sym, ap, subst, ◌∙◌}
use Rattle.wf_journal.specs.Record.{view}
use Rattle.wf_journal.specs.Encoding.{Spells}
use Rattle.wf_journal.specs.EncodingTheorems.{written_encodes}
use Rattle.wf_journal.specs.Journal.{Follows, ReadsOneMore, ReadsSameOrOneMore}
use Rattle.wf_tape.specs.Tape.{IsExtended}
use Rattle.wf_journal.proofs.CrashImages.{same_kept, now_more, settled_more}
use Rattle.wf_journal.proofs.Moments.{inside_added}
use Rattle.wf_journal.proofs.journal.Journal.add.Goals as goal

pub invariant_of-self : goal.invariant_of-self
invariant_of-self g c = (
  λ durable running.
      let spells = written_encodes (view c.args.entry.now) c.deref.result.now (subst (λ (t : List ℕ). Spells (view c.args.entry.now) t) (sym c.deref.ensures.value) c.in-Ok.ensures) in
      settled_more (g.T.Tape.content c.self.inside.tape) c.deref.result.now (g.T.Tape.content c.write.new.tape) (view c.args.entry.now) (g.T.Tape.images c.self.inside.tape) (g.T.Tape.images c.write.new.tape)
      (c.self.invariant.0 durable running) spells (c.in-Ok-write.ensures.ok durable) (c.in-Ok-write.ensures.only durable (c.self.invariant.1 running)),
  λ running. c.in-Ok-write.ensures.doubt ∙ c.self.invariant.1 running,
)

pub returns-in-Ok-write-clause-one_more : goal.returns-in-Ok-write-clause-one_more
returns-in-Ok-write-clause-one_more g c = λ durable.
    let same : c.self.inside.tape ≡ c.args.self.now.tape = ap (λ j. j.tape) c.self.view_is in
    let running : c.self.inside.halted ≡ false = ap (λ j. j.halted) c.self.view_is ∙ c.requires in
    let spells = written_encodes (view c.args.entry.now) c.deref.result.now (subst (λ (t : List ℕ). Spells (view c.args.entry.now) t) (sym c.deref.ensures.value) c.in-Ok.ensures) in
    subst (λ tape. Follows (ReadsOneMore (view c.args.entry.now)) (g.T.Tape.images tape) (g.T.Tape.images c.write.new.tape)) same
    (now_more c.one_text_one_map.ensures (g.T.Tape.content c.self.inside.tape) c.deref.result.now (g.T.Tape.content c.write.new.tape) (view c.args.entry.now) (g.T.Tape.images c.self.inside.tape) (g.T.Tape.images c.write.new.tape)
    (c.self.invariant.0 durable running) spells (c.in-Ok-write.ensures.ok durable) (c.in-Ok-write.ensures.only durable (c.self.invariant.1 running)))

pub returns-in-Ok-write-clause-images : goal.returns-in-Ok-write-clause-images
returns-in-Ok-write-clause-images g c = λ durable.
    let same : c.self.inside.tape ≡ c.args.self.now.tape = ap (λ j. j.tape) c.self.view_is in
    let running : c.self.inside.halted ≡ false = ap (λ j. j.halted) c.self.view_is ∙ c.requires in
    let spells = written_encodes (view c.args.entry.now) c.deref.result.now (subst (λ (t : List ℕ). Spells (view c.args.entry.now) t) (sym c.deref.ensures.value) c.in-Ok.ensures) in
    subst (λ tape. Follows (ReadsSameOrOneMore (view c.args.entry.now)) (g.T.Tape.images tape) (g.T.Tape.images c.write.new.tape)) same
    (inside_added c.one_text_one_map.ensures (g.T.Tape.content c.self.inside.tape) c.deref.result.now (view c.args.entry.now) (g.T.Tape.images c.self.inside.tape) (g.T.Tape.images c.write.new.tape)
    (c.self.invariant.0 durable running) spells (c.in-Ok-write.ensures.images durable (λ e. absurd cc)))

pub returns-in-Err-Memory-clause-images : goal.returns-in-Err-Memory-clause-images
returns-in-Err-Memory-clause-images g c = λ durable.
    let same : c.self.inside.tape ≡ c.args.self.now.tape = ap (λ j. j.tape) c.self.view_is in
    subst (λ tape. Follows (ReadsSameOrOneMore (view c.args.entry.now)) (g.T.Tape.images tape) (g.T.Tape.images c.write.new.tape)) same
    (same_kept (view c.args.entry.now) (g.T.Tape.images c.self.inside.tape) (g.T.Tape.images c.write.new.tape) (c.in-Err-Memory.ensures.memory durable (cc (c.in-Err-Memory.field-0-is))).no_other)

pub returns-clause-images : goal.returns-clause-images
returns-clause-images g c = λ durable.
    let same : c.self.inside.tape ≡ c.args.self.now.tape = ap (λ j. j.tape) c.self.view_is in
    let running : c.self.inside.halted ≡ false = ap (λ j. j.halted) c.self.view_is ∙ c.requires in
    let spells = written_encodes (view c.args.entry.now) c.deref.result.now (subst (λ (t : List ℕ). Spells (view c.args.entry.now) t) (sym c.deref.ensures.value) c.in-Ok.ensures) in
    subst (λ tape. Follows (ReadsSameOrOneMore (view c.args.entry.now)) (g.T.Tape.images tape) (g.T.Tape.images c.write.new.tape)) same
    (inside_added c.one_text_one_map.ensures (g.T.Tape.content c.self.inside.tape) c.deref.result.now (view c.args.entry.now) (g.T.Tape.images c.self.inside.tape) (g.T.Tape.images c.write.new.tape)
    (c.self.invariant.0 durable running) spells (c.in-Err-Device.ensures.images durable (λ e. absurd (cc (c.in-Err-Device.field-0-is, e)))))

pub returns-clause-part : goal.returns-clause-part
returns-clause-part g c = λ durable failed.
    let same : c.self.inside.tape ≡ c.args.self.now.tape = ap (λ j. j.tape) c.self.view_is in
    let spells = subst (λ (t : List ℕ). Spells (view c.args.entry.now) t) (sym c.deref.ensures.value) c.in-Ok.ensures in
    subst (λ bytes. IsExtended (g.T.Tape.content c.args.self.now.tape) bytes (g.T.Tape.content c.write.new.tape)) spells.spelled
    (subst (λ tape. IsExtended (g.T.Tape.content tape) c.deref.result.now (g.T.Tape.content c.write.new.tape)) same (c.in-Err-Device.ensures.part durable))

pub returns-in-Ok-write-clause-inside : goal.returns-in-Ok-write-clause-inside
returns-in-Ok-write-clause-inside g c = λ durable.
    let same : c.self.inside.tape ≡ c.args.self.now.tape = ap (λ j. j.tape) c.self.view_is in
    let running : c.self.inside.halted ≡ false = ap (λ j. j.halted) c.self.view_is ∙ c.requires in
    let spells = written_encodes (view c.args.entry.now) c.deref.result.now (subst (λ (t : List ℕ). Spells (view c.args.entry.now) t) (sym c.deref.ensures.value) c.in-Ok.ensures) in
    subst (λ tape. Follows (ReadsSameOrOneMore (view c.args.entry.now)) (g.T.Tape.images tape) (g.T.Tape.left_since c.write.new.tape (g.T.Tape.moment tape))) same
    (inside_added c.one_text_one_map.ensures (g.T.Tape.content c.self.inside.tape) c.deref.result.now (view c.args.entry.now) (g.T.Tape.images c.self.inside.tape)
    (g.T.Tape.left_since c.write.new.tape (g.T.Tape.moment c.self.inside.tape)) (c.self.invariant.0 durable running) spells (c.write.ensures.inside durable))

pub returns-in-Err-Memory-clause-inside : goal.returns-in-Err-Memory-clause-inside
returns-in-Err-Memory-clause-inside g c = λ durable.
    let same : c.self.inside.tape ≡ c.args.self.now.tape = ap (λ j. j.tape) c.self.view_is in
    let running : c.self.inside.halted ≡ false = ap (λ j. j.halted) c.self.view_is ∙ c.requires in
    let spells = written_encodes (view c.args.entry.now) c.deref.result.now (subst (λ (t : List ℕ). Spells (view c.args.entry.now) t) (sym c.deref.ensures.value) c.in-Ok.ensures) in
    subst (λ tape. Follows (ReadsSameOrOneMore (view c.args.entry.now)) (g.T.Tape.images tape) (g.T.Tape.left_since c.write.new.tape (g.T.Tape.moment tape))) same
    (inside_added c.one_text_one_map.ensures (g.T.Tape.content c.self.inside.tape) c.deref.result.now (view c.args.entry.now) (g.T.Tape.images c.self.inside.tape)
    (g.T.Tape.left_since c.write.new.tape (g.T.Tape.moment c.self.inside.tape)) (c.self.invariant.0 durable running) spells (c.write.ensures.inside durable))

pub returns-clause-inside : goal.returns-clause-inside
returns-clause-inside g c = λ durable.
    let same : c.self.inside.tape ≡ c.args.self.now.tape = ap (λ j. j.tape) c.self.view_is in
    let running : c.self.inside.halted ≡ false = ap (λ j. j.halted) c.self.view_is ∙ c.requires in
    let spells = written_encodes (view c.args.entry.now) c.deref.result.now (subst (λ (t : List ℕ). Spells (view c.args.entry.now) t) (sym c.deref.ensures.value) c.in-Ok.ensures) in
    subst (λ tape. Follows (ReadsSameOrOneMore (view c.args.entry.now)) (g.T.Tape.images tape) (g.T.Tape.left_since c.write.new.tape (g.T.Tape.moment tape))) same
    (inside_added c.one_text_one_map.ensures (g.T.Tape.content c.self.inside.tape) c.deref.result.now (view c.args.entry.now) (g.T.Tape.images c.self.inside.tape)
    (g.T.Tape.left_since c.write.new.tape (g.T.Tape.moment c.self.inside.tape)) (c.self.invariant.0 durable running) spells (c.write.ensures.inside durable))
