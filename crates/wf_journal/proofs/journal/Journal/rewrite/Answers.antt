-- The tape holds the records that were written, or what it held.
use Rattle.std.proofs.Common.{◌≡◌, ℕ, false, List, map, sym, ap, subst, ◌∙◌}
use Rattle.wf_journal.specs.Record.{view}
use Rattle.wf_journal.specs.Records.{AreRecords, AreWritten}
use Rattle.wf_journal.specs.Journal.{Follows, IsSameOrRecords, IsSameOrReads}
use Rattle.wf_journal.proofs.CrashImages.{holds_written, settled_written, follows_replaced, failed_images, follows_failed, failed_content, unchanged_images, follows_unchanged}
use Rattle.wf_journal.proofs.journal.Journal.rewrite.Goals as goal

pub invariant_of-self : goal.invariant_of-self
invariant_of-self g c = (
  λ durable running.
      let are = subst (λ (t : List ℕ). AreRecords t (map view c.args.records.now)) (sym c.deref.ensures.value) c.in-Ok.ensures.are_records in
      settled_written (g.T.Tape.content c.replace.new.self) c.deref.result.now (map view c.args.records.now) (g.T.Tape.images c.replace.new.self) are
      (c.in-Ok-replace.ensures.ok durable) (c.in-Ok-replace.ensures.synced durable),
  λ running. c.in-Ok-replace.ensures.sure,
)

pub returns-in-Ok-replace-clause-ok : goal.returns-in-Ok-replace-clause-ok
returns-in-Ok-replace-clause-ok g c = λ durable.
    let are = subst (λ (t : List ℕ). AreWritten t (map view c.args.records.now)) (sym c.deref.ensures.value) c.in-Ok.ensures in
    holds_written (g.T.Tape.content c.replace.new.self) c.deref.result.now (map view c.args.records.now) (g.T.Tape.images c.replace.new.self) are
    (c.in-Ok-replace.ensures.ok durable) (c.in-Ok-replace.ensures.synced durable)

pub returns-in-Ok-replace-clause-images : goal.returns-in-Ok-replace-clause-images
returns-in-Ok-replace-clause-images g c = λ durable.
    let same : c.self.inside.tape ≡ c.args.self.now.tape = ap (λ j. j.tape) c.self.view_is in
    let running : c.self.inside.halted ≡ false = ap (λ j. j.halted) c.self.view_is ∙ c.requires in
    let are = subst (λ (t : List ℕ). AreRecords t (map view c.args.records.now)) (sym c.deref.ensures.value) c.in-Ok.ensures.are_records in
    subst (λ tape. Follows (IsSameOrReads (map view c.args.records.now)) (g.T.Tape.images tape) (g.T.Tape.images c.replace.new.self)) same
    (follows_replaced (g.T.Tape.content c.self.inside.tape) c.deref.result.now (map view c.args.records.now) (g.T.Tape.images c.self.inside.tape) (g.T.Tape.images c.replace.new.self)
    (c.self.invariant.0 durable running) are (c.in-Ok-replace.ensures.synced durable))

pub returns-in-Err-Memory-clause-images_err : goal.returns-in-Err-Memory-clause-images_err
returns-in-Err-Memory-clause-images_err g c = λ durable.
    let same : c.self.inside.tape ≡ c.args.self.now.tape = ap (λ j. j.tape) c.self.view_is in
    subst (λ tape. Follows (IsSameOrRecords (map view c.args.records.now)) (g.T.Tape.images tape) (g.T.Tape.images c.replace.new.self)) same
    (unchanged_images (map view c.args.records.now) (g.T.Tape.images c.self.inside.tape) (g.T.Tape.images c.replace.new.self) (c.in-Err-Memory.ensures.memory durable (cc (c.in-Err-Memory.field-0-is))).no_other)

pub returns-in-Err-Memory-clause-images : goal.returns-in-Err-Memory-clause-images
returns-in-Err-Memory-clause-images g c = λ durable.
    let same : c.self.inside.tape ≡ c.args.self.now.tape = ap (λ j. j.tape) c.self.view_is in
    subst (λ tape. Follows (IsSameOrReads (map view c.args.records.now)) (g.T.Tape.images tape) (g.T.Tape.images c.replace.new.self)) same
    (follows_unchanged (map view c.args.records.now) (g.T.Tape.images c.self.inside.tape) (g.T.Tape.images c.replace.new.self) (c.in-Err-Memory.ensures.memory durable (cc (c.in-Err-Memory.field-0-is))).no_other)

pub returns-clause-content_err : goal.returns-clause-content_err
returns-clause-content_err g c = λ durable.
    let same : c.self.inside.tape ≡ c.args.self.now.tape = ap (λ j. j.tape) c.self.view_is in
    let are = subst (λ (t : List ℕ). AreRecords t (map view c.args.records.now)) (sym c.deref.ensures.value) c.in-Ok.ensures.are_records in
    subst (λ tape. IsSameOrRecords (map view c.args.records.now) (g.T.Tape.content tape) (g.T.Tape.content c.replace.new.self)) same
    (failed_content (g.T.Tape.content c.self.inside.tape) (g.T.Tape.content c.replace.new.self) c.deref.result.now (map view c.args.records.now) are (c.in-Err-Device.ensures.err durable))

pub returns-clause-images_err : goal.returns-clause-images_err
returns-clause-images_err g c = λ durable.
    let same : c.self.inside.tape ≡ c.args.self.now.tape = ap (λ j. j.tape) c.self.view_is in
    let running : c.self.inside.halted ≡ false = ap (λ j. j.halted) c.self.view_is ∙ c.requires in
    let are = subst (λ (t : List ℕ). AreRecords t (map view c.args.records.now)) (sym c.deref.ensures.value) c.in-Ok.ensures.are_records in
    subst (λ tape. Follows (IsSameOrRecords (map view c.args.records.now)) (g.T.Tape.images tape) (g.T.Tape.images c.replace.new.self)) same
    (failed_images (g.T.Tape.content c.self.inside.tape) c.deref.result.now (map view c.args.records.now) (g.T.Tape.images c.self.inside.tape) (g.T.Tape.images c.replace.new.self)
    (c.self.invariant.0 durable running) are (c.in-Err-Device.ensures.images durable))

pub returns-clause-images : goal.returns-clause-images
returns-clause-images g c = λ durable.
    let same : c.self.inside.tape ≡ c.args.self.now.tape = ap (λ j. j.tape) c.self.view_is in
    let running : c.self.inside.halted ≡ false = ap (λ j. j.halted) c.self.view_is ∙ c.requires in
    let are = subst (λ (t : List ℕ). AreRecords t (map view c.args.records.now)) (sym c.deref.ensures.value) c.in-Ok.ensures.are_records in
    subst (λ tape. Follows (IsSameOrReads (map view c.args.records.now)) (g.T.Tape.images tape) (g.T.Tape.images c.replace.new.self)) same
    (follows_failed (g.T.Tape.content c.self.inside.tape) c.deref.result.now (map view c.args.records.now) (g.T.Tape.images c.self.inside.tape) (g.T.Tape.images c.replace.new.self)
    (c.self.invariant.0 durable running) are (c.in-Err-Device.ensures.images durable))

pub returns-in-Ok-replace-clause-inside : goal.returns-in-Ok-replace-clause-inside
returns-in-Ok-replace-clause-inside g c = λ durable.
    let same : c.self.inside.tape ≡ c.args.self.now.tape = ap (λ j. j.tape) c.self.view_is in
    let running : c.self.inside.halted ≡ false = ap (λ j. j.halted) c.self.view_is ∙ c.requires in
    let are = subst (λ (t : List ℕ). AreRecords t (map view c.args.records.now)) (sym c.deref.ensures.value) c.in-Ok.ensures.are_records in
    subst (λ tape. Follows (IsSameOrReads (map view c.args.records.now)) (g.T.Tape.images tape) (g.T.Tape.left_since c.replace.new.self (g.T.Tape.moment tape))) same
    (follows_failed (g.T.Tape.content c.self.inside.tape) c.deref.result.now (map view c.args.records.now) (g.T.Tape.images c.self.inside.tape)
    (g.T.Tape.left_since c.replace.new.self (g.T.Tape.moment c.self.inside.tape)) (c.self.invariant.0 durable running) are (c.replace.ensures.inside durable))

pub returns-in-Err-Memory-clause-inside : goal.returns-in-Err-Memory-clause-inside
returns-in-Err-Memory-clause-inside g c = λ durable.
    let same : c.self.inside.tape ≡ c.args.self.now.tape = ap (λ j. j.tape) c.self.view_is in
    let running : c.self.inside.halted ≡ false = ap (λ j. j.halted) c.self.view_is ∙ c.requires in
    let are = subst (λ (t : List ℕ). AreRecords t (map view c.args.records.now)) (sym c.deref.ensures.value) c.in-Ok.ensures.are_records in
    subst (λ tape. Follows (IsSameOrReads (map view c.args.records.now)) (g.T.Tape.images tape) (g.T.Tape.left_since c.replace.new.self (g.T.Tape.moment tape))) same
    (follows_failed (g.T.Tape.content c.self.inside.tape) c.deref.result.now (map view c.args.records.now) (g.T.Tape.images c.self.inside.tape)
    (g.T.Tape.left_since c.replace.new.self (g.T.Tape.moment c.self.inside.tape)) (c.self.invariant.0 durable running) are (c.replace.ensures.inside durable))

pub returns-clause-inside : goal.returns-clause-inside
returns-clause-inside g c = λ durable.
    let same : c.self.inside.tape ≡ c.args.self.now.tape = ap (λ j. j.tape) c.self.view_is in
    let running : c.self.inside.halted ≡ false = ap (λ j. j.halted) c.self.view_is ∙ c.requires in
    let are = subst (λ (t : List ℕ). AreRecords t (map view c.args.records.now)) (sym c.deref.ensures.value) c.in-Ok.ensures.are_records in
    subst (λ tape. Follows (IsSameOrReads (map view c.args.records.now)) (g.T.Tape.images tape) (g.T.Tape.left_since c.replace.new.self (g.T.Tape.moment tape))) same
    (follows_failed (g.T.Tape.content c.self.inside.tape) c.deref.result.now (map view c.args.records.now) (g.T.Tape.images c.self.inside.tape)
    (g.T.Tape.left_since c.replace.new.self (g.T.Tape.moment c.self.inside.tape)) (c.self.invariant.0 durable running) are (c.replace.ensures.inside durable))
