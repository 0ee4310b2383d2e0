-- The prefix of the records is kept, and each image reads as it did.
use Rattle.std.proofs.Common.{refl, sym, ap, subst, ◌∙◌}
use Rattle.wf_journal.specs.Journal.{HoldsRecords, AllReadAs, Follows, ReadsSame}
use Rattle.wf_journal.proofs.CrashImages.{holds_found, reads_held, same_found}
use Rattle.wf_journal.proofs.found.Found.settle.Goals as goal

pub over-requires-clause-settled : goal.over-requires-clause-settled
over-requires-clause-settled g c = λ durable.
    let now = c.in-Ok.ensures.ok durable (sym (c.self.invariant.1 durable).same ∙ sym c.deref.ensures.value) in (
      c.self.invariant.0.0,
      holds_found c.self.inside.bytes.items c.deref.result.now (g.T.Tape.content c.settle.new.tape) c.self.invariant.0.0 c.self.inside.front c.self.inside.front
          (g.T.Tape.images c.settle.new.tape) c.self.invariant.0.1 c.deref.ensures.value refl now (c.in-Ok.ensures.only durable),
    )

pub returns-in-Ok-clause-synced : goal.returns-in-Ok-clause-synced
returns-in-Ok-clause-synced g c = λ durable records read.
    let now = c.in-Ok.ensures.ok durable (sym (c.self.invariant.1 durable).same ∙ sym c.deref.ensures.value) in
    let shown = c.deref.ensures.value ∙ ap (λ f. f.bytes) c.self.view_is in
    subst (λ tape. HoldsRecords (g.T.Tape.content tape) (g.T.Tape.images tape) records) (sym (ap (λ j. j.tape) c.over.ensures))
    (holds_found c.args.self.bytes c.deref.result.now (g.T.Tape.content c.settle.new.tape) records c.args.self.front c.self.inside.front
    (g.T.Tape.images c.settle.new.tape) read shown (ap (λ f. f.front) c.self.view_is) now (c.in-Ok.ensures.only durable))

pub returns-in-Ok-clause-reads : goal.returns-in-Ok-clause-reads
returns-in-Ok-clause-reads g c = λ durable records read.
    let now = c.in-Ok.ensures.ok durable (sym (c.self.invariant.1 durable).same ∙ sym c.deref.ensures.value) in
    let shown = c.deref.ensures.value ∙ ap (λ f. f.bytes) c.self.view_is in
    subst (λ tape. AllReadAs (g.T.Tape.images tape) records) (sym (ap (λ j. j.tape) c.over.ensures))
    (reads_held (g.T.Tape.content c.settle.new.tape) records (g.T.Tape.images c.settle.new.tape)
    (holds_found c.args.self.bytes c.deref.result.now (g.T.Tape.content c.settle.new.tape) records c.args.self.front c.self.inside.front
    (g.T.Tape.images c.settle.new.tape) read shown (ap (λ f. f.front) c.self.view_is) now (c.in-Ok.ensures.only durable)))

pub returns-in-Ok-clause-images : goal.returns-in-Ok-clause-images
returns-in-Ok-clause-images g c = λ durable.
    let follows =
    same_found c.one_text_one_map.ensures c.self.inside.bytes.items c.deref.result.now (g.T.Tape.content c.self.inside.tape) c.self.invariant.0.0 c.self.inside.front
    (g.T.Tape.images c.self.inside.tape) (g.T.Tape.images c.settle.new.tape) c.self.invariant.0.1 (c.self.invariant.1 durable) c.deref.ensures.value (c.settle.ensures.images durable) in
    subst (λ tape. Follows ReadsSame (g.T.Tape.images c.args.self.tape) (g.T.Tape.images tape)) (sym (ap (λ j. j.tape) c.over.ensures))
    (subst (λ tape. Follows ReadsSame (g.T.Tape.images tape) (g.T.Tape.images c.settle.new.tape)) (ap (λ f. f.tape) c.self.view_is) follows)

pub returns-clause-images_err : goal.returns-clause-images_err
returns-clause-images_err g c = λ durable.
    let follows =
    same_found c.one_text_one_map.ensures c.self.inside.bytes.items c.deref.result.now (g.T.Tape.content c.self.inside.tape) c.self.invariant.0.0 c.self.inside.front
    (g.T.Tape.images c.self.inside.tape) (g.T.Tape.images c.settle.new.tape) c.self.invariant.0.1 (c.self.invariant.1 durable) c.deref.ensures.value (c.settle.ensures.images durable) in
    subst (λ tape. Follows ReadsSame (g.T.Tape.images tape) (g.T.Tape.images c.settle.new.tape)) (ap (λ f. f.tape) c.self.view_is) follows

pub returns-in-Ok-clause-inside : goal.returns-in-Ok-clause-inside
returns-in-Ok-clause-inside g c = λ durable.
    let follows =
    same_found c.one_text_one_map.ensures c.self.inside.bytes.items c.deref.result.now (g.T.Tape.content c.self.inside.tape) c.self.invariant.0.0 c.self.inside.front
    (g.T.Tape.images c.self.inside.tape) (g.T.Tape.left_since c.settle.new.tape (g.T.Tape.moment c.self.inside.tape)) c.self.invariant.0.1 (c.self.invariant.1 durable) c.deref.ensures.value (c.settle.ensures.inside durable) in
    subst (λ tape. Follows ReadsSame (g.T.Tape.images c.args.self.tape) (g.T.Tape.left_since tape (g.T.Tape.moment c.args.self.tape))) (sym (ap (λ j. j.tape) c.over.ensures))
    (subst (λ tape. Follows ReadsSame (g.T.Tape.images tape) (g.T.Tape.left_since c.settle.new.tape (g.T.Tape.moment tape))) (ap (λ f. f.tape) c.self.view_is) follows)

pub returns-clause-inside_err : goal.returns-clause-inside_err
returns-clause-inside_err g c = λ durable.
    let follows =
    same_found c.one_text_one_map.ensures c.self.inside.bytes.items c.deref.result.now (g.T.Tape.content c.self.inside.tape) c.self.invariant.0.0 c.self.inside.front
    (g.T.Tape.images c.self.inside.tape) (g.T.Tape.left_since c.settle.new.tape (g.T.Tape.moment c.self.inside.tape)) c.self.invariant.0.1 (c.self.invariant.1 durable) c.deref.ensures.value (c.settle.ensures.inside durable) in
    subst (λ tape. Follows ReadsSame (g.T.Tape.images tape) (g.T.Tape.left_since c.settle.new.tape (g.T.Tape.moment tape))) (ap (λ f. f.tape) c.self.view_is) follows
