use Rattle.std.proofs.Common.{◌∙◌, ap, sym, is_some, find, ◌&&◌, not}
use Rattle.httparse.specs.Spans.{header_bytes}
use Rattle.wf_http.specs.Fields.{is_named, is_number}
use Rattle.wf_http.proofs.FieldTheorem.{met, passed, ended}
use Rattle.wf_http.proofs.fields.Fields.finds_other.Goals as goal

pub loop-span-init : goal.loop-span-init
loop-span-init c = ap (find (λ f. is_named c.args.name.now f && not (is_number c.args.first.now f.1))) c.self.view_is

pub loop-span-preserved : goal.loop-span-preserved
loop-span-preserved c =
    passed (λ f. is_named c.args.name.now f && not (is_number c.args.first.now f.1)) (header_bytes c.self.inside.bytes.now) c.self.inside.spans.now c.loop-span.span-index _ c.loop-span-test.true (sym c.has_other.ensures ∙ c.if-has_other.false) ∙ c.loop-span.invariant

pub returns-then-has_other : goal.returns-then-has_other
returns-then-has_other c =
    ap is_some
    (sym (met (λ f. is_named c.args.name.now f && not (is_number c.args.first.now f.1)) (header_bytes c.self.inside.bytes.now) c.self.inside.spans.now c.loop-span.span-index _ c.loop-span-test.true (sym c.has_other.ensures ∙ c.if-has_other.true)) ∙ c.loop-span.invariant)

pub returns : goal.returns
returns c = ap is_some (sym (ended (λ f. is_named c.args.name.now f && not (is_number c.args.first.now f.1)) (header_bytes c.self.inside.bytes.now) c.self.inside.spans.now c.loop-span.span-index c.loop-span-test.false) ∙ c.loop-span.invariant)
