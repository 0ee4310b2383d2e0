use Rattle.std.proofs.Common.{◌∙◌, ap, sym, find, Some, option_map}
use Rattle.httparse.specs.Spans.{header_bytes}
use Rattle.wf_http.specs.Fields.{is_named}
use Rattle.wf_http.proofs.FieldTheorem.{met, passed, ended}
use Rattle.wf_http.proofs.fields.Fields.find_value.Goals as goal

pub loop-span-init : goal.loop-span-init
loop-span-init c = ap (find (is_named c.args.name.now)) c.self.view_is

pub loop-span-preserved : goal.loop-span-preserved
loop-span-preserved c =
    passed (is_named c.args.name.now) (header_bytes c.self.inside.bytes.now) c.self.inside.spans.now c.loop-span.span-index _ c.loop-span-test.true (sym c.is_named.ensures ∙ c.if-is_named.false) ∙ c.loop-span.invariant

pub returns-then-is_named : goal.returns-then-is_named
returns-then-is_named c =
    ap Some c.bytes_in.ensures ∙ ap (option_map (λ field. field.1))
    (sym (met (is_named c.args.name.now) (header_bytes c.self.inside.bytes.now) c.self.inside.spans.now c.loop-span.span-index _ c.loop-span-test.true (sym c.is_named.ensures ∙ c.if-is_named.true)) ∙ c.loop-span.invariant)

pub returns : goal.returns
returns c = ap (option_map (λ field. field.1)) (sym (ended (is_named c.args.name.now) (header_bytes c.self.inside.bytes.now) c.self.inside.spans.now c.loop-span.span-index c.loop-span-test.false) ∙ c.loop-span.invariant)
