use Rattle.std.proofs.Common.{◌≡◌, Some, arith, rules}
use Rattle.wf_def.specs.Attribute.{attribute}
use Rattle.wf_label.proofs.TextLemmas.{text_is_short, text_is_utf8, value_of_a_text}
use Rattle.wf_label.proofs.text.text_of.Goals as goal

pub str_of-requires : goal.str_of-requires
str_of-requires c =
    let items = c.args.feature.now.items in
    let here : attribute c.args.layer.now.items items c.args.layer.now.label_item ≡ Some c.in-Some.value.now = search rules in
    (value_of_a_text _ items _ c.in-Some.value.now (text_is_utf8 items (search rules)) here).utf8

pub returns-in-Some-clause-most : goal.returns-in-Some-clause-most
returns-in-Some-clause-most c =
    let items = c.args.feature.now.items in
    let here : attribute c.args.layer.now.items items c.args.layer.now.label_item ≡ Some c.in-Some.value.now = search rules in
    let value = value_of_a_text _ items _ c.in-Some.value.now (text_is_utf8 items (search rules)) here in
    rw c.str_of.ensures (omega (arith, value.short, text_is_short items (search rules)))

pub returns-in-None-clause-most : goal.returns-in-None-clause-most
returns-in-None-clause-most c =
    let same : c.as_str-in-None.result.now ≡ c.args.feature.now.text = cc in
    rw same (text_is_short c.args.feature.now.text (search rules))
