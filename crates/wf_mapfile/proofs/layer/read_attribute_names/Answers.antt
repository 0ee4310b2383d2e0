use Rattle.wf_mapfile.proofs.Texts.{names_read}
use Rattle.wf_mapfile.proofs.layer.read_attribute_names.Goals as goal

pub returns-in-Some : goal.returns-in-Some
returns-in-Some c =
    let mark = rw c.as_bytes.ensures.value at c.in-Some.ensures.0 in
    let names = rw c.as_bytes.ensures.value at c.in-Some.ensures.1 in
    names_read c.args.parser.now c.text_there.new.self c.in_ok-text.text.now c.in_ok-text.ensures.read c.in-Some.names.now c.text_at.result c.in_ok-text.ensures.within mark names c.text_at.ensures
