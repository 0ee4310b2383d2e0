use Rattle.std.proofs.Common.{◌≡◌, sym, ◌+◌, ◌++◌, [], drop, get_or, append_assoc, append-nil}
use Rattle.std.proofs.lemmas.List.{at_drop_more, at_drop_all}
use Rattle.wf_wms.specs.Xml.{escape, escape_byte}
use Rattle.wf_wms.proofs.xml.write_escaped.Goals as goal

pub loop-byte-preserved : goal.loop-byte-preserved
unfolding escape
loop-byte-preserved c =
    let text = c.args.text.now in
    let document = c.loop-byte.document.items in
    let byte = get_or text c.loop-byte.byte-index 0 in
    let rest = escape (drop (c.loop-byte.byte-index + 1) text) in
    let step : escape (drop c.loop-byte.byte-index text) ≡ escape_byte byte ++ rest
    = at_drop_more escape text c.loop-byte.byte-index 0 c.loop-byte-test.true in
    let regroup : document ++ (escape_byte byte ++ rest) ≡ (document ++ escape_byte byte) ++ rest
    = sym (append_assoc document (escape_byte byte) rest) in
    cc (c.loop-byte.invariant, c.in_ok-write_escaped_byte.ensures)

pub returns : goal.returns
unfolding escape
returns c =
    let none_left : escape (drop c.loop-byte.byte-index c.args.text.now) ≡ []
    = at_drop_all escape c.args.text.now c.loop-byte.byte-index c.loop-byte-test.false in
    let whole : c.loop-byte.document.items ++ [] ≡ c.loop-byte.document.items = append-nil c.loop-byte.document.items in
    cc (c.loop-byte.invariant)
