use Rattle.std.proofs.Common.{◌≡◌, drop, ◌++◌}
use Rattle.wf_wms.specs.Xml.{escape}
use Rattle.wf_wms.proofs.xml.write_escaped.Given as goal

abbrev pub invariant-loop-byte : goal.invariant-loop-byte
invariant-loop-byte l =
    l.document.items ++ escape (drop l.byte-index l.text) ≡ l.initial.document.items ++ escape l.text
