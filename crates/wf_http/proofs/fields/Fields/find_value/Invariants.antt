use Rattle.std.proofs.Common.{◌≡◌, map, drop, find}
use Rattle.httparse.specs.Spans.{header_bytes}
use Rattle.wf_http.specs.Fields.{is_named}
use Rattle.wf_http.proofs.fields.Fields.find_value.Given as goal

-- no field so far is the one, so the remaining fields decide
abbrev pub invariant-loop-span : goal.invariant-loop-span
invariant-loop-span l =
    find (is_named l.name) (map (header_bytes l.self-inside.bytes.now) (drop l.span-index l.span-items)) ≡ find (is_named l.name) l.self
