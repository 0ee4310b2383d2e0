use Rattle.std.proofs.Common.{◌≡◌, map, drop, find, ◌&&◌, not}
use Rattle.httparse.specs.Spans.{header_bytes}
use Rattle.wf_http.specs.Fields.{is_named, is_number}
use Rattle.wf_http.proofs.fields.Fields.finds_other.Given as goal

-- no field so far is the one, so the remaining fields decide
abbrev pub invariant-loop-span : goal.invariant-loop-span
invariant-loop-span l =
    find (λ f. is_named l.name f && not (is_number l.first f.1)) (map (header_bytes l.self-inside.bytes.now) (drop l.span-index l.span-items)) ≡ find (λ f. is_named l.name f && not (is_number l.first f.1)) l.self
