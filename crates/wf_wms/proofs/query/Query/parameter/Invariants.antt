use Rattle.std.proofs.Common.{◌≡◌, map, drop, string_bytes}
use Rattle.wf_wms.specs.Query.{parameter}
use Rattle.wf_wms.proofs.query.Query.parameter.Given as goal

-- no pair so far has the name, so the pairs that are left decide
abbrev pub invariant-loop-given : goal.invariant-loop-given
invariant-loop-given l =
    parameter l.name (map (λ pair. (string_bytes pair.0, string_bytes pair.1)) (drop l.given-index l.given-items))
    ≡ parameter l.name l.self
