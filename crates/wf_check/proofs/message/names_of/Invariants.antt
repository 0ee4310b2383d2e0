use Rattle.std.proofs.Common.{◌≡◌, map, take}
use Rattle.std.specs.String.{string_bytes}
use Rattle.wf_check.specs.Message.{enumerated}
use Rattle.wf_check.proofs.message.names_of.Given as goal

-- written so far: the keywords before this one
abbrev pub invariant-loop-keyword : goal.invariant-loop-keyword
invariant-loop-keyword l = string_bytes l.names ≡ enumerated (map (λ k. (k.0.now, k.1)) (take l.keyword-index l.keywords))
