use Rattle.std.proofs.Common.{◌≡◌, ◌-◌}
use Rattle.std.specs.HashSet.{contains_text}
use Rattle.wf_mapfile.specs.Pairs.{collect}
use Rattle.wf_mapfile.proofs.metadata.read_pairs.Given as goal

-- collecting from here gives the same as collecting from the start
abbrev pub invariant-loop : goal.invariant-loop
invariant-loop l = collect (λ key. contains_text l.keys key) l.kept (l.end - l.counter) l.parser ≡ collect (λ key. contains_text l.initial.keys key) l.initial.kept l.end l.initial.parser
