use Rattle.std.proofs.Common.{◌≡◌, map, drop}
use Rattle.wf_block.specs.Grammar.{choice}
use Rattle.wf_block.proofs.choice.choose.Given as goal

-- none of the entries so far has the name
abbrev pub invariant-loop-entry : goal.invariant-loop-entry
invariant-loop-entry g l = choice (map (λ entry. (entry.0.now, entry.1)) l.entries) l.name ≡ choice (map (λ entry. (entry.0.now, entry.1)) (drop l.entry-index l.entries)) l.name
