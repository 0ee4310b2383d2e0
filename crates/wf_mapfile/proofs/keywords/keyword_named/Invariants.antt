use Rattle.std.proofs.Common.{◌≡◌, map, drop}
use Rattle.wf_mapfile.specs.Keywords.{keyword_named}
use Rattle.wf_mapfile.proofs.keywords.keyword_named.Given as goal

-- none of the keywords so far has the name
abbrev pub invariant-loop-keyword : goal.invariant-loop-keyword
invariant-loop-keyword l =
    keyword_named (map (λ k. (k.0.now, k.1)) l.keywords) l.word ≡ keyword_named (map (λ k. (k.0.now, k.1)) (drop l.keyword-index l.keywords)) l.word
