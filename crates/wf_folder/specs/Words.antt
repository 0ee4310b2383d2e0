-- Words with numbers, marks, promises and votes in a text, and what follows them.
use Rattle.std.specs.Prelude.{ℕ, List, ◌++◌, codes, Option, Some, None}
use Rattle.hex.specs.Hex.{encode_lower}
use Rattle.wf_ballot.specs.Ballot.{Ballot}
use Rattle.wf_folder.specs.Number.{number_digits}
use Rattle.wf_folder.specs.declared.reach.HighestVote.{HighestVote}
use Rattle.wf_folder.specs.declared.reach.Reach.{Reach}

-- a word, a number, and what follows
abbrev pub number_then : List ℕ → ℕ → List ℕ → List ℕ
number_then word n rest = word ++ (number_digits n ++ rest)

-- a word, a mark or a digest, and what follows
abbrev pub mark_then : List ℕ → List ℕ → List ℕ → List ℕ
mark_then word mark rest = word ++ (encode_lower mark ++ rest)

-- a promise, and what follows
unfoldable pub promise_then : Option Ballot → List ℕ → List ℕ
promise_then None rest = codes " nothing promised" ++ rest
promise_then (Some b) rest = number_then (codes " promised ") b.round (number_then (codes " of ") b.node rest)

-- the words of a vote, if there is one, and what follows
unfoldable pub vote_then : Option HighestVote → List ℕ → List ℕ
vote_then None rest = rest
vote_then (Some v) rest = number_then (codes " voted ") v.ballot.round (number_then (codes " of ") v.ballot.node (number_then (codes " at ") v.sequence rest))

-- a vote and the published sequence, and what follows
unfoldable pub end_then : Option HighestVote → ℕ → List ℕ → List ℕ
end_then vote published rest = vote_then vote (number_then (codes " published ") published rest)

-- how far a node is, and what follows
unfoldable pub reach_then : Reach → List ℕ → List ℕ
reach_then r rest = number_then (codes " tried ") r.round (promise_then r.promise (end_then r.vote r.published rest))
