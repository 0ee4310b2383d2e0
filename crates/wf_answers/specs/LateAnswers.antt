-- Runs in which a node's answer to an attempt of a proposer arrives after the next attempt has
-- begun. Three nodes; node 0 proposes.
use Rattle.std.specs.Prelude.{◌≡◌, List, [], ◌∷◌, ◌++◌}
use Rattle.wf_model.specs.Examples.{Map, a, ballot, run, sent_from, proposal_state, LeavesEach, Runs, none}
use Rattle.wf_model.specs.Message.{Accept, Nack, Prepare}
use Rattle.wf_model.specs.World.{Event, deliver, propose, retry}

-- nodes 1 and 2 promise the first attempt, and their promises arrive in the second
unfoldable pub late_promises : List (Event Map)
late_promises = propose 0 a ∷ deliver 1 0 ∷ deliver 2 0 ∷ retry 0 ∷ deliver 0 1 ∷ deliver 0 2 ∷ []

-- The proposer goes on waiting: it doesn't ask for votes at its new ballot, which no node has
-- promised.
abbrev pub LatePromisesDoNotCount : Type 0
LatePromisesDoNotCount = (sent_from (run 3 late_promises) 3 ≡ Prepare 1 (ballot 2 0) ∷ []) × (proposal_state (run 3 late_promises) 0 ≡ Runs)

-- nodes 1 and 2 vote in the first attempt, the proposer begins a second, and asks for votes in it;
-- then the votes arrive
unfoldable pub second_asks : List (Event Map)
second_asks =
    propose 0 a ∷ deliver 1 0 ∷ deliver 2 0 ∷ deliver 0 1 ∷ deliver 0 2 ∷ deliver 1 3 ∷ deliver 2 3 ∷
    retry 0 ∷ deliver 1 6 ∷ deliver 2 6 ∷ deliver 0 7 ∷ deliver 0 8 ∷ []

unfoldable pub late_votes : List (Event Map)
late_votes = second_asks ++ (deliver 0 4 ∷ deliver 0 5 ∷ [])

-- Nothing is sent or published for them.
abbrev pub LateVotesDoNotCount : Type 0
LateVotesDoNotCount = (sent_from (run 3 late_votes) 9 ≡ Accept 1 (ballot 2 0) a ∷ []) × (LeavesEach 3 late_votes none 10)

-- node 2 has promised node 1's third attempt and rejects node 0's first; the rejection arrives in
-- node 0's second, before the third
unfoldable pub late_nack : List (Event Map)
late_nack = propose 1 a ∷ retry 1 ∷ retry 1 ∷ deliver 2 2 ∷ propose 0 a ∷ deliver 2 4 ∷ retry 0 ∷ deliver 0 5 ∷ retry 0 ∷ []

-- The third attempt is of the next round: what the rejection says of another ballot isn't taken for
-- this one's.
abbrev pub LateNacksAreNoNews : Type 0
LateNacksAreNoNews = sent_from (run 3 late_nack) 4 ≡
    Prepare 1 (ballot 1 0) ∷ Nack 2 1 (ballot 1 0) (ballot 3 1) ∷ Prepare 1 (ballot 2 0) ∷ Prepare 1 (ballot 3 0) ∷ []
