-- Examples of replacements: three runs of three nodes, in each of which node 2 is replaced.
use Rattle.std.specs.Prelude.{◌≡◌, ℕ, ◌≤◌, List, [], ◌∷◌, ◌++◌, replicate}
use Rattle.wf_model.specs.DurableState.{DurableState, nothing_stored, published}
use Rattle.wf_model.specs.World.{Event, Stop, Restart, propose, deliver}
use Rattle.wf_model.specs.Chosen.{history}
use Rattle.wf_model.specs.Examples.{Map, a, b, same_map, histories}
use Rattle.wf_safety.specs.Replacement.{Change, Replaces, after_changes, without_loss, IsUpTo, HeldOfHalf, AreGuarded}

-- no votes, no promise, no round, and these published maps
unfoldable pub copy_of : List Map → DurableState Map
copy_of maps = record nothing_stored { history = maps }

-- the events, then the replacement of node 2 by a copy of these maps, then more events
unfoldable pub with_replacement : List (Event Map) → List Map → List (Event Map) → List (Change Map)
with_replacement before maps later = without_loss before ++ (Replaces 2 (copy_of maps) ∷ without_loss later)

-- Since the first events nothing happens to node 2, and P holds once of what each of half of all
-- nodes has stored. Then node 2 is replaced by a copy of all that the source has published. After
-- the later events the nodes have published these lists.
pub record LeavesReplaced (P : DurableState Map → Type 0) (before since : List (Event Map)) (source : ℕ) (maps : List Map) (later : List (Event Map)) (lists : List (List Map)) : Type 0 where
  pub asked : HeldOfHalf same_map 3 (after_changes same_map 3 (without_loss before)) (without_loss since) 2 P
  pub copied : history (after_changes same_map 3 (without_loss (before ++ since))) source ≡ maps
  pub leaves : histories (after_changes same_map 3 (with_replacement (before ++ since) maps later)).nodes ≡ lists

-- what is asked for: that no sequence is published, and no vote stored; or the first alone
abbrev pub IsEmpty : DurableState Map → Type 0
IsEmpty stored = IsUpTo stored 0

abbrev pub HasNoMap : DurableState Map → Type 0
HasNoMap stored = published stored ≤ 0

-- ---- the window

-- Node 1 proposes b, and node 2 promises its ballot for the sequences 1 to 4. Then node 2 is lost.
unfoldable pub promised_early : List (Event Map)
promised_early = propose 1 b ∷ deliver 2 0 ∷ Stop 2 ∷ []

-- Nodes 0 and 1, at a lower ballot, choose a at the sequences 1 to 3.
unfoldable pub three_chosen : List (Event Map)
three_chosen =
    propose 0 a ∷ deliver 0 2 ∷ deliver 1 2 ∷ deliver 0 3 ∷ deliver 0 4 ∷ deliver 0 5 ∷ deliver 1 5 ∷ deliver 0 6 ∷ deliver 0 7 ∷
    propose 0 a ∷ deliver 0 9 ∷ deliver 1 9 ∷ deliver 0 10 ∷ deliver 0 11 ∷
    propose 0 a ∷ deliver 0 13 ∷ deliver 1 13 ∷ deliver 0 14 ∷ deliver 0 15 ∷ []

-- Node 2, replaced, votes at sequence 4 for a, below its old promise, and then for b, which node 1
-- asks for by means of that promise.
unfoldable pub promise_broken : List (Event Map)
promise_broken =
    Restart 2 ∷ propose 0 a ∷ deliver 0 17 ∷ deliver 2 17 ∷ deliver 0 18 ∷ deliver 0 19 ∷
    deliver 1 0 ∷ deliver 1 1 ∷ deliver 1 21 ∷ deliver 1 8 ∷ deliver 1 12 ∷ deliver 1 16 ∷
    propose 1 b ∷ deliver 1 23 ∷ deliver 2 23 ∷ deliver 1 24 ∷ deliver 1 25 ∷ []

-- Nothing after sequence 0 is published or voted for when nodes 0 and 1 are asked. With a copy of
-- three maps, one fewer than the window, two maps are published under sequence 4.
abbrev pub ThreeAreTooFew : Type 0
ThreeAreTooFew = LeavesReplaced IsEmpty promised_early three_chosen 0 (replicate 3 a) promise_broken (replicate 4 a ∷ (replicate 3 a ++ b ∷ []) ∷ replicate 3 a ∷ [])

-- a is chosen at sequence 4 too
unfoldable pub four_chosen : List (Event Map)
four_chosen = three_chosen ++ (propose 0 a ∷ deliver 0 17 ∷ deliver 1 17 ∷ deliver 0 18 ∷ deliver 0 19 ∷ [])

-- Node 2's old promise comes to node 1, and the old requests to node 2, replaced; then node 1
-- proposes again.
unfoldable pub old_messages_late : List (Event Map)
old_messages_late =
    Restart 2 ∷ deliver 1 0 ∷ deliver 1 1 ∷ deliver 1 21 ∷ deliver 2 0 ∷ deliver 2 5 ∷ deliver 2 22 ∷
    deliver 1 8 ∷ deliver 1 12 ∷ deliver 1 16 ∷ deliver 1 20 ∷
    propose 1 b ∷ deliver 1 26 ∷ deliver 2 26 ∷ deliver 1 27 ∷ deliver 1 28 ∷ deliver 1 29 ∷ deliver 2 29 ∷ deliver 1 30 ∷ deliver 1 31 ∷
    deliver 0 32 ∷ deliver 2 32 ∷ []

-- With a copy of four maps, the whole window, the farm goes on, and publishes with the vote of
-- node 2.
abbrev pub FourAreEnough : Type 0
FourAreEnough = LeavesReplaced IsEmpty promised_early four_chosen 0 (replicate 4 a) old_messages_late (replicate 3 (replicate 4 a ++ b ∷ []))

-- Its replacement is guarded.
abbrev pub FourAreGuarded : Type 0
FourAreGuarded = AreGuarded same_map 3 [] (with_replacement (promised_early ++ four_chosen) (replicate 4 a) old_messages_late)

-- ---- votes

-- Node 2 publishes five maps by the votes of node 0, which doesn't hear of it. Then node 2 is lost.
unfoldable pub published_alone : List (Event Map)
published_alone =
    propose 2 a ∷ deliver 2 0 ∷ deliver 0 0 ∷ deliver 2 1 ∷ deliver 2 2 ∷ deliver 2 3 ∷ deliver 0 3 ∷ deliver 2 4 ∷ deliver 2 5 ∷
    propose 2 a ∷ deliver 2 7 ∷ deliver 0 7 ∷ deliver 2 8 ∷ deliver 2 9 ∷
    propose 2 a ∷ deliver 2 11 ∷ deliver 0 11 ∷ deliver 2 12 ∷ deliver 2 13 ∷
    propose 2 a ∷ deliver 2 15 ∷ deliver 0 15 ∷ deliver 2 16 ∷ deliver 2 17 ∷
    propose 2 a ∷ deliver 2 19 ∷ deliver 0 19 ∷ deliver 2 20 ∷ deliver 2 21 ∷ deliver 2 22 ∷ deliver 0 22 ∷ deliver 2 23 ∷ deliver 2 24 ∷ Stop 2 ∷ []

-- Node 1 hears of the first four.
unfoldable pub four_heard : List (Event Map)
four_heard = deliver 1 6 ∷ deliver 1 10 ∷ deliver 1 14 ∷ deliver 1 18 ∷ []

-- Nodes 1 and 2 choose b at sequence 5, and then node 0 hears of the five maps that node 2 had
-- published.
unfoldable pub vote_forgotten : List (Event Map)
vote_forgotten =
    Restart 2 ∷ propose 1 b ∷ deliver 1 26 ∷ deliver 2 26 ∷ deliver 1 27 ∷ deliver 1 28 ∷ deliver 1 29 ∷ deliver 2 29 ∷ deliver 1 30 ∷ deliver 1 31 ∷
    deliver 0 6 ∷ deliver 0 10 ∷ deliver 0 14 ∷ deliver 0 18 ∷ deliver 0 25 ∷ []

-- No sequence is published when nodes 0 and 1 are asked; for votes they aren't asked. With a copy
-- of four maps, the whole window, two maps are published under sequence 5.
abbrev pub VotesAreNeeded : Type 0
VotesAreNeeded = LeavesReplaced HasNoMap published_alone four_heard 1 (replicate 4 a) vote_forgotten (replicate 5 a ∷ (replicate 4 a ++ b ∷ []) ∷ replicate 4 a ∷ [])
