-- The deliveries of a pump: each message not pumped yet, by number, to each of its targets,
-- ascending.
use Rattle.std.specs.Prelude.{◌≡◌, ◌⊎◌, ◌<◌, ◌≤◌, ◌+◌, ℕ, Bool, true, false, List, length, get_or}
use Rattle.wf_farm.specs.Common.{Message, Definition, definition_eq, World, deliver, steps}
use Rattle.wf_farm.specs.declared.fault.FarmFault.{FarmFault}
use Rattle.wf_farm.specs.declared.fault.FarmFault.TheVariants.{Memory, NoNode, Carried}
use Rattle.wf_farm.specs.Allocation.{may_allocate}
use Rattle.wf_farm.specs.Cluster.{Refines}
use Rattle.wf_farm.specs.Farm.{MemoryFarm, Runs, size}
use Rattle.wf_farm.specs.NodeHost.{MemoryHost}
use Rattle.wf_delivery.specs.Progress.{begun, most_deliveries}
use Rattle.wf_delivery.specs.Rounds.{AreTargets, deliveries}

-- After these deliveries the next one may allocate: its node takes the step.
unfoldable pub NextMayAllocate : (targets : List ℕ) (first whole some : ℕ) → List MemoryHost → List Message → Type 0
NextMayAllocate targets first whole some hosts sent = (w : World Definition) → Refines hosts sent w →
    may_allocate (steps definition_eq w (deliveries targets first whole some)) (deliver (get_or targets some 0) (first + whole)) ≡ true

-- What a pump has done: `whole` rounds from the first message not pumped before, and a part of the
-- next. A message counts as pumped from its first delivery on.
pub record Pumps (names : List ℕ) (before after : MemoryFarm) : Type 0 where
  pub targets : List ℕ
  pub are_targets : AreTargets (size before) names targets
  pub whole : ℕ
  pub some : ℕ
  pub part : some < length targets
  pub runs : Runs (deliveries targets before.pumped whole some) before after
  pub pumped : after.pumped ≡ before.pumped + whole + begun some
  pub within : after.pumped ≤ length after.sent

-- the number of these deliveries
abbrev pub count : {names : List ℕ} {before after : MemoryFarm} → Pumps names before after → ℕ
count {names} {before} {after} pumps = length (deliveries pumps.targets before.pumped pumps.whole pumps.some)

-- Stopped early: the limit is reached and some deliveries are left. Otherwise each message sent by
-- now was delivered to each target.
abbrev pub IsPumpEnd : {names : List ℕ} {before after : MemoryFarm} → Bool → Pumps names before after → Type 0
IsPumpEnd {names} {before} {after} true pumps = (count pumps ≡ most_deliveries) × (before.pumped + pumps.whole < length after.sent)
IsPumpEnd {names} {before} {after} false pumps = (count pumps ≤ most_deliveries) × (pumps.some ≡ 0) × (before.pumped + pumps.whole ≡ length after.sent)

abbrev pub IsPumped : List ℕ → MemoryFarm → MemoryFarm → Bool → Type 0
IsPumped names before after stopped = (pumps : Pumps names before after) × IsPumpEnd stopped pumps

-- An allocation failed after this number of deliveries, at the next one, which has an effect; or
-- before the first one, and then nothing is changed. Or after this number the next one, which has
-- an effect, wasn't carried.
abbrev pub IsPumpedPart : List ℕ → MemoryFarm → MemoryFarm → FarmFault → Type 0
IsPumpedPart names before after (Memory done) = ((done ≡ 0) × (after ≡ before)) ⊎ ((pumps : Pumps names before after) × (count pumps ≡ done) × (done < most_deliveries)
    × NextMayAllocate pumps.targets before.pumped pumps.whole pumps.some before.hosts before.sent)
IsPumpedPart names before after NoNode = ⊥
IsPumpedPart names before after (Carried done) = (pumps : Pumps names before after) × (count pumps ≡ done) × (done < most_deliveries)
    × NextMayAllocate pumps.targets before.pumped pumps.whole pumps.some before.hosts before.sent
