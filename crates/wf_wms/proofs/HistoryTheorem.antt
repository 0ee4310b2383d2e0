-- A history has the map of each sequence up to its length.
use Rattle.std.proofs.Common.{◌≡◌, ◌≢◌, ℕ, zero, suc, ◌≤◌, List, [], ◌∷◌, length, get_or, refl, arith, ap, sym}
use Rattle.std.specs.Prelude.{Some}
use Rattle.std.proofs.lemmas.Option.{slice_get-get_or}
use Rattle.wf_def.specs.Definition.{Definition, empty_map}
use Rattle.wf_learner.specs.History.{map_at}
use Rattle.wf_model.specs.DurableState.{definition_at}

pub map_there : (history : List Definition) (s : ℕ) → s ≤ length history → (map : Definition) × (map_at history s ≡ Some map)
unfolding map_at definition_at
map_there history zero within = (empty_map, refl)
map_there history (suc k) within = (get_or history k empty_map, slice_get-get_or history k empty_map (omega arith))

-- sequence 0 has the empty map
pub empty_there : (history : List Definition) (s : ℕ) (map : Definition) → s ≡ 0 → map ≡ empty_map → map_at history s ≡ Some map
unfolding map_at
empty_there history zero map none empty = ap Some (sym empty)
empty_there history (suc k) map none empty = absurd (omega (arith, none))

-- where only one map is published, every other sequence has it
pub only_there : (history : List Definition) (s : ℕ) (map : Definition) → map ∷ [] ≡ history → s ≢ 0 → s ≤ length history → map_at history s ≡ Some map
unfolding map_at definition_at
only_there history zero map is some within = absurd (some refl)
only_there history (suc k) map is some within =
    let one : length history ≡ 1 = sym (ap length is) in
    let first : k ≡ 0 = omega (arith, within, one) in
    rw (first, sym is) refl
