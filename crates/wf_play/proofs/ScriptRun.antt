-- How a script is played, order by order.
use Rattle.std.proofs.Common.{◌≡◌, ◌∙◌, ℕ, ◌+◌, suc, List, [], ◌++◌, length, slice_get, refl, ap, subst, arith}
use Rattle.std.specs.Prelude.{Option}
use Rattle.std.specs.Io.KnownBytes.{Appends}
use Rattle.wf_farm.specs.Farm.{MemoryFarm, Refines}
use Rattle.wf_model.specs.World.{start}
use Rattle.wf_stream.specs.KnownTheorems.{appends_more, appends_none}
use Rattle.wf_play.specs.OrderEffect.{PerformsAt}
use Rattle.wf_play.specs.ScriptRun.{ArePerformed, HavePlayed, WritesPlay}
use Rattle.wf_script.specs.Script.{Script}
use Rattle.wf_play.specs.Report.{Adds, WritesAt}

-- before the first order nothing is written
pub none_played : (script : Script) (farm : MemoryFarm) (written : Option (List ℕ)) → HavePlayed 0 script farm farm written written
unfolding ArePerformed
none_played script farm written = ([], (refl, refl), appends_none written)

-- one order more: its text is all of what was to be written
pub one_played : (n : ℕ) (script same : Script) (before between after : MemoryFarm) (old now new : Option (List ℕ)) (out done : List ℕ) → same ≡ script
    → HavePlayed n script before between old now → PerformsAt same.maps (slice_get same.orders n) between after → out ≡ []
    → Adds (WritesAt same (slice_get same.orders n) between after) out done → Appends now new done → HavePlayed (n + 1) script before after old new
unfolding ArePerformed
one_played n script same before between after old now new out done is played performs empty adds appends =
    let one : suc n ≡ n + 1 = omega arith in
    let bytes : done ≡ adds.0 = adds.2 ∙ ap (λ front. front ++ adds.0) empty in
    let more : HavePlayed (suc n) script before after old new = (
      played.0 ++ adds.0,
      (
        between,
        played.0,
        adds.0,
        played.1,
        subst (λ (s : Script). PerformsAt s.maps (slice_get s.orders n) between after) is performs,
        subst (λ (s : Script). WritesAt s (slice_get s.orders n) between after adds.0) is adds.1,
        refl,
      ),
      appends_more old now new played.0 adds.0 played.2 (subst (λ text. Appends now new text) bytes appends),
    ) in
    subst (λ k. HavePlayed k script before after old new) one more

-- all orders, on a new farm
pub all_played : (script same : Script) (count : ℕ) (opening closing : MemoryFarm) (old new : Option (List ℕ)) → same ≡ script → count ≡ length script.orders → Refines opening (start script.nodes)
    → opening.pumped ≡ 0 → HavePlayed count same opening closing old new → WritesPlay script old new
all_played script same count opening closing old new is all begins fresh played = (
  played.0,
  record {
    opening = opening;
    closing = closing;
    start = begins;
    fresh = fresh;
    performed = subst (λ k. ArePerformed script k opening closing played.0) all (subst (λ (s : Script). ArePerformed s count opening closing played.0) is played.1);
  },
  played.2,
)
