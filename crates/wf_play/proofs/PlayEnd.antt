-- A play that ends before its last order has written a beginning of its text.
use Rattle.std.proofs.Common.{◌≡◌, ◌∙◌, ℕ, true, List, [], ◌++◌, slice_get, take, ap, subst, inl, inr}
use Rattle.std.specs.Prelude.{Option, Some, Ok, Err, Result, IfErr, IfSome}
use Rattle.std.specs.Io.KnownBytes.{Appends}
use Rattle.wf_farm.specs.Farm.{MemoryFarm, Refines}
use Rattle.wf_model.specs.World.{start}
use Rattle.wf_stream.specs.KnownTheorems.{appends_more, keeps_same}
use Rattle.wf_play.specs.PlayEnd.{BreaksOffAtOrder, IsPlayEnded, LosesAtOrder, MayBeBegun, StopsAtOrder, WritesBeginning}
use Rattle.wf_play.specs.Fault.{IsOrderFault, IsPlayingFault}
use Rattle.wf_play.specs.OrderEffect.{PerformsAt, fault_at, may_use_at}
use Rattle.wf_play.specs.ScriptRun.{HavePlayed, IsStepRejectionOf}
use Rattle.wf_play.specs.Report.{Adds, WritesAt}
use Rattle.wf_play.specs.declared.fault.PlayFault.{PlayFault}
use Rattle.wf_play.specs.declared.fault.PlayFault.TheVariants as play
use Rattle.wf_script.specs.Script.{Script}
use Rattle.wf_script.specs.Text.{script_of}
use Rattle.wf_script.specs.declared.fault.ScriptFault.{ScriptFault}
use Rattle.wf_script.specs.declared.fault.ScriptFault.TheVariants as script_fault

module _ (n : ℕ) (script same : Script) (before between : MemoryFarm) (old now : Option (List ℕ)) (is : same ≡ script) (played : HavePlayed n script before between old now) where
  -- An allocation failed at the next order.
  stops_there : (fault : ScriptFault) → fault_at (slice_get same.orders n) ≡ Some fault → StopsAtOrder script before old now fault
  stops_there fault line = record {
    count = n;
    between = between;
    text = played.0;
    performed = played.1;
    line = subst (λ (s : Script). fault_at (slice_get s.orders n) ≡ Some fault) is line;
    written = played.2;
  }

  -- A message wasn't carried at the next order.
  loses_there : may_use_at (slice_get same.orders n) between ≡ true → LosesAtOrder script before old now
  loses_there carries = record {
    count = n;
    between = between;
    text = played.0;
    performed = played.1;
    carries = subst (λ (s : Script). may_use_at (slice_get s.orders n) between ≡ true) is carries;
    written = played.2;
  }

  -- The next order ended with this error.
  pub ends_there : (fault : PlayFault) → IsOrderFault (slice_get same.orders n) between fault → IsPlayEnded script before old now fault
  ends_there (play.Script fault) why = stops_there fault why
  ends_there play.Wire why = loses_there why
  ends_there play.Read why = absurd why
  ends_there play.Write why = absurd why

  -- A write failed at the text of the next order.
  pub breaks_there : (after : MemoryFarm) (new : Option (List ℕ)) (out done : List ℕ) (some : ℕ) → PerformsAt same.maps (slice_get same.orders n) between after → out ≡ []
      → Adds (WritesAt same (slice_get same.orders n) between after) out done → Appends now new (take some done) → BreaksOffAtOrder script before old new
  breaks_there after new out done some performs empty adds appends =
      let bytes : done ≡ adds.0 = adds.2 ∙ ap (λ front. front ++ adds.0) empty in
      record {
        count = n;
        between = between;
        after = after;
        text = played.0;
        last = adds.0;
        performed = played.1;
        does = subst (λ (s : Script). PerformsAt s.maps (slice_get s.orders n) between after) is performs;
        reports = subst (λ (s : Script). WritesAt s (slice_get s.orders n) between after adds.0) is adds.1;
        some = some;
        written = appends_more old now new played.0 (take some adds.0) played.2 (subst (λ text. Appends now new (take some text)) bytes appends);
      }

-- what follows of an error
pub on_fault : {T E : Type 0} {P Q : E → Type 0} (result : Result T E) → ((e : E) → P e → Q e) → IfErr result P → IfErr result Q
on_fault (Ok x) so is = tt
on_fault (Err e) so is = so e is

pub both_faults : {T E : Type 0} {P Q R : E → Type 0} (result : Result T E) → ((e : E) → P e → Q e → R e) → IfErr result P → IfErr result Q → IfErr result R
both_faults (Ok x) so is also = tt
both_faults (Err e) so is also = so e is also

-- A play on a new farm.
pub begun : (script same : Script) (opening : MemoryFarm) (old new : Option (List ℕ)) (fault : PlayFault) → same ≡ script → Refines opening (start script.nodes) → opening.pumped ≡ 0 → IsPlayEnded same opening old new fault
    → MayBeBegun script old new fault
begun script same opening old new fault is starts fresh ended =
    inr (record { opening = opening; start = starts; fresh = fresh; ended = subst (λ (s : Script). IsPlayEnded s opening old new fault) is ended })

-- Before the farm is made nothing is written.
pub not_begun : (script : Script) (written : Option (List ℕ)) (fault : ScriptFault) → fault ≡ script_fault.Memory 1 → MayBeBegun script written written (play.Script fault)
not_begun script written fault is = inl (ap (λ f. play.Script f) is, keeps_same written)

both_begun : (fault : ScriptFault) → play.Write ≡ play.Script fault → ⊥
both_begun fault is = absurd (cc)

lost_begun : (fault : ScriptFault) → play.Wire ≡ play.Script fault → ⊥
lost_begun fault is = absurd (cc)

-- The play of the input's script.
pub input_begun : (input old new : Option (List ℕ)) (script : Script) (fault : PlayFault) → IfSome input (λ text. script_of text ≡ Ok script) → IsPlayingFault fault → MayBeBegun script old new fault
    → WritesBeginning input old new fault
input_begun input old new script (play.Script fault) means why (inl none) = inl none.1
input_begun input old new script (play.Script fault) means why (inr some) = inr (script, means, some)
input_begun input old new script play.Read means why begun = absurd why
input_begun input old new script play.Write means why (inl none) = absurd (both_begun _ none.0)
input_begun input old new script play.Write means why (inr some) = (script, means, some)
input_begun input old new script play.Wire means why (inl none) = absurd (lost_begun _ none.0)
input_begun input old new script play.Wire means why (inr some) = (script, means, some)

-- Without a script nothing is written.
pub nothing_begun : (input written : Option (List ℕ)) (fault : PlayFault) → IsStepRejectionOf input fault → WritesBeginning input written written fault
nothing_begun input written (play.Script fault) why = inl (keeps_same written)
nothing_begun input written play.Read why = keeps_same written
nothing_begun input written play.Write why = absurd why
nothing_begun input written play.Wire why = absurd why
