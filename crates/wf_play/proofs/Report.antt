-- What is written about a farm, part by part.
use Rattle.std.proofs.Common.{◌≡◌, ◌∙◌, ℕ, ◌+◌, ◌<◌, zero, suc, List, [], ◌∷◌, ◌++◌, take, slice_get, length, arith, Bool, Option, Some, None, inl, inr, refl, sym, ap, subst}
use Rattle.std.specs.Prelude.{flat_map, Result, Ok, Err, OnOk}
use Rattle.std.proofs.lemmas.List.{append-nil, append_assoc}
use Rattle.std.proofs.lemmas.Option.{slice_get_past}
use Rattle.wf_def.specs.Definition.{Definition}
use Rattle.wf_learner.specs.History.{map_at}
use Rattle.wf_model.specs.DurableState.{definition_at}
use Rattle.wf_node.specs.Node.{Node}
use Rattle.wf_tape.specs.MemoryTape.{TapeValue}
use Rattle.wf_farm.specs.ClientAnswers.{IsNoAnswer}
use Rattle.wf_farm.specs.Farm.{MemoryFarm, running_in}
use Rattle.wf_farm.specs.NodeHost.{MemoryHost}
use Rattle.wf_farm.specs.Pump.{IsPumped}
use Rattle.wf_farm.specs.declared.fault.FarmFault.{FarmFault}
use Rattle.wf_farm.specs.declared.fault.FarmFault.TheVariants.{NoNode}
use Rattle.wf_play.specs.Comparison.{IsUncompared}
use Rattle.wf_script.specs.Script.{Numbered, Script}
use Rattle.wf_play.specs.Report.{Adds, IsOfAnswer, IsReportedAbsent, ReportsAnswer, ReportsEqual, ReportsPump, WritesOrder, WritesAt, no_node, published_word, pump_line}

-- a consequence of a property holds where the property is reported
pub also_ok : {T E P Q : Type 0} → (result : Result T E) → (P → Q) → OnOk result P → OnOk result Q
also_ok (Ok x) so is = so is
also_ok (Err e) so is = tt

-- one text more after another
pub just : {T E : Type 0} (result : Result T E) (old new text : List ℕ) → OnOk result (new ≡ old ++ text) → OnOk result (Adds (λ t. t ≡ text) old new)
just result old new text is = also_ok result (λ is. (text, refl, is)) is

-- no text after another
pub nothing_more : {T E : Type 0} (result : Result T E) (old : List ℕ) → OnOk result (Adds (λ t. t ≡ []) old old)
nothing_more (Ok x) old = ([], refl, sym (append-nil old))
nothing_more (Err e) old = tt

-- one index more is written
abbrev pub word : MemoryHost → List ℕ
word host = published_word (running_in (Some host))

one_reported : (hosts : List MemoryHost) (i : ℕ) → i < length hosts
    → flat_map word (take (suc i) hosts) ≡ flat_map word (take i hosts) ++ published_word (running_in (slice_get hosts i))
one_reported [] i there = absurd (omega arith)
one_reported (host ∷ hosts) zero there = append-nil (word host)
one_reported (host ∷ hosts) (suc i) there =
    ap (λ rest. word host ++ rest) (one_reported hosts i (omega arith))
    ∙ sym (append_assoc (word host) (flat_map word (take i hosts)) (published_word (running_in (slice_get hosts i))))

pub host_reported : (hosts : List MemoryHost) (i : ℕ) (old front so_far now : List ℕ) → i < length hosts → so_far ≡ old ++ (front ++ flat_map word (take i hosts))
    → now ≡ so_far ++ published_word (running_in (slice_get hosts i)) → now ≡ old ++ (front ++ flat_map word (take (i + 1) hosts))
host_reported hosts i old front so_far now there is next =
    let one : suc i ≡ i + 1 = omega arith in
    let reported = flat_map word (take i hosts) in
    let last = published_word (running_in (slice_get hosts i)) in
    next
    ∙ ap (λ bytes. bytes ++ last) is
    ∙ append_assoc old (front ++ reported) last
    ∙ ap (λ bytes. old ++ bytes) (append_assoc front reported last ∙ ap (λ bytes. front ++ bytes) (sym (one_reported hosts i there) ∙ ap (λ n. flat_map word (take n hosts)) one))

-- what isn't published yet
pub unpublished : (history : List Definition) (s : ℕ) → length history < s → None ≡ map_at history s
unfolding map_at definition_at
unpublished history zero above = absurd (omega arith)
unpublished history (suc k) above = sym (slice_get_past history k (omega arith))

-- why no node answers is an error of an answer
pub of_answer : (host : Option (Node TapeValue)) (fault : FarmFault) → IsNoAnswer host fault → IsOfAnswer fault
of_answer None fault why = subst IsOfAnswer (sym why) tt
of_answer (Some node) fault why = subst IsOfAnswer (sym why) tt

-- and so is why no answers are compared
pub of_comparison : (farm : MemoryFarm) (i j : ℕ) (fault : FarmFault) → IsUncompared farm i j fault → IsOfAnswer fault
of_comparison farm i j fault why =
    elim why [
      | inl first ↦ of_answer (running_in (slice_get farm.hosts i)) fault first
      | inr second ↦ of_answer (running_in (slice_get farm.hosts j)) fault second
    ]

-- no node answers where none runs
is_absent : (host : Option (Node TapeValue)) → IsNoAnswer host NoNode → host ≡ None
is_absent None why = refl
is_absent (Some node) why = absurd (cc)

pub no_answer_reported : (farm : MemoryFarm) (i : ℕ) (query : List ℕ) (fault : FarmFault) (old new : List ℕ) → IsNoAnswer (running_in (slice_get farm.hosts i)) fault → IsReportedAbsent fault old new
    → Adds (ReportsAnswer farm i query) old new
no_answer_reported farm i query fault old new why reported =
    (no_node, inr (is_absent (running_in (slice_get farm.hosts i)) (subst (λ f. IsNoAnswer (running_in (slice_get farm.hosts i)) f) reported.0 why), refl), reported.1)

pub uncompared_reported : (farm : MemoryFarm) (i j : ℕ) (query : List ℕ) (fault : FarmFault) (old new : List ℕ) → IsUncompared farm i j fault → IsReportedAbsent fault old new
    → Adds (ReportsEqual farm i j query) old new
uncompared_reported farm i j query fault old new why reported =
    elim (subst (λ f. IsUncompared farm i j f) reported.0 why) [
      | inl first ↦ (no_node, inr (inl (is_absent (running_in (slice_get farm.hosts i)) first), refl), reported.1)
      | inr second ↦ (no_node, inr (inr (is_absent (running_in (slice_get farm.hosts j)) second), refl), reported.1)
    ]

-- a pump, whether it stopped early or not
pub pump_reported : (nodes : List ℕ) (before after : MemoryFarm) (stopped : Bool) (old new : List ℕ) → IsPumped nodes before after stopped → new ≡ old ++ pump_line stopped
    → Adds (ReportsPump nodes before after) old new
pump_reported nodes before after stopped old new done is = (pump_line stopped, (stopped, done, refl), is)

-- what the order at an index writes, where that order is there
pub written_at : (script : Script) (there : Option Numbered) (n : Numbered) (before after : MemoryFarm) (old new : List ℕ) → Some n ≡ there → Adds (WritesOrder script n.order before after) old new
    → Adds (WritesAt script there before after) old new
unfolding WritesAt
written_at script there n before after old new is reports = subst (λ o. Adds (WritesAt script o before after) old new) is reports

-- where there is none
pub nothing_written : (script : Script) (there : Option Numbered) (before after : MemoryFarm) (old : List ℕ) → None ≡ there → Adds (WritesAt script there before after) old old
unfolding WritesAt
nothing_written script there before after old is = ([], subst (λ o. WritesAt script o before after []) is refl, sym (append-nil old))
