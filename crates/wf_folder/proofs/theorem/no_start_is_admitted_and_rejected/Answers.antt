-- What is there for a start isn't missing, one too many or another's.
use Rattle.std.proofs.Common.{◌∙◌, ℕ, sym, ap}
use Rattle.wf_folder.specs.Admission.{StartsAreNotRejected}
use Rattle.wf_folder.specs.declared.admission.FoundFile.{FoundFile}
use Rattle.wf_folder.specs.declared.admission.FoundFile.TheVariants as finds
use Rattle.wf_folder.specs.declared.admission.StartRejection.TheVariants as causes
use Rattle.wf_folder.specs.declared.admission.Start.TheVariants as starts
use Rattle.wf_folder.proofs.theorem.no_start_is_admitted_and_rejected.Goals as goal

abbrev nodes_in : ℕ → FoundFile → ℕ
nodes_in n (finds.File file) = file.nodes
nodes_in n finds.Nothing = n
nodes_in n (finds.Bad fault) = n

theorem : StartsAreNotRejected
theorem nodes (finds.File file) tapes (starts.Own own) (causes.BadFile fault) is why = cc why
theorem nodes (finds.File file) tapes (starts.Own own) (causes.OtherNodes other) is (f, same, of, differs) = differs (sym of ∙ sym (ap (nodes_in 0) same) ∙ is.1)
theorem nodes (finds.File file) tapes (starts.Own own) (causes.SurplusTape i) is why = is.2.none i why.1.beyond why.1.surplus
theorem nodes (finds.File file) tapes (starts.Own own) (causes.MissingTape i) is why = why.3.missing (is.2.all i why.3.within)
theorem nodes (finds.File file) tapes starts.New why is rejected = absurd is
theorem nodes (finds.File file) tapes starts.TakenOver why is rejected = absurd is
theorem nodes finds.Nothing tapes starts.New (causes.BadFile fault) is why = cc why
theorem nodes finds.Nothing tapes starts.New (causes.OtherNodes other) is (f, same, of, differs) = cc same
theorem nodes finds.Nothing tapes starts.New (causes.SurplusTape i) is why = is.1 i why.1.beyond why.1.surplus
theorem nodes finds.Nothing tapes starts.New (causes.MissingTape i) is why = is.0 why.2.0 why.2.1
theorem nodes finds.Nothing tapes starts.TakenOver (causes.BadFile fault) is why = cc why
theorem nodes finds.Nothing tapes starts.TakenOver (causes.OtherNodes other) is (f, same, of, differs) = cc same
theorem nodes finds.Nothing tapes starts.TakenOver (causes.SurplusTape i) is why = is.0.none i why.1.beyond why.1.surplus
theorem nodes finds.Nothing tapes starts.TakenOver (causes.MissingTape i) is why = why.3.missing (is.0.all i why.3.within)
theorem nodes finds.Nothing tapes (starts.Own own) why is rejected = absurd is
theorem nodes (finds.Bad fault) tapes start why is rejected = absurd is

pub returns : goal.returns
returns c = theorem
