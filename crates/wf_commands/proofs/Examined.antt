-- The checked prefix of an input has the input's meaning.
use Rattle.std.proofs.Common.{◌≡◌, ◌<◌, ◌∙◌, inl, inr, ℕ, List, false, length, take, nat_le, ap, sym, arith, refl}
use Rattle.std.specs.Prelude.{Option, Some, None, IfSome}
use Rattle.std.proofs.lemmas.List.{take_all, length-take-le}
use Rattle.std.proofs.lemmas.Bool.{cases_order}
use Rattle.std.proofs.lemmas.Bool.Decides.{nat_tests}
use Rattle.wf_def.specs.Definition.{Definition}
use Rattle.wf_mapfile.specs.Meaning.{meaning, Means, MeansNothing, longest_mapfile}
use Rattle.wf_commands.specs.Run.{most_input_bytes, examined, IsMapFault, IsReadingFault, OfInput}
use Rattle.wf_commands.specs.declared.fault.RunFault.{RunFault}
use Rattle.wf_commands.specs.declared.fault.RunFault.TheVariants as faults

-- bytes over the longest mapfile mean nothing
too_long : (bytes : List ℕ) → longest_mapfile < length bytes → meaning bytes ≡ None
unfolding meaning
too_long bytes long =
    let test : nat_le (length bytes) longest_mapfile ≡ false = grind (arith, nat_tests) in
    rw test refl

-- a prefix that is longer than the longest mapfile, or the whole input, has the input's meaning
pub cut_meaning : (most : ℕ) (input : List ℕ) → longest_mapfile < most → meaning (take most input) ≡ meaning input
cut_meaning most input long =
    elim (cases_order (length input) most) [
      | inl same ↦ ap meaning (take_all most input (omega arith))
      | inr apart ↦ elim apart [
        | inl shorter ↦ ap meaning (take_all most input (omega arith))
        | inr longer ↦
            let cut : length (take most input) ≡ most = length-take-le most input (omega arith) in
            too_long (take most input) (omega arith) ∙ sym (too_long input (omega arith))
      ]
    ]

examined_meaning : (input : List ℕ) → meaning (examined input) ≡ meaning input
examined_meaning input = cut_meaning most_input_bytes input (omega arith)

pub means_known : (known : Option (List ℕ)) (bytes : List ℕ) (d : Definition) → IfSome known (λ input. bytes ≡ examined input)
    → Means bytes d → OfInput (λ text. Means text d) known
means_known None bytes d is means = record { text = bytes; is = tt; has = means }
means_known (Some input) bytes d is means = record { text = input; is = refl; has = sym (examined_meaning input) ∙ ap meaning (sym is) ∙ means }

nothing_known : (known : Option (List ℕ)) (bytes : List ℕ) → IfSome known (λ input. bytes ≡ examined input)
    → MeansNothing bytes → OfInput MeansNothing known
nothing_known None bytes is nothing = record { text = bytes; is = tt; has = nothing }
nothing_known (Some input) bytes is nothing = record { text = input; is = refl; has = λ d means. nothing d (ap meaning is ∙ examined_meaning input ∙ means) }

pub fault_known : (known : Option (List ℕ)) (bytes : List ℕ) (fault : RunFault) → IfSome known (λ input. bytes ≡ examined input)
    → IsMapFault bytes fault → IsReadingFault known fault
fault_known known bytes (faults.Map fault) is why = λ not_memory. nothing_known known bytes is (why not_memory)
fault_known known bytes (faults.Canon fault) is why = absurd why
fault_known known bytes (faults.Script fault) is why = absurd why
fault_known known bytes (faults.Tape fault) is why = absurd why
fault_known known bytes faults.Read is why = absurd why
fault_known known bytes faults.Write is why = absurd why
fault_known known bytes faults.Serve is why = absurd why
fault_known known bytes faults.Wire is why = absurd why
