-- What was read is the whole input.
use Rattle.std.proofs.Common.{◌≡◌, ◌∙◌, ◌+◌, ◌<◌, ◌≤◌, ℕ, List, length, take, min, true, false, sym, ap, subst, arith}
use Rattle.std.specs.Io.KnownBytes.{IsAtEnd}
use Rattle.std.specs.Prelude.{Option, Some, None, Result, Ok, Err, IfErr, IfSome}
use Rattle.std.proofs.lemmas.List.{length-take, take_all}
use Rattle.wf_play.specs.Fault.{IsPlayInputFault, IsPlayingFault}
use Rattle.wf_script.specs.Fault.{IsScriptMemory, is_memory}
use Rattle.wf_script.specs.Lines.{examined, line_feeds, most_lines, most_script_bytes}
use Rattle.wf_play.specs.ScriptRun.{IsFaultOf, IsStepRejectionOf, IsScriptText, ReadsWhole}
use Rattle.wf_script.specs.Script.{Script}
use Rattle.wf_script.specs.Text.{ExaminedAlike, script_of}
use Rattle.wf_script.specs.declared.fault.ScriptFault.{ScriptFault}
use Rattle.wf_play.specs.declared.fault.PlayFault.{PlayFault}
use Rattle.wf_play.specs.declared.fault.PlayFault.TheVariants as play

-- a beginning that is shorter than it could be is all
short_is_whole : (known bytes : List ℕ) (limit most : ℕ) → most < limit → bytes ≡ take limit known → length bytes ≤ most → bytes ≡ known
short_is_whole known bytes limit most below is short =
    let long : length bytes ≡ min limit (length known) = ap length is ∙ length-take limit known in
    is ∙ take_all limit known (omega arith)

-- So its meaning, and the limits that it is within, are those of the whole input.
pub whole_input : (left : Option (List ℕ)) (bytes : List ℕ) (script : Script) → IfSome left (λ known. bytes ≡ examined known) → length bytes ≤ most_script_bytes
    → line_feeds bytes ≤ most_lines → script_of bytes ≡ Ok script → IfSome left IsScriptText
whole_input None bytes script first short lines means = tt
whole_input (Some known) bytes script first short lines means =
    subst IsScriptText (short_is_whole known bytes (most_script_bytes + 1) most_script_bytes (omega arith) first short) (record { script = script; means = means; bytes = short; lines = lines })

pub whole_meaning : ExaminedAlike → (left : Option (List ℕ)) (bytes : List ℕ) (script : Script) → IfSome left (λ known. bytes ≡ examined known) → script_of bytes ≡ Ok script
    → IfSome left (λ text. script_of text ≡ Ok script)
whole_meaning alike None bytes script first means = tt
whole_meaning alike (Some known) bytes script first means = sym (alike known) ∙ sym (ap script_of first) ∙ means

-- the error of a beginning is the error of the input
pub whole_fault : ExaminedAlike → (left : Option (List ℕ)) (bytes : List ℕ) (fault : ScriptFault) → IfSome left (λ known. bytes ≡ examined known) → (is_memory fault ≡ false → script_of bytes ≡ Err fault)
    → IsFaultOf left fault
whole_fault alike None bytes fault first why = λ isnt. tt
whole_fault alike (Some known) bytes fault first why = λ isnt. sym (alike known) ∙ sym (ap script_of first) ∙ why isnt

memory_is_none : (left : Option (List ℕ)) (fault : ScriptFault) → IsScriptMemory fault → IsFaultOf left fault
memory_is_none left fault is = λ isnt. let clash : true ≡ false = sym is ∙ isnt in cc

pub no_input : (left : Option (List ℕ)) (fault : PlayFault) → IsPlayInputFault fault → IsStepRejectionOf left fault
no_input left (play.Script fault) why = memory_is_none left fault why
no_input left play.Read why = tt
no_input left play.Write why = why
no_input left play.Wire why = why

-- once the script was read, however the play ends
pub ends_whole : (input left : Option (List ℕ)) (result : Result (Unit {0}) PlayFault) → IfErr result IsPlayingFault → IfSome input IsScriptText → IsAtEnd left → ReadsWhole input left result
ends_whole input left (Ok done) why whole end = (whole, end)
ends_whole input left (Err play.Write) why whole end = (whole, end)
ends_whole input left (Err play.Wire) why whole end = (whole, end)
ends_whole input left (Err (play.Script fault)) why whole end = memory_is_none input fault why
ends_whole input left (Err play.Read) why whole end = tt

-- without a script no write fails
pub no_script_ends : (input left : Option (List ℕ)) (fault : PlayFault) → IsStepRejectionOf input fault → ReadsWhole input left (Err fault)
no_script_ends input left (play.Script fault) why = why
no_script_ends input left play.Read why = tt
no_script_ends input left play.Write why = absurd why
no_script_ends input left play.Wire why = absurd why
