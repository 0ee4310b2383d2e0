-- What a function that reads a part of a script returns, against what that part means.
use Rattle.std.specs.Prelude.{◌≡◌, ℕ, Bool, true, false, Result, Ok, Err}
use Rattle.wf_script.specs.declared.fault.Wrong.{Wrong}
use Rattle.wf_script.specs.declared.fault.Wrong.TheVariants as wrongs
use Rattle.wf_script.specs.declared.fault.ScriptFault.{ScriptFault}
use Rattle.wf_script.specs.Fault.{fault_of, is_memory}

-- the next part is read where there is no error so far
infixl 10 ◌>>=◌
abbrev pub ◌>>=◌ : {A B E : Type 0} → Result A E → (A → Result B E) → Result B E
(Ok x) >>= next = next x
(Err e) >>= next = Err e

-- the error of the line of this number, as the error of the script
abbrev pub at_line : {A : Type 0} → ℕ → Result A Wrong → Result A ScriptFault
at_line n (Ok x) = Ok x
at_line n (Err wrong) = Err (fault_of wrong n)

-- an allocation failed, which depends on nothing in the text
abbrev pub wants_memory : Wrong → Bool
wants_memory wrongs.Memory = true
wants_memory wrongs.BadLine = false
wants_memory wrongs.OverLimit = false
wants_memory wrongs.BadMap = false

-- After Ok the value, seen by `view`, is what is meant; an error other than allocation failure is
-- the one that is meant.
abbrev pub Gives : {X Y : Type 0} → (X → Y) → Result X Wrong → Result Y Wrong → Type 0
Gives view (Ok x) meant = meant ≡ Ok (view x)
Gives view (Err wrong) meant = wants_memory wrong ≡ false → meant ≡ Err wrong

-- the same of an error of the script, with its line
abbrev pub ReportsWithLine : {X Y : Type 0} → (X → Y) → Result X ScriptFault → Result Y ScriptFault → Type 0
ReportsWithLine view (Ok x) meant = meant ≡ Ok (view x)
ReportsWithLine view (Err fault) meant = is_memory fault ≡ false → meant ≡ Err fault

-- After Ok what is meant from here on is what is meant from there on; an error other than
-- allocation failure is the one that is meant, at the line of this number.
abbrev pub ReadsFurther : {X Y : Type 0} → ℕ → Result X Wrong → Result Y ScriptFault → Result Y ScriptFault → Type 0
ReadsFurther n (Ok x) here there = here ≡ there
ReadsFurther n (Err wrong) here there = wants_memory wrong ≡ false → here ≡ Err (fault_of wrong n)
