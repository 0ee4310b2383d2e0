-- The contract of functions that read tokens, relative to the tokens' meaning.
use Rattle.std.specs.Prelude.{◌≡◌, Bool, true, false, Option, Some, None, Result, Ok, Err, MatchResult, ⊤}
use Rattle.wf_block.specs.declared.fault.MapFault.{MapFault}
use Rattle.wf_block.specs.declared.fault.MapFault.TheVariants as faults

-- allocation failed, which says nothing about the tokens
abbrev pub is_memory : MapFault → Bool
is_memory faults.Memory = true
is_memory _ = false

-- the bytes were rejected because they aren't UTF-8
abbrev pub IsNotUtf8 : {X : Type 0} → Result X MapFault → Type 0
IsNotUtf8 (Err (faults.NotUtf8 byte_offset)) = ⊤
IsNotUtf8 _ = ⊥

-- the test is true, or it is false and the error isn't an allocation failure
abbrev pub Passes : {X : Type 0} → Bool → Result X MapFault → Type 0
Passes test result = MatchResult result (λ _. test ≡ true) (λ e. (test ≡ false) × (is_memory e ≡ false))

-- A returned value, mapped by view, is what the tokens mean; an error other than Memory is returned
-- only if they mean nothing.
abbrev pub Gives : {X Y : Type 0} → (X → Y) → Result X MapFault → Option Y → Type 0
Gives view (Ok x) meant = meant ≡ Some (view x)
Gives view (Err e) meant = is_memory e ≡ false → meant ≡ None
