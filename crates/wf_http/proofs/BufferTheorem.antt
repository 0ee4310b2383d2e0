-- Appending to bytes, if there is room.
use Rattle.std.proofs.Common.{◌≡◌, ◌∙◌, ◌+◌, ◌≤◌, ◌↔◌, ℕ, List, ◌++◌, length, ap, subst}
use Rattle.std.specs.Prelude.{Result, Ok, OnOk, IsOk}
use Rattle.std.proofs.lemmas.List.{length-append}

-- bytes for which there is room are appended completely
pub has_room : {T E : Type 0} (result : Result T E) (used more limit : ℕ) → (IsOk result ↔ used + more ≤ limit) → used + more ≤ limit → IsOk result
has_room result used more limit fits room = fits.1 room

pub is_put : {T E : Type 0} (result : Result T E) (value : T) (P : Type 0) → result ≡ Ok value → OnOk result P → P
is_put result value P is put = subst (λ r. OnOk r P) is put

-- the length of the whole then
pub longer : (bytes more whole : List ℕ) → whole ≡ bytes ++ more → length whole ≡ length bytes + length more
longer bytes more whole is = ap length is ∙ length-append bytes more
