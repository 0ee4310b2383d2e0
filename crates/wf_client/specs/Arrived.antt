-- What a reader of what has come shows: the bytes still to be read, whether the client has closed
-- its side, and the number of failed calls.
use Rattle.std.specs.Prelude.{◌≡◌, ◌<◌, ℕ, Bool, List, [], false, length}
use Rattle.wf_client.specs.declared.arrived.Arrived.{Arrived}

abbrev pub rest_of : Arrived → List ℕ
rest_of a = a.rest.now

abbrev pub is_closed_of : Arrived → Bool
is_closed_of a = a.is_closed

abbrev pub failures_of : Arrived → ℕ
failures_of a = a.failures

-- all that has come is read, more may come, and a byte was asked for
abbrev pub MayComeMore : List ℕ → Bool → List ℕ → Type 0
MayComeMore rest is_closed buf = (rest ≡ []) × (is_closed ≡ false) × (0 < length buf)
