-- Which bytes a read or a write moved.
use Rattle.std.specs.Prelude.{ℕ, ◌<◌, ◌≤◌, List, [], take}
use Rattle.wf_sockets.specs.declared.moved.Moved.{Moved}
use Rattle.wf_sockets.specs.declared.moved.Moved.TheVariants.{Bytes, Blocked, Closed, Failed}

-- the bytes that were moved: so many of those at the front
abbrev pub moved : Moved → List ℕ → List ℕ
moved (Bytes count) bytes = take count bytes
moved Blocked bytes = []
moved Closed bytes = []
moved Failed bytes = []

-- at least one byte, and at most so many, if any
abbrev pub IsWithin : ℕ → Moved → Type 0
IsWithin most (Bytes count) = (0 < count) × (count ≤ most)
IsWithin most Blocked = Unit {0}
IsWithin most Closed = Unit {0}
IsWithin most Failed = Unit {0}

-- no bytes
abbrev pub IsNone : Moved → Type 0
IsNone (Bytes count) = ⊥
IsNone Blocked = Unit {0}
IsNone Closed = Unit {0}
IsNone Failed = Unit {0}
