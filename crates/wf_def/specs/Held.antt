-- The members of a list, however they are held.
use Rattle.std.specs.Prelude.{List, []}
use Rattle.wf_def.specs.declared.held.Held.{Held}
use Rattle.wf_def.specs.declared.held.Held.TheVariants.{Nothing, One, Many}

-- the members in order
abbrev pub held_members : {T : Type 0} → Held T → List T
held_members Nothing = []
held_members (One single) = single
held_members (Many members) = members.items
