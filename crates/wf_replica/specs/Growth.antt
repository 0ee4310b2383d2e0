-- A list goes on from step to step.
use Rattle.std.proofs.Common.{◌≡◌, ◌∙◌, List, [], ◌++◌, sym, ap, append_assoc, append-nil}
use Rattle.wf_def.specs.Definition.{Definition}
use Rattle.wf_safety.specs.Theorems.{IsBeginning}
use Rattle.wf_replica.specs.Follower.{Grows, list_of}
use Rattle.wf_replica.specs.declared.follower.Follower.{Follower}
use Rattle.wf_tape.specs.declared.tape.Tape.{Ghosts as Tape}

pub begins_itself : (list : List Definition) → IsBeginning list list
begins_itself list = ([], append-nil list)

pub begins_on : (a b c : List Definition) → IsBeginning a b → IsBeginning b c → IsBeginning a c
begins_on a b c first second = (first.0 ++ second.0, sym (append_assoc a first.0 second.0) ∙ ap (λ (l : List Definition). l ++ second.0) first.1 ∙ second.1)

module _ {T : Type 0} {tapes : Tape T} where
  pub grown_none : (a : Follower T tapes) → Grows a a
  grown_none a = record { begins = begins_itself (list_of a) }

  pub grown_same : (a b : Follower T tapes) → list_of b ≡ list_of a → Grows a b
  grown_same a b same = record { begins = ([], append-nil (list_of a) ∙ sym same) }

  pub grown_twice : (a b c : Follower T tapes) → Grows a b → Grows b c → Grows a c
  grown_twice a b c first second = record { begins = begins_on (list_of a) (list_of b) (list_of c) first.begins second.begins }

  -- what was learned goes on from what was there
  pub grown_by : (a b : Follower T tapes) (more : List Definition) → list_of b ≡ list_of a ++ more → Grows a b
  grown_by a b more is = record { begins = (more, sym is) }
