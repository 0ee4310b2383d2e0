-- Those who are asked before a replacement are others than the process that is replaced.
use Rattle.std.proofs.Common.{◌≡◌, ℕ, zero, suc, ◌<◌, ◌≤◌, List, [], Option, Some, None, slice_get, refl, sym, ap, ◌∙◌, inl, inr, arith}
use Rattle.std.proofs.lemmas.Bool.{cases_lt}
use Rattle.std.proofs.lemmas.Option.{none-some}
use Rattle.wf_codec.specs.declared.message.Message.{Message}
use Rattle.wf_tape.specs.declared.tape.Tape.{Ghosts as Tape}
use Rattle.wf_replacement.specs.Timeline.{ProcessEvent, Rejoins, ProcessState, Down, Up, Lost, node_in, IsPossible, unstarted_process, state_at}
use Rattle.wf_replacement.specs.Rejoining.{IsSilent, WasAsked}
use Rattle.wf_replacement.specs.Theorems.{AskedAreOthers}
use Rattle.wf_replacement.proofs.Courses.{state_other}
use Rattle.wf_replacement.proofs.Growth.{state_next, state_end, was_possible}

-- only a lost process is replaced
lost_before : {T : Type 0} (tapes : Tape T) (n i : ℕ) (sent : List Message) (bytes : List ℕ) (state : ProcessState T) → IsPossible tapes n sent state (Rejoins i bytes) → node_in state ≡ None
lost_before tapes n i sent bytes (Down left) is = absurd is
lost_before tapes n i sent bytes (Up run) is = absurd is
lost_before tapes n i sent bytes Lost is = refl

-- ---- while nothing happens to it, a process stays as it is

module _ {T : Type 0} (events : List (ProcessEvent T)) (since until i : ℕ) (silent : IsSilent events since until i) where
  once : (k : ℕ) (event : Option (ProcessEvent T)) → since ≤ k → k < until → slice_get events k ≡ event → state_at events (suc k) i ≡ state_at events k i
  once k None from to at = ap (λ (s : ℕ → ProcessState T). s i) (state_end events unstarted_process k at)
  once k (Some event) from to at =
      ap (λ (s : ℕ → ProcessState T). s i) (state_next events unstarted_process k event at) ∙ state_other (state_at events k) event i (λ e. silent k event from to at (sym e))

  pub stays : (k m : ℕ) → since ≤ m → m ≤ k → k ≤ until → state_at events k i ≡ state_at events m i
  stays zero m from to within = let same : 0 ≡ m = omega (arith, to) in ap (λ l. state_at events l i) same
  stays (suc k) m from to within = elim (cases_lt m (suc k)) [
    | inl lower ↦ once k (slice_get events k) (omega (arith, from, lower)) (omega (arith, within)) refl ∙ stays k m from (omega (arith, lower)) (omega (arith, within))
    | inr above ↦ let same : suc k ≡ m = omega (arith, to, above) in ap (λ l. state_at events l i) same
  ]

pub asked_are_others : {T : Type 0} (tapes : Tape T) → AskedAreOthers tapes
asked_are_others {T} tapes = λ n events timeline k i bytes at may asked.
    let possible = was_possible tapes n [] unstarted_process events k (Rejoins i bytes) timeline at in
    let was : WasAsked events may.since k may.m i = may.each i possible.is_member asked in
    let still : state_at events k i ≡ state_at events was.moment i = stays events may.since k i may.silent k was.moment was.after was.before (omega arith) in
    none-some was.node (sym (lost_before tapes n i possible.sent bytes (state_at events k i) possible.is) ∙ ap node_in still ∙ was.at)
