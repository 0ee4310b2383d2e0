-- The processes that answered clients were all one process, as it was earlier.
use Rattle.std.proofs.Common.{◌≡◌, ℕ, List, [], ◌∷◌, ◌++◌, refl, sym, subst, append-nil}
use Rattle.std.proofs.Math.Logic.{∥∥₁_map}
use Rattle.wf_actor.specs.declared.process.Process.{Process}
use Rattle.wf_tape.specs.declared.tape.Tape.{Ghosts as Tape}
use Rattle.wf_voter.specs.Answer.{AreAllLater, AreEarlier, StayEarlier}
use Rattle.wf_voter.specs.Continuation.{IsEarlier, KeepsEarlier, StaysInRun}
use Rattle.wf_voter.specs.declared.voter.Voter.{Voter}
use Rattle.wf_voter.proofs.Continuation.{keeps_going}

module _ {T : Type 0} (tapes : Tape T) where
  earlier_on : (before after : Process T tapes) → KeepsEarlier tapes before after → (befores : List (Voter T tapes × ℕ)) → AreEarlier tapes befores before → AreEarlier tapes befores after
  unfolding AreEarlier
  earlier_on before after keeps [] are = tt
  earlier_on before after keeps (one ∷ befores) are = (keeps one.0.process are.0, are.1, earlier_on before after keeps befores are.2)

  later_and : (past : Process T tapes) (befores : List (Voter T tapes × ℕ)) (one : Voter T tapes) → AreAllLater tapes past befores → IsEarlier tapes past one.process → AreAllLater tapes past (befores ++ (one, 0) ∷ [])
  unfolding AreAllLater
  later_and past [] one are is = (is, tt)
  later_and past (first ∷ befores) one are is = (are.0, later_and past befores one are.1 is)

  -- one more, of which these are earlier moments
  earlier_and : (befores : List (Voter T tapes × ℕ)) (one : Voter T tapes) (now : Process T tapes) → AreEarlier tapes befores one.process → KeepsEarlier tapes one.process now → IsEarlier tapes one.process now
      → AreEarlier tapes (befores ++ (one, 0) ∷ []) now
  unfolding AreEarlier AreAllLater
  earlier_and [] one now are keeps is = (is, tt, tt)
  earlier_and (first ∷ befores) one now are keeps is = (keeps first.0.process are.0, later_and first.0.process befores one are.1 are.0, earlier_and befores one now are.2 keeps is)

  pub its_own : (process : Process T tapes) → IsEarlier tapes process process
  its_own process = record {
    since = [];
    ended = sym (append-nil process.ended.items);
    runs = record { number = refl; read_from = refl; stood = ([], append-nil _); given = ([], append-nil _); emitted = ([], append-nil _) };
  }

  pub none_earlier : (befores : List (Voter T tapes × ℕ)) (now : Process T tapes) → befores ≡ [] → ∥ AreEarlier tapes befores now ∥₁
  unfolding AreEarlier
  none_earlier befores now none = ∣ subst (λ (bs : List (Voter T tapes × ℕ)). AreEarlier tapes bs now) (sym none) tt ∣₁

  pub stay_kept : (befores befores' : List (Voter T tapes × ℕ)) (before after : Process T tapes) → befores' ≡ befores → KeepsEarlier tapes before after → StayEarlier tapes befores befores' before after
  stay_kept befores befores' before after same keeps = λ are.
      ∥∥₁_map are (λ they. subst (λ (bs : List (Voter T tapes × ℕ)). AreEarlier tapes bs after) (sym same) (earlier_on before after keeps befores they))

  -- nobody was answered meanwhile
  pub stay_still : (befores befores' : List (Voter T tapes × ℕ)) (before after : Process T tapes) → befores' ≡ befores → StaysInRun tapes before after → StayEarlier tapes befores befores' before after
  stay_still befores befores' before after same goes = stay_kept befores befores' before after same (keeps_going tapes before after goes)

  pub stay_on : (befores : List (Voter T tapes × ℕ)) (before after : Process T tapes) → StaysInRun tapes before after → StayEarlier tapes befores befores before after
  stay_on befores before after goes = stay_still befores befores before after refl goes

  -- one client was answered
  pub stay_answered : (befores befores' : List (Voter T tapes × ℕ)) (before : Voter T tapes) (after : Process T tapes) → befores' ≡ befores ++ (before, 0) ∷ [] → StaysInRun tapes before.process after
      → StayEarlier tapes befores befores' before.process after
  stay_answered befores befores' before after more goes = λ are.
      let keeps : KeepsEarlier tapes before.process after = keeps_going tapes before.process after goes in
      ∥∥₁_map are (λ they.
      subst (λ (bs : List (Voter T tapes × ℕ)). AreEarlier tapes bs after) (sym more)
      (earlier_and befores before after they keeps (keeps before.process (its_own before.process))))
