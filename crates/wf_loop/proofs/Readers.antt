-- What readers were replied, as the node goes on and more is asked.
use Rattle.std.proofs.Common.{◌≡◌, ℕ, List, [], ◌∷◌, ◌++◌, sym, subst}
use Rattle.std.proofs.Math.Logic.{∥∥₁_map}
use Rattle.wf_def.specs.Definition.{Definition}
use Rattle.wf_peer_connections.specs.Exchanges.{AreRepliedBy, Exchange, HasReplied}
use Rattle.wf_reader.specs.declared.answerer.Answerer.{Answerer}
use Rattle.wf_tape.specs.declared.tape.Tape.{Ghosts as Tape}
use Rattle.wf_voter.proofs.Continuation.{keeps_going}
use Rattle.wf_voter.proofs.Earlier.{its_own}
use Rattle.wf_voter.specs.Continuation.{ContinuesIn, KeepsEarlier, StaysInRun}
use Rattle.wf_voter.specs.Folder.{Stand}
use Rattle.wf_voter.specs.Lived.{HasLived}
use Rattle.wf_voter.specs.Process.{Process}
use Rattle.wf_voter.specs.declared.voter.Voter.{Voter}
use Rattle.wf_loop.specs.Readers.{AreRepliedEarlier, StayReplied}

module _ {T : Type 0} (tapes : Tape T) where
  replied_on : (before after : Process T tapes) → KeepsEarlier tapes before after → (exchanges : List Exchange) → AreRepliedEarlier tapes before exchanges → AreRepliedEarlier tapes after exchanges
  unfolding AreRepliedEarlier
  replied_on before after keeps [] are = tt
  replied_on before after keeps (exchange ∷ exchanges) are =
      (record { past = are.0.past; earlier = keeps are.0.past are.0.earlier; lived = are.0.lived; replied = are.0.replied }, replied_on before after keeps exchanges are.1)

  replied_append : (now : Process T tapes) (first second : List Exchange) → AreRepliedEarlier tapes now first → AreRepliedEarlier tapes now second → AreRepliedEarlier tapes now (first ++ second)
  unfolding AreRepliedEarlier
  replied_append now [] second are more = more
  replied_append now (exchange ∷ first) second are more = (are.0, replied_append now first second are.1 more)

  -- by the list as it is now
  replied_now : (now : Process T tapes) → HasLived tapes now → (own : Answerer) (digests : List (List ℕ)) (exchanges : List Exchange) → AreRepliedBy own now.actor.node.parts.history digests exchanges → AreRepliedEarlier tapes now exchanges
  unfolding AreRepliedEarlier AreRepliedBy
  replied_now now lived own digests [] are = tt
  replied_now now lived own digests (exchange ∷ exchanges) are =
      (record { past = now; earlier = its_own tapes now; lived = lived; replied = record { own = own; digests = digests; replied = are.0 } }, replied_now now lived own digests exchanges are.1)

  pub none_replied : (now : Process T tapes) (exchanges : List Exchange) → exchanges ≡ [] → ∥ AreRepliedEarlier tapes now exchanges ∥₁
  unfolding AreRepliedEarlier
  none_replied now exchanges none = ∣ subst (λ (es : List Exchange). AreRepliedEarlier tapes now es) (sym none) tt ∣₁

  -- nothing was replied meanwhile
  pub replied_kept : (before after : Process T tapes) (exchanges exchanges' : List Exchange) → exchanges' ≡ exchanges → KeepsEarlier tapes before after → StayReplied tapes before after exchanges exchanges'
  replied_kept before after exchanges exchanges' same keeps = λ are.
      ∥∥₁_map are (λ they. subst (λ (es : List Exchange). AreRepliedEarlier tapes after es) (sym same) (replied_on before after keeps exchanges they))

  pub replied_along : (before after : Process T tapes) (exchanges exchanges' : List Exchange) → exchanges' ≡ exchanges → StaysInRun tapes before after → StayReplied tapes before after exchanges exchanges'
  replied_along before after exchanges exchanges' same goes = replied_kept before after exchanges exchanges' same (keeps_going tapes before after goes)

  pub replied_in : (r s : Stand) (one two : Voter T tapes) (exchanges exchanges' : List Exchange) → exchanges' ≡ exchanges → ContinuesIn tapes r one s two → StayReplied tapes one.process two.process exchanges exchanges'
  replied_in r s one two exchanges exchanges' same on = replied_along one.process two.process exchanges exchanges' same on.process

  pub replied_still : (process : Process T tapes) (exchanges exchanges' : List Exchange) → exchanges' ≡ exchanges → StayReplied tapes process process exchanges exchanges'
  replied_still process exchanges exchanges' same = replied_kept process process exchanges exchanges' same (λ past is. is)

  -- more was asked, and replied by the list as it is
  pub replied_more : (process : Process T tapes) → HasLived tapes process → (own : Answerer) (history : List Definition) (digests : List (List ℕ)) (exchanges exchanges' : List Exchange) → history ≡ process.actor.node.parts.history
      → HasReplied own history digests exchanges exchanges' → StayReplied tapes process process exchanges exchanges'
  replied_more process lived own history digests exchanges exchanges' same has = λ are.
      let more : AreRepliedEarlier tapes process has.more = replied_now process lived own digests has.more (subst (λ (h : List Definition). AreRepliedBy own h digests has.more) same has.replied) in
      ∥∥₁_map are (λ they. subst (λ (es : List Exchange). AreRepliedEarlier tapes process es) (sym has.logged) (replied_append process exchanges has.more they more))
