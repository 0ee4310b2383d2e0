-- What readers were replied, as the replica's list goes on and more is asked.
use Rattle.std.proofs.Common.{◌≡◌, ◌∙◌, List, [], ◌∷◌, ◌++◌, ℕ, sym, subst, ap, append-nil}
use Rattle.std.proofs.Math.Logic.{∥∥₁_map}
use Rattle.wf_def.specs.Definition.{Definition}
use Rattle.wf_reader.specs.declared.answerer.Answerer.{Answerer}
use Rattle.wf_readers_port.specs.Exchanges.{AreRepliedBy, Exchange, HasReplied}
use Rattle.wf_replica.specs.Follower.{HasLearnedNothing, list_of}
use Rattle.wf_replica.specs.Growth.{begins_on}
use Rattle.wf_replica_command.specs.Heard.{Hears}
use Rattle.wf_replica_command.specs.Readers.{AreRepliedByBeginnings, GoOnReplied}
use Rattle.wf_replica_command.specs.declared.renderer.Renderer.{Renderer}
use Rattle.wf_replica_command.specs.declared.upstream.Upstream.{Upstream}
use Rattle.wf_safety.specs.Theorems.{IsBeginning}
use Rattle.wf_sockets.specs.declared.connection.Connection.{Ghosts as Connection}
use Rattle.wf_tape.specs.declared.tape.Tape.{Ghosts as Tape}

replied_on : (list list' : List Definition) → IsBeginning list list' → (exchanges : List Exchange) → AreRepliedByBeginnings list exchanges → AreRepliedByBeginnings list' exchanges
unfolding AreRepliedByBeginnings
replied_on list list' begins [] are = tt
replied_on list list' begins (exchange ∷ exchanges) are =
    (record { earlier = are.0.earlier; begins = begins_on are.0.earlier list list' are.0.begins begins; replied = are.0.replied }, replied_on list list' begins exchanges are.1)

replied_append : (list : List Definition) (first second : List Exchange) → AreRepliedByBeginnings list first → AreRepliedByBeginnings list second → AreRepliedByBeginnings list (first ++ second)
unfolding AreRepliedByBeginnings
replied_append list [] second are more = more
replied_append list (exchange ∷ first) second are more = (are.0, replied_append list first second are.1 more)

-- by the list as it is now
replied_now : (own : Answerer) (list : List Definition) (digests : List (List ℕ)) (exchanges : List Exchange) → AreRepliedBy own list digests exchanges → AreRepliedByBeginnings list exchanges
unfolding AreRepliedByBeginnings AreRepliedBy
replied_now own list digests [] are = tt
replied_now own list digests (exchange ∷ exchanges) are =
    (record { earlier = list; begins = ([], append-nil list); replied = record { own = own; digests = digests; replied = are.0 } }, replied_now own list digests exchanges are.1)

pub none_replied : (list : List Definition) (exchanges : List Exchange) → exchanges ≡ [] → ∥ AreRepliedByBeginnings list exchanges ∥₁
unfolding AreRepliedByBeginnings
none_replied list exchanges none = ∣ subst (λ (es : List Exchange). AreRepliedByBeginnings list es) (sym none) tt ∣₁

-- nothing was replied meanwhile
pub replied_still : (list : List Definition) (exchanges exchanges' : List Exchange) → exchanges' ≡ exchanges → GoOnReplied list list exchanges exchanges'
replied_still list exchanges exchanges' same = λ are. subst (λ (es : List Exchange). ∥ AreRepliedByBeginnings list es ∥₁) (sym same) are

-- more was asked, and replied by the list
pub replied_more : (own : Answerer) (history list : List Definition) (digests : List (List ℕ)) (exchanges exchanges' : List Exchange) → history ≡ list → HasReplied own history digests exchanges exchanges' → GoOnReplied list list exchanges exchanges'
replied_more own history list digests exchanges exchanges' same has = λ are.
    let more : AreRepliedBy own list digests has.more = subst (λ (h : List Definition). AreRepliedBy own h digests has.more) same has.replied in
    ∥∥₁_map are (λ they. subst (λ (es : List Exchange). AreRepliedByBeginnings list es) (sym has.logged) (replied_append list exchanges has.more they (replied_now own list digests has.more more)))

-- a turn: the list goes on by what is heard, readers are replied, and clients answered
module _ {T N C L : Type 0} {tapes : Tape T} {connections : Connection C} where
  pub turn_replied : (first second : Upstream N C L connections) (a b c d e : Renderer T tapes) (exchanges exchanges' exchanges'' : List Exchange) → Hears first a.follower second b.follower
      → c ≡ b → GoOnReplied (list_of b.follower) (list_of b.follower) exchanges exchanges' → HasLearnedNothing c.follower d.follower → e ≡ d → exchanges'' ≡ exchanges' → GoOnReplied (list_of a.follower) (list_of e.follower) exchanges exchanges''
  turn_replied first second a b c d e exchanges exchanges' exchanges'' heard same replied served kept last = λ are.
      let grown : ∥ AreRepliedByBeginnings (list_of b.follower) exchanges ∥₁ = ∥∥₁_map are (replied_on (list_of a.follower) (list_of b.follower) heard.goes_on.grows.begins exchanges) in
      let lists : list_of e.follower ≡ list_of b.follower = ap (λ (r : Renderer T tapes). list_of r.follower) kept ∙ served.list ∙ ap (λ (r : Renderer T tapes). list_of r.follower) same in
      subst (λ (es : List Exchange). ∥ AreRepliedByBeginnings (list_of e.follower) es ∥₁) (sym last)
      (subst (λ (l : List Definition). ∥ AreRepliedByBeginnings l exchanges' ∥₁) (sym lists) (replied grown))
