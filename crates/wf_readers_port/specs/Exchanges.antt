-- What readers asked and what they were replied.
use Rattle.std.specs.Prelude.{◌≡◌, ◌⊎◌, ℕ, ⊤, List, [], ◌∷◌, ◌++◌, Vec, length}
use Rattle.std.specs.declared.alloc.Global.{Global}
use Rattle.wf_def.specs.Definition.{Definition}
use Rattle.wf_reader.specs.Question.{question_length}
use Rattle.wf_reader.specs.declared.answerer.Answerer.{Answerer}
use Rattle.wf_readers_port.specs.QuestionReplies.{RepliesTo}

-- the bytes of a question, and those of its reply
abbrev pub Exchange : Type 0
Exchange = Vec ℕ Global × Vec ℕ Global

-- the bytes of the questions, one after the other
unfoldable pub questions_of : List Exchange → List ℕ
questions_of [] = []
questions_of (exchange ∷ exchanges) = exchange.0.items ++ questions_of exchanges

-- the bytes of the replies, one after the other
unfoldable pub replies_of : List Exchange → List ℕ
replies_of [] = []
replies_of (exchange ∷ exchanges) = exchange.1.items ++ replies_of exchanges

-- this exchange is one of those
unfoldable pub HasExchange : List Exchange → Exchange → Type 0
HasExchange [] exchange = ⊥
HasExchange (one ∷ exchanges) exchange = (one ≡ exchange) ⊎ HasExchange exchanges exchange

-- each of some exchanges is one of all
unfoldable pub AreExchangesOf : List Exchange → List Exchange → Type 0
AreExchangesOf all [] = ⊤
AreExchangesOf all (exchange ∷ exchanges) = ∥ HasExchange all exchange ∥₁ × AreExchangesOf all exchanges

-- one whole question, with its reply by that history and these digests
pub record IsRepliedBy (own : Answerer) (history : List Definition) (digests : List (List ℕ)) (exchange : Exchange) : Type 0 where
  pub whole : length exchange.0.items ≡ question_length
  pub reply : RepliesTo own history digests exchange.0.items [] exchange.1.items

-- so is each
unfoldable pub AreRepliedBy : Answerer → List Definition → List (List ℕ) → List Exchange → Type 0
AreRepliedBy own history digests [] = ⊤
AreRepliedBy own history digests (exchange ∷ exchanges) = IsRepliedBy own history digests exchange × AreRepliedBy own history digests exchanges

-- so by whoever had that history
pub record IsRepliedFrom (history : List Definition) (exchange : Exchange) : Type 0 where
  pub own : Answerer
  pub digests : List (List ℕ)
  pub replied : IsRepliedBy own history digests exchange

-- Some exchanges came behind those before, each a question with its reply.
pub record HasReplied (own : Answerer) (history : List Definition) (digests : List (List ℕ)) (before after : List Exchange) : Type 0 where
  pub more : List Exchange
  pub logged : after ≡ before ++ more
  pub replied : AreRepliedBy own history digests more

-- So of a reader's exchanges and of all, which were the same.
pub record HasConversed (own : Answerer) (history : List Definition) (digests : List (List ℕ)) (asked all asked_after all_after : List Exchange) : Type 0 where
  pub more : List Exchange
  pub asked_more : asked_after ≡ asked ++ more
  pub logged : all_after ≡ all ++ more
  pub replied : AreRepliedBy own history digests more
