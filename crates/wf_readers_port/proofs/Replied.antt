-- The readers in slots, as slots change and more is asked.
use Rattle.std.proofs.Common.{◌≡◌, ℕ, suc, zero, List, [], ◌∷◌, ◌++◌, Option, Some, None, slice_index_or, slice_set, refl, sym, ap, subst, ◌∙◌, inl, inr}
use Rattle.std.proofs.Math.Logic.{∥∥₁_map}
use Rattle.std.proofs.lemmas.List.{append-nil}
use Rattle.wf_def.specs.Definition.{Definition}
use Rattle.wf_reader.specs.declared.answerer.Answerer.{Answerer}
use Rattle.wf_sockets.specs.declared.connection.Connection.{Ghosts as Connection}
use Rattle.wf_readers_port.specs.Exchanges.{AreExchangesOf, AreRepliedBy, Exchange, HasConversed, HasExchange, HasReplied}
use Rattle.wf_readers_port.specs.Readers.{AreReplied, IsReplied}
use Rattle.wf_readers_port.specs.declared.reader.Reader.{Reader}

-- ---- exchanges among others

has_before : (first second : List Exchange) (exchange : Exchange) → HasExchange first exchange → HasExchange (first ++ second) exchange
unfolding HasExchange
has_before [] second exchange has = absurd has
has_before (one ∷ first) second exchange (inl is) = inl is
has_before (one ∷ first) second exchange (inr has) = inr (has_before first second exchange has)

has_behind : (first second : List Exchange) (exchange : Exchange) → HasExchange second exchange → HasExchange (first ++ second) exchange
unfolding HasExchange
has_behind [] second exchange has = has
has_behind (one ∷ first) second exchange has = inr (has_behind first second exchange has)

among_before : (first second exchanges : List Exchange) → AreExchangesOf first exchanges → AreExchangesOf (first ++ second) exchanges
unfolding AreExchangesOf
among_before first second [] are = tt
among_before first second (exchange ∷ exchanges) are = (∥∥₁_map are.0 (λ has. has_before first second exchange has), among_before first second exchanges are.1)

among_behind : (first second exchanges : List Exchange) → AreExchangesOf second exchanges → AreExchangesOf (first ++ second) exchanges
unfolding AreExchangesOf
among_behind first second [] are = tt
among_behind first second (exchange ∷ exchanges) are = (∥∥₁_map are.0 (λ has. has_behind first second exchange has), among_behind first second exchanges are.1)

among_itself : (exchanges : List Exchange) → AreExchangesOf exchanges exchanges
unfolding AreExchangesOf HasExchange
among_itself [] = tt
among_itself (exchange ∷ exchanges) = (∣ inl refl ∣₁, among_behind (exchange ∷ []) exchanges exchanges (among_itself exchanges))

among_append : (all first second : List Exchange) → AreExchangesOf all first → AreExchangesOf all second → AreExchangesOf all (first ++ second)
unfolding AreExchangesOf
among_append all [] second are more = more
among_append all (exchange ∷ first) second are more = (are.0, among_append all first second are.1 more)

pub among_none : (all exchanges : List Exchange) → exchanges ≡ [] → AreExchangesOf all exchanges
unfolding AreExchangesOf
among_none all exchanges none = subst (λ (s : List Exchange). AreExchangesOf all s) (sym none) tt

-- a reader asked more
pub among_along : (own : Answerer) (history : List Definition) (digests : List (List ℕ)) (asked all asked' all' : List Exchange) → HasConversed own history digests asked all asked' all' → AreExchangesOf all asked → AreExchangesOf all' asked'
among_along own history digests asked all asked' all' conversed are =
    subst (λ (s : List Exchange). AreExchangesOf s asked') (sym conversed.logged)
    (subst (λ (s : List Exchange). AreExchangesOf (all ++ conversed.more) s) (sym conversed.asked_more)
    (among_append (all ++ conversed.more) asked conversed.more (among_before all conversed.more asked are)
    (among_behind all conversed.more conversed.more (among_itself conversed.more))))

pub has_replied : (own : Answerer) (history : List Definition) (digests : List (List ℕ)) (asked all asked' all' : List Exchange) → HasConversed own history digests asked all asked' all' → HasReplied own history digests all all'
has_replied own history digests asked all asked' all' conversed = record { more = conversed.more; logged = conversed.logged; replied = conversed.replied }

pub none_replied_to : (own : Answerer) (history : List Definition) (digests : List (List ℕ)) (before after : List Exchange) → after ≡ before → HasReplied own history digests before after
unfolding AreRepliedBy
none_replied_to own history digests before after same = record { more = []; logged = same ∙ sym (append-nil before); replied = tt }

pub has_replied_between : (own : Answerer) (history : List Definition) (digests : List (List ℕ)) (before before' after' after : List Exchange)
    → before' ≡ before → after ≡ after' → HasReplied own history digests before' after' → HasReplied own history digests before after
has_replied_between own history digests before before' after' after first last replied = record {
  more = replied.more;
  logged = last ∙ replied.logged ∙ ap (λ (s : List Exchange). s ++ replied.more) first;
  replied = replied.replied;
}

-- ---- slots

module _ {C : Type 0} (connections : Connection C) where
  pub none_replied : (all : List Exchange) → AreReplied connections all []
  unfolding AreReplied
  none_replied all = tt

  pub one_more_free : (all : List Exchange) (slots : List (Option (Reader C connections))) → AreReplied connections all slots → AreReplied connections all (slots ++ None ∷ [])
  unfolding AreReplied
  one_more_free all [] are = tt
  one_more_free all (None ∷ slots) are = one_more_free all slots are
  one_more_free all (Some reader ∷ slots) are = (are.0, one_more_free all slots are.1)

  without : (all : List Exchange) (slots : List (Option (Reader C connections))) (i : ℕ) → AreReplied connections all slots → AreReplied connections all (slice_set slots i None)
  unfolding AreReplied
  without all [] i are = tt
  without all (None ∷ slots) zero are = are
  without all (Some reader ∷ slots) zero are = are.1
  without all (None ∷ slots) (suc i) are = without all slots i are
  without all (Some reader ∷ slots) (suc i) are = (are.0, without all slots i are.1)

  with_one : (all : List Exchange) (slots : List (Option (Reader C connections))) (i : ℕ) (reader : Reader C connections) → IsReplied connections all reader → AreReplied connections all slots → AreReplied connections all (slice_set slots i (Some reader))
  unfolding AreReplied
  with_one all [] i reader is are = tt
  with_one all (None ∷ slots) zero reader is are = (is, are)
  with_one all (Some other ∷ slots) zero reader is are = (is, are.1)
  with_one all (None ∷ slots) (suc i) reader is are = with_one all slots i reader is are
  with_one all (Some other ∷ slots) (suc i) reader is are = (are.0, with_one all slots i reader is are.1)

  read_at : (all : List Exchange) (slots : List (Option (Reader C connections))) (i : ℕ) → AreReplied connections all slots → AreReplied connections all (slice_index_or slots i None ∷ [])
  unfolding AreReplied
  read_at all [] i are = tt
  read_at all (None ∷ slots) zero are = tt
  read_at all (Some reader ∷ slots) zero are = (are.0, tt)
  read_at all (None ∷ slots) (suc i) are = read_at all slots i are
  read_at all (Some reader ∷ slots) (suc i) are = read_at all slots i are.1

  -- a reader is taken out of a slot
  pub left_at : (all : List Exchange) (slots slots' : List (Option (Reader C connections))) (i : ℕ) → slots' ≡ slice_set slots i None → AreReplied connections all slots → AreReplied connections all slots'
  left_at all slots slots' i is are = subst (λ (s : List (Option (Reader C connections))). AreReplied connections all s) (sym is) (without all slots i are)

  pub taken_at : (all : List Exchange) (slots : List (Option (Reader C connections))) (i : ℕ) (reader : Reader C connections) → Some reader ≡ slice_index_or slots i None → AreReplied connections all slots → AreExchangesOf all reader.exchanges.items
  unfolding AreReplied
  taken_at all slots i reader is are =
      let one : AreReplied connections all (Some reader ∷ []) = subst (λ (x : Option (Reader C connections)). AreReplied connections all (x ∷ [])) (sym is) (read_at all slots i are) in
      one.0.logged

  -- a reader is put into a slot
  pub put_at : (all : List Exchange) (slots slots' : List (Option (Reader C connections))) (i : ℕ) (reader : Reader C connections) → slots' ≡ slice_set slots i (Some reader) → AreReplied connections all slots
      → AreExchangesOf all reader.exchanges.items → AreReplied connections all slots'
  put_at all slots slots' i reader is are among = subst (λ (s : List (Option (Reader C connections))). AreReplied connections all s) (sym is)
      (with_one all slots i reader (record { asked = reader.asked; replied = reader.replied; logged = among }) are)

  -- more is asked
  more_replied : (all more : List Exchange) (slots : List (Option (Reader C connections))) → AreReplied connections all slots → AreReplied connections (all ++ more) slots
  unfolding AreReplied
  more_replied all more [] are = tt
  more_replied all more (None ∷ slots) are = more_replied all more slots are
  more_replied all more (Some reader ∷ slots) are =
      (record { asked = are.0.asked; replied = are.0.replied; logged = among_before all more reader.exchanges.items are.0.logged }, more_replied all more slots are.1)

  pub replied_along : (own : Answerer) (history : List Definition) (digests : List (List ℕ)) (asked all asked' all' : List Exchange) (slots : List (Option (Reader C connections)))
      → HasConversed own history digests asked all asked' all' → AreReplied connections all slots → AreReplied connections all' slots
  replied_along own history digests asked all asked' all' slots conversed are = subst (λ (s : List Exchange). AreReplied connections s slots) (sym conversed.logged) (more_replied all conversed.more slots are)
