-- Facts that a longer list of messages keeps.
use Rattle.std.proofs.Common.{ℕ, Bool, List, ◌++◌, Option, Some, None}
use Rattle.wf_ballot.specs.Ballot.{Ballot}
use Rattle.wf_model.specs.Message.{Vote, Message, Promise, Accept, Accepted}
use Rattle.wf_model.specs.Chosen.{Reported, Voted, IsChosen}
use Rattle.wf_safety.specs.Theorems.{HasPromised, BestIsReported, IsBacked}
use Rattle.wf_safety.proofs.Members.{member-before}
use Rattle.wf_safety.proofs.Facts.{Stands, IsNext, IsAskedAt}

module _ {V : Type 0} (sent new : List (Message V)) where
  pub Stands-longer : {b : Ballot} → Stands sent b → Stands (sent ++ new) b
  Stands-longer h = record { message = h.message; was_sent = member-before h.message sent new h.was_sent; is_in = h.is_in }

  -- the same majority voted, and its messages are still in the list
  pub IsChosen-longer : {n s : ℕ} {d : V} → IsChosen n sent s d → IsChosen n (sent ++ new) s d
  IsChosen-longer {n} {s} {d} h = record {
    ballot = h.ballot;
    majority = record {
      nodes = h.majority.nodes;
      is_majority = h.majority.is_majority;
      each = λ i is_node is_in. let v : Voted sent s h.ballot d i = h.majority.each i is_node is_in in record {
        stated = member-before (Accepted i s h.ballot) sent new v.stated;
        asked = member-before (Accept s h.ballot d) sent new v.asked;
      };
    };
  }

  pub IsNext-longer : {n s : ℕ} → IsNext n sent s → IsNext n (sent ++ new) s
  IsNext-longer {n} {s} h = record { earlier = λ t from before. let it = h.earlier t from before in (it.0, IsChosen-longer it.1) }

  pub IsAskedAt-longer : {s : ℕ} {b : Ballot} → IsAskedAt sent s b → IsAskedAt (sent ++ new) s b
  IsAskedAt-longer {s} {b} h = record { definition = h.definition; asked = member-before (Accept s b h.definition) sent new h.asked }

  pub Reported-longer : {base s : ℕ} {b : Ballot} {vote : Option (Vote V)} {i : ℕ} → Reported sent base s b vote i → Reported (sent ++ new) base s b vote i
  Reported-longer {base} {s} {b} {vote} {i} h = record { votes = h.votes; stated = member-before (Promise i base b h.votes) sent new h.stated; reported = h.reported }

  pub HasPromised-longer : {base s : ℕ} {b : Ballot} {best : Option (Vote V)} {i : ℕ} → HasPromised sent base s b best i → HasPromised (sent ++ new) base s b best i
  HasPromised-longer h = record { vote = h.vote; stated = Reported-longer h.stated; within = h.within }

  pub BestIsReported-longer : (base s : ℕ) (b : Ballot) (nodes : ℕ → Bool) (best : Option (Vote V)) → BestIsReported sent base s b nodes best →
      BestIsReported (sent ++ new) base s b nodes best
  BestIsReported-longer base s b nodes None h = tt
  BestIsReported-longer base s b nodes (Some vote) h = record { teller = h.teller; is_member = h.is_member; stated = Reported-longer h.stated }

  -- the same majority promised, and reported the same votes
  pub IsBacked-longer : {n s : ℕ} {b : Ballot} {d : V} → IsBacked n sent s b d → IsBacked n (sent ++ new) s b d
  IsBacked-longer {n} {s} {b} {d} h = record {
    base = h.base;
    in_window = h.in_window;
    best = h.best;
    majority = record {
      nodes = h.majority.nodes;
      is_majority = h.majority.is_majority;
      each = λ i is_node is_in. HasPromised-longer (h.majority.each i is_node is_in);
    };
    reports = BestIsReported-longer h.base s b h.majority.nodes h.best h.reports;
    carried = h.carried;
  }
