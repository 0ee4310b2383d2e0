-- What was heard of each node stays heard.
use Rattle.std.proofs.Common.{ℕ, suc, ◌≡◌, ◌≢◌, ◌<◌, ◌≤◌, List, length, inl, inr, refl, subst, sym, arith, get_or-set_other, get_or-set_same}
use Rattle.std.specs.Prelude.{Option, Some, None, slice_set}
use Rattle.std.proofs.lemmas.Bool.{cases_lt}
use Rattle.std.proofs.lemmas.List.{get_or_past}
use Rattle.wf_ballot.specs.Ballot.{Ballot}
use Rattle.wf_ballot.specs.OrderTheorems.{not_below-transitive}
use Rattle.wf_codec.specs.Message.{view}
use Rattle.wf_folder.specs.Reach.{IsNoLower}
use Rattle.wf_model.specs.Message.{Message, Prepare, Promise, Accept, Accepted, Nack, Chosen, Ask}
use Rattle.wf_peer.specs.Sender.{heard_of}
use Rattle.wf_peer.specs.Told.{AreLeft, ArePast, HearAll, IsHeardLeft, IsPast, TellsNoMore, TellsNoMoreOf}
use Rattle.wf_peer.specs.declared.heard.Heard.{Heard}
use Rattle.wf_peer.specs.declared.progress.Progress.{Progress}
use Rattle.wf_rejoin.specs.Replacements.{latest_of}
use Rattle.wf_rejoin.specs.declared.replacement.Replacement.{Replacement}

pub no_lower_in_turn : (a b c : Option Ballot) → IsNoLower a b → IsNoLower b c → IsNoLower a c
no_lower_in_turn None b c first second = tt
no_lower_in_turn (Some x) None c first second = absurd first
no_lower_in_turn (Some x) (Some y) None first second = absurd second
no_lower_in_turn (Some x) (Some y) (Some z) first second = not_below-transitive x y z first second

still_tells : {V : Type 0} (p q : Progress) (m : Message V) → p.round ≤ q.round → IsNoLower p.promise q.promise → TellsNoMore p m → TellsNoMore q m
still_tells p q (Prepare s b) round promise told = omega (arith, round, told)
still_tells p q (Promise sender s b votes) round promise told = no_lower_in_turn (Some b) p.promise q.promise told promise
still_tells p q (Accept s b d) round promise told = omega (arith, round, told)
still_tells p q (Accepted sender s b) round promise told = no_lower_in_turn (Some b) p.promise q.promise told promise
still_tells p q (Nack sender s b highest) round promise told = no_lower_in_turn (Some highest) p.promise q.promise told promise
still_tells p q (Chosen s d) round promise told = tt
still_tells p q (Ask s) round promise told = tt

still_tells_of : {V : Type 0} (a b : Option Heard) (m : Message V) → IsPast a b → TellsNoMoreOf a m → TellsNoMoreOf b m
still_tells_of None b m past told = absurd told
still_tells_of (Some h) None m past told = absurd past
still_tells_of (Some h) (Some g) m past told = still_tells h.progress g.progress m past.0 past.1 told

-- what was compared of each index of the earlier list is true of each node
pub past_of_all : (earlier later : List (Option Heard)) (count : ℕ) → length earlier ≤ count → ((i : ℕ) → i < count → IsPast (heard_of earlier i) (heard_of later i)) → ArePast earlier later
past_of_all earlier later count whole past = λ i. elim (cases_lt i (length earlier)) [
  | inl less ↦ past i (omega (arith, less, whole))
  | inr beyond ↦ subst (λ (h : Option Heard). IsPast h (heard_of later i)) (sym (get_or_past earlier i None beyond)) tt
]

pub hear_past : (earlier later : List (Option Heard)) → ArePast earlier later → HearAll earlier later
hear_past earlier later past = λ i m told. still_tells_of (heard_of earlier i) (heard_of later i) (view m) (past i) told

-- ---- what is left

left_tells : {V : Type 0} (x : Option Heard) (latest : Option Replacement) (left : Option Heard) (m : Message V) → IsHeardLeft x latest left → TellsNoMoreOf left m → TellsNoMoreOf x m
left_tells None latest left m is told = subst (λ (h : Option Heard). TellsNoMoreOf h m) is told
left_tells (Some h) None left m is told = subst (λ (g : Option Heard). TellsNoMoreOf g m) is told
left_tells (Some h) (Some r) left m is told = elim is [
  | inl same ↦ subst (λ (g : Option Heard). TellsNoMoreOf g m) same.1 told
  | inr other ↦ absurd (subst (λ (g : Option Heard). TellsNoMoreOf g m) other.1 told)
]

pub hear_left : (known : List (Option Heard)) (latest : List (Option Replacement)) (left : List (Option Heard)) → AreLeft known latest left → HearAll left known
hear_left known latest left are = λ i m told. left_tells (heard_of known i) (latest_of latest i) (heard_of left i) (view m) (are i) told

nothing_left : (x : Option Replacement) → IsHeardLeft None x None
nothing_left x = refl

-- what was left of each index is so of each node
pub left_of_all : (known : List (Option Heard)) (latest : List (Option Replacement)) (left : List (Option Heard)) (count : ℕ) → length known ≡ length left → length left ≤ count →
    ((i : ℕ) → i < count → IsHeardLeft (heard_of known i) (latest_of latest i) (heard_of left i)) → AreLeft known latest left
left_of_all known latest left count size whole each = λ i. elim (cases_lt i (length left)) [
  | inl less ↦ each i (omega (arith, less, whole))
  | inr beyond ↦
      subst (λ (h : Option Heard). IsHeardLeft h (latest_of latest i) (heard_of left i)) (sym (get_or_past known i None (omega (arith, size, beyond))))
      (subst (λ (h : Option Heard). IsHeardLeft None (latest_of latest i) h) (sym (get_or_past left i None beyond)) (nothing_left (latest_of latest i)))
]

-- one more is set
pub left_one_more : (known : List (Option Heard)) (latest : List (Option Replacement)) (old new : List (Option Heard)) (index : ℕ) (h : Option Heard) → index < length old → new ≡ slice_set old index h →
    IsHeardLeft (heard_of known index) (latest_of latest index) h → ((i : ℕ) → i < index → IsHeardLeft (heard_of known i) (latest_of latest i) (heard_of old i)) →
    (i : ℕ) → i < suc index → IsHeardLeft (heard_of known i) (latest_of latest i) (heard_of new i)
left_one_more known latest old new index h within is here before i less = elim (cases_lt i index) [
  | inl earlier ↦
      let other : i ≢ index = λ (e : i ≡ index). omega (arith, earlier, e) in
      subst (λ (l : List (Option Heard)). IsHeardLeft (heard_of known i) (latest_of latest i) (heard_of l i)) (sym is)
      (subst (λ (g : Option Heard). IsHeardLeft (heard_of known i) (latest_of latest i) g) (sym (get_or-set_other old index i h None other)) (before i earlier))
  | inr not_earlier ↦
      let same : index ≡ i = omega (arith, less, not_earlier) in
      subst (λ (k : ℕ). IsHeardLeft (heard_of known k) (latest_of latest k) (heard_of new k)) same
      (subst (λ (l : List (Option Heard)). IsHeardLeft (heard_of known index) (latest_of latest index) (heard_of l index)) (sym is)
      (subst (λ (g : Option Heard). IsHeardLeft (heard_of known index) (latest_of latest index) g) (sym (get_or-set_same old index h None within)) here))
]
