-- The votes of a report, one after the other.
use Rattle.std.proofs.Common.{◌≡◌, ℕ, zero, suc, ◌-◌, ◌≤◌, true, false, List, [], ◌∷◌, ◌++◌, length, Option, Some, None, Result, Ok, Err, refl, sym, ap, subst, ◌∙◌, inl, inr, append_assoc, append-nil, arith}
use Rattle.std.proofs.lemmas.Option.{option_and_then_some}
use Rattle.std.specs.Prelude.{is_some, option_map, option_and_then}
use Rattle.wf_model.specs.Message.{Vote}
use Rattle.std.proofs.lemmas.List.{length-map}
use Rattle.wf_ballot.specs.Ballot.{Ballot}
use Rattle.wf_def.specs.Definition.{Definition}
use Rattle.wf_canon.specs.Canon.{canon, most_canon_bytes}
use Rattle.wf_frame.specs.Report.{AreVotesOf, vote_with, votes_with, vote_definitions, votes_definitions, votes_in_report, front_vote, votes_of}
use Rattle.wf_codec.specs.declared.fault.DecodeFault.{DecodeFault}
use Rattle.wf_codec.specs.declared.fault.DecodeFault.TheVariants.{Short, BadVersion, BadKind, BadField, NotCanonical, TooLong, Memory}
use Rattle.wf_codec.specs.Message.{view_vote, view_votes, HasOne, HasOneOf, HasText}
use Rattle.wf_codec.specs.Fault.{IsNoText}
use Rattle.wf_codec.specs.Stages.{ReadsVote, ReadsVotes, ReadsReport}

-- ---- reading one more

count_before : (count : ℕ) → 1 ≤ count → count ≡ suc (count - 1)
count_before count some = omega arith

-- without a vote at the front there are none
by_none : (most count : ℕ) (front : Option (Option (Vote (List ℕ)) × List ℕ)) → option_map (λ x. x.1) front ≡ None →
    is_some (option_and_then (λ vote. option_and_then (λ votes. Some (vote.0 ∷ votes)) (votes_of most count vote.1)) front) ≡ false
by_none most count None e = refl
by_none most count (Some x) e = absurd cc

next_none : (most count : ℕ) (bytes : List ℕ) → option_map (λ x. x.1) (front_vote most bytes) ≡ None → is_some (votes_of most (suc count) bytes) ≡ false
unfolding votes_of
next_none most count bytes e = by_none most count (front_vote most bytes) e

pub no_vote : (most count : ℕ) (bytes : List ℕ) → 1 ≤ count → option_map (λ x. x.1) (front_vote most bytes) ≡ None → is_some (votes_of most count bytes) ≡ false
no_vote most count bytes some e = subst (λ (n : ℕ). is_some (votes_of most n bytes) ≡ false) (sym (count_before count some)) (next_none most (count - 1) bytes e)

-- after a vote at the front, it is the rest that decides
joined : (vote : Option (Vote (List ℕ))) (others : Option (List (Option (Vote (List ℕ))))) → is_some (option_and_then (λ votes. Some (vote ∷ votes)) others) ≡ is_some others
joined vote None = refl
joined vote (Some votes) = refl

by_some : (most count : ℕ) (rest : List ℕ) (front : Option (Option (Vote (List ℕ)) × List ℕ)) → option_map (λ x. x.1) front ≡ Some rest →
    is_some (option_and_then (λ vote. option_and_then (λ votes. Some (vote.0 ∷ votes)) (votes_of most count vote.1)) front) ≡ is_some (votes_of most count rest)
by_some most count rest None e = absurd cc
by_some most count rest (Some x) e =
    let same : x.1 ≡ rest = cc in joined x.0 (votes_of most count x.1) ∙ ap (λ (bytes : List ℕ). is_some (votes_of most count bytes)) same

next_some : (most count : ℕ) (bytes rest : List ℕ) → option_map (λ x. x.1) (front_vote most bytes) ≡ Some rest → is_some (votes_of most (suc count) bytes) ≡ is_some (votes_of most count rest)
unfolding votes_of
next_some most count bytes rest e = by_some most count rest (front_vote most bytes) e

pub vote_then : (most count : ℕ) (bytes rest : List ℕ) → 1 ≤ count → option_map (λ x. x.1) (front_vote most bytes) ≡ Some rest →
    is_some (votes_of most count bytes) ≡ is_some (votes_of most (count - 1) rest)
vote_then most count bytes rest some e =
    subst (λ (n : ℕ). is_some (votes_of most n bytes) ≡ is_some (votes_of most (count - 1) rest)) (sym (count_before count some)) (next_some most (count - 1) bytes rest e)

-- ---- what is read

-- so many votes: the first and the others
pub record IsNext (most count : ℕ) (bytes : List ℕ) (cut : List (Option (Vote (List ℕ)))) : Type 0 where
  pub vote : Option (Vote (List ℕ))
  pub rest : List ℕ
  pub others : List (Option (Vote (List ℕ)))
  pub front : front_vote most bytes ≡ Some (vote, rest)
  pub behind : votes_of most (count - 1) rest ≡ Some others
  pub is : cut ≡ vote ∷ others

next_of : (most count : ℕ) (bytes : List ℕ) (cut : List (Option (Vote (List ℕ)))) → votes_of most (suc count) bytes ≡ Some cut → IsNext most (suc count) bytes cut
unfolding votes_of
next_of most count bytes cut e =
    let less : suc count - 1 ≡ count = omega arith in
    option_and_then_some (λ vote. option_and_then (λ votes. Some (vote.0 ∷ votes)) (votes_of most count vote.1)) (front_vote most bytes) cut e (λ x is goes.
    option_and_then_some (λ votes. Some (x.0 ∷ votes)) (votes_of most count x.1) cut goes (λ others its same.
    record {
      vote = x.0;
      rest = x.1;
      others = others;
      front = is;
      behind = subst (λ (n : ℕ). votes_of most n x.1 ≡ Some others) (sym less) its;
      is = cc;
    }))

pub next : (most count : ℕ) (bytes : List ℕ) (cut : List (Option (Vote (List ℕ)))) → 1 ≤ count → votes_of most count bytes ≡ Some cut → IsNext most count bytes cut
next most count bytes cut some e =
    subst (λ (n : ℕ). IsNext most n bytes cut) (sym (count_before count some))
    (next_of most (count - 1) bytes cut (subst (λ (n : ℕ). votes_of most n bytes ≡ Some cut) (count_before count some) e))

-- nothing was read
pub none_cut : (most : ℕ) (bytes : List ℕ) (cut : List (Option (Vote (List ℕ)))) → votes_of most 0 bytes ≡ Some cut → cut ≡ []
unfolding votes_of
none_cut most [] cut e = cc
none_cut most (byte ∷ bytes) cut e = absurd cc

-- the rest is read as the others: the bytes behind the vote are those that were skipped
pub skipped : (most : ℕ) (bytes rest rest' : List ℕ) (vote : Option (Vote (List ℕ))) → option_map (λ x. x.1) (front_vote most bytes) ≡ Some rest → front_vote most bytes ≡ Some (vote, rest') → rest' ≡ rest
skipped most bytes rest rest' vote e h =
    let both : ◌≡◌ {A = Option (List ℕ)} (Some rest') (Some rest) = sym (ap (option_map (λ (x : Option (Vote (List ℕ)) × List ℕ). x.1)) h) ∙ e in cc

-- there is a vote to skip
pub some_vote : (most count : ℕ) (bytes : List ℕ) → 1 ≤ count → option_map (λ x. x.1) (front_vote most bytes) ≡ None → is_some (votes_of most count bytes) ≡ true → ⊥
some_vote most count bytes some e has = let none : is_some (votes_of most count bytes) ≡ false = no_vote most count bytes some e in absurd cc

-- ---- votes with definitions

abbrev Held : Type 0
Held = Option (Ballot × Definition)

pub nothing_read : (most count : ℕ) (bytes : List ℕ) (old : List Held) → count ≡ 0 → (cut : List (Option (Vote (List ℕ)))) → votes_of most count bytes ≡ Some cut → ReadsVotes old old (Ok tt) cut
nothing_read most count bytes old none cut e =
    ([], sym (append-nil old), none_cut most bytes cut (subst (λ (n : ℕ). votes_of most n bytes ≡ Some cut) none e), tt)

-- an error of the first vote is one of all
bad_first : (vote : Option (Vote (List ℕ))) (others : List (Option (Vote (List ℕ)))) → HasOneOf IsNoText (vote_definitions vote) → HasOneOf IsNoText (votes_definitions (vote ∷ others))
bad_first None others bad = absurd bad
bad_first (Some v) others (inl bad) = inl bad
bad_first (Some v) others (inr bad) = absurd bad

one_first : (vote : Option (Vote (List ℕ))) (others : List (Option (Vote (List ℕ)))) → HasOne (vote_definitions vote) → HasOne (votes_definitions (vote ∷ others))
one_first None others has = absurd has
one_first (Some v) others has = tt

pub first_failed : (old : List Held) (fault : DecodeFault) (vote : Option (Vote (List ℕ))) (others : List (Option (Vote (List ℕ)))) → ReadsVote (Err fault) vote → ReadsVotes old old (Err fault) (vote ∷ others)
first_failed old Short vote others h = absurd h
first_failed old BadVersion vote others h = absurd h
first_failed old BadKind vote others h = absurd h
first_failed old BadField vote others h = absurd h
first_failed old NotCanonical vote others h = bad_first vote others h
first_failed old TooLong vote others h = absurd h
first_failed old Memory vote others h = one_first vote others h

-- and so is one of the others
bad_later : (vote : Option (Vote (List ℕ))) (others : List (Option (Vote (List ℕ)))) → HasOneOf IsNoText (votes_definitions others) → HasOneOf IsNoText (votes_definitions (vote ∷ others))
bad_later None others bad = bad
bad_later (Some v) others bad = inr bad

one_later : (vote : Option (Vote (List ℕ))) (others : List (Option (Vote (List ℕ)))) → HasOne (votes_definitions others) → HasOne (votes_definitions (vote ∷ others))
one_later None others has = has
one_later (Some v) others has = tt

pub first_then : (old mid new : List Held) (vote : Held) (result : Result (Unit {0}) DecodeFault) (cut : Option (Vote (List ℕ))) (others : List (Option (Vote (List ℕ)))) →
    mid ≡ old ++ vote ∷ [] → ReadsVote (Ok vote) cut → ReadsVotes mid new result others → ReadsVotes old new result (cut ∷ others)
first_then old mid new vote (Ok x) cut others pushed is h =
    let all : new ≡ old ++ vote ∷ h.0 = h.1 ∙ ap (λ (list : List Held). list ++ h.0) pushed ∙ append_assoc old (vote ∷ []) h.0 in
    let joined : cut ∷ others ≡ votes_with canon (view_votes (vote ∷ h.0)) =
    ap (λ (o : Option (Vote (List ℕ))). o ∷ others) is.0 ∙ ap (λ (list : List (Option (Vote (List ℕ)))). vote_with canon (view_vote vote) ∷ list) h.2 in
    (vote ∷ h.0, all, joined, (is.1, h.3))
first_then old mid new vote (Err Short) cut others pushed is h = absurd h
first_then old mid new vote (Err BadVersion) cut others pushed is h = absurd h
first_then old mid new vote (Err BadKind) cut others pushed is h = absurd h
first_then old mid new vote (Err BadField) cut others pushed is h = absurd h
first_then old mid new vote (Err NotCanonical) cut others pushed is h = bad_later cut others h
first_then old mid new vote (Err TooLong) cut others pushed is h = absurd h
first_then old mid new vote (Err Memory) cut others pushed is h = one_later cut others h

-- ---- how many were read

length-cut : (most count : ℕ) (bytes : List ℕ) (cut : List (Option (Vote (List ℕ)))) → votes_of most count bytes ≡ Some cut → length cut ≡ count
length-cut most zero bytes cut e = ap length (none_cut most bytes cut e)
length-cut most (suc count) bytes cut e =
    let n : IsNext most (suc count) bytes cut = next_of most count bytes cut e in
    let less : suc count - 1 ≡ count = omega arith in
    ap length n.is ∙ ap suc (length-cut most count n.rest n.others (subst (λ (k : ℕ). votes_of most k n.rest ≡ Some n.others) less n.behind))

-- the bytes are so many votes
pub cut_of : (most count : ℕ) (bytes : List ℕ) → is_some (votes_of most count bytes) ≡ true → (cut : List (Option (Vote (List ℕ)))) × (votes_of most count bytes ≡ Some cut)
cut_of most count bytes has = found (votes_of most count bytes) refl has
  where
    found : (o : Option (List (Option (Vote (List ℕ))))) → votes_of most count bytes ≡ o → is_some o ≡ true → (cut : List (Option (Vote (List ℕ)))) × (votes_of most count bytes ≡ Some cut)
    found None e has' = absurd cc
    found (Some cut) e has' = (cut, e)

pub read_count : (most count : ℕ) (bytes : List ℕ) (new : List Held) → is_some (votes_of most count bytes) ≡ true →
    ((cut : List (Option (Vote (List ℕ)))) → votes_of most count bytes ≡ Some cut → ReadsVotes [] new (Ok tt) cut) → length new ≡ count
read_count most count bytes new has reads =
    let (cut, e) = cut_of most count bytes has in
    let h : ReadsVotes [] new (Ok tt) cut = reads cut e in
    let same : length cut ≡ length h.0 = ap length h.2 ∙ length-map (view_votes h.0) (vote_with canon) ∙ length-map h.0 view_vote in
    ap length h.1 ∙ sym same ∙ length-cut most count bytes cut e

-- ---- the report of the votes

module _ (slot count : ℕ) (bytes : List ℕ) (many : count ≡ votes_in_report slot) where
  abbrev Cut : ℕ → Option (List (Option (Vote (List ℕ))))
  Cut n = votes_of most_canon_bytes n bytes

  none_of : (o : Option (List (Option (Vote (List ℕ))))) → is_some o ≡ false → o ≡ None
  none_of None e = refl
  none_of (Some cut) e = absurd cc

  pub no_report : is_some (Cut count) ≡ false → ReadsReport slot (Err BadField) (Cut (votes_in_report slot))
  no_report has = subst (λ (n : ℕ). Cut n ≡ None) many (none_of (Cut count) has)

  failed : (new : List Held) (fault : DecodeFault) (cut : List (Option (Vote (List ℕ)))) → ReadsVotes [] new (Err fault) cut → ReadsReport slot (Err fault) (Some cut)
  failed new Short cut h = absurd h
  failed new BadVersion cut h = absurd h
  failed new BadKind cut h = absurd h
  failed new BadField cut h = absurd h
  failed new NotCanonical cut h = h
  failed new TooLong cut h = absurd h
  failed new Memory cut h = h

  pub report_failed : (new : List Held) (fault : DecodeFault) → is_some (Cut count) ≡ true → ((cut : List (Option (Vote (List ℕ)))) → Cut count ≡ Some cut → ReadsVotes [] new (Err fault) cut) →
      ReadsReport slot (Err fault) (Cut (votes_in_report slot))
  report_failed new fault has reads =
      let (cut, e) = cut_of most_canon_bytes count bytes has in
      subst (ReadsReport slot (Err fault)) (sym e ∙ ap Cut many) (failed new fault cut (reads cut e))

  pub report_read : (new : List Held) → is_some (Cut count) ≡ true → ((cut : List (Option (Vote (List ℕ)))) → Cut count ≡ Some cut → ReadsVotes [] new (Ok tt) cut) →
      ReadsReport slot (Ok (record { slot = slot; votes = new })) (Cut (votes_in_report slot))
  report_read new has reads =
      let (cut, e) = cut_of most_canon_bytes count bytes has in
      let h : ReadsVotes [] new (Ok tt) cut = reads cut e in
      let all : h.0 ≡ new = sym h.1 in
      let many_read : length (view_votes new) ≡ votes_in_report slot = length-map new view_vote ∙ read_count most_canon_bytes count bytes new has reads ∙ many in (
        refl,
        sym (ap Cut many) ∙ e ∙ ap Some (h.2 ∙ ap (λ (list : List Held). votes_with canon (view_votes list)) all),
        many_read,
        subst (λ (list : List Held). AreVotesOf HasText (view_votes list)) all h.3,
      )
