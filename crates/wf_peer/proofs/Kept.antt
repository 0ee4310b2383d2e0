-- What was heard never falls.
use Rattle.std.proofs.Common.{◌≡◌, ◌≢◌, ◌∙◌, ℕ, ◌<◌, ◌-◌, ◌⊎◌, List, length, inl, inr, refl, sym, ap, subst, arith, get_or-set_other, get_or-set_same}
use Rattle.std.specs.Prelude.{Option, Some, None, slice_set}
use Rattle.std.proofs.lemmas.Bool.{cases_lt}
use Rattle.std.proofs.lemmas.List.{get_or_past}
use Rattle.wf_ballot.specs.Ballot.{Ballot}
use Rattle.wf_folder.proofs.Raised.{no_lower_both, no_lower_raised, no_lower_self, no_lower_vote_both, no_lower_vote_raised, no_lower_vote_self}
use Rattle.wf_model.specs.Message.{Message, Prepare, Promise, Accept, Accepted, Nack, Chosen, Ask}
use Rattle.wf_peer.specs.Progress.{HasKept, IsNoLess, accused, first_accusation, greeted, progress_in, together}
use Rattle.wf_peer.specs.Sender.{HasStayed, NeverFalls, advance_by, heard_of, promised, publish_up_to, tried, voted}
use Rattle.wf_peer.specs.declared.heard.Heard.{Heard}
use Rattle.wf_peer.specs.declared.progress.Progress.{Progress}
use Rattle.wf_peer.specs.declared.rejection.PeerRejection.{PeerRejection}

pub no_less_self : (p : Progress) → IsNoLess p p
no_less_self p = record { mark = refl; starts = omega arith; life = λ same. refl; round = omega arith; promise = no_lower_self p.promise; vote = no_lower_vote_self p.vote; published = omega arith }

by_tried : (p : Progress) (r : ℕ) → IsNoLess p (tried p r)
by_tried p r = record { mark = refl; starts = omega arith; life = λ same. refl; round = omega arith; promise = no_lower_self p.promise; vote = no_lower_vote_self p.vote; published = omega arith }

by_promised : (p : Progress) (b : Ballot) → IsNoLess p (promised p b)
by_promised p b = record { mark = refl; starts = omega arith; life = λ same. refl; round = omega arith; promise = no_lower_raised p.promise b; vote = no_lower_vote_self p.vote; published = omega arith }

by_voted : (p : Progress) (s : ℕ) (b : Ballot) → IsNoLess p (voted (promised p b) s b)
by_voted p s b = record { mark = refl; starts = omega arith; life = λ same. refl; round = omega arith; promise = no_lower_raised p.promise b; vote = no_lower_vote_raised p.vote (record { ballot = b; sequence = s }); published = omega arith }

by_published : (p : Progress) (s : ℕ) → IsNoLess p (publish_up_to p s)
by_published p s = record { mark = refl; starts = omega arith; life = λ same. refl; round = omega arith; promise = no_lower_self p.promise; vote = no_lower_vote_self p.vote; published = omega arith }

by_reported : {V : Type 0} (p : Progress) (m : Message V) → IsNoLess p (advance_by p m)
by_reported p (Prepare s b) = by_tried p b.round
by_reported p (Promise sender s b votes) = by_promised p b
by_reported p (Accept s b d) = by_tried p b.round
by_reported p (Accepted sender s b) = by_voted p s b
by_reported p (Nack sender s b promise) = by_promised p promise
by_reported p (Chosen s d) = by_published p s
by_reported p (Ask s) = by_published p (s - 1)

-- ---- together they are no less than what was heard

by_together : (known claimed : Progress) → HasKept (Some known) claimed → IsNoLess known (together known claimed)
by_together known claimed kept = elim kept [
  | inl same ↦ record { mark = same.mark; starts = omega (arith, same.starts); life = λ e. same.life; round = omega arith; promise = no_lower_both known.promise claimed.promise; vote = no_lower_vote_both known.vote claimed.vote; published = omega arith }
  | inr more ↦ record { mark = more.mark; starts = more.starts; life = more.life; round = omega arith; promise = no_lower_both known.promise claimed.promise; vote = no_lower_vote_both known.vote claimed.vote; published = omega arith }
]

has_stayed_self : (h : Heard) → HasStayed h h
has_stayed_self h = record { no_less = no_less_self h.progress; accused_still = λ why same. same }

pub nothing_falls : (known : List (Option Heard)) → NeverFalls known known
nothing_falls known = λ i h at. (h, at, has_stayed_self h)

-- ---- one is set

equal_or_not : (i k : ℕ) → (i ≡ k) ⊎ (i ≢ k)
equal_or_not i k = elim (cases_lt i k) [
  | inl less ↦ inr (λ (e : i ≡ k). omega (arith, less, e))
  | inr no_less ↦ elim (cases_lt k i) [ inl more ↦ inr (λ (e : i ≡ k). omega (arith, more, e)) | inr no_more ↦ inl (omega arith) ]
]

within : (known : List (Option Heard)) (i : ℕ) (h : Heard) → heard_of known i ≡ Some h → i < length known
within known i h at = elim (cases_lt i (length known)) [
  | inl less ↦ less
  | inr past ↦ let none : heard_of known i ≡ None = get_or_past known i None past in absurd cc
]

-- what is set is no less than what was heard
falls_by : (old new : List (Option Heard)) (node : ℕ) (q : Heard) → ((h : Heard) → heard_of old node ≡ Some h → HasStayed h q) → new ≡ slice_set old node (Some q) → NeverFalls old new
falls_by old new node q stays is = λ i h at. elim (equal_or_not i node) [
  | inl same ↦
      let there : heard_of old node ≡ Some h = ap (heard_of old) (sym same) ∙ at in
      let lt : node < length old = within old node h there in
      let now : heard_of new i ≡ Some q = ap (heard_of new) same ∙ ap (λ (l : List (Option Heard)). heard_of l node) is ∙ get_or-set_same old node (Some q) None lt in
      (q, now, stays h there)
  | inr other ↦
      let now : heard_of new i ≡ Some h = ap (λ (l : List (Option Heard)). heard_of l i) is ∙ get_or-set_other old node i (Some q) None other ∙ at in
      (h, now, has_stayed_self h)
]

by_greeting : (h : Heard) (claimed : Progress) → HasKept (Some h.progress) claimed → HasStayed h (greeted (Some h) claimed)
by_greeting h claimed kept = record { no_less = by_together h.progress claimed kept; accused_still = λ why same. same }

pub falls_by_greeting : (old new : List (Option Heard)) (node : ℕ) (claimed : Progress) → HasKept (progress_in (heard_of old node)) claimed →
    new ≡ slice_set old node (Some (greeted (heard_of old node) claimed)) → NeverFalls old new
falls_by_greeting old new node claimed kept is =
    falls_by old new node (greeted (heard_of old node) claimed)
    (λ h at. subst (λ (x : Option Heard). HasStayed h (greeted x claimed)) (sym at) (by_greeting h claimed (subst (λ (x : Option Heard). HasKept (progress_in x) claimed) at kept))) is

by_message : {V : Type 0} (h : Heard) (m : Message V) → HasStayed h (record h { progress = advance_by h.progress m })
by_message h m = record { no_less = by_reported h.progress m; accused_still = λ why same. same }

pub falls_by_message : {V : Type 0} (old new : List (Option Heard)) (node : ℕ) (h : Heard) (m : Message V) → heard_of old node ≡ Some h →
    new ≡ slice_set old node (Some (record h { progress = advance_by h.progress m })) → NeverFalls old new
falls_by_message old new node h m there is =
    falls_by old new node (record h { progress = advance_by h.progress m }) (λ x at. let same : x ≡ h = cc in subst (λ (y : Heard). HasStayed y (record h { progress = advance_by h.progress m })) (sym same) (by_message h m)) is

first_stays : (earlier : Option PeerRejection) (why later : PeerRejection) → earlier ≡ Some why → first_accusation earlier later ≡ Some why
first_stays None why later e = absurd cc
first_stays (Some x) why later e = e

by_accusation : (h : Heard) (why : PeerRejection) → HasStayed h (accused h why)
by_accusation h why = record { no_less = no_less_self h.progress; accused_still = λ x same. first_stays h.accusation x why same }

pub falls_by_accusation : (old new : List (Option Heard)) (node : ℕ) (h : Heard) (why : PeerRejection) → heard_of old node ≡ Some h →
    new ≡ slice_set old node (Some (accused h why)) → NeverFalls old new
falls_by_accusation old new node h why there is =
    falls_by old new node (accused h why) (λ x at. let same : x ≡ h = cc in subst (λ (y : Heard). HasStayed y (accused h why)) (sym same) (by_accusation h why)) is
