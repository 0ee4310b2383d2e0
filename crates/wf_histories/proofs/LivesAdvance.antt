-- One thing more that happens leads from lifetimes of nodes to lifetimes of nodes.
use Rattle.std.proofs.Common.{◌≡◌, ◌≢◌, ℕ, zero, suc, ◌<◌, ◌≤◌, List, [], ◌∷◌, ◌++◌, length, take, slice_get, refl, sym, ap, subst, ◌∙◌, inl, inr, arith, append-nil, append_assoc, eq-eqb, ne_eqb}
use Rattle.std.proofs.lemmas.Bool.{cases_eq, cases_lt}
use Rattle.std.proofs.lemmas.List.{length-map, map-append}
use Rattle.std.proofs.lemmas.Option.{none-some}
use Rattle.wf_actor.specs.declared.actor.Actor.{Actor}
use Rattle.wf_rejoin.specs.declared.joining.Joining.{Joining}
use Rattle.wf_rejoin_guard.specs.Joined.{IsAnsweredSince}
use Rattle.wf_replacement.specs.Rejoining.{IsSilent}
use Rattle.wf_replacement.specs.Timeline.{Loses, Opens, ProcessEvent, Rejoins, node_at, node_in, process_of, returned_through, states_from, unstarted_process}
use Rattle.wf_tape.specs.declared.tape.Tape.{Ghosts as Tape}
use Rattle.wf_histories.specs.Advance.{run_in, run_of}
use Rattle.wf_histories.specs.Carried.{AreSentBefore}
use Rattle.wf_histories.specs.Events.{AreEventsOf, Lifetime, TracedEvent, events_by, events_in, events_later, events_made, events_made_by, events_of, events_on, stepless, steps_in, untraced}
use Rattle.wf_histories.specs.Joiners.{HaveJoined}
use Rattle.wf_histories.specs.Lifetimes.{AreOnLater, EachHasJoinedBy, HasJoinedBy}
use Rattle.wf_histories.specs.LivesAdvance.{AreAllOf, FirstStarts, FolderTakesPlace, HasStarted, LaterHaveJoinedBy, LifeGoesOn, NothingLives, with_life}
use Rattle.wf_histories.specs.Nodes.{AreOnFolder, NodeProcess, bytes_read}
use Rattle.wf_histories.specs.Runs.{LivesOf}
use Rattle.wf_histories.proofs.Advance.{sent_both}
use Rattle.wf_histories.proofs.Timeline.{steps_in_both}

-- ---- the first events of more

module _ {A : Type 0} where
  take_first : (k : ℕ) (xs ys : List A) → k ≤ length xs → take k (xs ++ ys) ≡ take k xs
  take_first zero xs ys less = refl
  take_first (suc k) [] ys less = absurd (omega (arith, less))
  take_first (suc k) (x ∷ xs) ys less = ap (λ rest. x ∷ rest) (take_first k xs ys (omega (arith, less)))

  get_first : (k : ℕ) (xs ys : List A) → k < length xs → slice_get (xs ++ ys) k ≡ slice_get xs k
  get_first k [] ys less = absurd (omega (arith, less))
  get_first zero (x ∷ xs) ys less = refl
  get_first (suc k) (x ∷ xs) ys less = get_first k xs ys (omega (arith, less))

module _ {T : Type 0} (events more : List (ProcessEvent T)) where
  -- what was so by a moment of the first events still was so by that
  still_silent : (since until i : ℕ) → until ≤ length events → IsSilent events since until i → IsSilent (events ++ more) since until i
  still_silent since until i within silent = λ k event after before at.
      silent k event after before (sym (get_first k events more (omega (arith, before, within))) ∙ at)

  still_at : (moment i : ℕ) → moment ≤ length events → node_at events moment i ≡ node_at (events ++ more) moment i
  still_at moment i within = ap (λ (first : List (ProcessEvent T)). node_in (states_from unstarted_process first i)) (sym (take_first moment events more within))

  still_answered : (until : ℕ) (j : Joining) → until ≤ length events → IsAnsweredSince events until j → IsAnsweredSince (events ++ more) until j
  still_answered until j within is = record {
    since = is.since;
    earlier = is.earlier;
    silent = still_silent is.since until j.node within is.silent;
    joins = is.joins;
    answers = λ i a less answered.
        let was = is.answers i a less answered in
        record {
          moment = was.moment;
          after = was.after;
          before = was.before;
          node = was.node;
          at = sym (still_at was.moment i (omega (arith, was.before, within))) ∙ was.at;
          runs = was.runs;
          greeting = was.greeting;
          is_true = was.is_true;
          taken = was.taken;
        };
  }

module _ {T : Type 0} (tapes : Tape T) where
  module _ (n : ℕ) (events more : List (ProcessEvent T)) where
    still_joined : (k i : ℕ) (bytes : List ℕ) → k ≤ length events → HasJoinedBy tapes n events k i bytes → HasJoinedBy tapes n (events ++ more) k i bytes
    still_joined k i bytes within has = record {
      earlier = has.earlier;
      last = has.last;
      next = has.next;
      emptied = has.emptied;
      joined = subst (λ (first : List (ProcessEvent T)). HaveJoined tapes n i (returned_through first) has.earlier has.last has.next) (sym (take_first k events more within)) has.joined;
      kept = has.kept;
      said = λ j says.
          let was = has.said j says in
          (was.0, still_answered events more k j within was.1);
      read = has.read;
    }

    each_joined : EachHasJoinedBy tapes n events → LaterHaveJoinedBy tapes n (length events) (events ++ more) → EachHasJoinedBy tapes n (events ++ more)
    each_joined each later k i bytes at = elim (cases_lt k (length events)) [
      | inl less ↦ still_joined k i bytes (omega (arith, less)) (each k i bytes (sym (get_first k events more less) ∙ at))
      | inr beyond ↦ later k i bytes beyond at
    ]

  all_joined : (n : ℕ) (traced more : List (TracedEvent T)) → EachHasJoinedBy tapes n (untraced traced) → LaterHaveJoinedBy tapes n (length traced) (untraced (traced ++ more)) →
      EachHasJoinedBy tapes n (untraced (traced ++ more))
  all_joined n traced more each later =
      let both : untraced (traced ++ more) ≡ untraced traced ++ untraced more = map-append (λ (e : TracedEvent T). e.event) traced more in
      subst (λ (events : List (ProcessEvent T)). EachHasJoinedBy tapes n events) (sym both)
      (each_joined n (untraced traced) (untraced more) each
      (subst (λ (count : ℕ). LaterHaveJoinedBy tapes n count (untraced traced ++ untraced more)) (sym (length-map traced (λ e. e.event)))
      (subst (λ (events : List (ProcessEvent T)). LaterHaveJoinedBy tapes n (length traced) events) both later)))

  -- ---- events at the end

  events_all : (i : ℕ) (more : List (TracedEvent T)) → AreAllOf tapes i more → events_of i more ≡ more
  unfolding events_of
  events_all i [] are = refl
  events_all i (e ∷ more) are = rw (eq-eqb i (process_of e.event) (sym are.0)) (ap (λ rest. e ∷ rest) (events_all i more are.1))

  events_none : (i j : ℕ) (more : List (TracedEvent T)) → j ≢ i → AreAllOf tapes i more → events_of j more ≡ []
  unfolding events_of
  events_none i j [] differs are = refl
  events_none i j (e ∷ more) differs are = rw (ne_eqb j (process_of e.event) (λ same. differs (same ∙ are.0))) (events_none i j more differs are.1)

  events_both : (j : ℕ) (traced more : List (TracedEvent T)) → events_of j (traced ++ more) ≡ events_of j traced ++ events_of j more
  unfolding events_of
  events_both j [] more = refl
  events_both j (e ∷ traced) more = elim (cases_eq j (process_of e.event)) [
    | inl own ↦ rw (eq-eqb j (process_of e.event) own) (ap (λ rest. e ∷ rest) (events_both j traced more))
    | inr other ↦ rw (ne_eqb j (process_of e.event) other) (events_both j traced more)
  ]

  of_both : (n i : ℕ) (traced more : List (TracedEvent T)) → i < n → AreEventsOf n traced → AreAllOf tapes i more → AreEventsOf n (traced ++ more)
  of_both n i [] [] less are own = tt
  of_both n i [] (e ∷ more) less are own = (subst (λ k. k < n) (sym own.0) less, of_both n i [] more less tt own.1)
  of_both n i (e ∷ traced) more less are own = (are.0, of_both n i traced more less are.1 own)

  -- ---- one node goes on

  pub nothing_lives : NothingLives tapes
  unfolding events_of steps_in AreSentBefore events_on events_later
  nothing_lives n = record {
    on_first = λ i less. tt;
    on_later = λ i less. tt;
    members = tt;
    in_order = λ i less. refl;
    connected = tt;
    joined = λ k i bytes at. absurd (none-some (Rejoins i bytes) at);
  }

  module _ (lives : ℕ → Lifetime tapes) (i : ℕ) (life : Lifetime tapes) where
    own_life : (j : ℕ) → j ≡ i → with_life tapes lives i life j ≡ life
    unfolding with_life
    own_life j same = rw (eq-eqb j i same) refl

    other_life : (j : ℕ) → j ≢ i → with_life tapes lives i life j ≡ lives j
    unfolding with_life
    other_life j differs = rw (ne_eqb j i differs) refl

    -- what holds of the new one at i, and of the old ones elsewhere
    at_each : (P : ℕ → Lifetime tapes → Type 0) (j : ℕ) → P i life → (j ≢ i → P j (lives j)) → P j (with_life tapes lives i life j)
    at_each P j here elsewhere = elim (cases_eq j i) [
      | inl same ↦ subst (P j) (sym (own_life j same)) (subst (λ k. P k life) (sym same) here)
      | inr differs ↦ subst (P j) (sym (other_life j differs)) (elsewhere differs)
    ]

  pub life_goes_on : LifeGoesOn tapes
  life_goes_on n i lives traced more life are less on connected joined = record {
    on_first = λ j member. at_each lives i life (λ k l. AreOnFolder tapes n k [] l.first) j on.on_first (λ differs. are.on_first j member);
    on_later = λ j member. at_each lives i life (λ k l. AreOnLater tapes n k l.later) j on.on_later (λ differs. are.on_later j member);
    members = of_both n i traced more less are.members on.own;
    in_order = λ j member. at_each lives i life (λ k l. events_of k (traced ++ more) ≡ events_in tapes k l) j
        (events_both i traced more ∙ ap (λ xs. xs ++ events_of i more) (are.in_order i less) ∙ ap (λ xs. events_in tapes i (lives i) ++ xs) (events_all i more on.own) ∙ sym on.grown)
        (λ differs. events_both j traced more ∙ ap (λ xs. events_of j traced ++ xs) (events_none i j more differs on.own) ∙ append-nil (events_of j traced) ∙ are.in_order j member);
    connected = subst (λ steps. AreSentBefore [] steps) (sym (steps_in_both traced more)) (sent_both [] (steps_in traced) (steps_in more) are.connected connected);
    joined = all_joined n traced more are.joined joined;
  }

  -- ---- a process that starts

  none_made : (i : ℕ) (ended : List (Actor T tapes × ℕ)) (now : Actor T tapes) (lives : LivesOf tapes ended now) →
      events_made tapes i ended now lives 0 0 ≡ stepless (Opens i (run_in tapes ended now lives 0).run.first) ∷ []
  unfolding events_made events_by run_in
  none_made i [] now lives = refl
  none_made i (run ∷ ended) now lives = refl

  started : (i : ℕ) (p : NodeProcess tapes) → p.over ≡ 0 → p.made ≡ 0 → events_made_by tapes i p ≡ stepless (Opens i (run_of tapes p).run.first) ∷ []
  started i p first none =
      let ended = p.has.on.voter.process.ended.items in
      let now = p.has.on.voter.process.actor in
      ap (λ (over : ℕ). events_made tapes i ended now p.lives over p.made) first
      ∙ ap (λ (made : ℕ). events_made tapes i ended now p.lives 0 made) none
      ∙ none_made i ended now p.lives
      ∙ ap (λ (over : ℕ). stepless (Opens i (run_in tapes ended now p.lives over).run.first) ∷ []) (sym first)

  started_on : (n i : ℕ) (p : NodeProcess tapes) → HasStarted tapes n i p → events_on tapes i (p ∷ []) ≡ stepless (Opens i (run_of tapes p).run.first) ∷ []
  unfolding events_on
  started_on n i p has = append-nil (events_made_by tapes i p) ∙ started i p has.first has.none

  pub first_starts : FirstStarts tapes
  unfolding events_later events_on
  first_starts n i p has reads = record {
    on_first = (has.is, reads, tt, tt);
    on_later = tt;
    grown = append-nil (events_on tapes i (p ∷ [])) ∙ started_on n i p has;
    own = (refl, tt);
  }

  -- ---- a folder that takes the place of another

  later_both : (i : ℕ) (first more : List (NodeProcess tapes × List (NodeProcess tapes))) → events_later tapes i (first ++ more) ≡ events_later tapes i first ++ events_later tapes i more
  unfolding events_later
  later_both i [] more = refl
  later_both i (folder ∷ first) more =
      ap (λ rest. stepless (Loses i) ∷ (stepless (Rejoins i (bytes_read tapes folder.0)) ∷ rest))
      (ap (λ rest. events_on tapes i (folder.0 ∷ folder.1) ++ rest) (later_both i first more)
      ∙ sym (append_assoc (events_on tapes i (folder.0 ∷ folder.1)) (events_later tapes i first) (events_later tapes i more)))

  one_later : (n i : ℕ) (p : NodeProcess tapes) → HasStarted tapes n i p →
      events_later tapes i ((p, []) ∷ []) ≡ stepless (Loses i) ∷ (stepless (Rejoins i (bytes_read tapes p)) ∷ (stepless (Opens i (run_of tapes p).run.first) ∷ []))
  unfolding events_later
  one_later n i p has =
      ap (λ rest. stepless (Loses i) ∷ (stepless (Rejoins i (bytes_read tapes p)) ∷ rest)) (append-nil (events_on tapes i (p ∷ [])) ∙ started_on n i p has)

  more_later : (n i : ℕ) (later : List (NodeProcess tapes × List (NodeProcess tapes))) (p : NodeProcess tapes) → AreOnLater tapes n i later → HasStarted tapes n i p → AreOnLater tapes n i (later ++ (p, []) ∷ [])
  more_later n i [] p are has = ((has.is, (λ stored stands. stands), tt, tt), tt)
  more_later n i (folder ∷ later) p are has = (are.0, more_later n i later p are.1 has)

  pub takes_place : FolderTakesPlace tapes
  takes_place n i life p first later has = record {
    on_first = first;
    on_later = more_later n i life.later p later has;
    grown =
        ap (λ rest. events_on tapes i life.first ++ rest) (later_both i life.later ((p, []) ∷ []) ∙ ap (λ rest. events_later tapes i life.later ++ rest) (one_later n i p has))
        ∙ sym (append_assoc (events_on tapes i life.first) (events_later tapes i life.later) _);
    own = (refl, (refl, (refl, tt)));
  }
