-- The sessions, as the execution of the process of one index.
use Rattle.std.proofs.Common.{◌≡◌, ℕ, ◌<◌, List, [], ◌∷◌, ◌++◌, slice_get, Option, Some, refl, sym, ap, subst, ◌∙◌, append-nil}
use Rattle.wf_execution.specs.Execution.{Ended, AreRuns, items_of, items_by, items_at, items_in, values_after, values_of}
use Rattle.wf_execution.specs.Run.{Run, IsRun}
use Rattle.wf_node.specs.Node.{Node}
use Rattle.wf_tape.specs.declared.tape.Tape.{Ghosts as Tape}
use Rattle.wf_runs.specs.Session.{NodeSession, AreStepsTaken, acts_at, moments_from, run_at}
use Rattle.wf_runs.specs.Folder.{IsLeftAt, IsSession, AreSessions, moments}
use Rattle.wf_runs.proofs.Items.{all_items, cuts, cuts_own, made, made_own, more_of}
use Rattle.wf_runs.proofs.Left.{left_alike}
use Rattle.wf_runs.proofs.Moments.{Show, Ends, acts_done, session_shows}
use Rattle.wf_runs.proofs.Turns.{node_at}

-- Runs of the process of index i, from bytes that may be read there: their items are its items, and
-- the moments show their values.
pub record Lived {T : Type 0} (tapes : Tape T) (n i : ℕ) (found : ℕ → List ℕ → Type 0) (sessions : List (NodeSession T)) : Type 0 where
  pub bytes : List ℕ
  pub may_be : found i bytes
  pub ended : List (Ended T)
  pub now : Option (Run T)
  pub runs : AreRuns tapes n i bytes ended now
  pub items : items_of i (all_items n sessions) ≡ items_in i ended now
  pub show : Show i (moments sessions) (values_of ended now)

module _ {T : Type 0} (tapes : Tape T) (n i : ℕ) (less : i < n) where
  -- its run in a session
  session_run : (found : ℕ → List ℕ → Type 0) (session : NodeSession T) (is : IsSession tapes n found session) (first : Node T) (at : slice_get session.nodes i ≡ Some first) →
      IsRun tapes n i (is.opened i first at).bytes (run_at i first session)
  session_run found session is first at = record {
    opened = (is.opened i first at).opened;
    done = acts_done tapes i [] session.nodes session.steps first at is.taken;
  }

  in_last : (run : Run T) → items_in i [] (Some run) ≡ items_by i run.acts
  unfolding items_in
  in_last run = refl

  in_ended : (ended : Ended T) (later : List (Ended T)) (now : Option (Run T)) → items_in i (ended ∷ later) now ≡ items_by i ended.run.acts ++ (items_at i ended.end ++ items_in i later now)
  unfolding items_in
  in_ended ended later now = refl

  -- ---- the last session

  no_moments : moments {T = T} [] ≡ []
  unfolding moments
  no_moments = refl

  more_moments : (session : NodeSession T) (later : List (NodeSession T)) → moments (session ∷ later) ≡ moments_from session.nodes session.steps ++ moments later
  unfolding moments
  more_moments session later = refl

  shows_last : (session : NodeSession T) (first : Node T) → slice_get session.nodes i ≡ Some first → AreStepsTaken tapes [] session.nodes session.steps → Show i (moments (session ∷ [])) (values_of [] (Some (run_at i first session)))
  unfolding values_of
  shows_last session first at taken =
      subst (λ ms. Show i ms (first ∷ values_after (acts_at i session.steps))) (sym (more_moments session [] ∙ ap (λ ms. moments_from session.nodes session.steps ++ ms) no_moments))
      (subst (λ vs. Show i (moments_from session.nodes session.steps ++ []) (first ∷ vs)) (append-nil (values_after (acts_at i session.steps)))
      (session_shows tapes i [] session.nodes session.steps first [] [] at taken (Ends [])))

  last_lived : (found : ℕ → List ℕ → Type 0) (session : NodeSession T) → IsSession tapes n found session → Lived tapes n i found (session ∷ [])
  last_lived found session is =
      let there = node_at tapes n session.nodes i is.as_many less in
      let first = there.0 in
      let is_found = is.opened i first there.1 in
      record {
        bytes = is_found.bytes;
        may_be = is_found.may_be;
        ended = [];
        now = Some (run_at i first session);
        runs = session_run found session is first there.1;
        items = made_own i session.steps ∙ sym (in_last (run_at i first session));
        show = shows_last session first there.1 is.taken;
      }

  -- ---- one more session before the others

  more_items : (session next : NodeSession T) (later : List (NodeSession T)) (ended : Ended T) (more : List (Ended T)) (now : Option (Run T)) → ended.run.acts ≡ acts_at i session.steps → ended.end ≡ session.ends i →
      items_of i (all_items n (next ∷ later)) ≡ items_in i more now → items_of i (all_items n (session ∷ (next ∷ later))) ≡ items_in i (ended ∷ more) now
  more_items session next later ended more now acts end items =
      more_of i (made session.steps) (cuts n session.ends ++ all_items n (next ∷ later))
      ∙ ap (λ xs. xs ++ items_of i (cuts n session.ends ++ all_items n (next ∷ later))) (made_own i session.steps ∙ ap (items_by i) (sym acts))
      ∙ ap (λ xs. items_by i ended.run.acts ++ xs)
      (more_of i (cuts n session.ends) (all_items n (next ∷ later))
      ∙ ap (λ xs. xs ++ items_of i (all_items n (next ∷ later))) (cuts_own i session.ends n less ∙ ap (items_at i) (sym end))
      ∙ ap (λ xs. items_at i ended.end ++ xs) items)
      ∙ sym (in_ended ended more now)

  shows_more : (session : NodeSession T) (later : List (NodeSession T)) (ended : Ended T) (more : List (Ended T)) (now : Option (Run T)) → slice_get session.nodes i ≡ Some ended.run.first →
      ended.run.acts ≡ acts_at i session.steps → AreStepsTaken tapes [] session.nodes session.steps → Show i (moments later) (values_of more now) → Show i (moments (session ∷ later)) (values_of (ended ∷ more) now)
  unfolding values_of
  shows_more session later ended more now at acts taken show =
      subst (λ ms. Show i ms (ended.run.first ∷ (values_after ended.run.acts ++ values_of more now))) (sym (more_moments session later))
      (subst (λ done. Show i (moments_from session.nodes session.steps ++ moments later) (ended.run.first ∷ (values_after done ++ values_of more now))) (sym acts)
      (session_shows tapes i [] session.nodes session.steps ended.run.first (moments later) (values_of more now) at taken show))

  more_lived : (found : ℕ → List ℕ → Type 0) (session next : NodeSession T) (later : List (NodeSession T)) → IsSession tapes n found session → Lived tapes n i (IsLeftAt session) (next ∷ later) →
      Lived tapes n i found (session ∷ (next ∷ later))
  more_lived found session next later is rest =
      let was = rest.may_be in
      let run = run_at i was.first session in
      let is_found = is.opened i was.first was.at in
      let ended : Ended T = record { run = run; end = session.ends i; left = rest.bytes } in
      record {
        bytes = is_found.bytes;
        may_be = is_found.may_be;
        ended = ended ∷ rest.ended;
        now = rest.now;
        runs = (record { run = session_run found session is was.first was.at; left = left_alike was.left rest.bytes was.by_openings run (session.ends i) was.by_run }, rest.runs);
        items = more_items session next later ended rest.ended rest.now refl refl rest.items;
        show = shows_more session (next ∷ later) ended rest.ended rest.now was.at refl is.taken rest.show;
      }

  pub lived : (found : ℕ → List ℕ → Type 0) (session : NodeSession T) (later : List (NodeSession T)) → AreSessions tapes n found (session ∷ later) → Lived tapes n i found (session ∷ later)
  lived found session [] are = last_lived found session are.0
  lived found session (next ∷ later) are = more_lived found session next later are.0 (lived (IsLeftAt session) next later are.1)
