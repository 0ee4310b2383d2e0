-- The premises about lifetimes can be met, one thing after the other: no node has started, a node
-- goes on, and a folder that joined takes the place of a lost one.
use Rattle.std.specs.Prelude.{◌≡◌, ℕ, ◌<◌, ◌≤◌, ◌==◌, ⊤, List, [], ◌∷◌, ◌++◌, length, slice_get, Some, if◌then◌else◌}
use Rattle.wf_actor.specs.Farm.{items}
use Rattle.wf_execution.specs.Theorems.{outputs_in}
use Rattle.wf_replacement.specs.Timeline.{Loses, Opens, ProcessEvent, Rejoins, process_of}
use Rattle.wf_tape.specs.declared.tape.Tape.{Ghosts as Tape}
use Rattle.wf_histories.specs.Advance.{run_of}
use Rattle.wf_histories.specs.Carried.{AreSentBefore}
use Rattle.wf_histories.specs.Events.{Lifetime, TracedEvent, events_in, stepless, steps_in, untraced}
use Rattle.wf_histories.specs.Lifetimes.{AreLifetimes, AreOnLater, HasJoinedBy}
use Rattle.wf_histories.specs.Nodes.{AreOnFolder, IsProcessOf, NodeProcess, StandsAsBefore, bytes_read}

module _ {T : Type 0} (tapes : Tape T) where
  -- ---- nothing

  abbrev pub nobody : ℕ → Lifetime tapes
  nobody i = record { first = []; later = [] }

  abbrev pub NothingLives : Type 0
  NothingLives = (n : ℕ) → AreLifetimes tapes n nobody []

  -- ---- a node goes on

  -- the lifetimes, that of node i being this one
  unfoldable pub with_life : (ℕ → Lifetime tapes) → ℕ → Lifetime tapes → ℕ → Lifetime tapes
  with_life lives i life j = if j == i then life else lives j

  abbrev pub AreAllOf : ℕ → List (TracedEvent T) → Type 0
  AreAllOf i [] = ⊤
  AreAllOf i (e ∷ more) = (process_of e.event ≡ i) × AreAllOf i more

  -- The one lifetime of node i of n is the other, with these events more, which are its own.
  pub record GoesOnBy (n i : ℕ) (before life : Lifetime tapes) (more : List (TracedEvent T)) : Type 0 where
    pub on_first : AreOnFolder tapes n i [] life.first
    pub on_later : AreOnLater tapes n i life.later
    pub grown : events_in tapes i life ≡ events_in tapes i before ++ more
    pub own : AreAllOf i more

  -- each of the events after the first so many by which a process is replaced is by a folder that
  -- had joined by then
  abbrev pub LaterHaveJoinedBy : ℕ → ℕ → List (ProcessEvent T) → Type 0
  LaterHaveJoinedBy n count events = (k i : ℕ) (bytes : List ℕ) → count ≤ k → slice_get events k ≡ Some (Rejoins i bytes) → HasJoinedBy tapes n events k i bytes

  -- It hears then what was sent before. What joined before still has.
  abbrev pub LifeGoesOn : Type 0
  LifeGoesOn = (n i : ℕ) (lives : ℕ → Lifetime tapes) (traced more : List (TracedEvent T)) (life : Lifetime tapes) → AreLifetimes tapes n lives traced → i < n → GoesOnBy n i (lives i) life more →
      AreSentBefore (outputs_in (items (steps_in traced))) (steps_in more) → LaterHaveJoinedBy n (length traced) (untraced (traced ++ more)) →
      AreLifetimes tapes n (with_life lives i life) (traced ++ more)

  -- ---- a process starts on a folder

  -- It is one of node i, in its first run, and has made no act.
  pub record HasStarted (n i : ℕ) (p : NodeProcess tapes) : Type 0 where
    pub is : IsProcessOf tapes n i p
    pub first : p.over ≡ 0
    pub none : p.made ≡ 0

  -- the first one of a node
  abbrev pub FirstStarts : Type 0
  FirstStarts = (n i : ℕ) (p : NodeProcess tapes) → HasStarted n i p → StandsAsBefore [] (bytes_read tapes p) →
      GoesOnBy n i (nobody i) (record { first = p ∷ []; later = [] }) (stepless (Opens i (run_of tapes p).run.first) ∷ [])

  -- the first one on a folder that took the place of the one before it
  abbrev pub FolderTakesPlace : Type 0
  FolderTakesPlace = (n i : ℕ) (life : Lifetime tapes) (p : NodeProcess tapes) → AreOnFolder tapes n i [] life.first → AreOnLater tapes n i life.later → HasStarted n i p →
      GoesOnBy n i life (record { first = life.first; later = life.later ++ (p, []) ∷ [] })
      (stepless (Loses i) ∷ (stepless (Rejoins i (bytes_read tapes p)) ∷ (stepless (Opens i (run_of tapes p).run.first) ∷ [])))
