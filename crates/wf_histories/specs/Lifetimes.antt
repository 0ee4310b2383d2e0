-- Processes of the nodes of a farm of which some lost their disks, and folders joined in the place
-- of these: they are a timeline of `wf_replacement`, and agree.
use Rattle.std.specs.Prelude.{◌≡◌, ℕ, ◌<◌, ◌≤◌, ⊤, List, [], ◌∷◌, ◌++◌, length, take, slice_get, Some}
use Rattle.wf_def.specs.Definition.{Definition}
use Rattle.wf_model.specs.DurableState.{definition_at}
use Rattle.wf_node.specs.Node.{Node}
use Rattle.wf_rejoin_guard.specs.Learned.{EachHasLearned, IsLooseTimeline}
use Rattle.wf_replacement.specs.Theorems.{AreHeldInOrder}
use Rattle.wf_replacement.specs.Timeline.{ProcessEvent, Rejoins, returned_through}
use Rattle.wf_safety.specs.Theorems.{IsBeginning}
use Rattle.wf_tape.specs.declared.tape.Tape.{Ghosts as Tape}
use Rattle.wf_wms.specs.Answer.{AnswerValue, AsksForMap, IsAnswerOf}
use Rattle.wf_histories.specs.Carried.{AreSentBefore}
use Rattle.wf_histories.specs.Events.{AreEventsOf, Lifetime, TracedEvent, events_in, events_of, steps_in, untraced}
use Rattle.wf_histories.specs.Joiners.{HasEmptied, HaveJoined, IsFarmKept, IsSaidSince, calls_before}
use Rattle.wf_histories.specs.Nodes.{AreOnFolder, NodeProcess, bytes_read, values_on}

module _ {T : Type 0} (tapes : Tape T) where
  -- ---- the premises

  -- on each later folder of node i of n, its processes go on from what the first of them read
  abbrev pub AreOnLater : (n i : ℕ) → List (NodeProcess tapes × List (NodeProcess tapes)) → Type 0
  AreOnLater n i [] = ⊤
  AreOnLater n i (folder ∷ later) = AreOnFolder tapes n i (bytes_read tapes folder.0) (folder.0 ∷ folder.1) × AreOnLater n i later

  -- A folder had joined by moment k as node i of n, and the next process on it read these bytes:
  -- its processes heard only what had been returned by then, and the last of them emptied its file
  -- `joins`, of which those answered who ran since anything happened to the node.
  pub record HasJoinedBy (n : ℕ) (events : List (ProcessEvent T)) (k i : ℕ) (bytes : List ℕ) : Type 0 where
    pub earlier : List (NodeProcess tapes)
    pub last : NodeProcess tapes
    pub next : NodeProcess tapes
    pub emptied : HasEmptied tapes last
    pub joined : HaveJoined tapes n i (returned_through (take k events)) earlier last next
    pub kept : IsFarmKept tapes last next
    pub said : IsSaidSince tapes n i events k (calls_before tapes emptied)
    pub read : bytes_read tapes next ≡ bytes

  abbrev pub EachHasJoinedBy : ℕ → List (ProcessEvent T) → Type 0
  EachHasJoinedBy n events = (k i : ℕ) (bytes : List ℕ) → slice_get events k ≡ Some (Rejoins i bytes) → HasJoinedBy n events k i bytes

  -- Processes of n nodes in one order of time, in which nothing had started at first. Each node
  -- lived on its first folder, which was empty, and on those that took its place; there it was
  -- given from peers only what connections carry of what nodes had returned. What a folder asks
  -- while it joins is no event, so no node was given that, unless a node had asked the same. Each
  -- folder that took another's place had joined.
  pub record AreLifetimes (n : ℕ) (lives : ℕ → Lifetime tapes) (traced : List (TracedEvent T)) : Type 0 where
    pub on_first : (i : ℕ) → i < n → AreOnFolder tapes n i [] (lives i).first
    pub on_later : (i : ℕ) → i < n → AreOnLater n i (lives i).later
    pub members : AreEventsOf n traced
    pub in_order : (i : ℕ) → i < n → events_of i traced ≡ events_in tapes i (lives i)
    pub connected : AreSentBefore [] (steps_in traced)
    pub joined : EachHasJoinedBy n (untraced traced)

  -- ---- the values of a node

  unfoldable pub values_later : List (NodeProcess tapes × List (NodeProcess tapes)) → List (Node T)
  values_later [] = []
  values_later (folder ∷ later) = values_on tapes (folder.0 ∷ folder.1) ++ values_later later

  -- all values that it ever had that voted, in their order
  abbrev pub values_lived : Lifetime tapes → List (Node T)
  values_lived life = values_on tapes life.first ++ values_later life.later

  -- at a moment of its life, of which the first is 0, node i was this
  pub record LivedAs (n : ℕ) (lives : ℕ → Lifetime tapes) (i moment : ℕ) (node : Node T) : Type 0 where
    pub member : i < n
    pub at : slice_get (values_lived (lives i)) moment ≡ Some node

  -- ---- the theorems

  -- They are a timeline, in which each process that is replaced has joined by learning; and what
  -- a node lived as it held in that, in the same order.
  pub record AreTimeline (n : ℕ) (lives : ℕ → Lifetime tapes) (events : List (ProcessEvent T)) : Type 0 where
    pub timeline : IsLooseTimeline tapes n events
    pub learned : EachHasLearned tapes n events
    pub held : (i moment later : ℕ) (node next : Node T) → moment ≤ later → LivedAs n lives i moment node → LivedAs n lives i later next → AreHeldInOrder n events i node next

  abbrev pub LifetimesAreTimeline : Type 0
  LifetimesAreTimeline = (n : ℕ) (lives : ℕ → Lifetime tapes) (traced : List (TracedEvent T)) → AreLifetimes n lives traced → AreTimeline n lives (untraced traced)

  -- There is one history, and what any node had published at any moment is a beginning of it.
  pub record HasOneHistoryOf (n : ℕ) (lives : ℕ → Lifetime tapes) : Type 0 where
    pub history : List Definition
    pub each : (i moment : ℕ) (node : Node T) → LivedAs n lives i moment node → IsBeginning node.parts.history history

  abbrev pub LifetimesShareHistory : Type 0
  LifetimesShareHistory = (n : ℕ) (lives : ℕ → Lifetime tapes) (traced : List (TracedEvent T)) → AreLifetimes n lives traced → HasOneHistoryOf n lives

  -- No two nodes, at any two moments, have published different definitions under one sequence,
  -- whatever folders joined in the place of lost ones before or between.
  abbrev pub LifetimesNeverDiffer : Type 0
  LifetimesNeverDiffer = (n : ℕ) (lives : ℕ → Lifetime tapes) (traced : List (TracedEvent T)) → AreLifetimes n lives traced → (i moment j other_moment : ℕ) (node other : Node T) →
      LivedAs n lives i moment node → LivedAs n lives j other_moment other → (s : ℕ) (c d : Definition) →
      definition_at node.parts.history s ≡ Some c → definition_at other.parts.history s ≡ Some d → c ≡ d

  -- What a node had published at one moment is a beginning of what it had published at each later
  -- one, on whichever folder.
  abbrev pub LifetimesNeverGoBack : Type 0
  LifetimesNeverGoBack = (n : ℕ) (lives : ℕ → Lifetime tapes) (traced : List (TracedEvent T)) → AreLifetimes n lives traced → (i moment later : ℕ) (node next : Node T) → moment ≤ later →
      LivedAs n lives i moment node → LivedAs n lives i later next → IsBeginning node.parts.history next.parts.history

  -- Two nodes that have published equally many maps have one answer to a query of the web map
  -- service; so have two that it asks for one map.
  abbrev pub LifetimesAnswerAlike : Type 0
  LifetimesAnswerAlike = (n : ℕ) (lives : ℕ → Lifetime tapes) (traced : List (TracedEvent T)) → AreLifetimes n lives traced → (i moment j other_moment : ℕ) (node other : Node T) →
      LivedAs n lives i moment node → LivedAs n lives j other_moment other → (s : ℕ) (query : List ℕ) (answer another : AnswerValue) →
      length node.parts.history ≡ s → length other.parts.history ≡ s →
      IsAnswerOf s node.parts.history query answer → IsAnswerOf s other.parts.history query another → another ≡ answer

  abbrev pub LifetimesAnswerMapsAlike : Type 0
  LifetimesAnswerMapsAlike = (n : ℕ) (lives : ℕ → Lifetime tapes) (traced : List (TracedEvent T)) → AreLifetimes n lives traced → (i moment j other_moment : ℕ) (node other : Node T) →
      LivedAs n lives i moment node → LivedAs n lives j other_moment other → (s t m : ℕ) (query : List ℕ) (answer another : AnswerValue) →
      AsksForMap m s query → AsksForMap m t query → length node.parts.history ≡ s → length other.parts.history ≡ t →
      IsAnswerOf s node.parts.history query answer → IsAnswerOf t other.parts.history query another → another ≡ answer
