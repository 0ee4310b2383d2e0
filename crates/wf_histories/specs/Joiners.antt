-- A folder that joins in the place of a lost one: what its processes learned, and that the next one
-- may vote.
use Rattle.std.specs.Prelude.{◌≡◌, ℕ, ◌≤◌, ⊤, List, [], ◌∷◌, ◌++◌, take, IsSome, Option, Some}
use Rattle.wf_codec.specs.declared.message.Message.{Message}
use Rattle.wf_def.specs.Definition.{Definition}
use Rattle.wf_folder.specs.declared.node_file.NodeFile.{NodeFile}
use Rattle.wf_model.specs.DurableState.{DurableState, published}
use Rattle.wf_node.specs.Images.{StandsFor}
use Rattle.wf_node_folder.specs.FarmPut.{HasPut, published_in}
use Rattle.wf_node_folder.specs.Folder.{StaysFrom}
use Rattle.wf_line.specs.declared.node_line.NodeLine.{NodeLine}
use Rattle.wf_node_folder.specs.Joined.{SaysJoining}
use Rattle.wf_node_folder.specs.PowerCut.{ReadsWhatIsLeft}
use Rattle.wf_node_folder.specs.Start.{IsNotServed}
use Rattle.wf_power_cuts.specs.Cut.{MayLeaveNow}
use Rattle.wf_rejoin.specs.Joining.{MayVote}
use Rattle.wf_rejoin.specs.declared.joining.Joining.{Joining}
use Rattle.wf_rejoin_guard.specs.Joined.{IsAnsweredSince, IsFolderOf}
use Rattle.wf_rejoin_guard.specs.Learned.{EndLearns, HasJoinedByLearning, HasLearnedFrom}
use Rattle.wf_replacement.specs.Timeline.{ProcessEvent, returned_through}
use Rattle.wf_store.specs.Call.{Call, IsAfter, replaced}
use Rattle.wf_store.specs.declared.file_name.FileName.TheVariants.{Farm, Joins}
use Rattle.wf_tape.specs.declared.tape.Tape.{Ghosts as Tape}
use Rattle.wf_histories.specs.Carried.{AreSentBefore}
use Rattle.wf_histories.specs.Nodes.{AreOnFolder, NodeProcess, bytes_read, made_by}
use Rattle.wf_histories.specs.Runs.{steps_made}

-- By what the file `joins` said at these calls, the folder may vote with whatever the bytes stand
-- for.
pub record MayVoteWith (calls : List Call) (bytes : List ℕ) : Type 0 where
  pub joining : Joining
  pub says : SaysJoining joining calls
  pub may_vote : (stored : DurableState Definition) → StandsFor stored bytes → MayVote joining (published stored)

-- A start on a folder that isn't served: the calls that it would have made, and those that it made
-- before it was killed; all of them, if it ended by itself. Both go on from the folder's earlier
-- ones.
pub record StartCut : Type 0 where
  pub line : NodeLine
  pub whole : List Call
  pub made : List Call

-- It came after these calls, and what it read of the file `farm` may have been left there.
pub record IsCutOn (old : List Call) (cut : StartCut) : Type 0 where
  pub after : IsAfter old cut.made
  pub rest : IsAfter cut.made cut.whole
  pub start : IsNotServed cut.line old cut.whole
  pub reads : ReadsWhatIsLeft old cut.whole

-- such starts, one after the other on one folder
abbrev pub AreCutOnOne : List Call → List StartCut → List Call → Type 0
AreCutOnOne old [] new = new ≡ old
AreCutOnOne old (cut ∷ later) new = IsCutOn old cut × AreCutOnOne cut.made later new

module _ {T : Type 0} (tapes : Tape T) where
  -- ---- what its processes learned

  -- Its folder joins, by what it read of the file `joins`. Only these messages came to it from
  -- peers, as connections carry them. The step within which it was killed, if it was within one,
  -- learned: of that no clause speaks, since it never returned.
  pub record HasOnlyJoined (i : ℕ) (sent : List Message) (p : NodeProcess tapes) : Type 0 where
    pub joins : IsSome p.has.plan.joining
    pub heard : AreSentBefore sent (steps_made i (made_by tapes p))
    pub cut : EndLearns sent p.end

  abbrev pub HaveOnlyJoined : ℕ → List Message → List (NodeProcess tapes) → Type 0
  HaveOnlyJoined i sent [] = ⊤
  HaveOnlyJoined i sent (p ∷ later) = HasOnlyJoined i sent p × HaveOnlyJoined i sent later

  -- Processes of node i of n, one after the other on a folder that was empty at first: those up to
  -- `last` joined, and then came the next one.
  pub record HaveJoined (n i : ℕ) (sent : List Message) (earlier : List (NodeProcess tapes)) (last next : NodeProcess tapes) : Type 0 where
    pub on_folder : AreOnFolder tapes n i [] (earlier ++ last ∷ (next ∷ []))
    pub joined : HaveOnlyJoined i sent (earlier ++ last ∷ [])

  -- If only what the timeline had returned by a moment came to them, they have learned from that
  -- what the next one read of the tape.
  abbrev pub JoinersHaveLearned : Type 0
  JoinersHaveLearned = (n i : ℕ) (events : List (ProcessEvent T)) (until : ℕ) (earlier : List (NodeProcess tapes)) (last next : NodeProcess tapes) →
      HaveJoined n i (returned_through (take until events)) earlier last next → HasLearnedFrom tapes n events until i (bytes_read tapes next)

  -- ---- that the next one may vote

  -- It emptied the file `joins`, so that its folder joins no more: of its calls, which are as a
  -- clause says, that is one, after these earlier ones.
  pub record HasEmptied (p : NodeProcess tapes) : Type 0 where
    pub stays : StaysFrom p.has.begun p.new
    pub since : List Call
    pub earlier : List Call
    pub calls : stays.after.later ≡ since ++ replaced Joins [] ∷ earlier

  abbrev pub calls_before : {p : NodeProcess tapes} → HasEmptied p → List Call
  calls_before {p} emptied = emptied.earlier ++ p.has.begun

  -- the bytes that its start read of the file `farm`
  abbrev pub farm_read : NodeProcess tapes → Option (List ℕ)
  farm_read p = p.has.is_start.is_admitted.is_file.looked.bytes

  -- What the next one read of the file `farm` says no less is published than what this one had put
  -- there last.
  abbrev pub IsFarmKept : (last next : NodeProcess tapes) → Type 0
  IsFarmKept last next = (put : NodeFile) → HasPut put last.new → published_in put ≤ published_in next.has.file

  -- So it is where starts that read what is there came in between, each cut off or ended by an
  -- error, and that one read what a power cut may leave of the file after all these calls.
  abbrev pub CutFarmsAreKept : Type 0
  CutFarmsAreKept = (last next : NodeProcess tapes) → StaysFrom last.has.begun last.new → (cuts : List StartCut) (calls : List Call) → AreCutOnOne last.new cuts calls →
      (bytes : List ℕ) → MayLeaveNow calls Farm bytes → farm_read next ≡ Some bytes → IsFarmKept last next

  abbrev pub JoinedFoldersMayVote : Type 0
  JoinedFoldersMayVote = (last next : NodeProcess tapes) (emptied : HasEmptied last) → IsFarmKept last next →
      MayVoteWith (calls_before emptied) (bytes_read tapes next)

  -- ---- both

  -- What the file `joins` said is of node i of n; and since anything happened to that, those
  -- answered whose answers it had.
  abbrev pub IsSaidSince : (n i : ℕ) → List (ProcessEvent T) → ℕ → List Call → Type 0
  IsSaidSince n i events until calls = (j : Joining) → SaysJoining j calls → IsFolderOf n i j × IsAnsweredSince events until j

  -- So the folder has joined by learning, as the theorems of `wf_rejoin_guard` want it of each
  -- process that is replaced.
  abbrev pub FoldersJoinByLearning : Type 0
  FoldersJoinByLearning = (n i : ℕ) (events : List (ProcessEvent T)) (until : ℕ) (earlier : List (NodeProcess tapes)) (last next : NodeProcess tapes) (emptied : HasEmptied last) →
      HaveJoined n i (returned_through (take until events)) earlier last next → IsFarmKept last next → IsSaidSince n i events until (calls_before emptied) →
      (j : Joining) × IsFolderOf n i j × HasJoinedByLearning tapes events until (bytes_read tapes next) j
