-- The premises about a folder that joins can be met, one thing after the other: a process starts on
-- an empty tape, takes the next act of its run, goes on in its next run, and ends; another one
-- starts on what it left; and at last one that need not join.
use Rattle.std.specs.Prelude.{◌≡◌, ℕ, List, [], ◌∷◌, ◌++◌, IsSome}
use Rattle.wf_actor.specs.Farm.{items}
use Rattle.wf_actor.specs.declared.actor.Origin.{Origin}
use Rattle.wf_execution.specs.Run.{Act, given_to}
use Rattle.wf_execution.specs.Theorems.{outputs_in}
use Rattle.wf_codec.specs.declared.message.Message.{Message}
use Rattle.wf_rejoin_guard.specs.Learned.{EndLearns}
use Rattle.wf_store.specs.Call.{Call, replaced}
use Rattle.wf_store.specs.declared.file_name.FileName.TheVariants.{Joins}
use Rattle.wf_tape.specs.declared.tape.Tape.{Ghosts as Tape}
use Rattle.wf_histories.specs.Advance.{IsInFirstRun, HasNextRun, IsNextAct, in_next_run, one_act_more}
use Rattle.wf_histories.specs.Carried.{ArePeersSent, AreSentBefore}
use Rattle.wf_histories.specs.Joiners.{HasEmptied, HaveJoined, HaveOnlyJoined}
use Rattle.wf_histories.specs.Nodes.{AreOnFolder, NodeProcess, made_by}
use Rattle.wf_histories.specs.Runs.{steps_made}

module _ {T : Type 0} (tapes : Tape T) where
  -- The processes of node i of n on a folder that was empty at first: the earlier ones have joined,
  -- and so has this one so far, which may go on.
  pub record AreJoining (n i : ℕ) (sent : List Message) (earlier : List (NodeProcess tapes)) (p : NodeProcess tapes) : Type 0 where
    pub on_folder : AreOnFolder tapes n i [] (earlier ++ p ∷ [])
    pub joined : HaveOnlyJoined tapes i sent earlier
    pub joins : IsSome p.has.plan.joining
    pub heard : AreSentBefore sent (steps_made i (made_by tapes p))

  -- the first one starts, on an empty tape
  abbrev pub FirstJoins : Type 0
  FirstJoins = (n i : ℕ) (sent : List Message) (p : NodeProcess tapes) → IsInFirstRun tapes n i [] [] p → IsSome p.has.plan.joining → AreJoining n i sent [] p

  -- it takes the next act of its run, and hears of peers what was sent before
  abbrev pub ActJoins : Type 0
  ActJoins = (n i : ℕ) (sent : List Message) (earlier : List (NodeProcess tapes)) (p : NodeProcess tapes) (act : Act T) (origin : Origin) → AreJoining n i sent earlier p → IsNextAct tapes p act origin →
      ArePeersSent (sent ++ outputs_in (items (steps_made i (made_by tapes p)))) origin (given_to act.input) → AreJoining n i sent earlier (one_act_more tapes p)

  -- it goes on in its next run
  abbrev pub RunJoins : Type 0
  RunJoins = (n i : ℕ) (sent : List Message) (earlier : List (NodeProcess tapes)) (p : NodeProcess tapes) → AreJoining n i sent earlier p → HasNextRun tapes p → AreJoining n i sent earlier (in_next_run tapes p)

  -- more is sent meanwhile
  abbrev pub MoreIsSent : Type 0
  MoreIsSent = (n i : ℕ) (sent more : List Message) (earlier : List (NodeProcess tapes)) (p : NodeProcess tapes) → AreJoining n i sent earlier p → AreJoining n i (sent ++ more) earlier p

  -- It has ended, within a step that learned if it was within one; and another one starts on what
  -- it left, and joins,
  abbrev pub NextJoins : Type 0
  NextJoins = (n i : ℕ) (sent : List Message) (earlier : List (NodeProcess tapes)) (last p : NodeProcess tapes) → AreJoining n i sent earlier last → EndLearns sent last.end →
      IsInFirstRun tapes n i [] (earlier ++ last ∷ []) p → IsSome p.has.plan.joining → AreJoining n i sent (earlier ++ last ∷ []) p

  -- or need not join.
  abbrev pub NextVotes : Type 0
  NextVotes = (n i : ℕ) (sent : List Message) (earlier : List (NodeProcess tapes)) (last next : NodeProcess tapes) → AreJoining n i sent earlier last → EndLearns sent last.end →
      IsInFirstRun tapes n i [] (earlier ++ last ∷ []) next → HaveJoined tapes n i sent earlier last next

  -- A process whose calls have one by which the file `joins` was emptied, has emptied it.
  abbrev pub CallsShowEmptied : Type 0
  CallsShowEmptied = (p : NodeProcess tapes) (since earlier : List Call) → p.new ≡ since ++ replaced Joins [] ∷ (earlier ++ p.has.begun) → ∥ HasEmptied tapes p ∥₁
