-- The calls of a start, one after the other.
use Rattle.std.proofs.Common.{◌≡◌, ◌⊎◌, ◌∙◌, ℕ, List, ◌∷◌, ap, inl, inr, subst, sym}
use Rattle.std.specs.Prelude.{Option, Result, Ok, Err, IfErr, IfOk, IfSome, OnErr, option_map}
use Rattle.wf_voter.specs.Process.{Process}
use Rattle.wf_def.specs.Definition.{Definition}
use Rattle.wf_folder.specs.NodeFile.{IsNodeFile, node_text, raised_known}
use Rattle.wf_folder.specs.Reach.{IsReachNoLess}
use Rattle.wf_folder.specs.declared.node_file.NodeFile.{NodeFile}
use Rattle.wf_folder.specs.declared.reach.Known.{Known}
use Rattle.wf_line.specs.declared.node_line.NodeLine.{NodeLine}
use Rattle.wf_peer_connections.specs.declared.joiner.Joiner.{Joiner}
use Rattle.wf_peer_connections.specs.declared.plan.NodePlan.{NodePlan}
use Rattle.wf_model.specs.DurableState.{DurableState}
use Rattle.wf_node.specs.Node.{stored_of}
use Rattle.wf_node_folder.specs.Fault.{IsFromSystem, IsWhyUnheard}
use Rattle.wf_node_folder.specs.Folder.{IsHeardFound, StandsForRead, tape_in}
use Rattle.wf_node_folder.specs.Held.{IsKnownOf, IsRaisedTo}
use Rattle.wf_node_folder.specs.Ready.{IsPlanOf, IsNodePlanned, IsNodeReady, IsReadyAs}
use Rattle.wf_node_folder.specs.ReplacementFiles.{AreNoted, IsJoinsIn, IsOwnJoining, IsReplacedIn}
use Rattle.wf_store.specs.Texts.{is_joins, is_replaced, text_in}
use Rattle.wf_node_folder.specs.Start.{
  IsCountedOn,
  IsReadyCounted,
  IsStartAdmitted,
  IsStartCounted,
  IsLifeDrawn,
  IsHeldCause,
  IsLeftUncounted,
  IsNodeCause,
  IsNodeFault,
  IsNotCounted,
  IsProcessStarted,
  IsStopFault,
  IsStartCutShort,
  IsTapeOpened,
  IsUncounted,
  IsUnopened,
  IsWhyNotAdmitted,
  IsWhyNotCompared,
  IsWordsFault,
}
use Rattle.wf_node_folder.specs.declared.fault.CommandFault.{CommandFault}
use Rattle.wf_node_folder.specs.declared.fault.CommandFault.TheVariants as faults
use Rattle.wf_node_folder.specs.declared.ready.ReadyNode.{ReadyNode}
use Rattle.wf_node_folder.specs.declared.replacement_files.ReplacementFiles.{ReplacementFiles}
use Rattle.wf_peer.specs.Told.{AreLeft}
use Rattle.wf_peer.specs.declared.heard.Heard.{Heard as HeardOfNode}
use Rattle.wf_rejoin.specs.declared.replacement.Replacement.{Replacement}
use Rattle.wf_store.specs.Call.{Call, OnlyReads, unreplaced, locked, replaced}
use Rattle.wf_store.specs.CallTheorems.{reads_both, reads_none}
use Rattle.wf_store.specs.declared.fault.FolderFault.{FolderFault}
use Rattle.wf_store.specs.declared.file_name.FileName.TheVariants.{Farm}
use Rattle.wf_tape.specs.declared.tape.Tape.{Ghosts as Tape}

-- ---- counting

-- what was heard was read, and the file was written
pub counted_by : (heard : List (Option HeardOfNode)) (raised : NodeFile) (old mid new : List Call) → IsHeardFound heard old mid → new ≡ replaced Farm (node_text raised) ∷ mid → IsStartCounted heard raised old new
counted_by heard raised old mid new found is = record {
  bytes = found.bytes;
  is_heard = found.is;
  calls = is ∙ ap (λ (calls : List Call). replaced Farm (node_text raised) ∷ calls) found.calls;
}

-- or it wasn't
pub unwritten_by : (heard : List (Option HeardOfNode)) (file raised : NodeFile) (old mid new : List Call) → IsHeardFound heard old mid → OnlyReads old mid → IsNodeFile raised
    → IsReachNoLess file.known.reach raised.known.reach → (new ≡ mid) ⊎ (new ≡ unreplaced Farm (node_text raised) ∷ mid) → IsNotCounted file old new
unwritten_by heard file raised old mid new found reads sound no_less is = elim is [
  | inl same ↦ inl (subst (λ (calls : List Call). OnlyReads old calls) (sym same) reads)
  | inr at ↦ inr (record { bytes = found.bytes; tried = raised; sound = sound; no_less = no_less; calls = at ∙ ap (λ (calls : List Call). unreplaced Farm (node_text raised) ∷ calls) found.calls })
]

pub raised_by : (stored : DurableState Definition) (file written : NodeFile) (known : Known) → IsKnownOf file.known stored known → written ≡ record file { known = raised_known file.known known.reach known.digest }
    → IsReachNoLess file.known.reach written.known.reach → IsRaisedTo stored file written
raised_by stored file written known is value no_less = record { known = known; is_known = is; value = value; no_less = no_less }

-- ---- a start that was admitted

pub stop_unopened : (file : NodeFile) (old new : List Call) (fault : CommandFault) → IsWhyNotCompared file old new fault → IsStopFault file old new fault
stop_unopened file old new (faults.Rejected why) is = is
stop_unopened file old new (faults.PeerProgress why) is = absurd is
stop_unopened file old new fault is = is

pub stop_of_system : (file : NodeFile) (old new : List Call) (fault : CommandFault) → IsFromSystem fault → IsStopFault file old new fault
stop_of_system file old new (faults.Rejected why) is = absurd is
stop_of_system file old new (faults.PeerProgress why) is = absurd is
stop_of_system file old new (faults.TapeBad offset) is = absurd is
stop_of_system file old new fault is = is

stop_of_unheard : (file : NodeFile) (old new : List Call) (fault : CommandFault) → IsWhyUnheard new fault → IsStopFault file old new fault
stop_of_unheard file old new (faults.Rejected why) is = absurd is
stop_of_unheard file old new (faults.PeerProgress why) is = is
stop_of_unheard file old new (faults.TapeBad offset) is = absurd is
stop_of_unheard file old new fault is = is

-- the tape wasn't opened, or no node was on it
pub unopened : (file : NodeFile) (old new : List Call) → IsUnopened file old new → IsLeftUncounted file old new
unopened file old new is = inl is

-- the tape was opened, and then no plan was made
pub unplanned : (file : NodeFile) (old on_tape new : List Call) → IsTapeOpened file old on_tape → OnlyReads on_tape new → IsLeftUncounted file old new
unplanned file old on_tape new is reads = inr (record { on_tape = on_tape; is_on_tape = is; later = inl reads })

module _ {T : Type 0} (tapes : Tape T) (file : NodeFile) (old on_tape planned new : List Call) (result : Result (ReadyNode T tapes) CommandFault) where
  -- one was, and then the start was counted
  pub counted_on : (process : Process T tapes) (plan : NodePlan) → IsProcessStarted tapes file process → StandsForRead (stored_of process.actor.node) (tape_in on_tape) → IsTapeOpened file old on_tape → IsLifeDrawn on_tape planned
      → IfOk result (λ ready. ready.process ≡ process) → IfOk result (λ ready. ready.plan ≡ plan)
      → IfOk result (λ ready. IsReadyCounted plan.replacements ready.heard ready.file planned new) → IfOk result (λ ready. IsRaisedTo (stored_of process.actor.node) file ready.file)
      → IfOk result (λ ready. IsReadyAs tapes file ready old new)
  counted_on process plan started stands is draws same goes counted raised = by_result result same goes counted raised
    where
      by_result : (r : Result (ReadyNode T tapes) CommandFault) → IfOk r (λ ready. ready.process ≡ process) → IfOk r (λ ready. ready.plan ≡ plan)
          → IfOk r (λ ready. IsReadyCounted plan.replacements ready.heard ready.file planned new)
          → IfOk r (λ ready. IsRaisedTo (stored_of process.actor.node) file ready.file) → IfOk r (λ ready. IsReadyAs tapes file ready old new)
      by_result (Ok ready) one by now raise = record {
        known = now.known;
        is_counted = record {
          on_tape = on_tape;
          is_on_tape = is;
          life = draws.0;
          is_counted = subst (λ (calls : List Call). IsStartCounted now.known ready.file calls new) draws.1 now.is_counted;
        };
        left = subst (λ (p : NodePlan). AreLeft now.known p.replacements ready.heard) (sym by) now.left;
        on_read =
            subst (λ (p : Process T tapes). StandsForRead (stored_of p.actor.node) (tape_in new)) (sym one)
            (subst (λ (had : Option (List ℕ)). StandsForRead (stored_of process.actor.node) had) (sym (ap tape_in now.is_counted.calls ∙ ap tape_in draws.1)) stands);
        is_started = subst (λ (p : Process T tapes). IsProcessStarted tapes file p) (sym one) started;
        is_raised = subst (λ (p : Process T tapes). IsRaisedTo (stored_of p.actor.node) file ready.file) (sym one) raise;
      }
      by_result (Err fault) one by now raise = tt

  -- or it wasn't
  pub uncounted_on : IsTapeOpened file old on_tape → IsLifeDrawn on_tape planned → OnlyReads on_tape planned → OnErr result (IsNotCounted file planned new) → OnErr result (IsLeftUncounted file old new)
  uncounted_on is draws reads left = by_result result left
    where
      by_result : (r : Result (ReadyNode T tapes) CommandFault) → OnErr r (IsNotCounted file planned new) → OnErr r (IsLeftUncounted file old new)
      by_result (Ok ready) uncounted = tt
      by_result (Err fault) uncounted = elim uncounted [
        | inl only ↦ inr (record { on_tape = on_tape; is_on_tape = is; later = inl (reads_both on_tape planned new reads only) })
        | inr at ↦ inr (record { on_tape = on_tape; is_on_tape = is; later = inr (draws.0, subst (λ (calls : List Call). IsUncounted file calls new) draws.1 at) })
      ]

  pub stop_unheard : IfErr result (IsWhyUnheard new) → IfErr result (IsStopFault file old new)
  stop_unheard why = by_result result why
    where
      by_result : (r : Result (ReadyNode T tapes) CommandFault) → IfErr r (IsWhyUnheard new) → IfErr r (IsStopFault file old new)
      by_result (Ok ready) is = tt
      by_result (Err fault) is = stop_of_unheard file old new fault is

-- ---- what the node goes by

-- no later call of a start is of the file `replaced`, or `joins`
module _ {file written : NodeFile} {known : List (Option HeardOfNode)} {old new : List Call} where
  replaced_still : IsCountedOn file written known old new → text_in is_replaced new ≡ text_in is_replaced old
  replaced_still is = ap (text_in is_replaced) is.is_counted.calls ∙ ap (text_in is_replaced) is.is_on_tape.calls ∙ ap (text_in is_replaced) is.is_on_tape.is_compared.calls

  joins_still : IsCountedOn file written known old new → text_in is_joins new ≡ text_in is_joins old
  joins_still is = ap (text_in is_joins) is.is_counted.calls ∙ ap (text_in is_joins) is.is_on_tape.calls ∙ ap (text_in is_joins) is.is_on_tape.is_compared.calls

planned_by : (line : NodeLine) (file : NodeFile) (files : ReplacementFiles) (plan : NodePlan) (old new : List Call) → text_in is_replaced new ≡ text_in is_replaced old → text_in is_joins new ≡ text_in is_joins old
    → AreNoted file files old → IsPlanOf line files plan → IsNodePlanned line file new plan
planned_by line file files plan old new same_replaced same_joins noted by = record {
  replaced =
      subst (λ (known : List (Option Replacement)). IsReplacedIn (text_in is_replaced new) known) (sym by.known)
      (subst (λ (bytes : Option (List ℕ)). IsReplacedIn bytes files.known) (sym same_replaced) noted.replaced);
  joins =
      subst (λ (joining : Option Joiner). IsJoinsIn (text_in is_joins new) (option_map (λ joiner. joiner.joining) joining)) (sym by.joining)
      (subst (λ (bytes : Option (List ℕ)). IsJoinsIn bytes (option_map (λ joiner. joiner.joining) files.joining)) (sym same_joins) noted.joins);
  own = subst (λ (joining : Option Joiner). IfSome joining (λ joiner. IsOwnJoining file joiner.joining)) (sym by.joining) noted.own;
  allowed = by.allowed;
}

-- a node that is ready goes by the plan that was made for it
pub plan_still : {T : Type 0} (tapes : Tape T) (line : NodeLine) (files : ReplacementFiles) (plan : NodePlan) (result : Result (ReadyNode T tapes) CommandFault) → IsPlanOf line files plan
    → IfOk result (λ ready. ready.plan ≡ plan) → IfOk result (λ ready. IsPlanOf line files ready.plan)
plan_still tapes line files plan (Ok ready) is same = subst (IsPlanOf line files) (sym same) is
plan_still tapes line files plan (Err fault) is same = tt

-- ---- a start on a folder that is locked

pub not_admitted : (line : NodeLine) (old new : List Call) (fault : CommandFault) → IsWhyNotAdmitted line old new fault → IsHeldCause line old new fault
not_admitted line old new (faults.Rejected why) is = inl is
not_admitted line old new (faults.PeerProgress why) is = absurd is
not_admitted line old new (faults.TapeBad offset) is = absurd is
not_admitted line old new fault is = is

stop_cause : (line : NodeLine) (file : NodeFile) (old admitted new : List Call) (fault : CommandFault) → IsStartAdmitted line file old admitted → IsStopFault file admitted new fault → IsHeldCause line old new fault
stop_cause line file old admitted new (faults.Rejected why) is returned = inr (record { file = file; admitted = admitted; is_admitted = is; returned = returned })
stop_cause line file old admitted new (faults.PeerProgress why) is heard = heard
stop_cause line file old admitted new (faults.Replacement why) is bad = absurd bad
stop_cause line file old admitted new (faults.TapeBad offset) is damaged = record { file = file; admitted = admitted; is_admitted = is; damaged = damaged }
stop_cause line file old admitted new fault is why = why

module _ {T : Type 0} (tapes : Tape T) (line : NodeLine) (file : NodeFile) (old admitted new : List Call) (is : IsStartAdmitted line file old admitted) (result : Result (ReadyNode T tapes) CommandFault) where
  pub ready_as : (files : ReplacementFiles) → AreNoted file files admitted → IfOk result (λ ready. IsReadyAs tapes file ready admitted new) → IfOk result (λ ready. IsPlanOf line files ready.plan)
      → IfOk result (λ ready. IsNodeReady tapes line ready old new)
  ready_as files noted has goes = by_result result has goes
    where
      by_result : (r : Result (ReadyNode T tapes) CommandFault) → IfOk r (λ ready. IsReadyAs tapes file ready admitted new) → IfOk r (λ ready. IsPlanOf line files ready.plan)
          → IfOk r (λ ready. IsNodeReady tapes line ready old new)
      by_result (Ok ready) one by =
          record { file = file; admitted = admitted; is_admitted = is; is_ready = one; is_planned = planned_by line file files ready.plan admitted new (replaced_still one.is_counted) (joins_still one.is_counted) noted by }
      by_result (Err fault) one by = tt

  pub left_so : OnErr result (IsLeftUncounted file admitted new) → OnErr result (OnlyReads old new ⊎ IsStartCutShort line old new)
  left_so left = by_result result left
    where
      by_result : (r : Result (ReadyNode T tapes) CommandFault) → OnErr r (IsLeftUncounted file admitted new) → OnErr r (OnlyReads old new ⊎ IsStartCutShort line old new)
      by_result (Ok ready) one = tt
      by_result (Err fault) one = inr (record { file = file; admitted = admitted; is_admitted = is; left = one })

  pub stopped_so : IfErr result (IsStopFault file admitted new) → IfErr result (IsHeldCause line old new)
  stopped_so why = by_result result why
    where
      by_result : (r : Result (ReadyNode T tapes) CommandFault) → IfErr r (IsStopFault file admitted new) → IfErr r (IsHeldCause line old new)
      by_result (Ok ready) one = tt
      by_result (Err fault) one = stop_cause line file old admitted new fault is one

-- ---- a start

words_cause : (line : NodeLine) (old new : List Call) (fault : CommandFault) → IsWordsFault line fault → IsNodeCause line old new fault
words_cause line old new (faults.BadPeer index) is = is
words_cause line old new (faults.PeerCount count) is = is
words_cause line old new (faults.BadAddress option) is = is
words_cause line old new (faults.Rejected why) is = absurd is
words_cause line old new (faults.PeerProgress why) is = absurd is
words_cause line old new (faults.Replacement why) is = absurd is
words_cause line old new (faults.TapeBad offset) is = absurd is
words_cause line old new fault is = is

-- a word of the command line is bad
pub bad_words : (line : NodeLine) (calls : List Call) (fault : CommandFault) → IsWordsFault line fault → IsNodeFault line calls calls fault
bad_words line calls fault is = record { cause = words_cause line calls calls fault is; left = inl (reads_none calls) }

-- the folder isn't locked
pub not_locked : (line : NodeLine) (old new : List Call) (fault : FolderFault) → OnlyReads old new → IsNodeFault line old new (faults.Folder fault)
not_locked line old new fault reads = record { cause = tt; left = inl reads }

held_cause : (line : NodeLine) (old new : List Call) (fault : CommandFault) → IsHeldCause line (locked ∷ old) new fault → IsNodeCause line old new fault
held_cause line old new (faults.Rejected why) is = is
held_cause line old new (faults.PeerProgress why) is = is
held_cause line old new (faults.BadPeer index) is = absurd is
held_cause line old new (faults.PeerCount count) is = absurd is
held_cause line old new (faults.BadAddress option) is = absurd is
held_cause line old new fault is = is

-- it is
module _ {T : Type 0} (tapes : Tape T) (line : NodeLine) (old held new : List Call) (is : held ≡ locked ∷ old) (result : Result (ReadyNode T tapes) CommandFault) where
  pub ready_so : IfOk result (λ ready. IsNodeReady tapes line ready held new) → IfOk result (λ ready. IsNodeReady tapes line ready (locked ∷ old) new)
  ready_so has = subst (λ (calls : List Call). IfOk result (λ ready. IsNodeReady tapes line ready calls new)) is has

  pub not_ready : OnlyReads old held → OnErr result (OnlyReads held new ⊎ IsStartCutShort line held new) → IfErr result (IsHeldCause line held new) → IfErr result (IsNodeFault line old new)
  not_ready reads left cause = by_result result left cause
    where
      by_result : (r : Result (ReadyNode T tapes) CommandFault) → OnErr r (OnlyReads held new ⊎ IsStartCutShort line held new) → IfErr r (IsHeldCause line held new) → IfErr r (IsNodeFault line old new)
      by_result (Ok ready) one why = tt
      by_result (Err fault) one why = record {
        cause = held_cause line old new fault (subst (λ (calls : List Call). IsHeldCause line calls new fault) is why);
        left = elim one [
          | inl only ↦ inl (reads_both old held new reads only)
          | inr stopped ↦ inr (inl (subst (λ (calls : List Call). IsStartCutShort line calls new) is stopped))
        ];
      }
