-- What was found in a folder admits a start, or not.
use Rattle.std.proofs.Common.{◌≡◌, ◌∙◌, ◌<◌, ◌+◌, ℕ, List, ◌∷◌, ap, arith, sym, subst}
use Rattle.std.specs.Prelude.{Option, length, option_map}
use Rattle.wf_address.specs.Address.{words_of}
use Rattle.wf_folder.specs.NodeAdmission.{IsNodeRejection, IsNodeStart, IsSoundFind}
use Rattle.wf_folder.specs.NodeFile.{IsNodeFile, last_start, started}
use Rattle.wf_folder.specs.declared.node_admission.NodeFound.{NodeFound}
use Rattle.wf_folder.specs.declared.node_admission.NodeFound.TheVariants as finds
use Rattle.wf_folder.specs.declared.node_admission.NodeRejection.{NodeRejection}
use Rattle.wf_folder.specs.declared.node_file.NodeFile.{NodeFile}
use Rattle.wf_folder.specs.declared.presence.Presence.{Presence}
use Rattle.wf_line.specs.declared.node_line.NodeLine.{NodeLine}
use Rattle.wf_node_folder.specs.Folder.{IsFarmFound}
use Rattle.wf_node_folder.specs.NodeFileTheorems.{with_starts}
use Rattle.wf_node_folder.specs.ReplacementFiles.{AreFilesFound, AreNoted, IsJoinsIn, IsReplacedIn, IsReplacementCause}
use Rattle.wf_store.specs.Texts.{is_joins, is_replaced, text_in}
use Rattle.wf_node_folder.specs.Start.{IsFileAdmitted, IsFileCause, IsLookedAt, IsRejectedBy, IsStartAdmitted, IsWhyNotAdmitted, node_in}
use Rattle.wf_node_folder.specs.declared.fault.CommandFault.{CommandFault}
use Rattle.wf_node_folder.specs.declared.fault.CommandFault.TheVariants as faults
use Rattle.wf_node_folder.specs.declared.replacement_files.ReplacementFiles.{ReplacementFiles}
use Rattle.wf_store.specs.Call.{Call, read, seen}
use Rattle.wf_store.specs.declared.file_name.FileName.TheVariants.{Joins, NodeTape, Replaced}

started_is_file : (file : NodeFile) → IsNodeFile file → file.starts < last_start → IsNodeFile (started file)
started_is_file file is l = with_starts file (file.starts + 1) is (omega (arith, l))

-- the file of a start is one of a node, of as many as are listed
pub start_is_file : (nodes : ℕ) (found : NodeFound) (tape : Presence) (now : NodeFile) → IsSoundFind found → IsNodeStart nodes found tape now → IsNodeFile now
start_is_file nodes finds.Nothing tape now sound start = absurd start
start_is_file nodes (finds.Bad fault) tape now sound start = absurd start
start_is_file nodes (finds.File file) tape now sound start = subst IsNodeFile (sym start.counted) (started_is_file file sound start.countable)

pub start_has_nodes : (nodes : ℕ) (found : NodeFound) (tape : Presence) (now : NodeFile) → IsNodeStart nodes found tape now → now.nodes ≡ nodes
start_has_nodes nodes finds.Nothing tape now start = absurd start
start_has_nodes nodes (finds.Bad fault) tape now start = absurd start
start_has_nodes nodes (finds.File file) tape now start = subst (λ (f : NodeFile). f.nodes ≡ nodes) (sym start.counted) start.same_nodes

module _ (line : NodeLine) (nodes : ℕ) (found : NodeFound) (tape : Presence) (old mid new : List Call) (is : IsFarmFound found old mid) (node : ℕ) (at : node ≡ node_in found)
    (calls : new ≡ seen (NodeTape node) tape ∷ mid) (sound : IsSoundFind found) (count : nodes ≡ length (words_of line.peers.now)) where
  looked_at : IsLookedAt found tape old new
  looked_at = record {
    bytes = is.bytes;
    is = is.is;
    sound = sound;
    calls = calls ∙ ap (λ (n : ℕ). seen (NodeTape n) tape ∷ mid) at ∙ ap (λ (earlier : List Call). seen (NodeTape (node_in found)) tape ∷ earlier) is.calls;
  }

  pub admitted_by : (file : NodeFile) → IsNodeStart nodes found tape file → IsFileAdmitted line file old new
  admitted_by file start = record { found = found; tape = tape; looked = looked_at; start = subst (λ (n : ℕ). IsNodeStart n found tape file) count start }

  pub rejected_by : (why : NodeRejection) → IsNodeRejection nodes found tape why → IsRejectedBy line why old new
  rejected_by why rejection = record { found = found; tape = tape; looked = looked_at; rejection = subst (λ (n : ℕ). IsNodeRejection n found tape why) count rejection }

-- ---- what the folder says of replacements

module _ (file : NodeFile) (files : ReplacementFiles) (old new : List Call) (found : AreFilesFound file files old new) where
  both_read : new ≡ read Joins found.joins.bytes ∷ read Replaced found.replaced.bytes ∷ old
  both_read = found.joins.calls ∙ ap (λ (calls : List Call). read Joins found.joins.bytes ∷ calls) found.replaced.calls

  pub noted_by : AreNoted file files new
  noted_by = record {
    replaced = subst (λ (bytes : Option (List ℕ)). IsReplacedIn bytes files.known) (sym (ap (text_in is_replaced) both_read)) found.replaced.is;
    joins = subst (λ (bytes : Option (List ℕ)). IsJoinsIn bytes (option_map (λ joiner. joiner.joining) files.joining)) (sym (ap (text_in is_joins) both_read)) found.joins.is;
    own = found.joins.own;
  }

  pub start_admitted : (line : NodeLine) (first : List Call) → IsFileAdmitted line file first old → IsStartAdmitted line file first new
  start_admitted line first is = record {
    looked_at = old;
    is_file = is;
    replaced_bytes = found.replaced.bytes;
    joins_bytes = found.joins.bytes;
    calls = both_read;
  }

pub not_file : (line : NodeLine) (old new : List Call) (fault : CommandFault) → IsFileCause line old new fault → IsWhyNotAdmitted line old new fault
not_file line old new (faults.Rejected why) is = is
not_file line old new (faults.Replacement why) is = absurd is
not_file line old new fault is = is

pub bad_file : (line : NodeLine) (file : NodeFile) (old mid new : List Call) (fault : CommandFault) → IsFileAdmitted line file old mid → IsReplacementCause file new fault → IsWhyNotAdmitted line old new fault
bad_file line file old mid new (faults.Rejected why) is cause = absurd cause
bad_file line file old mid new (faults.Replacement why) is cause = record { file = file; looked_at = mid; is_file = is; bad = cause }
bad_file line file old mid new fault is cause = cause
