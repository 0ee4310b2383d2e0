-- A folder that joins ceases to only where it may vote, and so the next process on it may.
use Rattle.std.proofs.Common.{◌≡◌, ℕ, ◌≤◌, Bool, true, false, List, [], ◌∷◌, ◌++◌, length, Option, Some, sym, ap, subst, ◌∙◌, inl, inr, arith}
use Rattle.std.proofs.lemmas.Bool.{false≢true}
use Rattle.std.proofs.lemmas.Option.{same_Some}
use Rattle.wf_def.specs.Definition.{Definition}
use Rattle.wf_journal.specs.Records.{AreReadOneWay}
use Rattle.wf_model.specs.DurableState.{DurableState, published}
use Rattle.wf_node.specs.Images.{StandsFor}
use Rattle.wf_folder.specs.NodeFile.{IsNodeFile, node_text}
use Rattle.wf_folder.specs.declared.node_file.NodeFile.{NodeFile}
use Rattle.wf_node_folder.specs.FarmPut.{HasPut, IsRaise, farm_by, farm_in, published_in}
use Rattle.wf_node_folder.specs.Joined.{AreJoinedSoundly, IsJoinedSoundly, IsPutSoundly, MayBePut, MayVoteBy}
use Rattle.wf_rejoin.specs.JoinStep.{stepped}
use Rattle.wf_rejoin.specs.Joining.{HasWindowAfter, MayVote, highest_answer}
use Rattle.wf_rejoin.specs.JoiningText.{joins_text}
use Rattle.wf_rejoin.specs.declared.joining.Joining.{Joining}
use Rattle.wf_rejoin_guard.specs.Joined.{IsFolderOf}
use Rattle.wf_rejoin_guard.specs.Learned.{HasLearnedFrom}
use Rattle.wf_replacement.specs.Timeline.{ProcessEvent}
use Rattle.wf_store.specs.Call.{Call, replaced}
use Rattle.wf_store.specs.declared.call_kind.CallKind.{CallKind}
use Rattle.wf_store.specs.declared.call_kind.CallKind.TheVariants as kinds
use Rattle.wf_store.specs.declared.file_name.FileName.TheVariants.{Farm, Heard, Joins, NodeTape, Replaced, ReplicaTape}
use Rattle.wf_tape.specs.declared.tape.Tape.{Ghosts as Tape}
use Rattle.wf_histories.specs.Joiners.{FoldersJoinByLearning, HasEmptied, IsFarmKept, JoinedFoldersMayVote, JoinersHaveLearned, MayVoteWith, calls_before}
use Rattle.wf_histories.specs.Nodes.{NodeProcess, bytes_read}
use Rattle.wf_histories.proofs.Left.{stands_once}

-- ---- the empty text

abbrev is_empty : List ℕ → Bool
is_empty [] = true
is_empty (byte ∷ bytes) = false

-- no text of a folder that joins is empty
some_text : (j : Joining) → joins_text j ≡ [] → ⊥
some_text j e = false≢true (ap is_empty e)

-- it was put there only where the folder may vote
may_by_text : (text : List ℕ) (calls : List Call) → [] ≡ text → MayBePut text calls → MayVoteBy calls
may_by_text text calls same (inl emptied) = emptied.1
may_by_text text calls same (inr told) = absurd (some_text (stepped told.step told.joining) (sym (same ∙ told.is)))

may_by : (calls : List Call) → IsPutSoundly Joins (Some []) calls → MayVoteBy calls
may_by calls put = may_by_text put.text calls (same_Some [] put.text put.is) put.may

put_soundly : (begun after before : List Call) → AreJoinedSoundly (after ++ replaced Joins [] ∷ before) begun → IsPutSoundly Joins (Some []) (before ++ begun)
put_soundly begun [] before are = are.0
put_soundly begun (call ∷ after) before are = put_soundly begun after before are.1

-- ---- what is put in the place of the file `farm`

before_soundly : (begun after before : List Call) → AreJoinedSoundly (after ++ replaced Joins [] ∷ before) begun → AreJoinedSoundly before begun
before_soundly begun [] before are = are.1
before_soundly begun (call ∷ after) before are = before_soundly begun after before are.1

-- What was put there last says no less than that this was published.
record NoLessPut (calls : List Call) (published : ℕ) : Type 0 where
  put : NodeFile
  has : HasPut put calls
  no_less : published ≤ published_in put

-- a text that was put there, or tried to be
raise_by : (text : List ℕ) (bytes : Option (List ℕ)) (calls : List Call) (put : NodeFile) → HasPut put calls → IsRaise text calls → bytes ≡ Some text
    → (next : NodeFile) × IsNodeFile next × (bytes ≡ Some (node_text next)) × (published_in put ≤ published_in next)
raise_by text bytes calls put has raise is = (raise.file, raise.sound, is ∙ ap (λ (t : List ℕ). Some t) raise.is, raise.no_less put has)

-- after one call more
call_raises : (kind : CallKind) (bytes : Option (List ℕ)) (calls : List Call) (put : NodeFile) → HasPut put calls → IsJoinedSoundly kind bytes calls
    → (next : NodeFile) × IsNodeFile next × (farm_by kind bytes (farm_in calls) ≡ Some (node_text next)) × (published_in put ≤ published_in next)
call_raises (kinds.Replaces Farm) bytes calls put has sound = raise_by sound.text bytes calls put has sound.may sound.is
call_raises (kinds.Replaces Heard) bytes calls put has sound = (put, has.sound, has.text, omega arith)
call_raises (kinds.Replaces Joins) bytes calls put has sound = (put, has.sound, has.text, omega arith)
call_raises (kinds.Replaces Replaced) bytes calls put has sound = (put, has.sound, has.text, omega arith)
call_raises (kinds.Replaces (NodeTape node)) bytes calls put has sound = (put, has.sound, has.text, omega arith)
call_raises (kinds.Replaces ReplicaTape) bytes calls put has sound = (put, has.sound, has.text, omega arith)
call_raises kinds.Makes bytes calls put has sound = (put, has.sound, has.text, omega arith)
call_raises kinds.Locks bytes calls put has sound = (put, has.sound, has.text, omega arith)
call_raises (kinds.Compares same) bytes calls put has sound = (put, has.sound, has.text, omega arith)
call_raises (kinds.Counts count) bytes calls put has sound = (put, has.sound, has.text, omega arith)
call_raises (kinds.Draws bits) bytes calls put has sound = (put, has.sound, has.text, omega arith)
call_raises (kinds.Sees file there) bytes calls put has sound = (put, has.sound, has.text, omega arith)
call_raises (kinds.Measures file length) bytes calls put has sound = (put, has.sound, has.text, omega arith)
call_raises (kinds.Reads file) bytes calls put has sound = (put, has.sound, has.text, omega arith)
call_raises (kinds.Opens file) bytes calls put has sound = (put, has.sound, has.text, omega arith)
call_raises (kinds.OpensExisting file) bytes calls put has sound = (put, has.sound, has.text, omega arith)
call_raises kinds.Fails bytes calls put has sound = (put, has.sound, has.text, omega arith)
call_raises (kinds.FailsAt file) bytes calls put has sound = (put, has.sound, has.text, omega arith)

raised_once : (call : Call) (calls : List Call) (published : ℕ) → NoLessPut calls published → IsJoinedSoundly call.kind call.bytes calls → NoLessPut (call ∷ calls) published
raised_once call calls published before sound =
    let raised = call_raises call.kind call.bytes calls before.put before.has sound in
    record { put = raised.0; has = record { sound = raised.1; text = raised.2 }; no_less = omega (arith, before.no_less, raised.3) }

no_less_put : (later begun : List Call) → AreJoinedSoundly later begun → (put : NodeFile) → HasPut put begun → NoLessPut (later ++ begun) (published_in put)
no_less_put [] begun sound put has = record { put = put; has = has; no_less = omega arith }
no_less_put (call ∷ later) begun sound put has = raised_once call (later ++ begun) (published_in put) (no_less_put later begun sound.1 put has) sound.0

-- also over the call that empties the file `joins`
no_less_since : (begun after before : List Call) → AreJoinedSoundly (after ++ replaced Joins [] ∷ before) begun → (put : NodeFile) → HasPut put (before ++ begun)
    → NoLessPut ((after ++ replaced Joins [] ∷ before) ++ begun) (published_in put)
no_less_since begun [] before are put has = record { put = put; has = record { sound = has.sound; text = has.text }; no_less = omega arith }
no_less_since begun (call ∷ after) before are put has =
    raised_once call ((after ++ replaced Joins [] ∷ before) ++ begun) (published_in put) (no_less_since begun after before are.1 put has) are.0

-- ---- with more that is published

still_far : (m count more : ℕ) → HasWindowAfter m count → count ≤ more → HasWindowAfter m more
still_far m count more (inl window) less = inl (omega (arith, window, less))
still_far m count more (inr all) less = inr (omega (arith, all, less))

still_may : (j : Joining) (count more : ℕ) → MayVote j count → count ≤ more → MayVote j more
still_may j count more may less = record { half = may.half; answered = may.answered; far = still_far (highest_answer j) count more may.far less }

module _ {T : Type 0} (tapes : Tape T) where
  -- it has published what `farm` says, by what was compared when it started
  module _ (one_way : AreReadOneWay) (next : NodeProcess tapes) (stored : DurableState Definition) (stands : StandsFor stored (bytes_read tapes next)) where
    has_published : next.has.file.known.reach.published ≤ published stored
    unfolding published
    has_published =
        let held = next.has.is_start.is_counted.is_on_tape.is_compared.holds in
        let same = stands_once one_way stored held.stored (bytes_read tapes next) stands held.stands in
        let history : length stored.history ≡ length held.stored.history = ap (λ (s : DurableState Definition). length s.history) same in
        omega (arith, history, held.holds.is_reach.up_to, held.holds.admitted.up_to)

  -- a start puts the file `farm` there, and nothing that came later says less
  module _ (last next : NodeProcess tapes) (emptied : HasEmptied tapes last) where
    later_soundly : AreJoinedSoundly (emptied.since ++ replaced Joins [] ∷ emptied.earlier) last.has.begun
    later_soundly = subst (λ (later : List Call). AreJoinedSoundly later last.has.begun) emptied.calls emptied.stays.joined

    put_at_start : HasPut last.has.written last.has.begun
    put_at_start = record { sound = last.has.sound; text = ap farm_in last.has.is_start.is_counted.is_counted.calls }

    put_before : NoLessPut (calls_before tapes emptied) (published_in last.has.written)
    put_before = no_less_put emptied.earlier last.has.begun (before_soundly last.has.begun emptied.since emptied.earlier later_soundly) last.has.written put_at_start

    all_calls : last.new ≡ (emptied.since ++ replaced Joins [] ∷ emptied.earlier) ++ last.has.begun
    all_calls = emptied.stays.after.is ∙ ap (λ (later : List Call). later ++ last.has.begun) emptied.calls

    put_since : NoLessPut last.new (published_in put_before.put)
    put_since = subst (λ (calls : List Call). NoLessPut calls (published_in put_before.put)) (sym all_calls)
        (no_less_since last.has.begun emptied.since emptied.earlier later_soundly put_before.put put_before.has)

    emptied_by : MayVoteBy (calls_before tapes emptied)
    emptied_by = may_by _ (put_soundly last.has.begun emptied.since emptied.earlier later_soundly)

    kept_so : IsFarmKept tapes last next → emptied_by.published ≤ published_in next.has.file
    kept_so kept =
        let said = emptied_by.put put_before.put put_before.has in
        let later = kept put_since.put put_since.has in
        omega (arith, said, put_since.no_less, later)

  module _ (one_way : AreReadOneWay) (last next : NodeProcess tapes) (emptied : HasEmptied tapes last) (kept : IsFarmKept tapes last next) where
    pub may_vote_with : MayVoteWith (calls_before tapes emptied) (bytes_read tapes next)
    may_vote_with =
        let by = emptied_by last next emptied in
        let less = kept_so last next emptied kept in
        record {
          joining = by.joining;
          says = by.says;
          may_vote = λ stored stands.
              let has = has_published one_way next stored stands in
              still_may by.joining by.published (published stored) by.may_vote (omega (arith, less, has));
        }

  pub joined_may_vote : AreReadOneWay → JoinedFoldersMayVote tapes
  joined_may_vote one_way last next emptied kept = may_vote_with one_way last next emptied kept

  -- ---- both

  of_folder : (n i : ℕ) (events : List (ProcessEvent T)) (until : ℕ) (bytes : List ℕ) (j : Joining) → IsFolderOf n i j → HasLearnedFrom tapes n events until i bytes →
      HasLearnedFrom tapes j.nodes events until j.node bytes
  of_folder n i events until bytes j folder learned =
      subst (λ (k : ℕ). HasLearnedFrom tapes j.nodes events until k bytes) (sym folder.node) (subst (λ (count : ℕ). HasLearnedFrom tapes count events until i bytes) (sym folder.nodes) learned)

  pub join_by_learning : JoinersHaveLearned tapes → JoinedFoldersMayVote tapes → FoldersJoinByLearning tapes
  join_by_learning learn vote n i events until earlier last next emptied joined kept said =
      let learned = learn n i events until earlier last next joined in
      let may = vote last next emptied kept in
      let so = said may.joining may.says in (
        may.joining,
        so.0,
        record { answered = so.1; learned = of_folder n i events until (bytes_read tapes next) may.joining so.0 learned; may_vote = may.may_vote },
      )
