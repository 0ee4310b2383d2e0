-- What the next session reads: what a run left, or what openings that were cut off made of it; at
-- first, an empty tape.
use Rattle.std.proofs.Common.{◌≡◌, ℕ, ◌<◌, List, [], length, Some, refl, sym, ap, subst, ◌∙◌, inl, inr, arith, length-append}
use Rattle.std.proofs.lemmas.Option.{same_Some}
use Rattle.wf_ballot.specs.Field.{frame}
use Rattle.wf_execution.specs.Run.{Input, Run, last, RunEnd, Between, Within, Failed, HasLeft, IsOpenedFrom, StandForEither}
use Rattle.wf_def.specs.Definition.{Definition}
use Rattle.wf_journal.specs.Records.{AreReadOneWay, BeginsWithNone}
use Rattle.wf_journal.specs.Encoding.{spelling, text_spelling}
use Rattle.wf_journal.specs.EncodingTheorems.{length_of_encoding}
use Rattle.wf_model.specs.DurableState.{DurableState, Record, fold, fold_from, nothing_stored}
use Rattle.wf_node.specs.Images.{StandsFor}
use Rattle.wf_node.specs.Node.{Node, stored_of}
use Rattle.wf_runs.specs.Folder.{ReadsAlike}

-- ---- openings that were cut off

module _ {T : Type 0} (left bytes : List ℕ) (alike : ReadsAlike left bytes) where
  either_alike : (node : Node T) (input : Input) → StandForEither node input left → StandForEither node input bytes
  either_alike node input (inl stands) = inl (alike (stored_of node) stands)
  either_alike node input (inr stands) = inr (stands.0, alike _ stands.1)

  pub left_alike : (run : Run T) (end : RunEnd) → HasLeft run end left → HasLeft run end bytes
  left_alike run Between has = (has.0, alike (stored_of (last run)) has.1)
  left_alike run (Within input) has = (has.0, either_alike (last run) input has.1)
  left_alike run (Failed input) has = (has.0, either_alike (last run) input has.1)

-- ---- a new tape

some_bytes : (r : Record Definition) → 0 < length (spelling r)
unfolding text_spelling frame
some_bytes r = omega arith

none_begins_nothing : BeginsWithNone []
none_begins_nothing r spelled after spells e = absurd (omega (arith, some_bytes r, length_of_encoding r spelled spells, ap length e, length-append spelled after))

folds_nothing : fold {V = Definition} [] ≡ Some nothing_stored
unfolding fold fold_from
folds_nothing = refl

pub nothing_stands : StandsFor nothing_stored []
nothing_stands = record { records = []; reads = ([], record { splits = refl; longest = none_begins_nothing }); folds = folds_nothing }

pub stands_once : AreReadOneWay → (one other : DurableState Definition) (bytes : List ℕ) → StandsFor one bytes → StandsFor other bytes → one ≡ other
stands_once theorem one other bytes stands also =
    let same = theorem bytes stands.records also.records stands.reads also.reads in
    same_Some one other (sym stands.folds ∙ ap (λ (rs : List (Record Definition)). fold rs) same ∙ also.folds)

-- a node that was opened from a new tape was opened from an empty one
pub opened_empty : AreReadOneWay → {T : Type 0} (n i : ℕ) (bytes : List ℕ) (node : Node T) → ReadsAlike [] bytes → IsOpenedFrom n i bytes node → IsOpenedFrom n i [] node
opened_empty theorem n i bytes node alike opened = record {
  id = opened.id;
  among = opened.among;
  runs = opened.runs;
  stored = subst (λ (s : DurableState Definition). StandsFor s [])
      (stands_once theorem nothing_stored (stored_of node) bytes (alike nothing_stored nothing_stands) opened.stored) nothing_stands;
  idle = opened.idle;
}
