-- What a tape stands for, and a node in memory that is closed, and opened again.
use Rattle.std.proofs.Common.{◌≡◌, ℕ, Bool, true, false, List, [], take, drop, Option, Some, refl, sym, ap, subst, ◌∙◌}
use Rattle.wf_delivery.proofs.Common.{append-nil, take-append-drop, same_Some, Definition, DurableState, fold, fold_from, nothing_stored, VolatileState, at_start, AllStandFor, StandsFor, Node, stored_of, volatile_of, IsFoldOf, Follows, ReadsSame, IsImageNow, AreReadOneWay, IsFresh, HasStoredAgain, IsReopened}
use Rattle.wf_codec.proofs.MeaningTheorem.{one_definition}
use Rattle.wf_journal.proofs.Lists.{one_reading, reads_only}
use Rattle.wf_model.specs.World as world
use Rattle.wf_tape.specs.MemoryTape as tape
use Rattle.wf_tape.specs.Tape.{IsPrefixOf}

abbrev pub node_of : DurableState Definition → Option (VolatileState Definition) → world.Node Definition
node_of stored volatile = record { stored = stored; volatile = volatile }

pub node_eq : (stored others : DurableState Definition) (volatile held : Option (VolatileState Definition)) → stored ≡ others → volatile ≡ held → node_of stored volatile ≡ node_of others held
node_eq stored others volatile held e h = ap (λ s. node_of s volatile) e ∙ ap (λ x. node_of others x) h

-- ---- what a tape stands for

-- bytes are read as at most one list of records
pub read_one_way : AreReadOneWay
read_one_way bytes records others reads again = one_reading one_definition bytes records others reads.0 again.0 reads.1.splits reads.1.longest again.1.splits again.1.longest

-- bytes stand for one durable state
pub one_stand : (bytes : List ℕ) (stored others : DurableState Definition) → StandsFor stored bytes → StandsFor others bytes → stored ≡ others
one_stand bytes stored others first second =
    same_Some stored others (sym first.folds ∙ ap fold (read_one_way bytes first.records second.records first.reads second.reads) ∙ second.folds)

pub begins_itself : (bytes : List ℕ) → IsPrefixOf bytes bytes
begins_itself bytes = ([], sym (append-nil bytes))

pub begins_taken : (n : ℕ) (bytes : List ℕ) → IsPrefixOf (take n bytes) bytes
begins_taken n bytes = (drop n bytes, sym (take-append-drop n bytes))

-- the whole contents of a tape are an image of it
pub content_is_image : (kept : tape.TapeValue) → IsImageNow kept kept.bytes
content_is_image kept = (begins_itself kept.bytes, begins_taken kept.synced kept.bytes)

-- A tape that is returned stands for what it stood for.
pub still_stands : (kept left : tape.TapeValue) (stored : DurableState Definition) → Follows ReadsSame (IsImageNow kept) (IsImageNow left) → AllStandFor stored (IsImageNow kept) → AllStandFor stored (IsImageNow left)
still_stands kept left stored follows stands = λ image there.
    let earlier = follows image there in
    let stood = stands earlier.0 earlier.1 in
    record { records = stood.records; reads = earlier.2 stood.records stood.reads; folds = stood.folds }

-- ---- a node that is closed and opened again

-- The bytes of the tape stand for what is stored again.
found_again : (again : Node tape.TapeValue) (kept : tape.TapeValue) → IsFoldOf (stored_of again) kept.bytes → StandsFor (stored_of again) kept.bytes
found_again again kept fold_of = record { records = fold_of.records; reads = (fold_of.rest, fold_of.tape.reads); folds = fold_of.folds }

module _ (node again : Node tape.TapeValue) (kept : tape.TapeValue) (same : kept ≡ node.tape) (stands : node.halted ≡ false → AllStandFor (stored_of node) (IsImageNow kept)) where
  stored_by : (halted : Bool) → node.halted ≡ halted → StandsFor (stored_of again) kept.bytes → HasStoredAgain halted node.tape.bytes node again
  stored_by false is found = one_stand kept.bytes (stored_of again) (stored_of node) found (stands is kept.bytes (content_is_image kept))
  stored_by true is found = subst (λ (k : tape.TapeValue). StandsFor (stored_of again) k.bytes) same found

  -- It runs, without a proposal or leadership, and has stored what it had.
  pub opened_again : again.halted ≡ false → volatile_of again ≡ at_start → IsFoldOf (stored_of again) kept.bytes → IsReopened node.tape.bytes node again
  opened_again runs idle fold_of = record { runs = runs; idle = idle; stored = stored_by node.halted refl (found_again again kept fold_of) }

fold_none : fold {V = Definition} [] ≡ Some nothing_stored
unfolding fold fold_from
fold_none = refl

-- From an empty tape nothing is stored.
pub opened_fresh : (node : Node tape.TapeValue) → node.halted ≡ false → IsFoldOf (stored_of node) [] → volatile_of node ≡ at_start → IsFresh node
opened_fresh node runs fold_of idle = record {
  runs = runs;
  stored = sym (same_Some nothing_stored (stored_of node) (sym fold_none ∙ ap fold (reads_only one_definition [] [] fold_of.records refl (fold_of.rest, fold_of.tape.reads)) ∙ fold_of.folds));
  volatile = idle;
}
