-- The folder of a node while it runs.
use Rattle.std.specs.Prelude.{◌≡◌, ◌⊎◌, ℕ, ◌+◌, List, [], Option, Some, None, Result, Ok, Err}
use Rattle.wf_folder.specs.NodeFile.{node_text}
use Rattle.wf_folder.specs.declared.node_file.NodeFile.{NodeFile}
use Rattle.wf_rejoin.specs.JoinStep.{StepCounts, stepped}
use Rattle.wf_rejoin.specs.JoiningText.{IsJoins, joins_text}
use Rattle.wf_rejoin.specs.declared.join_step.JoinStep.{JoinStep}
use Rattle.wf_rejoin.specs.declared.joining.Joining.{Joining}
use Rattle.wf_store.specs.Call.{Call}
use Rattle.wf_store.specs.Texts.{is_farm, is_joins, text_in}

-- How many starts the file `farm` counts, as its process wrote it last, the calls of the folder
-- before the node ran, and the bytes of the file `heard`; None: it isn't there.
pub record Stand : Type 0 where
  pub starts : ℕ
  pub begun : List Call
  pub heard : Option (List ℕ)

-- one start more is counted
abbrev pub counted : Stand → Stand
counted stand = record { starts = stand.starts + 1; begun = stand.begun; heard = stand.heard }

-- the file `heard` has this text
abbrev pub with_heard : List ℕ → Stand → Stand
with_heard text stand = record { starts = stand.starts; begun = stand.begun; heard = Some text }

-- this text was put in the place of the file `heard`; after an error it may be there or not
abbrev pub IsHeardPut : {E : Type 0} → Result (Unit {0}) E → List ℕ → Stand → Stand → Type 0
IsHeardPut (Ok done) text old new = new ≡ with_heard text old
IsHeardPut (Err error) text old new = (new ≡ old) ⊎ (new ≡ with_heard text old)

-- ---- what its files say, by what was last read of them or written to them

-- the file `farm` is this one
abbrev pub HasFarmText : NodeFile → List Call → Type 0
HasFarmText file calls = text_in is_farm calls ≡ Some (node_text file)

-- The file `joins` said what the folder, which joins, had been told. What it says now is that it
-- was told this too, if that counts.
pub record IsTold (step : JoinStep) (calls : List Call) : Type 0 where
  pub before : Joining
  pub joins : IsJoins before
  pub says : (StepCounts step before × (text_in is_joins calls ≡ Some (joins_text (stepped step before)))) ⊎ ((¬ StepCounts step before) × (text_in is_joins calls ≡ Some (joins_text before)))

-- there is no file `joins`, or an empty one: the folder doesn't join any more
abbrev pub JoinsNoMore : List Call → Type 0
JoinsNoMore calls = (text_in is_joins calls ≡ None) ⊎ (text_in is_joins calls ≡ Some [])
