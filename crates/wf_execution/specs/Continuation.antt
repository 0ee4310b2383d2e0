-- A farm of processes goes on, one thing after the other: so the calls of a program lead from one
-- farm to the next.
use Rattle.std.specs.Prelude.{◌≡◌, ℕ, ◌<◌, ◌==◌, ⊤, List, [], ◌∷◌, ◌++◌, Some, None, if◌then◌else◌}
use Rattle.wf_node.specs.Node.{Node}
use Rattle.wf_tape.specs.declared.tape.Tape.{Ghosts as Tape}
use Rattle.wf_execution.specs.Run.{Act, Run, last, RunEnd, Between, Within, Failed, HasLeft, IsAct, IsOpenedFrom}
use Rattle.wf_execution.specs.Execution.{Ended, Execution, Item, items_at, IsOneOf, IsFarm}
use Rattle.wf_execution.specs.Theorems.{outputs_in}

-- the executions, that of process i being this one
unfoldable pub with_execution : {T : Type 0} → (ℕ → Execution T) → ℕ → Execution T → ℕ → Execution T
with_execution executions i execution j = if j == i then execution else executions j

-- the bytes that the next run is opened from: what the last one left
unfoldable pub left_by : {T : Type 0} → List ℕ → List (Ended T) → List ℕ
left_by bytes [] = bytes
left_by bytes (ended ∷ later) = left_by ended.left later

abbrev pub left : {T : Type 0} → Execution T → List ℕ
left execution = left_by [] execution.ended

-- nothing has started, nothing was sent
abbrev pub unstarted : {T : Type 0} → ℕ → Execution T
unstarted i = record { ended = []; now = None }

abbrev pub NothingIsAFarm : {T : Type 0} → Tape T → Type 0
NothingIsAFarm {T} tapes = (n : ℕ) → IsFarm tapes n unstarted []

-- A process that doesn't run starts, the first time or again: its node was opened from what its
-- last run left.
abbrev pub StartGoesOn : {T : Type 0} → Tape T → Type 0
StartGoesOn {T} tapes = (n i : ℕ) (executions : ℕ → Execution T) (items : List Item) (node : Node T) → IsFarm tapes n executions items → i < n → (executions i).now ≡ None →
    IsOpenedFrom n i (left (executions i)) node →
    IsFarm tapes n (with_execution executions i (record { ended = (executions i).ended; now = Some (record { first = node; acts = [] }) })) items

-- A process that runs takes a step. What is delivered was sent by any of them.
abbrev pub StepGoesOn : {T : Type 0} → Tape T → Type 0
StepGoesOn {T} tapes = (n i : ℕ) (executions : ℕ → Execution T) (items : List Item) (run : Run T) (act : Act T) → IsFarm tapes n executions items → i < n → (executions i).now ≡ Some run →
    IsAct tapes (last run) act → IsOneOf (outputs_in items) act.input →
    IsFarm tapes n (with_execution executions i (record { ended = (executions i).ended; now = Some (record { first = run.first; acts = run.acts ++ act ∷ [] }) }))
    (items ++ record { process = i; takes = act.input; outputs = act.outputs } ∷ [])

-- the input within whose step a run is cut was sent too
abbrev pub IsCutBy : List Item → RunEnd → Type 0
IsCutBy items Between = ⊤
IsCutBy items (Within input) = IsOneOf (outputs_in items) input
IsCutBy items (Failed input) = ⊤

-- A process that runs ends.
abbrev pub EndGoesOn : {T : Type 0} → Tape T → Type 0
EndGoesOn {T} tapes = (n i : ℕ) (executions : ℕ → Execution T) (items : List Item) (run : Run T) (end : RunEnd) (bytes : List ℕ) → IsFarm tapes n executions items → i < n → (executions i).now ≡ Some run →
    HasLeft run end bytes → IsCutBy items end →
    IsFarm tapes n (with_execution executions i (record { ended = (executions i).ended ++ record { run = run; end = end; left = bytes } ∷ []; now = None })) (items ++ items_at i end)
