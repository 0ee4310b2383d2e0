-- What an order writes about the farm after it.
use Rattle.std.specs.Prelude.{◌≡◌, ◌⊎◌, ◌++◌, ℕ, ⊤, Bool, true, false, List, [], codes, decimal, flat_map, length, Option, Some, None, String, string_bytes, if◌then◌else◌}
use Rattle.wf_def.specs.Definition.{Definition}
use Rattle.wf_learner.specs.History.{map_at}
use Rattle.wf_model.specs.World.{Event}
use Rattle.wf_node.specs.Node.{Node, volatile_of}
use Rattle.wf_proposer.specs.ProposalState.{proposal_state_of}
use Rattle.wf_proposer.specs.declared.proposal_state.ProposalState.{ProposalState}
use Rattle.wf_proposer.specs.declared.proposal_state.ProposalState.TheVariants as proposal_state
use Rattle.wf_tape.specs.MemoryTape.{TapeValue}
use Rattle.wf_wms.specs.Answer.{AnswerValue}
use Rattle.wf_wms.specs.declared.exception.Exception.{Exception}
use Rattle.wf_wms.specs.declared.exception.Exception.TheVariants as exception
use Rattle.wf_wms.specs.declared.response.Kind.{Kind}
use Rattle.wf_wms.specs.declared.response.Kind.TheVariants as kind
use Rattle.wf_farm.specs.ClientAnswers.{NodeAnswers, sequence_at}
use Rattle.wf_farm.specs.Farm.{MemoryFarm, running_in}
use Rattle.wf_farm.specs.Fault.{number_of as rejection_number}
use Rattle.wf_farm.specs.NodeHost.{MemoryHost}
use Rattle.wf_farm.specs.Pump.{IsPumped}
use Rattle.wf_farm.specs.declared.fault.FarmFault.{FarmFault}
use Rattle.wf_farm.specs.declared.fault.FarmFault.TheVariants.{Memory, NoNode, Carried}
use Rattle.wf_farm.specs.declared.rejection.Rejection.{Rejection}
use Rattle.wf_play.specs.Comparison.{Compares}
use Rattle.wf_script.specs.Order as order
use Rattle.wf_script.specs.Order.{Order}
use Rattle.wf_play.specs.OrderEffect.{event_at, order_at}
use Rattle.wf_play.specs.Session.{Session, node_at}
use Rattle.wf_script.specs.Script.{Numbered, Script, name_of}
use Rattle.wf_script.specs.declared.order.FarmQuestion.{FarmQuestion}
use Rattle.wf_script.specs.declared.order.FarmQuestion.TheVariants as question

-- the line about a rejected event; none where it wasn't rejected
abbrev pub step_rejection_line : Option Rejection → List ℕ
step_rejection_line None = []
step_rejection_line (Some r) = codes "refused N" ++ decimal (rejection_number r) ++ codes "\n"

-- the line about a pump that stopped early
abbrev pub pump_line : Bool → List ℕ
pump_line true = codes "pump stopped\n"
pump_line false = []

-- messages were pumped, and it is written whether that stopped early
abbrev pub ReportsPump : List ℕ → MemoryFarm → MemoryFarm → List ℕ → Type 0
ReportsPump nodes before after text = (stopped : Bool) × IsPumped nodes before after stopped × (text ≡ pump_line stopped)

-- the line about a node that is absent or stopped
abbrev pub no_node : List ℕ
no_node = codes "no node\n"

-- the last sequence that a node published, a hyphen where none runs
abbrev pub published_word : Option (Node TapeValue) → List ℕ
published_word None = codes " -"
published_word (Some node) = codes " " ++ decimal (length node.parts.history)

abbrev pub published_line : List MemoryHost → List ℕ
published_line hosts = codes "published" ++ flat_map (λ host. published_word (running_in (Some host))) hosts ++ codes "\n"

abbrev pub sent_line : ℕ → List ℕ
sent_line count = codes "sent " ++ decimal count ++ codes "\n"

-- the state of a proposal, in words
abbrev pub proposal_state_words : ProposalState → List ℕ
proposal_state_words proposal_state.None = codes "none\n"
proposal_state_words proposal_state.Running = codes "running\n"
proposal_state_words (proposal_state.Published s) = codes "published " ++ decimal s ++ codes "\n"
proposal_state_words (proposal_state.Overtaken s) = codes "overtaken " ++ decimal s ++ codes "\n"

-- the proposal of a node; a halted one has none
abbrev pub proposal_line : ℕ → Option (Node TapeValue) → List ℕ
proposal_line i None = no_node
proposal_line i (Some node) = codes "proposal " ++ decimal i ++ codes " " ++ proposal_state_words (if node.halted then proposal_state.None else proposal_state_of (volatile_of node).proposing)

abbrev pub definition_line : Script → ℕ → ℕ → Option (Node TapeValue) → List ℕ
definition_line script i s None = no_node
definition_line script i s (Some node) = codes "definition " ++ decimal i ++ codes " " ++ decimal s ++ codes " " ++ name_of script (map_at node.parts.history s) ++ codes "\n"

-- the answer to a question; it is always `same`, since nodes never publish different maps under one
-- sequence
abbrev pub answer_text : Script → FarmQuestion → MemoryFarm → List ℕ
answer_text script question.Published farm = published_line farm.hosts
answer_text script question.Sent farm = sent_line (length farm.sent)
answer_text script (question.Proposal i) farm = proposal_line i (node_at farm i)
answer_text script (question.Definition i s) farm = definition_line script i s (node_at farm i)
answer_text script question.Same farm = codes "same\n"

-- the number of an exception
abbrev pub number_of : Exception → ℕ
number_of (exception.MissingParameter parameter) = 1
number_of (exception.BadValue parameter) = 2
number_of (exception.LayerNotDefined n) = 3
number_of (exception.StyleNotDefined n) = 4
number_of exception.InvalidCrs = 5
number_of exception.InvalidFormat = 6
number_of exception.CurrentUpdateSequence = 7
number_of exception.InvalidUpdateSequence = 8
number_of exception.OperationNotSupported = 9
number_of exception.MapNotPublished = 10

-- The line about a node's answer: its kind, and how many bytes it has.
abbrev pub exception_line : ℕ → Exception → ℕ → List ℕ
exception_line i e size = codes "get " ++ decimal i ++ codes " exception E" ++ decimal (number_of e) ++ codes " " ++ decimal size ++ codes "\n"

abbrev pub kind_line : ℕ → Kind → ℕ → List ℕ
kind_line i kind.Capabilities size = codes "get " ++ decimal i ++ codes " capabilities " ++ decimal size ++ codes "\n"
kind_line i kind.Map size = codes "get " ++ decimal i ++ codes " map " ++ decimal size ++ codes "\n"
kind_line i (kind.Exception e) size = exception_line i e size

-- no node runs there
abbrev pub IsAbsent : MemoryFarm → ℕ → Type 0
IsAbsent farm i = node_at farm i ≡ None

-- an error of an answer: nothing is carried for one
abbrev pub IsOfAnswer : FarmFault → Type 0
IsOfAnswer NoNode = ⊤
IsOfAnswer (Memory done) = ⊤
IsOfAnswer (Carried done) = ⊥

-- that there is no such node is written for that cause alone
abbrev pub IsReportedAbsent : FarmFault → List ℕ → List ℕ → Type 0
IsReportedAbsent fault old new = (fault ≡ NoNode) × (new ≡ old ++ no_node)

-- a text with the property was appended to what was written
abbrev pub Adds : (List ℕ → Type 0) → List ℕ → List ℕ → Type 0
Adds P old new = (text : List ℕ) × P text × (new ≡ old ++ text)

-- The line about the node's answer to the query, or that there is no such node.
abbrev pub ReportsAnswer : MemoryFarm → ℕ → List ℕ → List ℕ → Type 0
ReportsAnswer farm i query text = ((answer : AnswerValue) × NodeAnswers farm i (sequence_at farm i) query answer × (text ≡ kind_line i answer.kind (length answer.bytes))) ⊎ (IsAbsent farm i × (text ≡ no_node))

abbrev pub equal_line : Bool → List ℕ
equal_line true = codes "equal\n"
equal_line false = codes "differ\n"

-- The line whether the answers of two nodes to the query are equal, or that one of them doesn't
-- run.
abbrev pub ReportsEqual : MemoryFarm → ℕ → ℕ → List ℕ → List ℕ → Type 0
ReportsEqual farm i j query text = ((equal : Bool) × Compares farm i j query equal × (text ≡ equal_line equal)) ⊎ ((IsAbsent farm i ⊎ IsAbsent farm j) × (text ≡ no_node))

-- what is written after an event, if there was one
abbrev pub happened_text : Option (Event Definition) → Option Rejection → List ℕ
happened_text None refused = []
happened_text (Some event) refused = step_rejection_line refused

-- What an order writes. Of an event it is the rejection, if it was rejected. A delivery writes
-- nothing, since none is rejected.
abbrev pub WritesOrder : Script → Order → MemoryFarm → MemoryFarm → List ℕ → Type 0
WritesOrder script (order.Pump nodes) before after text = ReportsPump nodes before after text
WritesOrder script (order.Ask question) before after text = text ≡ answer_text script question after
WritesOrder script (order.Get i query) before after text = ReportsAnswer after i query text
WritesOrder script (order.Equal i j query) before after text = ReportsEqual after i j query text
WritesOrder script other before after text = text ≡ happened_text (event_at script.maps other) after.refused

-- what the order at an index writes: nothing where there is none
unfoldable pub WritesAt : Script → Option Numbered → MemoryFarm → MemoryFarm → List ℕ → Type 0
WritesAt script None before after text = text ≡ []
WritesAt script (Some numbered) before after text = WritesOrder script numbered.order before after text

-- ---- what a call appends to the output

-- this text
abbrev pub IsAppended : {Z : Type 0} → List ℕ → String Z → String Z → Type 0
IsAppended text old new = string_bytes new ≡ string_bytes old ++ text

-- a text with the property
abbrev pub IsOneAppended : {Z : Type 0} → (List ℕ → Type 0) → String Z → String Z → Type 0
IsOneAppended P old new = Adds P (string_bytes old) (string_bytes new)

-- what the session's order of this number writes
abbrev pub ReportsOrder : {Z : Type 0} → ℕ → Session → Session → String Z → String Z → Type 0
ReportsOrder n before after old new = IsOneAppended (WritesAt before.script (order_at before n) before.farm after.farm) old new

-- what this order of its script writes
abbrev pub WritesReport : {Z : Type 0} → Order → Session → Session → String Z → String Z → Type 0
WritesReport order before after old new = IsOneAppended (WritesOrder before.script order before.farm after.farm) old new
