-- A node's own pages: the map service, its status, an accepted map, and the error of a map.
use Rattle.std.specs.Prelude.{◌≡◌, ℕ, ◌+◌, List, ◌++◌, codes, decimal, length, None, Result, Ok, Err, if◌then◌else◌}
use Rattle.wf_def.specs.Definition.{Definition}
use Rattle.wf_block.specs.declared.fault.MapFault.{MapFault}
use Rattle.wf_block.specs.declared.fault.MapFault.TheVariants as map
use Rattle.wf_node.specs.Node.{Node, volatile_of}
use Rattle.wf_proposer.specs.ProposalState.{proposal_state_of}
use Rattle.wf_proposer.specs.declared.proposal_state.ProposalState.{ProposalState}
use Rattle.wf_proposer.specs.declared.proposal_state.ProposalState.TheVariants as proposal_state
use Rattle.wf_wms.specs.Answer.{AnswerValue, IsAnswerOf}
use Rattle.wf_http.specs.Response.{Response}
use Rattle.wf_edge.specs.ErrorResponse.{plain, text_line}
use Rattle.wf_edge.specs.declared.error_response.ErrorResponse.{ErrorResponse}
use Rattle.wf_edge.specs.declared.error_response.ErrorResponse.TheVariants as error_response
use Rattle.wf_edge.specs.declared.status.Status.{Status}

-- the greatest length of a line, in bytes: more than any has
abbrev pub most_line_bytes : ℕ
most_line_bytes = 128

-- a page with a body of a media type
abbrev pub page_of : ℕ → List ℕ → List ℕ → Response
page_of status media body = record { status = status; media = media; allowed = None; body = body }

-- a page of one line
abbrev pub line_page : ℕ → List ℕ → Response
line_page status words = page_of status plain (text_line words)

-- ---- GET /wms

-- the page of the map service's answer: the status is 200 even for an exception
abbrev pub service_page : AnswerValue → Response
service_page answer = page_of 200 answer.media answer.bytes

-- the map service's answer to a query, at the last published sequence
abbrev pub IsLastAnswer : List Definition → List ℕ → AnswerValue → Type 0
IsLastAnswer history query answer = IsAnswerOf (length history) history query answer

-- the page of that answer
pub record IsServicePage (history : List Definition) (query : List ℕ) (page : Response) : Type 0 where
  pub answer : AnswerValue
  pub is_answer : IsLastAnswer history query answer
  pub is_page : page ≡ service_page answer

-- That page, or an allocation of the map service failed. Only the map service answers a query: none
-- is rejected before.
abbrev pub IsServiceGiven : List Definition → List ℕ → Result Response ErrorResponse → Type 0
IsServiceGiven history query (Ok page) = IsServicePage history query page
IsServiceGiven history query (Err n) = n ≡ error_response.Unavailable

-- ---- GET /status

abbrev pub proposal_state_words : ProposalState → List ℕ
proposal_state_words proposal_state.None = codes "none"
proposal_state_words proposal_state.Running = codes "running"
proposal_state_words (proposal_state.Published s) = codes "published " ++ decimal s
proposal_state_words (proposal_state.Overtaken s) = codes "overtaken " ++ decimal s

-- the state of a node's proposal: a halted node has none
abbrev pub proposal_state_at : {T : Type 0} → Node T → ProposalState
proposal_state_at node = if node.halted then proposal_state.None else proposal_state_of (volatile_of node).proposing

-- the node's number, its last published sequence and the state of its proposal
unfoldable pub status_words : ℕ → ℕ → ProposalState → List ℕ
status_words id published stands =
    codes "node " ++ decimal id ++ codes " published " ++ decimal published ++ codes " proposal " ++ proposal_state_words stands

-- the status of a node
abbrev pub status_at : {T : Type 0} → Node T → Status
status_at node = record { id = node.id; published = length node.parts.history; proposal = proposal_state_at node }

abbrev pub status_page : Status → Response
status_page status = line_page 200 (status_words status.id status.published status.proposal)

-- ---- POST /publish

-- the sequence that the map was proposed for
unfoldable pub accepted_words : ℕ → List ℕ
accepted_words published = codes "accepted for " ++ decimal (published + 1)

abbrev pub accepted_page : ℕ → Response
accepted_page published = line_page 202 (accepted_words published)

-- the number of an error, and its position
unfoldable pub at_offset : List ℕ → ℕ → List ℕ
at_offset number byte_offset = number ++ codes " " ++ decimal byte_offset

abbrev pub fault_words : MapFault → List ℕ
fault_words map.Memory = codes "M1"
fault_words map.TooLong = codes "M2"
fault_words (map.NotUtf8 byte_offset) = at_offset (codes "M3") byte_offset
fault_words (map.BadToken byte_offset) = at_offset (codes "M4") byte_offset
fault_words (map.UnexpectedWord byte_offset) = at_offset (codes "M5") byte_offset
fault_words (map.MissingEnd byte_offset) = at_offset (codes "M6") byte_offset
fault_words (map.BadNumber byte_offset) = at_offset (codes "M7") byte_offset
fault_words (map.OutOfRange byte_offset) = at_offset (codes "M8") byte_offset
fault_words map.Missing = codes "M9"
fault_words (map.Repeated byte_offset) = at_offset (codes "M10") byte_offset
fault_words map.TooMany = codes "M11"
fault_words (map.Trailing byte_offset) = at_offset (codes "M12") byte_offset

-- the page of a body that isn't a map: allocation failure is answered with 503, never with M1
abbrev pub bad_map_page : MapFault → Response
bad_map_page fault = line_page 400 (fault_words fault)
