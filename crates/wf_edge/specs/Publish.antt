-- The result of publishing a map: the node's step Propose, or an error before it.
use Rattle.std.specs.Prelude.{◌≡◌, ℕ, ◌<◌, ◌≤◌, true, false, List, length, Result, Ok, Err, Vec}
use Rattle.std.specs.Str.{is_utf8}
use Rattle.wf_spelling.specs.Canon.{canon, most_canon_bytes}
use Rattle.wf_spelling.specs.declared.fault.CanonFault.{CanonFault}
use Rattle.wf_spelling.specs.declared.fault.CanonFault.TheVariants as canonical
use Rattle.wf_codec.specs.declared.message.Message.{Message}
use Rattle.wf_def.specs.Definition.{Definition}
use Rattle.wf_mapfile.specs.Meaning.{Means, longest_mapfile}
use Rattle.wf_mapfile.specs.Rejection.{HasError}
use Rattle.wf_block.specs.ReadContract.{is_memory}
use Rattle.wf_block.specs.declared.fault.MapFault.{MapFault}
use Rattle.wf_model.specs.Table.{Propose}
use Rattle.wf_node.specs.Node.{Node}
use Rattle.wf_node.specs.declared.fault.NodeFault.{NodeFault}
use Rattle.wf_http.specs.Response.{Response}
use Rattle.wf_edge.specs.StepResult.{IsStepResult}
use Rattle.wf_edge.specs.ErrorResponse.{error_of_result}
use Rattle.wf_edge.specs.Page.{accepted_page, bad_map_page}
use Rattle.wf_edge.specs.declared.error_response.ErrorResponse.{ErrorResponse}
use Rattle.wf_edge.specs.declared.error_response.ErrorResponse.TheVariants as error_response
use Rattle.wf_edge.specs.declared.publish_fault.PublishFault.{PublishFault}
use Rattle.wf_edge.specs.declared.publish_fault.PublishFault.TheVariants as fault
use Rattle.wf_tape.specs.declared.tape.Tape.{Ghosts as Tape}

-- the body is that map, and its canonical text is within the limit
pub record IsMapOf (body : List ℕ) (d : Definition) : Type 0 where
  pub means : Means body d
  pub short : length (canon d) ≤ most_canon_bytes

-- The body has that error, allocation failure aside: all that the mapfile reader promises of it
-- comes out here.
pub record HasPublishFault (body : List ℕ) (why : MapFault) : Type 0 where
  pub own : is_memory why ≡ false
  pub is : HasError body why

-- the body is within the limit of a mapfile, and UTF-8; otherwise its error is found without
-- allocating
pub record IsMapfileText (body : List ℕ) : Type 0 where
  pub within : length body ≤ longest_mapfile
  pub utf8 : is_utf8 body ≡ true

-- why a body has no map to propose: it has an error, or its canonical text is over the limit; or an
-- allocation failed
abbrev pub IsWhyNoMap : List ℕ → PublishFault → Type 0
IsWhyNoMap body (fault.Map why) = HasPublishFault body why
IsWhyNoMap body fault.TooBig = (d : Definition) × Means body d × (most_canon_bytes < length (canon d))
IsWhyNoMap body fault.Memory = IsMapfileText body
IsWhyNoMap body (fault.Node why) = ⊥

-- the error reported if writing the canonical text of a definition fails
abbrev pub unwritten : CanonFault → PublishFault
unwritten canonical.TooBig = fault.TooBig
unwritten canonical.NotCanonical = fault.Memory
unwritten canonical.Memory = fault.Memory

module _ {T A : Type 0} (tapes : Tape T) where
  -- The step Propose of the definition: where the node's leadership covers the next sequence, it
  -- stores nothing and asks for votes; otherwise it stores a new round and asks for promises.
  abbrev pub IsProposed : Node T → Definition → Result (Vec Message A) NodeFault → Node T → Type 0
  IsProposed before d result after = IsStepResult tapes (Propose d) before result after

  -- The result for the body. Accepted: the node made the step Propose, and these are its messages.
  -- A node's error is that step's. With any other error no step was made.
  abbrev pub IsPublished : List ℕ → Node T → Result (Response × Vec Message A) PublishFault → Node T → Type 0
  IsPublished body before (Ok done) after =
      (d : Definition) × IsMapOf body d × IsProposed before d (Ok done.1) after × (done.0 ≡ accepted_page (length before.parts.history))
  IsPublished body before (Err (fault.Node why)) after = (d : Definition) × IsMapOf body d × IsProposed before d (Err why) after
  IsPublished body before (Err (fault.Map why)) after = IsWhyNoMap body (fault.Map why) × (after ≡ before)
  IsPublished body before (Err fault.TooBig) after = IsWhyNoMap body fault.TooBig × (after ≡ before)
  IsPublished body before (Err fault.Memory) after = IsWhyNoMap body fault.Memory × (after ≡ before)

-- The response for an error: 400 for a body that isn't a map, or has no canonical text; 409 if the
-- step table rejects now; 503 for allocation failure, and for a node that is halted or whose tape
-- fails. None of these pages allocates.
abbrev pub ReportsFault : PublishFault → Result Response ErrorResponse → Type 0
ReportsFault (fault.Map why) answer = answer ≡ Ok (bad_map_page why)
ReportsFault fault.TooBig answer = answer ≡ Err error_response.TooBig
ReportsFault fault.Memory answer = answer ≡ Err error_response.Unavailable
ReportsFault (fault.Node why) answer = answer ≡ Err (error_of_result why)
