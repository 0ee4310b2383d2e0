-- Responses of one line of plain text: an error response allocates nothing (RFC 9110, section 15;
-- RFC 6585, section 5).
use Rattle.std.specs.Prelude.{ℕ, List, ◌++◌, codes, Option, Some, None, Result, Ok, Err}
use Rattle.wf_node.specs.declared.fault.NodeFault.{NodeFault}
use Rattle.wf_node.specs.declared.fault.NodeFault.TheVariants as node
use Rattle.wf_http.specs.Response.{Response}
use Rattle.wf_http.specs.declared.fault.RequestFault.{RequestFault}
use Rattle.wf_http.specs.declared.fault.RequestFault.TheVariants as fault
use Rattle.wf_http.specs.declared.http_error.Allowed.{Allowed}
use Rattle.wf_http.specs.declared.http_error.HttpError.{HttpError}
use Rattle.wf_http.specs.declared.http_error.HttpError.TheVariants as http_error
use Rattle.wf_edge.specs.declared.error_response.ErrorResponse.{ErrorResponse}
use Rattle.wf_edge.specs.declared.error_response.ErrorResponse.TheVariants as error_response

-- the media type of a line
abbrev pub plain : List ℕ
plain = codes "text/plain"

-- a text and its line end
abbrev pub text_line : List ℕ → List ℕ
text_line text = text ++ codes "\n"

-- ---- a rejection is reported by its status alone

abbrev pub http_error_status : HttpError → ℕ
http_error_status http_error.BadRequest = 400
http_error_status http_error.NotFound = 404
http_error_status (http_error.MethodNotAllowed method) = 405
http_error_status http_error.LengthRequired = 411
http_error_status http_error.ContentTooLarge = 413
http_error_status http_error.HeadTooLarge = 431
http_error_status http_error.NotImplemented = 501

abbrev pub http_error_words : HttpError → List ℕ
http_error_words http_error.BadRequest = codes "400"
http_error_words http_error.NotFound = codes "404"
http_error_words (http_error.MethodNotAllowed method) = codes "405"
http_error_words http_error.LengthRequired = codes "411"
http_error_words http_error.ContentTooLarge = codes "413"
http_error_words http_error.HeadTooLarge = codes "431"
http_error_words http_error.NotImplemented = codes "501"

-- the allowed method, if the request's was another
abbrev pub allowed_methods : HttpError → Option Allowed
allowed_methods http_error.BadRequest = None
allowed_methods http_error.NotFound = None
allowed_methods (http_error.MethodNotAllowed method) = Some method
allowed_methods http_error.LengthRequired = None
allowed_methods http_error.ContentTooLarge = None
allowed_methods http_error.HeadTooLarge = None
allowed_methods http_error.NotImplemented = None

-- ---- an error response

abbrev pub status_of : ErrorResponse → ℕ
status_of (error_response.Rejected r) = http_error_status r
status_of error_response.TooBig = 400
status_of error_response.Busy = 409
status_of error_response.SequenceFull = 409
status_of error_response.RoundsFull = 409
status_of error_response.Unavailable = 503

abbrev pub words_of : ErrorResponse → List ℕ
words_of (error_response.Rejected r) = http_error_words r
words_of error_response.TooBig = codes "K1"
words_of error_response.Busy = codes "N2"
words_of error_response.SequenceFull = codes "N3"
words_of error_response.RoundsFull = codes "N4"
words_of error_response.Unavailable = codes "503"

abbrev pub allowed_of : ErrorResponse → Option Allowed
allowed_of (error_response.Rejected r) = allowed_methods r
allowed_of error_response.TooBig = None
allowed_of error_response.Busy = None
allowed_of error_response.SequenceFull = None
allowed_of error_response.RoundsFull = None
allowed_of error_response.Unavailable = None

abbrev pub response_of_error : ErrorResponse → Response
response_of_error n = record { status = status_of n; media = plain; allowed = allowed_of n; body = text_line (words_of n) }

-- the error response for a request that can't be read: none if the input is empty or a read failed
abbrev pub error_of_fault : RequestFault → Option ErrorResponse
error_of_fault fault.NoRequest = None
error_of_fault fault.ReadFailed = None
error_of_fault fault.Memory = Some error_response.Unavailable
error_of_fault (fault.Rejected r) = Some (error_response.Rejected r)

-- The error response for a node's error. `Nothing` (no proposal to retry) never answers a proposal.
abbrev pub error_of_result : NodeFault → ErrorResponse
error_of_result node.Memory = error_response.Unavailable
error_of_result node.Busy = error_response.Busy
error_of_result node.SequenceFull = error_response.SequenceFull
error_of_result node.RoundsFull = error_response.RoundsFull
error_of_result node.Halted = error_response.Unavailable
error_of_result node.TapeFailed = error_response.Unavailable
error_of_result node.Nothing = error_response.Unavailable

-- ---- a page or an error response

-- the response that is written: a page, or the error response in its place
abbrev pub response_of : Result Response ErrorResponse → Response
response_of (Ok page) = page
response_of (Err n) = response_of_error n
