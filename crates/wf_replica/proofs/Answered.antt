-- What a replica answers.
use Rattle.std.proofs.Common.{◌≡◌, ℕ, List, length, refl, sym, subst}
use Rattle.std.specs.Prelude.{Ok, Some}
use Rattle.wf_def.specs.Definition.{Definition}
use Rattle.wf_edge.specs.ErrorResponse.{response_of_error}
use Rattle.wf_edge.specs.Request.{Request}
use Rattle.wf_edge.specs.Completion.{IsCompleted}
use Rattle.wf_edge.specs.declared.error_response.ErrorResponse.TheVariants as error_response
use Rattle.wf_edge.specs.declared.outcome.Outcome.{Outcome}
use Rattle.wf_edge.specs.declared.resource.RequestedResource.{RequestedResource}
use Rattle.wf_edge.specs.declared.resource.RequestedResource.TheVariants as asked
use Rattle.wf_http.specs.Response.{Response}
use Rattle.wf_http.specs.Target.{query_of}
use Rattle.wf_http.specs.declared.http_error.HttpError.TheVariants as http_error
use Rattle.wf_replica.specs.Service.{ReplicaAnswers, IsAnswered, publish_answer, status_page}

pub status_answered : (request : Request) (history : List Definition) (old new : List ℕ) (completion : Outcome) (n : ℕ) → request.asked ≡ asked.Status → n ≡ length history →
    IsCompleted (status_page n) (Some old) (Some new) completion → IsAnswered request history old new completion
status_answered request history old new completion n is count sends = record {
  answer = Ok (status_page (length history));
  answers = subst (λ (a : RequestedResource). ReplicaAnswers a (query_of request.head.target) history (Ok (status_page (length history)))) (sym is) refl;
  sends = subst (λ (k : ℕ). IsCompleted (status_page k) (Some old) (Some new) completion) count sends;
}

pub publish_answered : (request : Request) (history : List Definition) (old new : List ℕ) (completion : Outcome) (bytes : ℕ) (response : Response) → request.asked ≡ asked.Publish bytes →
    response ≡ response_of_error (error_response.Rejected http_error.NotFound) → IsCompleted response (Some old) (Some new) completion → IsAnswered request history old new completion
publish_answered request history old new completion bytes response is reports sends = record {
  answer = publish_answer;
  answers = subst (λ (a : RequestedResource). ReplicaAnswers a (query_of request.head.target) history publish_answer) (sym is) refl;
  sends = subst (λ (r : Response). IsCompleted r (Some old) (Some new) completion) reports sends;
}
