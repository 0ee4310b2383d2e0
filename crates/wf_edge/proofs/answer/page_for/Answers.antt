-- What the answer did to the pictures.
use Rattle.std.proofs.Common.{◌∙◌, refl, sym, subst, ℕ, List}
use Rattle.std.specs.Prelude.{Ok, Err}
use Rattle.wf_edge.specs.PictureCache.{ChangesPictures}
use Rattle.wf_edge.specs.declared.error_response.ErrorResponse.TheVariants.{Unavailable}
use Rattle.wf_edge.specs.declared.resource.RequestedResource.{RequestedResource}
use Rattle.wf_http.specs.Target.{query_of}
use Rattle.wf_edge.proofs.answer.page_for.Goals as goal

pub returns-in-Ok-clause-changed : goal.returns-in-Ok-clause-changed
returns-in-Ok-clause-changed g c =
    let history = c.args.history.now.definitions in
    subst (λ (kind : RequestedResource). ChangesPictures g.P.Pictures.changes kind history (query_of c.args.request.now.head.target) (Ok c.service_page.result) c.args.pictures.now c.answer.new.self)
    (sym c.in-Wms.is ∙ c.resource.ensures)
    (subst (λ (q : List ℕ). g.P.Pictures.changes history q c.args.pictures.now c.answer.new.self) c.query.ensures c.in-Ok.ensures.changed)

pub returns-in-Err-clause-changed : goal.returns-in-Err-clause-changed
returns-in-Err-clause-changed g c =
    subst (λ (kind : RequestedResource). ChangesPictures g.P.Pictures.changes kind c.args.history.now.definitions (query_of c.args.request.now.head.target) (Err Unavailable) c.args.pictures.now c.answer.new.self)
    (sym c.in-Wms.is ∙ c.resource.ensures) c.in-Err.ensures.unchanged

pub returns-in-Status-clause-changed : goal.returns-in-Status-clause-changed
returns-in-Status-clause-changed g c =
    subst (λ (kind : RequestedResource). ChangesPictures g.P.Pictures.changes kind c.args.history.now.definitions (query_of c.args.request.now.head.target) (Ok c.status_page.result) c.args.pictures.now c.args.pictures.now)
    (sym c.in-Status.is ∙ c.resource.ensures) refl
