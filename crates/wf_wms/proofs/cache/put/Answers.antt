use Rattle.std.proofs.Common.{◌∙◌, sym}
use Rattle.wf_wms.proofs.CachedPicturesTheorem.{on_failure, on_success, put_first}
use Rattle.wf_wms.proofs.cache.put.Goals as goal

pub returns-clause-put : goal.returns-clause-put
returns-clause-put c = λ is_put.
    put_first c.args.cached.now c.put.new.self c.args.key c.args.pixmap c.requires (on_success c.put.result c.put.ensures.entries (sym c.is_ok.ensures.value ∙ is_put))

pub returns-clause-same : goal.returns-clause-same
returns-clause-same c = λ failed. on_failure c.put.result c.put.ensures.err (sym c.is_ok.ensures.value ∙ failed)
