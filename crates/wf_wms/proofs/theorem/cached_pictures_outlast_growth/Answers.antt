use Rattle.wf_wms.proofs.CachedPicturesTheorem.{growth_keeps}
use Rattle.wf_wms.proofs.theorem.cached_pictures_outlast_growth.Goals as goal

pub returns : goal.returns
returns c = growth_keeps
