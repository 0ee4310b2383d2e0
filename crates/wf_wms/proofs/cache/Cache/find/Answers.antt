use Rattle.std.proofs.Common.{◌≡◌, subst}
use Rattle.std.specs.Prelude.{option_copied}
use Rattle.std.specs.Map.{lookup}
use Rattle.wf_wms.specs.CachedPictures.{CacheValue}
use Rattle.wf_wms.proofs.CachedPicturesTheorem.{eq, found_absent, found_in, found_there}
use Rattle.wf_wms.proofs.cache.Cache.find.Goals as goal

pub returns-clause-cached : goal.returns-clause-cached
returns-clause-cached c =
    found_in c.args.self.now c.args.key.now c.peek.result
    (subst (λ (cache : CacheValue). option_copied c.peek.result ≡ lookup (eq c.args.key.now) cache.entries) c.self.view_is c.peek.ensures)

pub returns-clause-there : goal.returns-clause-there
returns-clause-there c =
    found_there c.args.key.now c.args.self.now.entries c.peek.result
    (subst (λ (cache : CacheValue). option_copied c.peek.result ≡ lookup (eq c.args.key.now) cache.entries) c.self.view_is c.peek.ensures)

pub returns-clause-absent : goal.returns-clause-absent
returns-clause-absent c =
    found_absent c.args.key.now c.args.self.now.entries c.peek.result
    (subst (λ (cache : CacheValue). option_copied c.peek.result ≡ lookup (eq c.args.key.now) cache.entries) c.self.view_is c.peek.ensures)
