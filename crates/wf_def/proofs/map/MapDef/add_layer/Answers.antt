use Rattle.std.proofs.Common.{◌≡◌, ◌++◌, ◌∷◌, [], None, sym, ap, ◌∙◌, arith, length}
use Rattle.std.proofs.lemmas.Map.Made.{is_some-lookup}
use Rattle.std.proofs.lemmas.List.{length_push}
use Rattle.std.specs.Str.{bytes_eq}
use Rattle.indexmap.specs.IndexMap.{get}
use Rattle.indexmap.proofs.CallerLemmas.{insert_entry-new}
use Rattle.wf_def.specs.Limits.{feature_count, point_count}
use Rattle.wf_def.specs.Definition.{Definition}
use Rattle.wf_def.proofs.MapLemmas.{none_from_test, feature_count-push, point_count-push, names-push, layers-push}
use Rattle.wf_def.proofs.map.MapDef.add_layer.Goals as goal

pub returns-then-contains_key-clause-repeated : goal.returns-then-contains_key-clause-repeated
returns-then-contains_key-clause-repeated c =
    let same : c.self.inside.layers.entries ≡ c.args.self.now.layers = ap (λ (m : Definition). m.layers) c.self.view_is in
    let found = is_some-lookup (bytes_eq c.args.name) c.self.inside.layers.entries in
    cc (same, found)

pub invariant_of-self : goal.invariant_of-self
invariant_of-self c =
    let before = c.self.inside.layers.entries in
    let same : before ≡ c.args.self.now.layers = ap (λ (m : Definition). m.layers) c.self.view_is in
    let none : get bytes_eq c.self.inside.layers c.args.name ≡ None = none_from_test _ (sym c.contains_key.ensures ∙ c.if-contains_key.false) in
    let after : c.insert.new.self.entries ≡ before ++ (c.args.name, c.args.layer) ∷ [] =
    c.in-Ok.ensures.entries ∙ insert_entry-new bytes_eq c.self.inside.layers c.args.name c.args.layer none in
    record {
      name = c.self.invariant.name;
      title = c.self.invariant.title;
      abstract_text = c.self.invariant.abstract_text;
      address = c.self.invariant.address;
      extent = c.self.invariant.extent;
      layers_most = rw after (omega (arith, length_push before (c.args.name, c.args.layer), ap length same, c.requires.room));
      names = rw after (names-push _ _ _ c.self.invariant.names c.requires.is_name);
      layers = rw after (layers-push _ _ _ c.self.invariant.layers c.kind.ensures.within);
      unlike_names = c.in-Ok.ensures.unique;
      features_most = rw after (omega (arith, feature_count-push before c.args.name c.args.layer, ap feature_count same, c.requires.features));
      points_most = rw after (omega (arith, point_count-push before c.args.name c.args.layer, ap point_count same, c.requires.points));
    }

pub returns-in-Ok-clause-added : goal.returns-in-Ok-clause-added
returns-in-Ok-clause-added c =
    let none : get bytes_eq c.self.inside.layers c.args.name ≡ None = none_from_test _ (sym c.contains_key.ensures ∙ c.if-contains_key.false) in
    let after : c.insert.new.self.entries ≡ c.self.inside.layers.entries ++ (c.args.name, c.args.layer) ∷ [] =
    c.in-Ok.ensures.entries ∙ insert_entry-new bytes_eq c.self.inside.layers c.args.name c.args.layer none in
    rw after (ap (λ (m : Definition). record m { layers = m.layers ++ (c.args.name, c.args.layer) ∷ [] }) c.self.view_is)

pub returns-in-Ok-clause-new_name : goal.returns-in-Ok-clause-new_name
returns-in-Ok-clause-new_name c =
    let same : c.self.inside.layers.entries ≡ c.args.self.now.layers = ap (λ (m : Definition). m.layers) c.self.view_is in
    let found = is_some-lookup (bytes_eq c.args.name) c.self.inside.layers.entries in
    cc (same, found)

pub returns-clause-repeated : goal.returns-clause-repeated
returns-clause-repeated c =
    let same : c.self.inside.layers.entries ≡ c.args.self.now.layers = ap (λ (m : Definition). m.layers) c.self.view_is in
    let found = is_some-lookup (bytes_eq c.args.name) c.self.inside.layers.entries in
    cc (same, found)
