use Rattle.std.proofs.Common.{◌≡◌, ◌∙◌, ◌+◌, ◌<◌, ap, sym, ℕ, [], ◌∷◌, ◌++◌, length, arith, rules, tests, take}
use Rattle.std.specs.Prelude.{Some, is_none}
use Rattle.std.specs.List.{filter_map}
use Rattle.std.proofs.lemmas.Iterator.Consumers.{YieldsList-at, YieldsList-turn, YieldsList-end}
use Rattle.std.proofs.lemmas.Iterator.Splits.{YieldsList-from_slice_split}
use Rattle.std.proofs.lemmas.List.{get_or_read, length_push, take_all}
use Rattle.std.proofs.lemmas.List.Elements.{All-same}
use Rattle.wf_wms.specs.MapRequest.{entries, layer_of}
use Rattle.wf_wms.proofs.LayersTheorem.{found_nowhere, layers_within, one_more_known, one_more_index, unknown_at}
use Rattle.wf_wms.proofs.layers.layer_indices.Goals as goal

pub loop-name-preserved : goal.loop-name-preserved
unfolding entries layer_of
loop-name-preserved c =
    let d = c.args.map.now in
    let names = entries c.args.names.now in
    let n = length c.loop-name.yielded in
    let source = YieldsList-at c.into_iter-name-iterator.ensures.into_iter_gives (YieldsList-from_slice_split _ _ c.args.names.now (c.split-name-items.ensures.rest ∙ c.as_bytes.ensures.value) c.split-name-items.ensures.done c.split-name-items.ensures.closure (λ x b q k. search (rules, tests))) in
    let turn = YieldsList-turn source c.loop-name.yielded _ c.loop-name.yielded_by _ _ c.in-Some.name c.in-Some.is c.next.ensures.steps in
    let is = sym (get_or_read names n c.in-Some.name.now turn.0 turn.1 []) in
    let found : layer_of d c.in-Some.name.now ≡ Some c.in-Some-layer_index.index = sym c.layer_index.ensures.value ∙ c.in-Some-layer_index.is in
    let long : length (c.loop-name.yielded ++ c.in-Some.name ∷ []) ≡ n + 1 = length_push c.loop-name.yielded c.in-Some.name in
    record {
      known = λ k within. one_more_known d names n c.in-Some-layer_index.index c.in-Some.name.now is found c.loop-name.invariant.known k (omega (arith, within, long));
      indices = one_more_index d names n c.in-Some-layer_index.index c.in-Some.name.now c.loop-name.indices.items c.push.new.self.items turn.0 is found c.loop-name.invariant.indices c.in_ok-push-in-Some-layer_index.ensures.items
          ∙ ap (λ (k : ℕ). filter_map (layer_of d) (take k names)) (sym long);
      count = ap length c.in_ok-push-in-Some-layer_index.ensures.items ∙ length_push c.loop-name.indices.items c.in-Some-layer_index.index ∙ ap (λ (k : ℕ). k + 1) c.loop-name.invariant.count ∙ sym long;
    }

pub returns-in-None-layer_index-clause-unknown : goal.returns-in-None-layer_index-clause-unknown
unfolding entries layer_of
returns-in-None-layer_index-clause-unknown c =
    let names = entries c.args.names.now in
    let n = length c.loop-name.yielded in
    let source = YieldsList-at c.into_iter-name-iterator.ensures.into_iter_gives (YieldsList-from_slice_split _ _ c.args.names.now (c.split-name-items.ensures.rest ∙ c.as_bytes.ensures.value) c.split-name-items.ensures.done c.split-name-items.ensures.closure (λ x b q k. search (rules, tests))) in
    let turn = YieldsList-turn source c.loop-name.yielded _ c.loop-name.yielded_by _ _ c.in-Some.name c.in-Some.is c.next.ensures.steps in
    let size : n ≡ c.len.result = omega (arith, c.len.ensures, c.loop-name.indices.ok.0, c.loop-name.invariant.count) in
    unknown_at c.args.map.now names n c.in-Some.name.now turn.0 (sym (get_or_read names n c.in-Some.name.now turn.0 turn.1 [])) (sym c.layer_index.ensures.value ∙ c.in-None-layer_index.is) c.loop-name.invariant.known
    ∙ ap Some size

pub returns-in-None-layer_index-clause-index : goal.returns-in-None-layer_index-clause-index
unfolding entries
returns-in-None-layer_index-clause-index c =
    let source = YieldsList-at c.into_iter-name-iterator.ensures.into_iter_gives (YieldsList-from_slice_split _ _ c.args.names.now (c.split-name-items.ensures.rest ∙ c.as_bytes.ensures.value) c.split-name-items.ensures.done c.split-name-items.ensures.closure (λ x b q k. search (rules, tests))) in
    let turn = YieldsList-turn source c.loop-name.yielded _ c.loop-name.yielded_by _ _ c.in-Some.name c.in-Some.is c.next.ensures.steps in
    let within : length c.loop-name.yielded < length (entries c.args.names.now) = turn.0 in
    omega (arith, within, c.requires, c.len.ensures, c.loop-name.indices.ok.0, c.loop-name.invariant.count)

pub returns-clause-indices : goal.returns-clause-indices
unfolding entries
returns-clause-indices c =
    let names = entries c.args.names.now in
    let source = YieldsList-at c.into_iter-name-iterator.ensures.into_iter_gives (YieldsList-from_slice_split _ _ c.args.names.now (c.split-name-items.ensures.rest ∙ c.as_bytes.ensures.value) c.split-name-items.ensures.done c.split-name-items.ensures.closure (λ x b q k. search (rules, tests))) in
    let all = YieldsList-end source c.loop-name.yielded _ c.loop-name.yielded_by _ _ c.in-None.is c.next.ensures.steps in
    let long : length c.loop-name.yielded ≡ length names = all.1 in
    c.loop-name.invariant.indices ∙ ap (filter_map (layer_of c.args.map.now)) (take_all (length c.loop-name.yielded) names (omega (arith, long)))

pub returns-clause-known : goal.returns-clause-known
unfolding entries
returns-clause-known c =
    let source = YieldsList-at c.into_iter-name-iterator.ensures.into_iter_gives (YieldsList-from_slice_split _ _ c.args.names.now (c.split-name-items.ensures.rest ∙ c.as_bytes.ensures.value) c.split-name-items.ensures.done c.split-name-items.ensures.closure (λ x b q k. search (rules, tests))) in
    let all = YieldsList-end source c.loop-name.yielded _ c.loop-name.yielded_by _ _ c.in-None.is c.next.ensures.steps in
    let long : length c.loop-name.yielded ≡ length (entries c.args.names.now) = all.1 in
    found_nowhere (λ name. is_none (layer_of c.args.map.now name)) (entries c.args.names.now) (λ k within. c.loop-name.invariant.known k (omega (arith, within, long)))

pub returns-clause-count : goal.returns-clause-count
unfolding entries
returns-clause-count c =
    let source = YieldsList-at c.into_iter-name-iterator.ensures.into_iter_gives (YieldsList-from_slice_split _ _ c.args.names.now (c.split-name-items.ensures.rest ∙ c.as_bytes.ensures.value) c.split-name-items.ensures.done c.split-name-items.ensures.closure (λ x b q k. search (rules, tests))) in
    let all = YieldsList-end source c.loop-name.yielded _ c.loop-name.yielded_by _ _ c.in-None.is c.next.ensures.steps in
    c.loop-name.invariant.count ∙ all.1

pub returns-clause-within : goal.returns-clause-within
returns-clause-within c =
    All-same (λ index. index < length c.args.map.now.layers) c.loop-name.indices.items (filter_map (layer_of c.args.map.now) (entries c.args.names.now)) (returns-clause-indices c)
    (layers_within c.args.map.now (entries c.args.names.now))
