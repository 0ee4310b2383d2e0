use Rattle.std.proofs.Common.{◌≡◌, ◌++◌, List, true, sym, ap, ◌∙◌, rules}
use Rattle.wf_def.specs.Limits.{has_layer, is_repeated}
use Rattle.wf_feature.proofs.Unlike.{Entry}
use Rattle.wf_feature.proofs.GatheredTheorem.{InTurn, in_turn}
use Rattle.wf_feature.proofs.layers.Layers.into_map.Goals as goal
use Rattle.wf_feature.proofs.layers.Layers.into_map.Goals.{After-into_text}

-- this layer may be added to those before it
turn : (c : After-into_text) → InTurn c.loop-entry.all.layers c.in-Some.entry
turn c =
    let whole : c.args.self ≡ c.self.inside.entries.items = search rules in
    in_turn c.self.inside.entries.items c.self.inside.features c.self.inside.points c.self.invariant c.loop-entry.all.layers c.in-Some.entry c.next.new.self.rest.items
    (ap (λ (rest : List Entry). c.loop-entry.all.layers ++ rest) (sym c.in-Some.ensures.steps.0) ∙ c.loop-entry.invariant.1 ∙ whole)

pub add_layer-requires-clause-room : goal.add_layer-requires-clause-room
add_layer-requires-clause-room c = (turn c).room

pub add_layer-requires-clause-features : goal.add_layer-requires-clause-features
add_layer-requires-clause-features c = (turn c).features

pub add_layer-requires-clause-points : goal.add_layer-requires-clause-points
add_layer-requires-clause-points c = (turn c).points

-- no two layers have the same name
pub unreachable-requires : goal.unreachable-requires
unreachable-requires c =
    let new = (turn (goal.at.unreachable-requires c).After-into_text).new in
    let fault : is_repeated c.in-Err-Repeated.field-0 ≡ true = ap is_repeated c.in-Err-Repeated.field-0-is in
    let there : has_layer c.loop-entry.all.layers c.into_text.result ≡ is_repeated c.in-Err-Repeated.field-0 = c.in-Err-Repeated.ensures.repeated in
    let same : c.into_text.result ≡ c.in-Some.entry.0 = c.into_text.ensures.value in
    let impossible : ⊥ = cc in impossible
